use Rattle.wp_calc.specs.Rows.{names_in}
use Rattle.wp_calc.proofs.preconditions.weakest.Goals as goal

pub returns-in-Ok-clause-written : goal.returns-in-Ok-clause-written
returns-in-Ok-clause-written c = record {
  names = names_in c.in-Ok.answer.variables;
  new = c.in-Ok.ensures.new;
  count = c.in-Ok.ensures.count;
  written_so = c.in-Ok.ensures.written;
}
