use Rattle.formula_syntax.specs.Formulas.{formula_of}
use Rattle.theory_syntax.specs.Commands.{command_of}
use Rattle.theory_syntax.specs.Theories.{theory_of}
use Rattle.wp_calc.specs.Rows.{names_in}
use Rattle.wp_calc.proofs.PreconditionLaws.{same-there, exact-there}
use Rattle.wp_calc.proofs.preconditions.weakest_with_names.Goals as goal

pub returns-in-Ok-clause-same : goal.returns-in-Ok-clause-same
returns-in-Ok-clause-same c =
    let written = c.in-Ok.ensures in
    same-there (theory_of c.args.theory.now) (command_of c.args.command.now) c.args.post.now
    (names_in c.in-Ok.answer.variables) c.in_ok-checked.ensures.fine.0
    c.requires.sorted c.requires.declared written.new written.room
    written.count (formula_of c.in-Ok.answer.formula) written.written

pub returns-in-Ok-clause-exact : goal.returns-in-Ok-clause-exact
returns-in-Ok-clause-exact c =
    let written = c.in-Ok.ensures in
    exact-there (theory_of c.args.theory.now) (command_of c.args.command.now) c.args.post.now
    (names_in c.in-Ok.answer.variables) c.in_ok-checked.ensures.fine.0
    c.requires.sorted c.requires.declared written.new written.room
    written.count (formula_of c.in-Ok.answer.formula) written.written
    c.requires.well_formed
