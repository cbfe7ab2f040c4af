use Rattle.std.proofs.Common.{◌∙◌, sym}
use Rattle.theory_syntax.specs.Commands.{command_of}
use Rattle.wp_calc.proofs.FaultLaws.{straight-there}
use Rattle.wp_calc.proofs.preconditions.checked.Goals as goal

pub returns-in-Ok-clause-fine : goal.returns-in-Ok-clause-fine
returns-in-Ok-clause-fine c = (
  straight-there (command_of c.args.command.now) (c.in-Ok.ensures {u = tt}).0,
  sym c.is_short.ensures ∙ c.if-is_short.true,
)

pub returns-in-Ok-2-clause-fault : goal.returns-in-Ok-2-clause-fault
returns-in-Ok-2-clause-fault c = (
  straight-there (command_of c.args.command.now) (c.in-Ok-2.ensures {u = tt}).0,
  sym c.is_short.ensures ∙ c.if-is_short.false,
)
