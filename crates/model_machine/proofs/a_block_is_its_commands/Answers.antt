use Rattle.model_machine.proofs.Blocks.{block-step, command-then}
use Rattle.model_machine.proofs.a_block_is_its_commands.Goals as goal

pub returns-clause-enter : goal.returns-clause-enter
returns-clause-enter c = block-step

pub returns-clause-each : goal.returns-clause-each
returns-clause-each c = command-then
