use Rattle.model_commands.proofs.Sorting.{sorted-command}
use Rattle.model_commands.proofs.what_is_tested_is_sorted.Goals as goal

pub returns : goal.returns
returns c = sorted-command
