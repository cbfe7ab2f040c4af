-- The number of each status: the exit status of the program.
use Rattle.std.specs.Prelude.{ℕ}
use Rattle.domcheck_core.specs.declared.status.Status.{Status}
use Rattle.domcheck_core.specs.declared.status.Status.TheVariants as status

abbrev pub status_number : Status → ℕ
status_number status.Done = 0
status_number status.StepFails = 1
status_number status.BadWords = 2
status_number status.BadText = 3
status_number status.BadFile = 4
status_number status.BadDocument = 5
status_number status.Faulted = 6
status_number status.FuelSpent = 7
status_number (status.Limit kind) = 8
status_number status.GapLeft = 9
status_number status.OutOfMemory = 10
status_number status.ReadFault = 11
status_number status.WriteFault = 12
status_number status.NotStraight = 13
status_number status.NotWatchable = 14
