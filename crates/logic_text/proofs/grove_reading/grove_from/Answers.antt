use Rattle.std.proofs.Common.{sym}
use Rattle.logic_text.proofs.Exact.{found, within, nothing, fault_token}
use Rattle.logic_text.proofs.grove_reading.grove_from.Goals as goal

pub of_whole-requires : goal.of_whole-requires
of_whole-requires c =
    within 128 _ _ c.in-Err.ensures _ (sym c.count.ensures)

pub returns-in-Ok-clause-found : goal.returns-in-Ok-clause-found
returns-in-Ok-clause-found c = found 128 _ _ c.in-Ok.ensures

pub returns-in-Err-clause-bad_text : goal.returns-in-Err-clause-bad_text
returns-in-Err-clause-bad_text c =
    nothing 128 _ _ c.in-Err.ensures _ _ c.of_whole.ensures

pub returns-in-Err-clause-fault_token : goal.returns-in-Err-clause-fault_token
returns-in-Err-clause-fault_token c each =
    fault_token 128 _ _ c.in-Err.ensures _
    (sym c.count.ensures) _ c.of_whole.ensures each
