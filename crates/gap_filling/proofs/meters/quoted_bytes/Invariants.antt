use Rattle.std.proofs.Common.{◌≡◌, ◌+◌, ◌*◌, ◌≤◌, drop, length}
use Rattle.model_documents.specs.Printed.{escaped}
use Rattle.gap_filling.proofs.meters.quoted_bytes.Given as goal

abbrev pub invariant-loop-byte : goal.invariant-loop-byte
invariant-loop-byte l =
    (l.bytes + length (escaped (drop l.byte-index l.byte-items))
    ≡ 2 + length (escaped l.byte-items))
    × (l.bytes ≤ 2 + 2 * l.byte-index)
