use Rattle.std.proofs.Common.{ℕ, ◌<◌, ◌≤◌, slice_index}
use Rattle.std.specs.Str.{IsNotAscii}
use Rattle.text_tokens.proofs.ascii_bytes.is_ascii.Given as goal

-- no byte that was seen is greater, and a great one is one of them
abbrev pub invariant-loop-byte : goal.invariant-loop-byte
invariant-loop-byte l =
    ((i : ℕ) → i < l.byte-index → slice_index l.bytes i ≤ l.greatest)
    × (128 ≤ l.greatest → IsNotAscii l.bytes)
