use Rattle.std.proofs.Common.{◌≡◌, ◌+◌, length}
use Rattle.text_tokens.specs.Ascii.{left_at}
use Rattle.text_tokens.proofs.ascii.AsciiFront.count.Given as goal

abbrev pub invariant-loop-left : goal.invariant-loop-left
invariant-loop-left l = l.found + length (left_at l.left) ≡ length (left_at l.self)

abbrev pub decreases-loop-left : goal.decreases-loop-left
decreases-loop-left l = length (left_at l.left)
