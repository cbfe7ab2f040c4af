use Rattle.std.proofs.Common.{◌≡◌, length}
use Rattle.computed_rules.specs.Pieces.{pieces_left}
use Rattle.computed_rules.specs.Texts as tests
use Rattle.computed_rules.proofs.texts.same_pieces.Given as goal

-- what is left decides
abbrev pub invariant-pieces : goal.invariant-pieces
invariant-pieces l = record {
  same : tests.same_pieces (pieces_left l.fn.left) (pieces_left l.fn.right)
      ≡ tests.same_pieces (pieces_left l.left) (pieces_left l.right);
}

abbrev pub decreases-pieces : goal.decreases-pieces
decreases-pieces l = length (pieces_left l.left)
