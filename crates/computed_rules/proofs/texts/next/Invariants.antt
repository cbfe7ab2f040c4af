use Rattle.std.proofs.Common.{◌≡◌, ◌++◌, length}
use Rattle.std.specs.List.{flat_map}
use Rattle.rule_table.specs.Texts.{characters}
use Rattle.computed_rules.specs.Pieces.{leaf_pieces, pieces_left}
use Rattle.computed_rules.proofs.texts.next.Given as goal

-- the same pieces are left
abbrev pub invariant-empty : goal.invariant-empty
invariant-empty l = record {
  same : pieces_left l.fn.rest ≡ characters l.text ++ flat_map leaf_pieces l.leaves;
}

abbrev pub decreases-empty : goal.decreases-empty
decreases-empty l = length l.leaves
