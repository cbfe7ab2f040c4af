-- The numbers that a new node is given: which are free, and which a run takes.
use Rattle.std.specs.Prelude.{ℕ, suc, Bool, not, ◌&&◌}
use Rattle.model_shapes.specs.Trees.{Trees, node_uses, list_uses}
use Rattle.model_groves.specs.Groves.{positive}
use Rattle.model_groves.specs.Sizes.{greatest_node, greatest_list}

-- the numbers that a new node is given
pub record Pick : Type 0 where
  pub node : ℕ
  pub list : ℕ

-- both numbers are positive and not in use
abbrev pub is_free : Pick → Trees → Bool
is_free pick grove =
    (positive pick.node && positive pick.list)
    && (not (positive (node_uses pick.node grove)) && not (positive (list_uses pick.list grove)))

-- the numbers that a run gives to a new node: one more than the greatest of each kind
abbrev pub next_pick : Trees → Pick
next_pick grove =
    record { node = suc (greatest_node grove); list = suc (greatest_list grove) }
