-- Needn't be believed: the contract of the call that answers it speaks of sameness. Equality of
-- trees as a test that computes.
use Rattle.std.specs.Prelude.{Bool, true, false, ◌&&◌, ◌==◌, bytes_eq}
use Rattle.model_shapes.specs.Trees.{Trees, none, node, hole}

-- of lists of roots
abbrev pub same_trees : Trees → Trees → Bool
same_trees none none = true
same_trees (node name number kids list rest) (node other_name other other_kids other_list others) =
    (bytes_eq name other_name && (number == other && (list == other_list
    && same_trees kids other_kids))) && same_trees rest others
same_trees (hole rest) (hole others) = same_trees rest others
same_trees a b = false
