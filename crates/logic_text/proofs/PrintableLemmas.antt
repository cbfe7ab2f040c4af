-- Trees of the program can be printed.
use Rattle.std.proofs.Common.{◌≡◌, ℕ, ◌+◌, ◌<◌, ◌≤◌, List, length, get_or, drop, sym, subst}
use Rattle.std.specs.Str.{IsUtf8}
use Rattle.std.proofs.lemmas.List.{drop_all}
use Rattle.model_limits.specs.Limits.{standard_limits}
use Rattle.model_shapes.specs.Trees.{Trees, beside}
use Rattle.model_printing.specs.Printable.{ArePrintableTrees}
use Rattle.grove_data.specs.declared.trees.Tree.{Tree, out-Tree}
use Rattle.grove_data.specs.Trees.{tree_of, forest_of}
use Rattle.logic_text.proofs.ListLemmas.{drop_item}
use Rattle.logic_text.proofs.MarkLemmas.{tree_is}

-- a tree, by its parts
pub tree_printable : (t : Tree) → IsUtf8 (out-Tree t).name
    → (out-Tree t).id ≤ standard_limits.integer → (out-Tree t).list ≤ standard_limits.integer
    → ArePrintableTrees (forest_of (out-Tree t).kids) → ArePrintableTrees (tree_of t)
tree_printable t name number list kids =
    subst ArePrintableTrees (sym (tree_is t)) (name, number, list, kids, tt)

-- a tree and the others
printable_beside : (t : Tree) (others : Trees) → ArePrintableTrees (tree_of t)
    → ArePrintableTrees others → ArePrintableTrees (beside (tree_of t) others)
printable_beside t others here rest =
    let parts = subst ArePrintableTrees (tree_is t) here in
    subst (λ (z : Trees). ArePrintableTrees (beside z others)) (sym (tree_is t))
    (parts.0, parts.1, parts.2, parts.3, rest)

-- a turn of a loop
pub turn_printable : (items : List Tree) (i : ℕ) (item : Tree) → i < length items
    → item ≡ get_or items i item → ArePrintableTrees (tree_of item)
    → (ArePrintableTrees (forest_of (drop i items)) → ArePrintableTrees (forest_of items))
    → ArePrintableTrees (forest_of (drop (i + 1) items)) → ArePrintableTrees (forest_of items)
turn_printable items i item lt is here so_far rest =
    so_far (subst (λ (z : List Tree). ArePrintableTrees (forest_of z))
    (sym (drop_item items i item lt is))
    (printable_beside item (forest_of (drop (i + 1) items)) here rest))

-- the end of the loop
pub all_printable : (items : List Tree) (i : ℕ) → length items ≤ i
    → (ArePrintableTrees (forest_of (drop i items)) → ArePrintableTrees (forest_of items))
    → ArePrintableTrees (forest_of items)
all_printable items i le so_far =
    so_far (subst (λ (z : List Tree). ArePrintableTrees (forest_of z)) (sym (drop_all i items le))
    tt)
