use Rattle.std.proofs.Common.{◌≡◌, ◌++◌, drop}
use denote.Shadow.{shadow}
use denote.Text.{Utf8}
use Rattle.model_printing.specs.Printable.{ArePrintableTrees}
use Rattle.grove_data.specs.Trees.{forest_of}
use Rattle.logic_text.specs.Marks.{marked_text}
use Rattle.logic_text.proofs.grove_writing.+writing.Given as goal

-- with the trees that are left, all of them; and with those all can be printed
abbrev pub invariant-push_trees-loop-tree : goal.invariant-push_trees-loop-tree
invariant-push_trees-loop-tree l =
    (l.text ++ marked_text l.mark l.next_left l.right (forest_of (drop l.tree-index l.tree-items))
    ≡ l.fn.text ++ marked_text l.left l.next_left l.right (forest_of l.tree-items))
    × shadow (Utf8 l.mark)
    × (ArePrintableTrees (forest_of (drop l.tree-index l.tree-items))
    → ArePrintableTrees (forest_of l.tree-items))
