use Rattle.std.proofs.Common.{◌≡◌, map, take, drop}
use Rattle.model_documents.specs.Numbers.{first_out_of_range}
use Rattle.grove_data.specs.Trees.{tree_of}
use Rattle.logic_text.specs.RawGroves.{raw_tree_of, raw_forest_of}
use Rattle.logic_text.proofs.ranges.+ranges.Given as goal

-- the trees so far are made, and the first number out of range is among those that are left
abbrev pub invariant-ranged_forest-loop-tree : goal.invariant-ranged_forest-loop-tree
invariant-ranged_forest-loop-tree l = record {
  made : map tree_of l.made ≡ map raw_tree_of (take l.tree-index l.tree-items);
  left : first_out_of_range (raw_forest_of (drop l.tree-index l.tree-items))
      ≡ first_out_of_range (raw_forest_of l.tree-items);
}
