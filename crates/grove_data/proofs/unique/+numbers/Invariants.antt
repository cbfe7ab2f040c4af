use Rattle.std.proofs.Common.{◌≡◌, ◌++◌, map, drop}
use Rattle.model_documents.specs.Numbers.{numbers_in}
use Rattle.grove_data.specs.Trees.{forest_of}
use Rattle.grove_data.specs.UsedNumbers.{used}
use Rattle.grove_data.proofs.unique.+numbers.Given as goal

abbrev pub invariant-add_numbers_among-loop-tree : goal.invariant-add_numbers_among-loop-tree
invariant-add_numbers_among-loop-tree l =
    map used l.fn.numbers ++ numbers_in (forest_of l.forest)
    ≡ map used l.numbers ++ numbers_in (forest_of (drop l.tree-index l.tree-items))
