use Rattle.std.proofs.Common.{◌≡◌, ◌+◌, ◌-◌, ◌*◌, map}
use Rattle.token_readers.specs.Reading.{sep_list}
use Rattle.token_readers.specs.Leaves.{lexemes_in}
use Rattle.token_readers.specs.Reading.{with_front}
use Rattle.logic_text.specs.RawGroves.{raw_tree_of}
use Rattle.logic_text.specs.TreeReaders.{marked_at, tree_at}
use Rattle.logic_text.proofs.grove_reading.+tree.Given as goal

-- the nesting that is left, and at one depth the order of the calls
abbrev pub decreases-tree : goal.decreases-tree
decreases-tree l = 4 * l.depth

abbrev pub decreases-marked : goal.decreases-marked
decreases-marked l = 4 * l.depth + 1

abbrev pub decreases-trees : goal.decreases-trees
decreases-trees l = 4 * l.depth + 2

abbrev pub decreases-forest : goal.decreases-forest
decreases-forest l = 4 * l.depth + 3

abbrev pub invariant-trees-loop : goal.invariant-trees-loop
invariant-trees-loop l =
    with_front (map raw_tree_of l.found)
    (sep_list l.between (marked_at l.left l.right (tree_at 4294967295 l.depth))
    (4294967295 - l.counter) (lexemes_in l.tokens))
    ≡ sep_list l.between (marked_at l.left l.right (tree_at 4294967295 l.depth)) 4294967295
    (lexemes_in l.fn.tokens)
