-- Needn't be believed: the program's promise doesn't speak of it. What is looked for in a grove,
-- and the answer. The contracts of the public calls speak of `number_or_null` and of the tests of
-- the definitions.
use Rattle.std.specs.Prelude.{ℕ, Bool, Option, Some, None}
use Rattle.model_shapes.specs.Values.{Value, null, node_number}
use Rattle.model_shapes.specs.Trees.{Trees, none, node, hole}
use Rattle.model_groves.specs.Groves.{numbered, listed, parental}
use Rattle.grove_data.specs.declared.finding.Wanted.{Wanted}
use Rattle.grove_data.specs.declared.finding.Wanted.TheVariants as w

-- the test of what is wanted
abbrev pub test_of : Wanted → ℕ → Trees → ℕ → Bool
test_of (w.Node id) = numbered id
test_of (w.List list) = listed list
test_of (w.Parent id) = parental id

-- the first root, with no root behind it
abbrev pub first_tree : Trees → Option Trees
first_tree none = None
first_tree (node name number kids list rest) = Some (node name number kids list none)
first_tree (hole rest) = first_tree rest

-- the number as a value: null where there is none
abbrev pub number_or_null : Option ℕ → Value
number_or_null None = null
number_or_null (Some n) = node_number n
