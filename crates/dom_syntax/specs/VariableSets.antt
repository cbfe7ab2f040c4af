-- Needn't be believed: the promises speak of the lists of variables themselves. Sets of program
-- variables, kept as the names of each sort.
use Rattle.std.specs.Prelude.{List, [], ◌∷◌, cond}
use Rattle.model_shapes.specs.Sorts.{ValueSort, node_sort, list_sort, int_sort, str_sort, bool_sort}
use Rattle.model_shapes.specs.Tests.{same_value_sort}
use Rattle.model_terms.specs.Stores.{ProgVar, named}
use Rattle.dom_syntax.specs.declared.tables.Table.{Table}
use Rattle.dom_syntax.specs.declared.variable_sets.VariableSet.{VariableSet}
use Rattle.dom_syntax.specs.Tables.{Declaration, Declares}

-- the names of the variables of the sort
abbrev pub names_of : ValueSort → List ProgVar → List (Declaration Unit)
names_of s [] = []
names_of s (named name u ∷ xs) =
    cond (same_value_sort s u) ((name, tt) ∷ names_of s xs) (names_of s xs)

-- the names that the set has at the sort
abbrev pub table_of : VariableSet → ValueSort → Table Unit
table_of set node_sort = set.nodes
table_of set list_sort = set.lists
table_of set int_sort = set.ints
table_of set str_sort = set.strs
table_of set bool_sort = set.bools

-- the set is that of the variables
abbrev pub Holds : VariableSet → List ProgVar → Type 0
Holds set xs = (s : ValueSort) → Declares (λ u. u) (table_of set s) (names_of s xs)
