-- Needn't be believed: the program's promise doesn't speak of it. The sorts of the definitions that
-- the program's sorts stand for. Data sorts and contexts are those of POPL 2005 and PODS 2008; the
-- value sorts are the language's own.
use Rattle.model_shapes.specs.Sorts as model
use Rattle.dom_terms.specs.declared.sorts.ValueSort.{ValueSort}
use Rattle.dom_terms.specs.declared.sorts.ValueSort.TheVariants as v
use Rattle.dom_terms.specs.declared.sorts.DataSort.{DataSort}
use Rattle.dom_terms.specs.declared.sorts.DataSort.TheVariants as d
use Rattle.dom_terms.specs.declared.sorts.Sort.{Sort}
use Rattle.dom_terms.specs.declared.sorts.Sort.TheVariants as s

-- the sort of values
abbrev pub value_sort_of : ValueSort → model.ValueSort
value_sort_of v.Node = model.node_sort
value_sort_of v.List = model.list_sort
value_sort_of v.Int = model.int_sort
value_sort_of v.Str = model.str_sort
value_sort_of v.Bool = model.bool_sort

-- the sort of data
abbrev pub data_sort_of : DataSort → model.DataSort
data_sort_of d.Tree = model.tree
data_sort_of d.Forest = model.forest
data_sort_of d.Grove = model.grove

-- the sort
abbrev pub sort_of : Sort → model.Sort
sort_of (s.Value x) = model.value (value_sort_of x)
sort_of (s.Shape k) = model.shape (data_sort_of k)
sort_of (s.Context hole whole) = model.context (data_sort_of hole) (data_sort_of whole)
