-- The sorts of values, of data and of contexts.
-- Data sorts and contexts are those of POPL 2005 and PODS 2008; value sorts are the language's own.
use Rattle.std.specs.Prelude.{Bool, true, false}

-- the sorts of values: node numbers, list numbers, integers, texts and truth values
pub data ValueSort : Type 0 where
  node_sort list_sort int_sort str_sort bool_sort : ValueSort
  deriving Discrete as ValueSort-discrete

-- the sorts of data
pub data DataSort : Type 0 where
  tree forest grove : DataSort
  deriving Discrete as DataSort-discrete

-- a value, a shape, or a context: first the sort of its hole, then the sort of what it gives
pub data Sort : Type 0 where
  value : ValueSort → Sort
  shape : DataSort → Sort
  context : DataSort → DataSort → Sort
  deriving Discrete as Sort-discrete

-- which of these are sorts: no tree and no forest has a hole for a grove
abbrev pub is_sort : Sort → Bool
is_sort (context grove tree) = false
is_sort (context grove forest) = false
is_sort s = true

-- the data sort that a shape has and that a context gives; of a value sort nothing is asked
abbrev pub outer : Sort → DataSort
outer (value v) = tree
outer (shape k) = k
outer (context h k) = k

-- the sort of the hole of a context; of a value sort nothing is asked
abbrev pub inner : Sort → DataSort
inner (context h k) = h
inner s = outer s

-- the same sort with this for the data sort that it gives
abbrev pub with_outer : DataSort → Sort → Sort
with_outer k (value v) = value v
with_outer k (shape j) = shape k
with_outer k (context h j) = context h k
