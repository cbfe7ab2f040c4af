-- Formulas of context logic for trees, forests and groves: those of POPL 2005 and PODS 2008, with
-- equations and order of terms, length of forests, and `is`, which speaks of a variable's value.
use Rattle.std.specs.Prelude.{Bool, true, false, ◌&&◌}
use Rattle.model_shapes.specs.Sorts.{DataSort, Sort, shape, outer}
use Rattle.model_terms.specs.Variables.{Var}
use Rattle.model_terms.specs.Terms.{Term}

-- where the hole of a concatenation is: none, in the left part, or in the right part
pub data Side : Type 0 where
  whole hole_left hole_right : Side
  deriving Discrete as Side-discrete

-- the sort of the left part of a concatenation: where one part has the hole, the other is a shape
abbrev pub left_sort : Side → Sort → Sort
left_sort hole_right s = shape (outer s)
left_sort side s = s

-- the sort of its right part
abbrev pub right_sort : Side → Sort → Sort
right_sort hole_left s = shape (outer s)
right_sort side s = s

-- A formula over `Binder`, what a quantifier holds of its variable.
pub data FormulaOf (Binder : Type 0) : Type 0 where
  -- true, false
  truth falsity : FormulaOf Binder
  -- (P and Q), (P or Q), (P -> Q)
  conjunction disjunction implication : FormulaOf Binder → FormulaOf Binder → FormulaOf Binder
  -- (not P)
  negation : FormulaOf Binder → FormulaOf Binder
  -- (exists $x . P), (forall $x . P)
  existential universal : Binder → FormulaOf Binder → FormulaOf Binder
  -- E = F, E <= F
  equality at_most : Term → Term → FormulaOf Binder
  -- 0f, 0g
  empty : DataSort → FormulaOf Binder
  -- ?t, ?f, ?g
  bare_hole : DataSort → FormulaOf Binder
  -- S#I[P]%L
  node_formula : Term → Term → FormulaOf Binder → Term → FormulaOf Binder
  -- <P>, [P]
  one_tree one_root : FormulaOf Binder → FormulaOf Binder
  -- (P * Q), (K .* Q), (P *. K)
  concatenation : Side → FormulaOf Binder → FormulaOf Binder → FormulaOf Binder
  -- (P + Q), (K .+ Q)
  grove_sum grove_sum_hole : FormulaOf Binder → FormulaOf Binder → FormulaOf Binder
  -- (K @h P)
  application : DataSort → FormulaOf Binder → FormulaOf Binder → FormulaOf Binder
  -- (P -o Q)
  hole_adjoint : FormulaOf Binder → FormulaOf Binder → FormulaOf Binder
  -- (K o-k Q)
  context_adjoint : DataSort → FormulaOf Binder → FormulaOf Binder → FormulaOf Binder
  -- $x, as a formula: the same as the variable's value
  same_as : Term → FormulaOf Binder
  -- len E
  length_is : Term → FormulaOf Binder
  -- ($x is P), with the sort of $x
  value_meets : Sort → Term → FormulaOf Binder → FormulaOf Binder
  deriving Discrete as FormulaOf-discrete

-- a formula as it is written: a quantifier holds its variable
abbrev pub Named : Type 0
Named = FormulaOf Var

-- a formula without the names of bound variables: a quantifier holds the sort alone
abbrev pub Formula : Type 0
Formula = FormulaOf Sort

-- Built from truth, connectives, quantifiers, comparisons and `is` alone. An `is` is pure whatever
-- its part, as it speaks of its variable's value alone.
abbrev pub is_pure : {Binder : Type 0} → FormulaOf Binder → Bool
is_pure truth = true
is_pure falsity = true
is_pure (conjunction p q) = is_pure p && is_pure q
is_pure (disjunction p q) = is_pure p && is_pure q
is_pure (implication p q) = is_pure p && is_pure q
is_pure (negation p) = is_pure p
is_pure (existential x p) = is_pure p
is_pure (universal x p) = is_pure p
is_pure (equality a b) = true
is_pure (at_most a b) = true
is_pure (value_meets s a p) = true
is_pure p = false
