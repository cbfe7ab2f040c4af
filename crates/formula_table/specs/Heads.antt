-- Needn't be believed: the form of a formula, its terms and its parts, each by itself.
use Rattle.std.specs.Prelude.{ℕ}
use Rattle.model_shapes.specs.Sorts.{forest, grove}
use Rattle.model_terms.specs.Terms.{Term}
use Rattle.model_formulas.specs.Formulas.{FormulaOf, truth, falsity, conjunction, disjunction, implication, negation, existential, universal, equality, at_most, empty, bare_hole, node_formula, one_tree, one_root, concatenation, grove_sum, grove_sum_hole, application, hole_adjoint, context_adjoint, same_as, length_is, value_meets}
use Rattle.dom_terms.specs.Sorts.{data_sort_of, sort_of}
use Rattle.formula_syntax.specs.Formulas.{side_of}
use Rattle.formula_table.specs.declared.heads.Head.{Head}
use Rattle.formula_table.specs.declared.heads.Head.TheVariants as h

-- how many terms and how many parts a formula of the form has
abbrev pub terms_used : Head → ℕ
terms_used h.True = 0
terms_used h.False = 0
terms_used h.And = 0
terms_used h.Or = 0
terms_used h.Imp = 0
terms_used h.Not = 0
terms_used (h.Exists k) = 0
terms_used (h.Forall k) = 0
terms_used h.Eq = 2
terms_used h.Le = 2
terms_used h.EmptyForest = 0
terms_used h.EmptyGrove = 0
terms_used (h.Hole k) = 0
terms_used h.Node = 3
terms_used h.One = 0
terms_used h.Root = 0
terms_used (h.Join k) = 0
terms_used h.Plus = 0
terms_used h.PlusHole = 0
terms_used (h.App k) = 0
terms_used h.HoleAdj = 0
terms_used (h.CtxAdj k) = 0
terms_used h.Var = 1
terms_used h.Len = 1
terms_used (h.Is k) = 1

abbrev pub parts_used : Head → ℕ
parts_used h.True = 0
parts_used h.False = 0
parts_used h.And = 2
parts_used h.Or = 2
parts_used h.Imp = 2
parts_used h.Not = 1
parts_used (h.Exists k) = 1
parts_used (h.Forall k) = 1
parts_used h.Eq = 0
parts_used h.Le = 0
parts_used h.EmptyForest = 0
parts_used h.EmptyGrove = 0
parts_used (h.Hole k) = 0
parts_used h.Node = 1
parts_used h.One = 1
parts_used h.Root = 1
parts_used (h.Join k) = 2
parts_used h.Plus = 2
parts_used h.PlusHole = 2
parts_used (h.App k) = 2
parts_used h.HoleAdj = 2
parts_used (h.CtxAdj k) = 2
parts_used h.Var = 0
parts_used h.Len = 0
parts_used (h.Is k) = 1

-- the formula of the form with so many of these terms and parts; a quantifier's variable is that of
-- `binder`
module _ {Binder : Type 0} (binder : Head → Binder) where
  abbrev pub build : Head → Term → Term → Term → FormulaOf Binder → FormulaOf Binder
      → FormulaOf Binder
  build h.True a b c p q = truth
  build h.False a b c p q = falsity
  build h.And a b c p q = conjunction p q
  build h.Or a b c p q = disjunction p q
  build h.Imp a b c p q = implication p q
  build h.Not a b c p q = negation p
  build (h.Exists k) a b c p q = existential (binder (h.Exists k)) p
  build (h.Forall k) a b c p q = universal (binder (h.Forall k)) p
  build h.Eq a b c p q = equality a b
  build h.Le a b c p q = at_most a b
  build h.EmptyForest a b c p q = empty forest
  build h.EmptyGrove a b c p q = empty grove
  build (h.Hole k) a b c p q = bare_hole (data_sort_of k)
  build h.Node a b c p q = node_formula a b p c
  build h.One a b c p q = one_tree p
  build h.Root a b c p q = one_root p
  build (h.Join k) a b c p q = concatenation (side_of k) p q
  build h.Plus a b c p q = grove_sum p q
  build h.PlusHole a b c p q = grove_sum_hole p q
  build (h.App k) a b c p q = application (data_sort_of k) p q
  build h.HoleAdj a b c p q = hole_adjoint p q
  build (h.CtxAdj k) a b c p q = context_adjoint (data_sort_of k) p q
  build h.Var a b c p q = same_as a
  build h.Len a b c p q = length_is a
  build (h.Is k) a b c p q = value_meets (sort_of k) a p
