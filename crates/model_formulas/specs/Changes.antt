-- A formula with each of its terms and binders changed: the one walk behind substitution, the
-- nameless form, and the sorts that variables get from their declarations.
use Rattle.model_shapes.specs.Sorts.{Sort}
use Rattle.model_terms.specs.Terms.{Term}
use Rattle.model_formulas.specs.Formulas.{FormulaOf, truth, falsity, conjunction, disjunction, implication, negation, existential, universal, equality, at_most, empty, bare_hole, node_formula, one_tree, one_root, concatenation, grove_sum, grove_sum_hole, application, hole_adjoint, context_adjoint, same_as, length_is, value_meets}

-- What becomes of a binder and of a term may depend on the binders passed: `below` is the change
-- below one more. The sort of an `is` may depend on its changed term.
module _ {Old New Change : Type 0} (binder : Change → Old → New)
    (below : Old → Change → Change) (term : Change → Term → Term)
    (sort : Term → Sort → Sort) where
  abbrev pub changed : Change → FormulaOf Old → FormulaOf New
  changed c truth = truth
  changed c falsity = falsity
  changed c (conjunction p q) = conjunction (changed c p) (changed c q)
  changed c (disjunction p q) = disjunction (changed c p) (changed c q)
  changed c (implication p q) = implication (changed c p) (changed c q)
  changed c (negation p) = negation (changed c p)
  changed c (existential x p) = existential (binder c x) (changed (below x c) p)
  changed c (universal x p) = universal (binder c x) (changed (below x c) p)
  changed c (equality a b) = equality (term c a) (term c b)
  changed c (at_most a b) = at_most (term c a) (term c b)
  changed c (empty k) = empty k
  changed c (bare_hole h) = bare_hole h
  changed c (node_formula name number p list) =
      node_formula (term c name) (term c number) (changed c p) (term c list)
  changed c (one_tree p) = one_tree (changed c p)
  changed c (one_root p) = one_root (changed c p)
  changed c (concatenation side p q) = concatenation side (changed c p) (changed c q)
  changed c (grove_sum p q) = grove_sum (changed c p) (changed c q)
  changed c (grove_sum_hole p q) = grove_sum_hole (changed c p) (changed c q)
  changed c (application h p q) = application h (changed c p) (changed c q)
  changed c (hole_adjoint p q) = hole_adjoint (changed c p) (changed c q)
  changed c (context_adjoint k p q) = context_adjoint k (changed c p) (changed c q)
  changed c (same_as a) = same_as (term c a)
  changed c (length_is a) = length_is (term c a)
  changed c (value_meets s a p) = value_meets (sort (term c a) s) (term c a) (changed c p)
