-- Needn't be believed: the program's promise doesn't speak of it. How formulas are spelled in
-- bytes.
use Rattle.std.specs.Prelude.{ℕ, List, [], ◌∷◌, ◌++◌}
use Rattle.model_shapes.specs.Sorts.{DataSort, tree, forest, grove}
use Rattle.model_terms.specs.Terms.{Term, variable}
use Rattle.model_formulas.specs.Formulas.{Named, Side, whole, hole_left, hole_right, truth, falsity, conjunction, disjunction, implication, negation, existential, universal, equality, at_most, empty, bare_hole, node_formula, one_tree, one_root, concatenation, grove_sum, grove_sum_hole, application, hole_adjoint, context_adjoint, same_as, length_is, value_meets}
use Rattle.model_certificates.specs.Terms.{data_sort_bytes, var_bytes, term_bytes}

abbrev pub side_bytes : Side → List ℕ
side_bytes whole = 0 ∷ []
side_bytes hole_left = 1 ∷ []
side_bytes hole_right = 2 ∷ []

-- the shape without a tree, 0f or 0g
abbrev pub empty_bytes : DataSort → List ℕ
empty_bytes tree = []
empty_bytes forest = 10 ∷ []
empty_bytes grove = 11 ∷ []

-- the variable that a formula is or speaks of
abbrev pub subject_bytes : Term → List ℕ
subject_bytes (variable x) = var_bytes x
subject_bytes a = []

abbrev pub formula_bytes : Named → List ℕ
formula_bytes truth = 0 ∷ []
formula_bytes falsity = 1 ∷ []
formula_bytes (conjunction p q) = 2 ∷ (formula_bytes p ++ formula_bytes q)
formula_bytes (disjunction p q) = 3 ∷ (formula_bytes p ++ formula_bytes q)
formula_bytes (implication p q) = 4 ∷ (formula_bytes p ++ formula_bytes q)
formula_bytes (negation p) = 5 ∷ formula_bytes p
formula_bytes (existential x p) = 6 ∷ (var_bytes x ++ formula_bytes p)
formula_bytes (universal x p) = 7 ∷ (var_bytes x ++ formula_bytes p)
formula_bytes (equality a b) = 8 ∷ (term_bytes a ++ term_bytes b)
formula_bytes (at_most a b) = 9 ∷ (term_bytes a ++ term_bytes b)
formula_bytes (empty k) = empty_bytes k
formula_bytes (bare_hole k) = 12 ∷ data_sort_bytes k
formula_bytes (node_formula name number p list) =
    13 ∷ (term_bytes name ++ (term_bytes number ++ (formula_bytes p ++ term_bytes list)))
formula_bytes (one_tree p) = 14 ∷ formula_bytes p
formula_bytes (one_root p) = 15 ∷ formula_bytes p
formula_bytes (concatenation side p q) =
    16 ∷ (side_bytes side ++ (formula_bytes p ++ formula_bytes q))
formula_bytes (grove_sum p q) = 17 ∷ (formula_bytes p ++ formula_bytes q)
formula_bytes (grove_sum_hole p q) = 18 ∷ (formula_bytes p ++ formula_bytes q)
formula_bytes (application k p q) =
    19 ∷ (data_sort_bytes k ++ (formula_bytes p ++ formula_bytes q))
formula_bytes (hole_adjoint p q) = 20 ∷ (formula_bytes p ++ formula_bytes q)
formula_bytes (context_adjoint k p q) =
    21 ∷ (data_sort_bytes k ++ (formula_bytes p ++ formula_bytes q))
formula_bytes (same_as a) = 22 ∷ subject_bytes a
formula_bytes (length_is a) = 23 ∷ term_bytes a
formula_bytes (value_meets s a p) = 24 ∷ (subject_bytes a ++ formula_bytes p)
