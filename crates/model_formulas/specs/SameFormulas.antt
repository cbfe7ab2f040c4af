-- Needn't be believed: the types of some say all, and a law says it of the others. Tests of
-- equality, of terms and of nameless formulas.
use Rattle.std.specs.Prelude.{Bool, true, false, ◌&&◌}
use mathlib.Core.HLevel.{Discrete}
use Rattle.model_shapes.specs.Sorts.{DataSort-discrete}
use Rattle.model_shapes.specs.Tests.{same_sort, same_data_sort, same_value, sort_eq, value_eq}
use Rattle.model_terms.specs.VariableTests.{same_var, var_eq}
use Rattle.model_terms.specs.Terms.{Term, Term-discrete, literal, variable, sum, difference, appended}
use Rattle.model_formulas.specs.Formulas.{Formula, FormulaOf-discrete, Side, Side-discrete, whole, hole_left, hole_right, truth, falsity, conjunction, disjunction, implication, negation, existential, universal, equality, at_most, empty, bare_hole, node_formula, one_tree, one_root, concatenation, grove_sum, grove_sum_hole, application, hole_adjoint, context_adjoint, same_as, length_is, value_meets}

-- terms are equal or not
pub term_eq : Discrete Term
term_eq = Term-discrete value_eq var_eq

-- nameless formulas are equal or not
pub formula_eq : Discrete Formula
formula_eq = FormulaOf-discrete sort_eq term_eq DataSort-discrete Side-discrete sort_eq

-- tests that compute: of terms
abbrev pub same_term : Term → Term → Bool
same_term (literal v) (literal w) = same_value v w
same_term (variable x) (variable y) = same_var x y
same_term (sum a b) (sum c d) = same_term a c && same_term b d
same_term (difference a b) (difference c d) = same_term a c && same_term b d
same_term (appended a b) (appended c d) = same_term a c && same_term b d
same_term a b = false

-- of sides
abbrev pub same_side : Side → Side → Bool
same_side whole whole = true
same_side hole_left hole_left = true
same_side hole_right hole_right = true
same_side a b = false

-- of nameless formulas
abbrev pub same_formula : Formula → Formula → Bool
same_formula truth truth = true
same_formula falsity falsity = true
same_formula (conjunction p q) (conjunction p' q') = same_formula p p' && same_formula q q'
same_formula (disjunction p q) (disjunction p' q') = same_formula p p' && same_formula q q'
same_formula (implication p q) (implication p' q') = same_formula p p' && same_formula q q'
same_formula (negation p) (negation p') = same_formula p p'
same_formula (existential s p) (existential s' p') = same_sort s s' && same_formula p p'
same_formula (universal s p) (universal s' p') = same_sort s s' && same_formula p p'
same_formula (equality a b) (equality a' b') = same_term a a' && same_term b b'
same_formula (at_most a b) (at_most a' b') = same_term a a' && same_term b b'
same_formula (empty k) (empty k') = same_data_sort k k'
same_formula (bare_hole k) (bare_hole k') = same_data_sort k k'
same_formula (node_formula n i p l) (node_formula n' i' p' l') =
    same_term n n' && (same_term i i' && (same_formula p p' && same_term l l'))
same_formula (one_tree p) (one_tree p') = same_formula p p'
same_formula (one_root p) (one_root p') = same_formula p p'
same_formula (concatenation d p q) (concatenation d' p' q') =
    same_side d d' && (same_formula p p' && same_formula q q')
same_formula (grove_sum p q) (grove_sum p' q') = same_formula p p' && same_formula q q'
same_formula (grove_sum_hole p q) (grove_sum_hole p' q') = same_formula p p' && same_formula q q'
same_formula (application h p q) (application h' p' q') =
    same_data_sort h h' && (same_formula p p' && same_formula q q')
same_formula (hole_adjoint p q) (hole_adjoint p' q') = same_formula p p' && same_formula q q'
same_formula (context_adjoint k p q) (context_adjoint k' p' q') =
    same_data_sort k k' && (same_formula p p' && same_formula q q')
same_formula (same_as a) (same_as a') = same_term a a'
same_formula (length_is a) (length_is a') = same_term a a'
same_formula (value_meets s a p) (value_meets s' a' p') =
    same_sort s s' && (same_term a a' && same_formula p p')
same_formula p q = false
