-- Needn't be believed: a law says that no text of steps has fewer bytes. How much is written for a
-- step, at least: a byte for each part of its formulas, and for each sum, difference and appending
-- in its terms, and the bytes of its names and texts.
use Rattle.std.specs.Prelude.{ℕ, ◌+◌, length}
use Rattle.model_shapes.specs.Values.{str}
use Rattle.model_terms.specs.Variables.{Var, prog, logic, bound}
use Rattle.model_terms.specs.Terms.{Term, literal, variable, sum, difference, appended}
use Rattle.model_formulas.specs.Formulas.{Named, truth, falsity, conjunction, disjunction, implication, negation, existential, universal, equality, at_most, empty, bare_hole, node_formula, one_tree, one_root, concatenation, grove_sum, grove_sum_hole, application, hole_adjoint, context_adjoint, same_as, length_is, value_meets}
use Rattle.model_commands.specs.Theories.{JudgementOf, entails, triple, StepOf}

-- of a variable
abbrev pub weight_of_variable : Var → ℕ
weight_of_variable (prog name s) = length name
weight_of_variable (logic name s) = length name
weight_of_variable (bound i s) = 0

-- of a term
abbrev pub weight_of_term : Term → ℕ
weight_of_term (literal (str text)) = length text
weight_of_term (literal v) = 0
weight_of_term (variable x) = weight_of_variable x
weight_of_term (sum a b) = 1 + (weight_of_term a + weight_of_term b)
weight_of_term (difference a b) = 1 + (weight_of_term a + weight_of_term b)
weight_of_term (appended a b) = 1 + (weight_of_term a + weight_of_term b)

-- of a formula; a variable has the bytes of its name alone, and `0f` and `0g` have none
abbrev pub weight_of_formula : Named → ℕ
weight_of_formula truth = 1
weight_of_formula falsity = 1
weight_of_formula (conjunction p q) = 1 + (weight_of_formula p + weight_of_formula q)
weight_of_formula (disjunction p q) = 1 + (weight_of_formula p + weight_of_formula q)
weight_of_formula (implication p q) = 1 + (weight_of_formula p + weight_of_formula q)
weight_of_formula (negation p) = 1 + weight_of_formula p
weight_of_formula (existential x p) = 1 + (weight_of_variable x + weight_of_formula p)
weight_of_formula (universal x p) = 1 + (weight_of_variable x + weight_of_formula p)
weight_of_formula (equality a b) = 1 + (weight_of_term a + weight_of_term b)
weight_of_formula (at_most a b) = 1 + (weight_of_term a + weight_of_term b)
weight_of_formula (empty k) = 0
weight_of_formula (bare_hole h) = 1
weight_of_formula (node_formula name number p list) =
    1 + ((weight_of_term name + weight_of_term number)
    + (weight_of_formula p + weight_of_term list))
weight_of_formula (one_tree p) = 1 + weight_of_formula p
weight_of_formula (one_root p) = 1 + weight_of_formula p
weight_of_formula (concatenation side p q) = 1 + (weight_of_formula p + weight_of_formula q)
weight_of_formula (grove_sum p q) = 1 + (weight_of_formula p + weight_of_formula q)
weight_of_formula (grove_sum_hole p q) = 1 + (weight_of_formula p + weight_of_formula q)
weight_of_formula (application h p q) = 1 + (weight_of_formula p + weight_of_formula q)
weight_of_formula (hole_adjoint p q) = 1 + (weight_of_formula p + weight_of_formula q)
weight_of_formula (context_adjoint k p q) = 1 + (weight_of_formula p + weight_of_formula q)
weight_of_formula (same_as a) = weight_of_term a
weight_of_formula (length_is a) = 1 + weight_of_term a
weight_of_formula (value_meets s a p) = 1 + (weight_of_term a + weight_of_formula p)

-- of a judgement; a command isn't counted
abbrev pub weight_of_judgement : JudgementOf Named → ℕ
weight_of_judgement (entails p q s) = weight_of_formula p + weight_of_formula q
weight_of_judgement (triple p c q k) = weight_of_formula p + weight_of_formula q

-- of a step
abbrev pub weight_of : StepOf Named → ℕ
weight_of step = weight_of_judgement step.judgement
