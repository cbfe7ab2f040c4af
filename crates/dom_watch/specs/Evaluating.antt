-- Needn't be believed: the contracts of private functions alone speak of it. Formulas whose terms
-- can be evaluated.
use Rattle.std.specs.Prelude.{◌≡◌, true}
use Rattle.model_shapes.specs.Sorts.{ValueSort}
use Rattle.model_terms.specs.Terms.{Term}
use Rattle.model_terms.specs.TermSorts.{is_plain, evaluates}
use Rattle.model_formulas.specs.Formulas.{Named, conjunction, disjunction, implication, negation, existential, equality, at_most, node_formula, one_tree, one_root, concatenation, grove_sum, length_is}

-- the term has a sort, unless a logic variable stands in it
abbrev pub Evaluates : Term → Type 0
Evaluates a = is_plain a ≡ true → (s : ValueSort) × (evaluates s a ≡ true)

-- so has each term of the formula
abbrev pub AllEvaluate : Named → Type 0
AllEvaluate (conjunction p q) = AllEvaluate p × AllEvaluate q
AllEvaluate (disjunction p q) = AllEvaluate p × AllEvaluate q
AllEvaluate (implication p q) = AllEvaluate p × AllEvaluate q
AllEvaluate (negation p) = AllEvaluate p
AllEvaluate (existential x p) = AllEvaluate p
AllEvaluate (equality a b) = Evaluates a × Evaluates b
AllEvaluate (at_most a b) = Evaluates a × Evaluates b
AllEvaluate (node_formula name number p list) =
    Evaluates name × Evaluates number × Evaluates list × AllEvaluate p
AllEvaluate (one_tree p) = AllEvaluate p
AllEvaluate (one_root p) = AllEvaluate p
AllEvaluate (concatenation side p q) = AllEvaluate p × AllEvaluate q
AllEvaluate (grove_sum p q) = AllEvaluate p × AllEvaluate q
AllEvaluate (length_is a) = Evaluates a
AllEvaluate p = Unit {0}
