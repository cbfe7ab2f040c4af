-- Needn't be believed: the promises speak of the table of rules. What putting a term for a variable
-- can give: each occurrence of the variable stands in an occurrence of the term.
use Rattle.std.specs.Prelude.{Bool, true, ◌&&◌, ◌||◌, not}
use Rattle.model_terms.specs.Variables.{Var}
use Rattle.model_terms.specs.VariableTests.{same_var}
use Rattle.model_terms.specs.Terms.{Term, literal, variable, sum, difference, appended}
use Rattle.model_formulas.specs.Formulas.{Formula, conjunction, disjunction, implication, negation, existential, universal, equality, at_most, node_formula, one_tree, one_root, concatenation, grove_sum, grove_sum_hole, application, hole_adjoint, context_adjoint, same_as, length_is, value_meets}
use Rattle.model_formulas.specs.SameFormulas.{same_term}

module _ (x : Var) (e : Term) where
  -- in a term
  abbrev pub term_covers : Term → Bool
  term_covers (literal v) = true
  term_covers (variable y) = same_term (variable y) e || not (same_var y x)
  term_covers (sum a b) = same_term (sum a b) e || (term_covers a && term_covers b)
  term_covers (difference a b) =
      same_term (difference a b) e || (term_covers a && term_covers b)
  term_covers (appended a b) = same_term (appended a b) e || (term_covers a && term_covers b)

  -- in a formula
  abbrev pub covers : Formula → Bool
  covers (conjunction p q) = covers p && covers q
  covers (disjunction p q) = covers p && covers q
  covers (implication p q) = covers p && covers q
  covers (negation p) = covers p
  covers (existential s p) = covers p
  covers (universal s p) = covers p
  covers (equality a b) = term_covers a && term_covers b
  covers (at_most a b) = term_covers a && term_covers b
  covers (node_formula name number p list) =
      term_covers name && (term_covers number && (covers p && term_covers list))
  covers (one_tree p) = covers p
  covers (one_root p) = covers p
  covers (concatenation side p q) = covers p && covers q
  covers (grove_sum p q) = covers p && covers q
  covers (grove_sum_hole p q) = covers p && covers q
  covers (application h p q) = covers p && covers q
  covers (hole_adjoint p q) = covers p && covers q
  covers (context_adjoint k p q) = covers p && covers q
  covers (same_as a) = term_covers a
  covers (length_is a) = term_covers a
  covers (value_meets s a p) = term_covers a && covers p
  covers p = true
