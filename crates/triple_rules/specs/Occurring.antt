-- Needn't be believed: the promises speak of the table of rules. The program variables that stand
-- in terms and formulas, as tests that compute.
use Rattle.std.specs.Prelude.{Bool, false, ◌||◌, List}
use Rattle.model_terms.specs.Variables.{prog}
use Rattle.model_terms.specs.Terms.{Term, variable, sum, difference, appended}
use Rattle.model_terms.specs.Stores.{ProgVar, named}
use Rattle.model_formulas.specs.Formulas.{FormulaOf, conjunction, disjunction, implication, negation, existential, universal, equality, at_most, node_formula, one_tree, one_root, concatenation, grove_sum, grove_sum_hole, application, hole_adjoint, context_adjoint, same_as, length_is, value_meets}
use Rattle.model_commands.specs.SortTests.{is_among}

-- one of the program variables stands in the term, in the formula
abbrev pub term_mentions : List ProgVar → Term → Bool
term_mentions xs (variable (prog name s)) = is_among xs (named name s)
term_mentions xs (sum a b) = term_mentions xs a || term_mentions xs b
term_mentions xs (difference a b) = term_mentions xs a || term_mentions xs b
term_mentions xs (appended a b) = term_mentions xs a || term_mentions xs b
term_mentions xs t = false

abbrev pub mentions : {Binder : Type 0} → List ProgVar → FormulaOf Binder → Bool
mentions xs (conjunction p q) = mentions xs p || mentions xs q
mentions xs (disjunction p q) = mentions xs p || mentions xs q
mentions xs (implication p q) = mentions xs p || mentions xs q
mentions xs (negation p) = mentions xs p
mentions xs (existential x p) = mentions xs p
mentions xs (universal x p) = mentions xs p
mentions xs (equality a b) = term_mentions xs a || term_mentions xs b
mentions xs (at_most a b) = term_mentions xs a || term_mentions xs b
mentions xs (node_formula name number p list) =
    term_mentions xs name
    || (term_mentions xs number || (mentions xs p || term_mentions xs list))
mentions xs (one_tree p) = mentions xs p
mentions xs (one_root p) = mentions xs p
mentions xs (concatenation side p q) = mentions xs p || mentions xs q
mentions xs (grove_sum p q) = mentions xs p || mentions xs q
mentions xs (grove_sum_hole p q) = mentions xs p || mentions xs q
mentions xs (application h p q) = mentions xs p || mentions xs q
mentions xs (hole_adjoint p q) = mentions xs p || mentions xs q
mentions xs (context_adjoint k p q) = mentions xs p || mentions xs q
mentions xs (same_as a) = term_mentions xs a
mentions xs (length_is a) = term_mentions xs a
mentions xs (value_meets s a p) = term_mentions xs a || mentions xs p
mentions xs p = false
