-- Needn't be believed: the promises speak of the table of rules. The rule instance as a test that
-- computes.
use Rattle.std.specs.Prelude.{ℕ, Bool, false, ◌&&◌, List, [], ◌∷◌, Option, Some}
use Rattle.model_shapes.specs.Sorts.{Sort, value, is_sort, DataSort}
use Rattle.model_shapes.specs.Tests.{same_data_sort}
use Rattle.model_terms.specs.Variables.{logic}
use Rattle.model_terms.specs.Terms.{Term, variable, Substitution}
use Rattle.model_terms.specs.TermSorts.{has_sort}
use Rattle.model_formulas.specs.Formulas.{Formula}
use Rattle.model_formulas.specs.SameFormulas.{same_formula}
use Rattle.model_formulas.specs.Substitution.{formula_with, replacing}
use Rattle.model_formulas.specs.WellSorted.{variable_at}
use Rattle.model_commands.specs.Commands.{Command}
use Rattle.model_commands.specs.Theories.{Judgement, Step, triple}
use Rattle.theory_syntax.specs.SameCommands.{same_command}
use Rattle.rule_table.specs.Accepted.{judgement_numbered, in_front}
use Rattle.rule_table.specs.Conditions.{modified_side}
use Rattle.rule_table.specs.Verdicts.{Verdict, shape_verdict}
use Rattle.triple_rules.specs.Covered.{covers}
use Rattle.triple_rules.specs.Tests.{staged, last_of}

-- the term has the sort, as an argument of a step has it
abbrev pub is_at : Sort → Term → Bool
is_at (value u) t = has_sort u t
is_at s t = variable_at s t && is_sort s

-- the one premise becomes the triple by the substitution
abbrev pub gives : Option (List Judgement) → Formula → Command → Formula → DataSort → Substitution
    → Bool
gives (Some (triple p' c' q' k' ∷ [])) p c q k f =
    (same_formula (formula_with f p') p && same_formula (formula_with f q') q)
    && (same_command c' c && same_data_sort k' k)
gives premises p c q k f = false

-- the same for the step of the one number
abbrev pub gives_by : List Step → List ℕ → Formula → Command → Formula → DataSort → Substitution
    → Bool
gives_by earlier (n ∷ []) p c q k f =
    gives (in_front (judgement_numbered n earlier) (Some [])) p c q k f
gives_by earlier ns p c q k f = false

-- with the tests whether the premises become the triple by a substitution, and whether the command
-- changes nothing of a term
module _ (become : Substitution → Bool) (unchanged : Term → Bool) where
  abbrev pub instance_test : List Term → Formula → Formula → Verdict
  instance_test (variable (logic name s) ∷ e ∷ []) p q =
      staged (is_at s (variable (logic name s)) && (is_at s e
      && (covers (logic name s) e p && covers (logic name s) e q)))
      (become (replacing (logic name s) e)) (last_of (unchanged e) modified_side)
  instance_test arguments p q = shape_verdict
