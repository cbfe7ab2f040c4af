-- Needn't be believed: the program's promise doesn't speak of it. What a step cites, and what is
-- written at it.
use Rattle.std.specs.Prelude.{◌≡◌, ◌<◌, Bool, true, false, List, [], ◌∷◌, Option, Some, None, map}
use Rattle.model_commands.specs.Theories.{Judgement, entails}
use Rattle.model_formulas.specs.Parts.{parts}
use Rattle.model_formulas.specs.WellSorted.{first_fault}
use Rattle.dom_terms.specs.Sorts.{sort_of}
use Rattle.dom_terms.specs.Terms.{term_of}
use Rattle.dom_terms.specs.declared.terms.Term.{Term}
use Rattle.formula_syntax.specs.Formulas.{formula_of}
use Rattle.formula_syntax.specs.declared.entailments.Entailment.{Entailment}
use Rattle.rule_table.specs.Verdicts.{Written, Verdict, instance_verdict, shape_verdict, premises_verdict, side_verdict}
use Rattle.entail_rules.specs.Judged.{judged, all_cited}
use Rattle.entail_rules.specs.declared.cited.Cited.{Cited}

-- two entailments at most, as many as a rule of entailment may have for premises
abbrev pub are_few : List Judgement → Bool
are_few [] = true
are_few (entails p q s ∷ []) = true
are_few (entails p q s ∷ (entails p' q' s' ∷ [])) = true
are_few js = false

-- the cited judgements: these entailments, or others than two at most
abbrev pub Cites : Option Cited → Option (List Judgement) → Type 0
Cites (Some cited) premises = premises ≡ Some (all_cited cited)
Cites None premises = (js : List Judgement) → premises ≡ Some js → are_few js ≡ false

-- what is written at a step
abbrev pub written_with : List Term → Option (List Judgement) → Entailment → Written
written_with arguments premises conclusion = record {
  arguments = map term_of arguments;
  premises = premises;
  conclusion = judged conclusion;
}

-- the formulas of an entailment have fewer than 4,294,967,295 parts each
abbrev pub IsSmallEntailment : Entailment → Type 0
IsSmallEntailment e =
    (parts (formula_of e.left) < 4294967295) × (parts (formula_of e.right) < 4294967295)

-- the right side of an entailment is well sorted
abbrev pub IsWellSorted : Entailment → Type 0
IsWellSorted e = first_fault (formula_of e.right) (sort_of e.sort) ≡ None

-- what becomes of a verdict where the premises are none that the rule has
abbrev pub unfollowed : Verdict → Verdict
unfollowed shape_verdict = shape_verdict
unfollowed instance_verdict = premises_verdict
unfollowed premises_verdict = premises_verdict
unfollowed (side_verdict name) = premises_verdict
