-- What an assistant gives has no term that the asked judgement hasn't.
use Rattle.std.proofs.Common.{◌≡◌, ℕ, suc, Bool, true, List, [], ◌∷◌, Option, Some, None, IfSome, refl, ap}
use Rattle.std.specs.List.{list_all}
use Rattle.model_shapes.specs.Sorts.{DataSort}
use Rattle.model_terms.specs.Variables.{Var}
use Rattle.model_terms.specs.Terms.{Term}
use Rattle.model_formulas.specs.Formulas.{Named}
use Rattle.model_formulas.specs.WellSorted.{flags}
use Rattle.model_files.specs.FileFaults.{judgement_sorted}
use Rattle.model_commands.specs.Commands.{Command}
use Rattle.model_commands.specs.Each.{Each}
use Rattle.model_commands.specs.Theories.{JudgementOf, entails, triple, StepOf}
use Rattle.assistant_laws.specs.Plans.{Plan, alone, from_one, from_two, last_number, steps_of}
use Rattle.assistant_laws.specs.ConjunctPlans.{plan_by_conjuncts}
use Rattle.assistant_laws.specs.FormPlans.{plan_by_form}
use Rattle.assistant_laws.specs.FillingPlans.{plan_by_filling}
use Rattle.assistant_laws.proofs.Ways.{both_true}
use Rattle.assistant_laws.proofs.Steps.{each-append}
use Rattle.filling_laws.specs.TermsIn.{terms_in, terms_of_sides}
use Rattle.filling_laws.proofs.Fine.{passes-both, passes-parts}
use Rattle.filling_laws.proofs.Kept.{FineJudgement, IsKept, conjuncts-kept, form-kept, filling-plan-kept}
use Rattle.filling_laws.proofs.Usable.{all-flags}

abbrev itself : Term → List Term
itself a = a ∷ []

abbrev inside : Var → List Term → List Term
inside x terms = terms

module _ (test : Term → Bool) where
  abbrev Passes : JudgementOf Named → Type 0
  Passes j = list_all test (terms_of_sides j) ≡ true

  fine : (j : JudgementOf Named) → FineJudgement itself inside test j → Passes j
  fine (entails p q s) x =
      passes-both test (terms_in p) (terms_in q) x.0.variables x.1.variables
  fine (triple p c q k) x = absurd x

  plan-passes : (plan : Plan) (n : ℕ) → IsKept itself inside test plan
      → Each (λ (step : StepOf Named). Passes step.judgement) (steps_of n plan)
  plan-passes (alone rule j) n k = (fine j k.1, tt)
  plan-passes (from_one rule a j) n k =
      each-append _ (steps_of n a) _ (plan-passes a n k.0) (fine j k.2, tt)
  plan-passes (from_two rule a b j) n k =
      each-append _ (steps_of n a) _ (plan-passes a n k.0)
      (each-append _ (steps_of (suc (last_number n a)) b) _ (plan-passes b _ k.1) (fine j k.3, tt))

  given-passes : (n : ℕ) (j : JudgementOf Named) (o : Option Plan)
      → (FineJudgement itself inside test j → IfSome o (IsKept itself inside test))
      → ((p : Named) (c : Command) (q : Named) (k : DataSort) → j ≡ triple p c q k → o ≡ None)
      → judgement_sorted j ≡ true → Passes j
      → IfSome o (λ plan. Each (λ (step : StepOf Named). Passes step.judgement) (steps_of n plan))
  given-passes n j None kept none sorted passes = tt
  given-passes n (entails p q s) (Some plan) kept none sorted passes =
      let judged = both_true _ _ sorted in
      let seen = passes-parts test (terms_in p) (terms_in q) passes in
      plan-passes plan n (kept (
        record { sorted = all-flags (flags p s) 0 judged.0; variables = seen.0 },
        record { sorted = all-flags (flags q s) 0 judged.1; variables = seen.1 },
      ))
  given-passes n (triple p c q k) (Some plan) kept none sorted passes =
      absurd (apart (none p c q k refl))
    where
      apart : Some plan ≡ None → ⊥
      apart e = cc

  pub conjuncts-terms : (n : ℕ) (j : JudgementOf Named) → judgement_sorted j ≡ true → Passes j
      → IfSome (plan_by_conjuncts j)
      (λ plan. Each (λ (step : StepOf Named). Passes step.judgement) (steps_of n plan))
  conjuncts-terms n j = given-passes n j (plan_by_conjuncts j) (conjuncts-kept itself inside test j)
      (λ p c q k e. ap plan_by_conjuncts e)

  pub form-terms : (n : ℕ) (j : JudgementOf Named) → judgement_sorted j ≡ true → Passes j
      → IfSome (plan_by_form j)
      (λ plan. Each (λ (step : StepOf Named). Passes step.judgement) (steps_of n plan))
  form-terms n j = given-passes n j (plan_by_form j) (form-kept itself inside test j)
      (λ p c q k e. ap plan_by_form e)

  pub filling-terms : (n : ℕ) (j : JudgementOf Named) → judgement_sorted j ≡ true → Passes j
      → IfSome (plan_by_filling j)
      (λ plan. Each (λ (step : StepOf Named). Passes step.judgement) (steps_of n plan))
  filling-terms n j = given-passes n j (plan_by_filling j) (filling-plan-kept itself inside test j)
      (λ p c q k e. ap plan_by_filling e)
