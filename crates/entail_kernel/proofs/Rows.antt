-- The formulas of a step, and of what it cites, have rows where those of its parts do.
use Rattle.std.proofs.Common.{◌≡◌, ◌⊎◌, ℕ, sym, subst, List, ◌∷◌, Some}
use Rattle.model_commands.specs.Theories.{Judgement, Step, nameless_judgement}
use Rattle.rule_table.specs.Accepted.{cited}
use Rattle.dom_terms.specs.declared.terms.Term.{Term}
use Rattle.dom_terms.specs.declared.verdicts.Verdict.{Verdict}
use Rattle.dom_terms.specs.declared.verdicts.Verdict.TheVariants.{Instance}
use Rattle.formula_syntax.specs.declared.entailments.Entailment.{Entailment}
use Rattle.formula_table.specs.declared.tables.Table.{Table}
use Rattle.theory_syntax.specs.Judgements.{judgement_of, reason_of}
use Rattle.theory_syntax.specs.declared.judgements.Judgement as written
use Rattle.theory_syntax.specs.declared.judgements.Judgement.TheVariants as j
use Rattle.theory_syntax.specs.declared.steps.Reason as reasons
use Rattle.theory_syntax.specs.declared.steps.Reason.TheVariants as r
use Rattle.entail_rules.specs.Judged.{judged}
use Rattle.entail_rules.specs.Numbers.{AllHaveRows, IsFull}
use Rattle.entail_kernel.specs.Steps.{StepHasRows}

module _ (t : Table) (earlier : List Step) (name ns is : List ℕ) (ts : List Term)
    (e : Entailment) where
  -- those that the numbers cite
  abbrev CitedHaveRows : List ℕ → Verdict → Type 0
  CitedHaveRows numbers v = v ≡ Instance → (js : List Judgement)
      → cited earlier numbers ≡ Some js → AllHaveRows t (judged e ∷ js) ⊎ IsFull t

  abbrev HaveRows : reasons.Reason → written.Judgement → Verdict → Type 0
  HaveRows reason judgement v = v ≡ Instance
      → StepHasRows t earlier (reason_of reason) (nameless_judgement (judgement_of judgement))

  pub rows-of-step : (reason : reasons.Reason) (judgement : written.Judgement)
      → reason ≡ r.Rule name ns ts → judgement ≡ j.Entails e → is ≡ ns
      → (v : Verdict) → CitedHaveRows is v → HaveRows reason judgement v
  rows-of-step reason judgement a b c v h =
      subst (λ z. HaveRows z judgement v) (sym a)
      (subst (λ z. HaveRows (r.Rule name ns ts) z v) (sym b)
      (subst (λ z. CitedHaveRows z v) c h))
