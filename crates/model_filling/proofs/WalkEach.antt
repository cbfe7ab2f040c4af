-- What holds of the written steps when they are renumbered, and of what is usable, holds of each
-- step of a filled proof.
use Rattle.std.proofs.Common.{◌≡◌, ℕ, suc, List, [], ◌∷◌, ◌++◌, Some, refl, ap, subst}
use Rattle.model_formulas.specs.Formulas.{Named}
use Rattle.model_commands.specs.Each.{Each}
use Rattle.model_commands.specs.Theories.{JudgementOf, StepOf, ProcedureOf, Theory}
use Rattle.model_filling.specs.Offers.{Voice}
use Rattle.model_filling.specs.Renumbering.{FilledGap, filled_by, renumbered}
use Rattle.model_filling.specs.Usable.{IsUsable}
use Rattle.model_filling.specs.Walk.{Walk, ProofOutcome, proof_filled, fails_at, ends, ends_badly, goes_on, step_fails, fills, gap_left}
use Rattle.model_filling.proofs.Numbers.{each-append, asked-usable}

module _ (theory : Theory) (f : ProcedureOf Named) (P Q : StepOf Named → Type 0)
    (keeps : (gaps : List FilledGap) (step : StepOf Named) → Q step → P (renumbered gaps step))
    (offered : (earlier : List (StepOf Named)) (number : ℕ) (judgement : JudgementOf Named)
    (offer : List (StepOf Named)) → IsUsable theory f earlier number judgement offer
    → Each P offer) where
  pub walk-each : (earlier : List (StepOf Named)) (gaps : List FilledGap) (place : ℕ)
      (steps : List (StepOf Named)) (voices : List Voice) (outcome : ProofOutcome)
      (all : List (StepOf Named)) (after : List Voice)
      → Walk theory f earlier gaps place steps voices outcome → outcome ≡ proof_filled all after
      → Each P earlier → Each Q steps → Each P all
  walk-each earlier gaps place [] voices outcome all after (ends e) same here later =
      subst (Each P) (ap steps_in same) here
    where
      steps_in : ProofOutcome → List (StepOf Named)
      steps_in (proof_filled l v) = l
      steps_in (fails_at n fault) = []
  walk-each earlier gaps place [] voices outcome all after (ends_badly e) same here later =
      absurd cc
  walk-each earlier gaps place (step ∷ steps) voices outcome all after (goes_on i walk) same here
      later =
      walk-each (earlier ++ renumbered gaps step ∷ []) gaps (suc place) steps voices outcome all
      after walk same
      (each-append P earlier (renumbered gaps step ∷ []) here (keeps gaps step later.0, tt)) later.1
  walk-each earlier gaps place (step ∷ steps) voices outcome all after (step_fails v differs) same
      here later =
      absurd cc
  walk-each earlier gaps place (step ∷ steps) voices outcome all after
      (fills {offer = offer} {after = then} is asked walk) same here later =
      walk-each (earlier ++ offer) (filled_by step offer ∷ gaps) (suc place) steps then outcome all
      after walk same
      (each-append P earlier offer here
      (offered earlier _ step.judgement offer (asked-usable theory f offer (Some offer) asked
      refl)))
      later.1
  walk-each earlier gaps place (step ∷ steps) voices outcome all after (gap_left is asked) same here
      later =
      absurd cc
