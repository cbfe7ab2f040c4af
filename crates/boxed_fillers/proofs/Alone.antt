-- One filler, asked for a gap as if it were the only one.
use Rattle.std.proofs.Common.{◌≡◌, ◌∙◌, ℕ, ◌+◌, Bool, true, false, List, [], ◌∷◌, ◌++◌, Option, Some, None, Result, Ok, Err, IfOk, length, map, refl, sym, ap, subst}
use Rattle.std.specs.Prelude.{◌↔◌, IsTrue, MatchBool}
use Rattle.model_formulas.specs.Formulas.{Named}
use Rattle.model_commands.specs.Theories.{JudgementOf, StepOf, ProcedureOf, Theory}
use Rattle.model_filling.specs.Offers.{Offers, Voice, next_turn, asked_once}
use Rattle.model_filling.specs.Asking.{Asked, Gives, nobody, gives, passes}
use Rattle.model_filling.specs.Usable.{IsUsable}
use Rattle.dom_terms.specs.declared.memory.OutOfMemory.{OutOfMemory}
use Rattle.theory_syntax.specs.declared.steps.Step.{Step}
use Rattle.theory_syntax.specs.Judgements.{step_of}
use Rattle.theory_filler.specs.Answers.{Answered, WasAsked, not_at_all, once_more}

abbrev filler_at : ℕ → Offers → Voice
filler_at turn offers = record { turn = turn; offers = offers }

module _ (voice after : Voice) (same : after.offers ≡ voice.offers) where
  pub unasked : after.turn ≡ voice.turn → WasAsked voice after
  unasked turn =
      subst (WasAsked voice)
      (sym (ap (λ n. filler_at n after.offers) turn ∙ ap (filler_at voice.turn) same))
      not_at_all

  turned : after.turn ≡ next_turn voice.turn → after ≡ asked_once voice
  turned turn =
      ap (λ n. filler_at n after.offers) turn ∙ ap (filler_at (next_turn voice.turn)) same

  pub asked-now : after.turn ≡ next_turn voice.turn → WasAsked voice after
  asked-now turn = subst (WasAsked voice) (sym (turned turn)) (once_more not_at_all)

  module _ (turn : after.turn ≡ next_turn voice.turn) (theory : Theory) (f : ProcedureOf Named)
      (earlier : List Step) (judgement : JudgementOf Named) where
    abbrev GivesHere : List (StepOf Named) → Type 0
    GivesHere =
        Gives theory f (map step_of earlier) (length earlier + 1) judgement voice

    refused : ((steps : List (StepOf Named)) → GivesHere steps → ⊥)
        → Answered theory f earlier judgement (voice ∷ []) false earlier (after ∷ [])
    refused not = (
      refl,
      subst
          (λ (z : Voice). Asked theory f (map step_of earlier) (length earlier + 1) judgement
          (voice ∷ []) None (z ∷ []))
          (sym (turned turn)) (passes not nobody),
    )

    module _ (number : ℕ) (shown : List Step) (next : number ≡ length earlier + 1)
        (whole : shown ≡ earlier) (offer : Option (List (StepOf Named)))
        (is : offer ≡ voice.offers voice.turn number judgement (map step_of shown)) where
      offered : voice.offers voice.turn (length earlier + 1) judgement (map step_of earlier) ≡ offer
      offered =
          ap (λ n. voice.offers voice.turn n judgement (map step_of earlier)) (sym next)
          ∙ ap (λ steps. voice.offers voice.turn number judgement (map step_of steps)) (sym whole)
          ∙ sym is

      pub no-offer : offer ≡ None
          → Answered theory f earlier judgement (voice ∷ []) false earlier (after ∷ [])
      no-offer none =
          refused (λ steps given.
          let e : Some steps ≡ None = sym given.0 ∙ offered ∙ none in
          absurd cc)

      module _ (steps : List Step) (some : offer ≡ Some (map step_of steps)) where
        abbrev CanStand : Type 0
        CanStand =
            IsUsable theory f (map step_of earlier) (length earlier + 1) judgement
            (map step_of steps)

        found-or-not : (found : Bool) (proof : List Step) → IsTrue found ↔ CanStand
            → MatchBool found (proof ≡ earlier ++ steps) (proof ≡ earlier)
            → Answered theory f earlier judgement (voice ∷ []) found proof (after ∷ [])
        found-or-not true proof exact taken = (
          steps,
          taken,
          subst
              (λ (z : Voice). Asked theory f (map step_of earlier) (length earlier + 1) judgement
              (voice ∷ []) (Some (map step_of steps)) (z ∷ []))
              (sym (turned turn)) (gives (offered ∙ some, exact.0 refl)),
        )
        found-or-not false proof exact taken =
            subst
            (λ (z : List Step). Answered theory f earlier judgement (voice ∷ []) false z
            (after ∷ []))
            (sym taken)
            (refused (λ others given.
            let e : Some others ≡ Some (map step_of steps) = sym given.0 ∙ offered ∙ some in
            let no : false ≡ true = exact.1 (subst
            (IsUsable theory f (map step_of earlier) (length earlier + 1) judgement)
            (some-injective e) given.1) in
            absurd cc))
          where
            some-injective : {x y : List (StepOf Named)} → Some x ≡ Some y → x ≡ y
            some-injective e = cc

        pub taken-or-not : (found : Result Bool OutOfMemory) (proof : List Step)
            → IfOk found (λ yes. IsTrue yes ↔ CanStand)
            → IfOk found (λ yes. MatchBool yes (proof ≡ earlier ++ steps) (proof ≡ earlier))
            → IfOk found (λ yes. Answered theory f earlier judgement (voice ∷ []) yes proof
            (after ∷ []))
        taken-or-not (Ok found) proof exact taken = found-or-not found proof exact taken
        taken-or-not (Err refused) proof exact taken = tt
