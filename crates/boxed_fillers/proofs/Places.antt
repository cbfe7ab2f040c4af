-- The filler at a place of a list was asked.
use Rattle.std.proofs.Common.{◌≡◌, ◌∙◌, ℕ, ◌+◌, ◌<◌, ◌≤◌, Bool, true, false, List, [], ◌∷◌, Some, length, map, drop, set, get_or, sym, ap, subst, arith}
use Rattle.std.proofs.lemmas.List.{drop_more, get_or-map, length-map, map-set}
use Rattle.model_formulas.specs.Formulas.{Named}
use Rattle.model_commands.specs.Theories.{JudgementOf, ProcedureOf, Theory}
use Rattle.model_filling.specs.Offers.{Offers, Voice}
use Rattle.model_filling.specs.Asking.{Asked}
use Rattle.theory_syntax.specs.declared.steps.Step.{Step}
use Rattle.theory_syntax.specs.Judgements.{step_of}
use Rattle.theory_filler.specs.Answers.{Answered, WasAsked, WereAsked}
use Rattle.boxed_fillers.specs.Voices.{voice_of, voices_of}
use Rattle.boxed_fillers.proofs.InOrder.{SoFar, so-far-end, so-far-gives, so-far-next, were-more}

module _ {F : Type 0} (turn : F → ℕ) (offers : F → Offers) (before : List Voice)
    (fillers : List F) (place : ℕ) where
  -- so far nobody gave something for a gap that comes next after these steps
  abbrev pub Nobody : Theory → ProcedureOf Named → List Step → JudgementOf Named → Type 0
  Nobody theory f earlier judgement =
      SoFar theory f (map step_of earlier) (length earlier + 1) judgement before place
      (voices_of turn offers fillers)

  -- where that was the last one
  pub nobody-gave : (theory : Theory) (f : ProcedureOf Named) (earlier proof : List Step)
      (judgement : JudgementOf Named) → proof ≡ earlier → length fillers ≤ place
      → Nobody theory f earlier judgement
      → Answered theory f earlier judgement before false proof (voices_of turn offers fillers)
  nobody-gave theory f earlier proof judgement kept end so-far = (
    kept,
    so-far-end theory f (map step_of earlier) (length earlier + 1) judgement before place
        (voices_of turn offers fillers)
        (omega (arith, end, length-map fillers (voice_of turn offers))) so-far,
  )

  module _ (new other : F) (within : place < length fillers) where
    abbrev filler : F
    filler = get_or fillers place other

    within-voices : place < length (voices_of turn offers fillers)
    within-voices = omega (arith, within, length-map fillers (voice_of turn offers))

    at : drop place (voices_of turn offers fillers)
        ≡ voice_of turn offers filler ∷ drop (place + 1) (voices_of turn offers fillers)
    at =
        drop_more (voices_of turn offers fillers) place (voice_of turn offers filler) within-voices
        ∙ ap (λ v. v ∷ drop (place + 1) (voices_of turn offers fillers))
        (get_or-map (voice_of turn offers) fillers place other (voice_of turn offers filler) within)

    after : set (voices_of turn offers fillers) place (voice_of turn offers new)
        ≡ voices_of turn offers (set fillers place new)
    after = sym (map-set (voice_of turn offers) fillers place new)

    pub were-asked : WereAsked before (voices_of turn offers fillers)
        → WasAsked (voice_of turn offers filler) (voice_of turn offers new)
        → WereAsked before (voices_of turn offers (set fillers place new))
    were-asked asked now =
        subst (WereAsked before) after
        (were-more (voices_of turn offers fillers) place (voice_of turn offers filler)
        (voice_of turn offers new) within-voices at before asked now)

    module _ (theory : Theory) (f : ProcedureOf Named) (earlier : List Step)
        (judgement : JudgementOf Named) (so-far : Nobody theory f earlier judgement)
        (shown proof : List Step) (kept : shown ≡ earlier) (found : Bool)
        (answered : Answered theory f shown judgement (voice_of turn offers filler ∷ []) found proof
        (voice_of turn offers new ∷ [])) where
      abbrev AnsweredAlone : Bool → Type 0
      AnsweredAlone b =
          Answered theory f earlier judgement (voice_of turn offers filler ∷ []) b proof
          (voice_of turn offers new ∷ [])

      alone : (b : Bool) → found ≡ b → AnsweredAlone b
      alone b e =
          subst AnsweredAlone e
          (subst
          (λ (z : List Step). Answered theory f z judgement (voice_of turn offers filler ∷ []) found
          proof (voice_of turn offers new ∷ []))
          kept answered)

      pub gave : found ≡ true
          → Answered theory f earlier judgement before true proof
          (voices_of turn offers (set fillers place new))
      gave e =
          let yes = alone true e in (
            yes.0,
            yes.1,
            subst
                (Asked theory f (map step_of earlier) (length earlier + 1) judgement before
                (Some (map step_of yes.0)))
                after
                (so-far-gives theory f (map step_of earlier) (length earlier + 1) judgement before
                (voices_of turn offers fillers) place (voice_of turn offers filler)
                (voice_of turn offers new) within-voices at so-far (map step_of yes.0) yes.2),
          )

      pub gave-nothing : found ≡ false
          → (proof ≡ earlier)
          × SoFar theory f (map step_of earlier) (length earlier + 1) judgement before (place + 1)
          (voices_of turn offers (set fillers place new))
      gave-nothing e =
          let no = alone false e in (
            no.0,
            subst
                (SoFar theory f (map step_of earlier) (length earlier + 1) judgement before
                (place + 1))
                after
                (so-far-next theory f (map step_of earlier) (length earlier + 1) judgement before
                (voices_of turn offers fillers) place (voice_of turn offers filler)
                (voice_of turn offers new) within-voices at so-far no.1),
          )
