-- A gap of a walk: one that is filled, and one that is left.
use Rattle.std.proofs.Common.{◌≡◌, ◌∙◌, ℕ, ◌+◌, ◌-◌, ◌≤◌, Bool, true, false, List, [], ◌∷◌, ◌++◌, length, map, Option, Some, None, refl, sym, ap, ap₂, subst, add-one, arith}
use Rattle.std.proofs.lemmas.List.{map-append, length-append, length-map}
use Rattle.model_formulas.specs.Formulas.{Named}
use Rattle.model_commands.specs.Theories.{auto, StepOf, ProcedureOf, Theory}
use Rattle.rule_table.specs.Accepted as accepted
use Rattle.model_filling.specs.Offers.{Voice}
use Rattle.model_filling.specs.Usable.{IsUsable}
use Rattle.model_filling.specs.Renumbering.{FilledGap, filled_by, moved}
use Rattle.model_filling.specs.Asking.{Asked}
use Rattle.model_filling.specs.Walk.{Walk, fills, gap_left}
use Rattle.model_filling.proofs.Numbers.{asked-usable}
use Rattle.theory_syntax.specs.declared.steps.Step as rust
use Rattle.theory_syntax.specs.Judgements.{step_of}
use Rattle.cited_steps.specs.Earlier.{AreCitable}
use Rattle.gap_filling.specs.declared.renumbering.FilledGap as rust_gap
use Rattle.gap_filling.specs.Renumbered.{gap_of}
use Rattle.theory_filler.specs.declared.steps.Walked.{Walked}
use Rattle.theory_filler.specs.Answers.{Answered}
use Rattle.theory_filler.specs.Walks.{gaps_in, IsOrderly, StepLeads, StepFails}
use Rattle.theory_filler.proofs.Gaps.{gaps-more, moved-next}

module _ (theory : Theory) (f : ProcedureOf Named) (before : Walked) (s : StepOf Named)
    (orderly : IsOrderly before s.number) (voices : List Voice) where
  abbrev AskedAt : ℕ → Option (List (StepOf Named)) → List Voice → Type 0
  AskedAt n answer others =
      Asked theory f (map step_of before.steps) n s.judgement voices answer others

  abbrev pub AskedNext : Option (List (StepOf Named)) → List Voice → Type 0
  AskedNext = AskedAt (length before.steps + 1)

  -- the number of the gap is that of the next step
  at-next : (answer : Option (List (StepOf Named))) (others : List Voice)
      → AskedNext answer others → AskedAt (moved (gaps_in before.gaps) s.number) answer others
  at-next answer others asked =
      subst (λ (n : ℕ). AskedAt n answer others) (sym orderly.numbered) asked

  pub gap-fails : s.reason ≡ auto → (others : List Voice) → AskedNext None others → (number : ℕ)
      → StepFails theory f before voices s number number s.number accepted.gap
  gap-fails is_gap others asked number =
      (refl, λ steps. gap_left is_gap (at-next None others asked))

  module _ (offer : List rust.Step) (others : List Voice)
      (asked : AskedNext (Some (map step_of offer)) others) where
    usable : IsUsable theory f (map step_of before.steps) (length before.steps + 1) s.judgement
        (map step_of offer)
    usable = asked-usable theory f (map step_of offer) (Some (map step_of offer)) asked refl

    -- how many steps are offered
    pub offer-some : 1 ≤ length offer
    offer-some = subst (λ (n : ℕ). 1 ≤ n) (length-map offer step_of) usable.sized.some

    pub offer-few : length offer ≤ 10000
    offer-few = subst (λ (n : ℕ). n ≤ 10000) (length-map offer step_of) usable.sized.few

    module _ (after : Walked) (gap : rust_gap.FilledGap)
        (steps : after.steps ≡ before.steps ++ offer) (gaps : after.gaps ≡ before.gaps ++ gap ∷ [])
        (number : gap.number ≡ s.number) (more : gap.more ≡ length offer - 1) where
      pub gap-orderly : AreCitable after.steps → IsOrderly after (s.number + 1)
      gap-orderly citable =
          let long : length after.steps ≡ length before.steps + length offer =
          ap length steps ∙ length-append before.steps offer in
          let gaps_are : gaps_in after.gaps ≡ gap_of gap ∷ gaps_in before.gaps =
          ap gaps_in gaps ∙ gaps-more before.gaps gap in
          let next : moved (gaps_in before.gaps) (s.number + 1) ≡ length before.steps + 1 + 1 =
          moved-next (gaps_in before.gaps) s.number ∙ ap (λ k. k + 1) orderly.numbered in record {
            citable = citable;
            numbered = ap (λ z. moved z (s.number + 1)) gaps_are
                ∙ omega (arith, next, more, long, offer-some);
            few = omega (arith, long, orderly.few, offer-few);
          }

      gap-is : gap_of gap ≡ filled_by s (map step_of offer)
      gap-is =
          ap₂ gap_by number (more ∙ ap (λ (n : ℕ). n - 1) (sym (length-map offer step_of)))
        where
          gap_by : ℕ → ℕ → FilledGap
          gap_by n m = record { number = n; more = m }

      pub gap-leads : s.reason ≡ auto → StepLeads theory f before voices s after others
      gap-leads is_gap rest outcome walk =
          let here = filled_by s (map step_of offer) in
          let gaps_are : gaps_in after.gaps ≡ here ∷ gaps_in before.gaps =
          ap gaps_in gaps ∙ gaps-more before.gaps gap
          ∙ ap (λ z. z ∷ gaps_in before.gaps) gap-is in
          fills is_gap (at-next (Some (map step_of offer)) others asked)
          (subst (λ (n : ℕ). Walk theory f (map step_of before.steps ++ map step_of offer)
          (filled_by s (map step_of offer) ∷ gaps_in before.gaps) n rest others outcome)
          (add-one s.number)
          (subst (λ z. Walk theory f (map step_of before.steps ++ map step_of offer) z
          (s.number + 1) rest others outcome) gaps_are
          (subst (λ z. Walk theory f z (gaps_in after.gaps) (s.number + 1) rest others outcome)
          (ap (map step_of) steps ∙ map-append step_of before.steps offer) walk)))

-- WHAT WAS ANSWERED
module _ (theory : Theory) (f : ProcedureOf Named) (before : Walked) (s : StepOf Named)
    (orderly : IsOrderly before s.number) (voices : List Voice) (found : Bool)
    (proof : List rust.Step) (others : List Voice)
    (answered : Answered theory f before.steps s.judgement voices found proof others) where
  pub answered-no : found ≡ false → AskedNext theory f before s orderly voices None others
  answered-no e = by_answer found e answered
    where
      by_answer : (b : Bool) → b ≡ false
          → Answered theory f before.steps s.judgement voices b proof others
          → AskedNext theory f before s orderly voices None others
      by_answer false e h = h.1
      by_answer true e h = absurd cc

  pub answered-yes : found ≡ true → (offer : List rust.Step) × (proof ≡ before.steps ++ offer)
      × AskedNext theory f before s orderly voices (Some (map step_of offer)) others
  answered-yes e = by_answer found e answered
    where
      by_answer : (b : Bool) → b ≡ true
          → Answered theory f before.steps s.judgement voices b proof others
          → (offer : List rust.Step) × (proof ≡ before.steps ++ offer)
          × AskedNext theory f before s orderly voices (Some (map step_of offer)) others
      by_answer true e h = h
      by_answer false e h = absurd cc

  -- by how many steps the proof grew
  pub grown : found ≡ true → (more : ℕ) × (length proof ≡ length before.steps + more)
      × (1 ≤ more) × (more ≤ 10000)
  grown e =
      let yes = answered-yes e in (
        length yes.0,
        ap length yes.1 ∙ length-append before.steps yes.0,
        offer-some theory f before s orderly voices yes.0 others yes.2,
        offer-few theory f before s orderly voices yes.0 others yes.2,
      )
