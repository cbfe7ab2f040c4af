-- Fillers that are asked one after another.
use Rattle.std.proofs.Common.{◌≡◌, ◌∙◌, ℕ, ◌+◌, ◌<◌, ◌≤◌, List, [], ◌∷◌, ◌++◌, Option, Some, None, length, take, drop, set, sym, ap, subst, arith, append-nil, add-one}
use Rattle.std.proofs.lemmas.List.{set_split, take-append-drop, drop-set-lt, take_more_set, take_all, drop_all, append_assoc}
use Rattle.model_formulas.specs.Formulas.{Named}
use Rattle.model_commands.specs.Theories.{JudgementOf, StepOf, ProcedureOf, Theory}
use Rattle.model_filling.specs.Offers.{Voice}
use Rattle.model_filling.specs.Asking.{Asked, nobody, gives, passes}
use Rattle.theory_filler.specs.Answers.{WasAsked, WereAsked}
use Rattle.theory_filler.proofs.Turns.{were-none, were-then}

-- a filler in the middle was asked
were-between : (first rest : List Voice) (voice after : Voice) → WasAsked voice after
    → WereAsked (first ++ voice ∷ rest) (first ++ after ∷ rest)
were-between [] rest voice after asked = (asked, were-none rest)
were-between (one ∷ first) rest voice after asked =
    let same = were-none (one ∷ []) in (same.0, were-between first rest voice after asked)

-- of fillers the one at a place was asked
module _ (voices : List Voice) (place : ℕ) (voice after : Voice) (within : place < length voices)
    (at : drop place voices ≡ voice ∷ drop (place + 1) voices) where
  set-here : set voices place after ≡ take place voices ++ after ∷ drop (place + 1) voices
  set-here = rw add-one (set_split voices place after within)

  whole : voices ≡ take place voices ++ voice ∷ drop (place + 1) voices
  whole = sym (take-append-drop place voices) ∙ ap (λ vs. take place voices ++ vs) at

  pub were-more : (before : List Voice) → WereAsked before voices → WasAsked voice after
      → WereAsked before (set voices place after)
  were-more before asked now =
      were-then before voices (set voices place after) asked
      (subst (λ vs. WereAsked vs (set voices place after)) (sym whole)
      (subst (WereAsked (take place voices ++ voice ∷ drop (place + 1) voices)) (sym set-here)
      (were-between (take place voices) (drop (place + 1) voices) voice after now)))

module _ (theory : Theory) (f : ProcedureOf Named) (earlier : List (StepOf Named)) (number : ℕ)
    (judgement : JudgementOf Named) where
  abbrev HasAsked : List Voice → Option (List (StepOf Named)) → List Voice → Type 0
  HasAsked = Asked theory f earlier number judgement

  -- those that come after somebody who gives something aren't asked
  given-first : (first after rest : List Voice) (steps : List (StepOf Named))
      → HasAsked first (Some steps) after → HasAsked (first ++ rest) (Some steps) (after ++ rest)
  given-first [] after rest steps asked = elim asked [ ]
  given-first (voice ∷ first) after rest steps (gives g) = gives g
  given-first (voice ∷ first) after rest steps (passes {after = others} not asked) =
      passes not (given-first first others rest steps asked)

  -- those that come after somebody who gives nothing are
  given-later : (first after rest others : List Voice) (answer : Option (List (StepOf Named)))
      → HasAsked first None after → HasAsked rest answer others
      → HasAsked (first ++ rest) answer (after ++ others)
  given-later [] after rest others answer nobody asked = asked
  given-later (voice ∷ first) after rest others answer (passes {after = bs} not before) asked =
      passes not (given-later first bs rest others answer before asked)

  -- so far nobody gave something: what the others give is given
  pub record SoFar (before : List Voice) (place : ℕ) (voices : List Voice) : Type 0 where
    pub leads : (answer : Option (List (StepOf Named))) (others : List Voice)
        → HasAsked (drop place voices) answer others
        → HasAsked before answer (take place voices ++ others)

  pub so-far-first : (voices : List Voice) → SoFar voices 0 voices
  so-far-first voices = record { leads = λ answer others asked. asked }

  pub so-far-end : (before : List Voice) (place : ℕ) (voices : List Voice) → length voices ≤ place
      → SoFar before place voices → HasAsked before None voices
  so-far-end before place voices end so-far =
      subst (HasAsked before None)
      (append-nil (take place voices) ∙ take_all place voices end)
      (so-far.leads None []
      (subst (λ vs. HasAsked vs None []) (sym (drop_all place voices end)) nobody))

  module _ (before voices : List Voice) (place : ℕ) (voice after : Voice)
      (within : place < length voices)
      (at : drop place voices ≡ voice ∷ drop (place + 1) voices)
      (so-far : SoFar before place voices) where
    pub so-far-gives : (steps : List (StepOf Named))
        → HasAsked (voice ∷ []) (Some steps) (after ∷ [])
        → HasAsked before (Some steps) (set voices place after)
    so-far-gives steps asked =
        subst (HasAsked before (Some steps)) (sym (set-here voices place voice after within at))
        (so-far.leads (Some steps) (after ∷ drop (place + 1) voices)
        (subst (λ vs. HasAsked vs (Some steps) (after ∷ drop (place + 1) voices)) (sym at)
        (given-first (voice ∷ []) (after ∷ []) (drop (place + 1) voices) steps asked)))

    pub so-far-next : HasAsked (voice ∷ []) None (after ∷ [])
        → SoFar before (place + 1) (set voices place after)
    so-far-next asked = record {
      leads = λ answer others later.
          let rest = drop-set-lt (place + 1) voices place after (omega arith) in
          subst (HasAsked before answer)
          (sym (append_assoc (take place voices) (after ∷ []) others)
          ∙ ap (λ vs. vs ++ others) (sym (take_more_set voices place after within)))
          (so-far.leads answer (after ∷ others)
          (subst (λ vs. HasAsked vs answer (after ∷ others)) (sym at)
          (given-later (voice ∷ []) (after ∷ []) (drop (place + 1) voices) others answer asked
          (subst (λ vs. HasAsked vs answer others) rest later))));
    }
