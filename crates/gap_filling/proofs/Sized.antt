-- The steps have the sizes of an offer exactly where each of their lexemes fits.
use Rattle.std.proofs.Common.{◌≡◌, ◌∙◌, ◌==◌, ℕ, ◌≤◌, true, false, List, [], ◌∷◌, length, refl, sym, arith}
use Rattle.std.specs.List.{list_all}
use Rattle.model_formulas.specs.Formulas.{Named}
use Rattle.model_commands.specs.Theories.{StepOf}
use Rattle.model_files.specs.Sizes.{StepsAreSmall}
use Rattle.model_filling.specs.Sizes.{IsSized, offer_lexemes}
use Rattle.gap_filling.specs.declared.meters.Meter.{Meter}
use Rattle.gap_filling.specs.Measured.{measured}
use Rattle.gap_filling.specs.Numbers.{numbers_fit}
use Rattle.gap_filling.proofs.Fitting.{fitting, fits, text-shorter, spaced-longer}
use Rattle.gap_filling.proofs.Integers.{fit-offer}
use Rattle.gap_filling.proofs.SmallParts.{small-offer}

-- a list of some items
pub not-empty : {A : Type 0} (xs : List A) → false ≡ (length xs == 0) → 1 ≤ length xs
not-empty [] e = cc
not-empty (x ∷ xs) e = omega arith

-- the room for an offer
abbrev pub room : Meter
room = record { bytes = 1048577; brackets = 0; fits = true }

module _ (version : ℕ) (steps : List (StepOf Named)) (numbers : list_all numbers_fit steps ≡ true)
  where
    pub is-sized : 1 ≤ length steps → length steps ≤ 10000
        → (measured room (offer_lexemes version steps)).fits ≡ true → IsSized version steps
    is-sized some few e =
        let h = fitting (offer_lexemes version steps) room e in record {
          some = some;
          few = few;
          short = text-shorter (offer_lexemes version steps) 1048576 h.1;
          shallow = h.2;
          integers = sym (fit-offer version steps numbers) ∙ h.3;
        }

    pub sized-fits : IsSized version steps
        → (measured room (offer_lexemes version steps)).fits ≡ true
    sized-fits s =
        fits (offer_lexemes version steps) room (
          refl,
          spaced-longer (offer_lexemes version steps) 1048576 s.short,
          s.shallow,
          fit-offer version steps numbers ∙ s.integers,
        )

-- and then their formulas are small
pub sized-small : (version : ℕ) (steps : List (StepOf Named))
    → (measured room (offer_lexemes version steps)).fits ≡ true → StepsAreSmall steps
sized-small version steps e =
    small-offer version steps (fitting (offer_lexemes version steps) room e).1
