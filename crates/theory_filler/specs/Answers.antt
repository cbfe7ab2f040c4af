-- Needn't be believed: the program's promise doesn't speak of it. What is answered where fillers
-- are asked for the steps of a gap, and what they are after that.
use Rattle.std.specs.Prelude.{◌≡◌, ℕ, ◌+◌, ◌-◌, Bool, true, false, List, [], ◌∷◌, ◌++◌, Some, None, length, map, slice_get}
use Rattle.model_formulas.specs.Formulas.{Named}
use Rattle.model_commands.specs.Theories.{JudgementOf, ProcedureOf, Theory}
use Rattle.model_filling.specs.Offers.{Voice, asked_once}
use Rattle.model_filling.specs.Asking.{Asked}
use Rattle.theory_syntax.specs.declared.steps.Step.{Step}
use Rattle.theory_syntax.specs.Judgements.{step_of}

-- what is said of the procedure with the number, counted from 1
abbrev pub OfProcedure : Theory → ℕ → (ProcedureOf Named → Type 0) → Type 0
OfProcedure theory number Said =
    (f : ProcedureOf Named) → slice_get theory.procedures (number - 1) ≡ Some f → Said f

-- For a gap that comes next after these steps: true, and the first usable offer after them; or
-- false, where there is none, and the same steps.
abbrev pub Answered : Theory → ProcedureOf Named → List Step → JudgementOf Named → List Voice
    → Bool → List Step → List Voice → Type 0
Answered theory f earlier judgement voices true proof after =
    (offer : List Step) × (proof ≡ earlier ++ offer)
    × Asked theory f (map step_of earlier) (length earlier + 1) judgement voices
    (Some (map step_of offer)) after
Answered theory f earlier judgement voices false proof after =
    (proof ≡ earlier)
    × Asked theory f (map step_of earlier) (length earlier + 1) judgement voices None after

-- the second is the first filler after it was asked some times, or not at all: its turn has risen
-- once for each, and its offers are as before
pub data WasAsked (voice : Voice) : Voice → Type 0 where
  not_at_all : WasAsked voice voice
  once_more : {after : Voice} → WasAsked voice after → WasAsked voice (asked_once after)

-- so it is with each of them
abbrev pub WereAsked : List Voice → List Voice → Type 0
WereAsked [] [] = Unit
WereAsked (voice ∷ voices) (after ∷ others) = WasAsked voice after × WereAsked voices others
WereAsked voices others = ⊥
