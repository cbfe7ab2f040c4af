-- Where the first place that fails, of a theory whose gaps are filled, stands in it.
use Rattle.std.proofs.Common.{◌≡◌, refl, ℕ, suc, ◌+◌, List, [], ◌∷◌, ◌++◌, map, ap, Some, slice_get, arith}
use Rattle.model_formulas.specs.Formulas.{Named}
use Rattle.model_commands.specs.Theories as model
use Rattle.model_commands.specs.Theories.{auto, StepOf, ProcedureOf, nameless_step, nameless_judgement, procedures_of}
use Rattle.rule_table.specs.Accepted.{Fault, gap, fails, no_proof, BadPlace}
use Rattle.model_filling.specs.Offers.{Voice}
use Rattle.model_filling.specs.Renumbering.{FilledGap, filled_by, renumbered, raised_reason}
use Rattle.model_filling.specs.Walk.{Walk, ProofOutcome, proof_filled, fails_at, ends, ends_badly, goes_on, step_fails, fills, gap_left}
use Rattle.model_filling.specs.Filled as F
use Rattle.model_filling.specs.Filled.{WalkAll, FailsFirst, with_proof, all_filled, fails_in, in_front}
use Rattle.theory_syntax.specs.declared.steps.Step.{Step}
use Rattle.theory_syntax.specs.declared.theories.Procedure.{Procedure}
use Rattle.theory_syntax.specs.declared.theories.Theory.{Theory}
use Rattle.theory_syntax.specs.Judgements.{reason_of, step_of}
use Rattle.theory_syntax.specs.Theories.{procedure_of, theory_of}
use Rattle.hoare_kernel.proofs.BadPlaces.{StepThere}
use Rattle.domcheck_core.specs.Stands.{HasProcedure, HasPlace}
use Rattle.domcheck_core.proofs.Verdicts.{at-place, step-at, no-verdict}

-- A STEP of a proof, counted from the place of the first: for a gap there is one, for a failure one
-- that is no gap
abbrev StepFails : List Step → ℕ → ℕ → Fault → Type 0
StepFails steps at place gap = StepThere steps at place
StepFails steps at place (fails v) =
    (x : StepThere steps at place) × (reason_of x.step.reason ≡ auto → ⊥)
StepFails steps at place no_proof = Unit

abbrev InProof : List Step → ℕ → ProofOutcome → Type 0
InProof steps at (proof_filled proof voices) = Unit
InProof steps at (fails_at place fault) = StepFails steps at place fault

abbrev further : (x : Step) (steps : List Step) (at place : ℕ) → StepThere steps (suc at) place
    → StepThere (x ∷ steps) at place
further x steps at place a = record {
  place = suc a.place;
  step = a.step;
  counted = omega (arith, a.counted);
  there = a.there;
}

further-on : (x : Step) (steps : List Step) (at : ℕ) (r : ProofOutcome)
    → InProof steps (suc at) r → InProof (x ∷ steps) at r
further-on x steps at (proof_filled proof voices) h = tt
further-on x steps at (fails_at place gap) h = further x steps at place h
further-on x steps at (fails_at place (fails v)) h = (further x steps at place h.0, h.1)
further-on x steps at (fails_at place no_proof) h = tt

abbrev first-step : (x : Step) (steps : List Step) (at : ℕ) → StepThere (x ∷ steps) at at
first-step x steps at = record { place = 0; step = x; counted = omega arith; there = refl }

module _ (theory : model.Theory) where
  in-proof : (f : ProcedureOf Named) (steps : List Step) (earlier : List (StepOf Named))
      (gaps : List FilledGap) (at : ℕ) (voices : List Voice) (r : ProofOutcome)
      → Walk theory f earlier gaps at (map step_of steps) voices r → InProof steps at r
  in-proof f [] earlier gaps at voices r (ends e) = tt
  in-proof f [] earlier gaps at voices r (ends_badly n) = tt
  in-proof f (x ∷ steps) earlier gaps at voices r (goes_on i walk) =
      further-on x steps at r (in-proof f steps (earlier ++ renumbered gaps (step_of x) ∷ []) gaps
      (suc at) voices r walk)
  in-proof f (x ∷ steps) earlier gaps at voices r (step_fails {verdict = v} y differs) = (
    first-step x steps at,
    λ e. no-verdict (procedures_of theory) (raised_reason gaps (reason_of x.reason))
        (map nameless_step earlier) (nameless_judgement (step_of x).judgement) v y
        (ap (raised_reason gaps) e),
  )
  in-proof f (x ∷ steps) earlier gaps at voices r (fills {offer = offer} {after = after} is asked
      walk) =
      further-on x steps at r (in-proof f steps (earlier ++ offer)
      (filled_by (step_of x) offer ∷ gaps) (suc at) after r walk)
  in-proof f (x ∷ steps) earlier gaps at voices r (gap_left is asked) = first-step x steps at

  -- A PROCEDURE, counted from the number of the first, and the step in its proof
  record Found (fs : List Procedure) (n : ℕ) (bad : BadPlace) : Type 0 where
    place : ℕ
    procedure : Procedure
    counted : bad.procedure ≡ n + place
    there : slice_get fs place ≡ Some procedure
    fails_here : StepFails procedure.proof 1 bad.step bad.fault

  abbrev InAll : List Procedure → ℕ → F.Outcome → Type 0
  InAll fs n (all_filled gs voices) = Unit
  InAll fs n (fails_in bad) = Found fs n bad

  in-all : (fs : List Procedure) (n : ℕ) (voices : List Voice) (r : F.Outcome)
      → WalkAll theory n (map procedure_of fs) voices r → InAll fs n r
  in-all [] n voices r F.all_done = tt
  in-all (f ∷ fs) n voices r (F.fails_first {place = place} {fault = fault} walk) = record {
    place = 0;
    procedure = f;
    counted = omega arith;
    there = refl;
    fails_here = in-proof (procedure_of f) f.proof [] [] 1 voices (fails_at place fault) walk;
  }
  in-all (f ∷ fs) n voices r (F.fills_first {proof = proof} {after = after} {rest = rest} walk
      later) =
      further-in rest (in-all fs (suc n) after rest later)
    where
      further-in : (rest : F.Outcome) → InAll fs (suc n) rest
          → InAll (f ∷ fs) n (in_front (with_proof (procedure_of f) proof) rest)
      further-in (all_filled gs voices) a = tt
      further-in (fails_in bad) a = record {
        place = suc a.place;
        procedure = a.procedure;
        counted = omega (arith, a.counted);
        there = a.there;
        fails_here = a.fails_here;
      }

-- THE FIRST PLACE that fails stands in the theory
module _ (theory : Theory) where
  module _ (procedure place : ℕ) where
    -- it, with its fault, was found
    abbrev IsFound : Fault → Type 0
    IsFound fault = Found (theory_of theory) theory.procedures 1
        (record { procedure = procedure; step = place; fault = fault })

    abbrev own : (fault : Fault) → IsFound fault → HasProcedure theory procedure
    own fault a = record {
      procedure = a.procedure;
      there = at-place theory.procedures procedure a.place a.procedure a.counted a.there;
    }

    stands : (fault : Fault) → IsFound fault → HasPlace theory procedure place fault
    stands no_proof a = own no_proof a
    stands gap a = (own gap a, step-at a.procedure place a.fails_here)
    stands (fails v) a =
        (own (fails v) a, step-at a.procedure place a.fails_here.0, a.fails_here.1)

  pub failing-place : (voices : List Voice) (procedure place : ℕ) (fault : Fault)
      → FailsFirst (theory_of theory) voices
      (record { procedure = procedure; step = place; fault = fault })
      → HasPlace theory procedure place fault
  failing-place voices procedure place fault h =
      stands procedure place fault (in-all (theory_of theory) theory.procedures 1 voices
      (fails_in (record { procedure = procedure; step = place; fault = fault })) h)
