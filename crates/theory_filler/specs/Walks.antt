-- Needn't be believed: the program's promise doesn't speak of it. How far a walk through a proof
-- has come, and what its next step brings; and the theory that comes of the walks.
use Rattle.std.specs.Prelude.{◌≡◌, ◌≤◌, ℕ, ◌+◌, ◌*◌, List, [], ◌∷◌, length, map, reverse}
use Rattle.model_formulas.specs.Formulas.{Named}
use Rattle.model_commands.specs.Theories.{StepOf, ProcedureOf, Theory}
use Rattle.rule_table.specs.Accepted.{Fault}
use Rattle.model_filling.specs.Offers.{Voice}
use Rattle.model_filling.specs.Renumbering as filling
use Rattle.model_filling.specs.Walk.{Walk, ProofOutcome, fails_at}
use Rattle.theory_syntax.specs.declared.steps.Step.{Step}
use Rattle.theory_syntax.specs.Judgements.{step_of}
use Rattle.cited_steps.specs.Earlier.{AreCitable}
use Rattle.gap_filling.specs.declared.renumbering.FilledGap.{FilledGap}
use Rattle.gap_filling.specs.Renumbered.{gap_of}
use Rattle.theory_filler.specs.declared.steps.Walked.{Walked}

-- the gaps, the last one first
abbrev pub gaps_in : List FilledGap → List filling.FilledGap
gaps_in gaps = reverse (map gap_of gaps)

-- Before the step at this place: the steps may be cited, the number of that one will be the next
-- one, and no place has brought more steps than an offer may have.
pub record IsOrderly (walked : Walked) (place : ℕ) : Type 0 where
  pub citable : AreCitable walked.steps
  pub numbered : filling.moved (gaps_in walked.gaps) place ≡ length walked.steps + 1
  pub few : length walked.steps + 10000 ≤ 10000 * place

module _ (theory : Theory) (f : ProcedureOf Named) where
  -- what comes of these steps from this place on
  abbrev pub WalkFrom : Walked → ℕ → List (StepOf Named) → List Voice → ProofOutcome → Type 0
  WalkFrom walked place steps voices outcome =
      Walk theory f (map step_of walked.steps) (gaps_in walked.gaps) place steps voices outcome

  -- whatever comes of the steps after this one comes of it and them
  abbrev pub StepLeads : Walked → List Voice → StepOf Named → Walked → List Voice → Type 0
  StepLeads before voices step after others =
      (steps : List (StepOf Named)) (outcome : ProofOutcome)
      → WalkFrom after (step.number + 1) steps others outcome
      → WalkFrom before step.number (step ∷ steps) voices outcome

  -- the step, of the procedure with the number, is the first place that fails
  abbrev pub StepFails : Walked → List Voice → StepOf Named → ℕ → ℕ → ℕ → Fault → Type 0
  StepFails walked voices step number procedure place fault =
      (procedure ≡ number)
      × ((steps : List (StepOf Named))
      → WalkFrom walked step.number (step ∷ steps) voices (fails_at place fault))

  -- whatever comes where all these steps are walked through comes of them
  abbrev pub WalkLeads : List Step → List Voice → Walked → List Voice → Type 0
  WalkLeads written voices walked others =
      (outcome : ProofOutcome) → WalkFrom walked (length written + 1) [] others outcome
      → Walk theory f [] [] 1 (map step_of written) voices outcome

  -- one of these steps, of the procedure with the number, is the first place that fails
  abbrev pub WalkFails : List Step → List Voice → ℕ → ℕ → ℕ → Fault → Type 0
  WalkFails written voices number procedure place fault =
      (procedure ≡ number)
      × Walk theory f [] [] 1 (map step_of written) voices (fails_at place fault)

-- the theory with other procedures
abbrev pub with_procedures : Theory → List (ProcedureOf Named) → Theory
with_procedures theory fs = record theory { procedures = fs }
