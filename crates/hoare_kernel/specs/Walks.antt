-- Needn't be believed: what is said of a walk over the steps of a proof and over procedures.
use Rattle.std.specs.Prelude.{◌≡◌, ℕ, true, List, [], ◌∷◌}
use Rattle.model_commands.specs.Theories.{Reason, Judgement, Step, Procedure, Procedures}
use Rattle.model_files.specs.FileFaults.{judgement_sorted}
use Rattle.rule_table.specs.Accepted.{Fault, gap, fails, no_proof, IsBadBy, FirstBadStep, FirstBadOf}
use Rattle.row_patterns.specs.Verdicts.{verdict_in}
use Rattle.theory_syntax.specs.Judgements.{judgement_of}
use Rattle.theory_syntax.specs.declared.steps.Step as rust_step
use Rattle.theory_syntax.specs.declared.theories.Procedure as rust
use Rattle.cited_steps.specs.Earlier.{are_numbered}
use Rattle.hoare_kernel.specs.declared.refusals.Refusal.{Refusal}
use Rattle.hoare_kernel.specs.declared.refusals.Refusal.TheVariants as r

-- the steps of a proof are numbered by their places
abbrev pub ProofIsNumbered : rust.Procedure → Type 0
ProofIsNumbered f = are_numbered 1 f.proof ≡ true

-- those of each proof
abbrev pub AreNumbered : List rust.Procedure → Type 0
AreNumbered [] = Unit
AreNumbered (f ∷ fs) = ProofIsNumbered f × AreNumbered fs

-- the formulas of each judgement may be judged at its sort
abbrev pub AllSorted : List rust_step.Step → Type 0
AllSorted [] = Unit
AllSorted (step ∷ steps) =
    (judgement_sorted (judgement_of step.judgement) ≡ true) × AllSorted steps

abbrev pub EachSorted : List rust.Procedure → Type 0
EachSorted [] = Unit
EachSorted (f ∷ fs) = AllSorted f.proof × EachSorted fs

-- what is known of the place that a refusal tells, and of why it is bad
abbrev pub Told : (ℕ → ℕ → Fault → Type 0) → Refusal → Type 0
Told Bad (r.Fails procedure step verdict) = Bad procedure step (fails (verdict_in verdict))
Told Bad (r.NoProof procedure) = (step : ℕ) × Bad procedure step no_proof
Told Bad (r.Gap procedure step) = Bad procedure step gap
Told Bad r.OutOfMemory = Unit

-- the step at this place of this procedure is bad
abbrev pub IsThere : Procedures → ℕ → ℕ → List Step → Reason → Judgement → ℕ → ℕ → Fault → Type 0
IsThere ps number place earlier reason judgement procedure step fault =
    (procedure ≡ number) × (step ≡ place) × IsBadBy ps reason earlier judgement fault

abbrev pub StepRefused : Procedures → ℕ → ℕ → List Step → Reason → Judgement → Refusal → Type 0
StepRefused ps number place earlier reason judgement =
    Told (IsThere ps number place earlier reason judgement)

-- the first bad place of a proof stands among its steps, whatever procedure it proves
abbrev pub IsAmong : Procedures → ℕ → List Step → ℕ → ℕ → Fault → Type 0
IsAmong ps number steps procedure step fault =
    (procedure ≡ number) × ((f : Procedure) → FirstBadStep ps f [] steps 1 step fault)

abbrev pub StepsRefused : Procedures → ℕ → List Step → Refusal → Type 0
StepsRefused ps number steps = Told (IsAmong ps number steps)

-- the first bad place of the procedure of this number
abbrev pub IsInside : Procedures → ℕ → Procedure → ℕ → ℕ → Fault → Type 0
IsInside ps number f procedure step fault =
    (procedure ≡ number) × FirstBadStep ps f [] f.proof 1 step fault

abbrev pub ProcedureRefused : Procedures → ℕ → Procedure → Refusal → Type 0
ProcedureRefused ps number f = Told (IsInside ps number f)

-- of these procedures, of which the first has the number
abbrev pub IsOneOf : Procedures → Procedures → ℕ → ℕ → ℕ → Fault → Type 0
IsOneOf ps fs number procedure step fault =
    FirstBadOf ps fs number (record { procedure = procedure; step = step; fault = fault })

abbrev pub ProceduresRefused : Procedures → Procedures → ℕ → Refusal → Type 0
ProceduresRefused ps fs number = Told (IsOneOf ps fs number)
