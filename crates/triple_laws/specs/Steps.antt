-- Needn't be believed: the program's promise doesn't speak of it. What is promised of a judgement
-- of a well-formed theory with a command that fits: of an axiom's triple by itself, and of a step
-- behind these earlier ones.
use Rattle.std.specs.Prelude.{ℕ, List}
use Rattle.model_commands.specs.Theories.{Theory, Judgement, Reason, Step, procedures_of}
use Rattle.model_files.specs.FileFaults.{IsWellFormedTheory}
use Rattle.entailment_laws.specs.Judgements.{Fitting, JudgementHolds}
use Rattle.entailment_laws.specs.Steps.{IsSoundStep}
use Rattle.triple_laws.specs.BySteps.{in_steps, locally, HoldBelow}

-- it holds in every context
abbrev pub HoldsAnywhere : Judgement → Type 0
HoldsAnywhere judgement =
    (theory : Theory) → IsWellFormedTheory theory
    → Fitting (locally (procedures_of theory)) judgement
    → JudgementHolds (locally (procedures_of theory)) judgement

-- for each n, where the triple of each procedure holds for the runs of fewer than n steps, it holds
-- for those of at most n, where the judgements that it cites do
abbrev pub HoldsBySteps : Theory → List Step → Reason → Judgement → Type 0
HoldsBySteps theory earlier reason judgement =
    IsWellFormedTheory theory → Fitting (locally (procedures_of theory)) judgement
    → (n : ℕ) → HoldBelow (procedures_of theory) n
    → IsSoundStep (in_steps (procedures_of theory) n) earlier reason judgement
