-- Needn't be believed: the program's promise doesn't speak of it. What a fault of filling tells.
use Rattle.std.specs.Prelude.{◌≡◌, ℕ, List, Some}
use Rattle.model_commands.specs.Theories.{Theory}
use Rattle.rule_table.specs.Accepted.{Fault, gap, fails, no_proof}
use Rattle.model_filling.specs.Offers.{Voice}
use Rattle.model_filling.specs.Filled.{IsFilled, FailsFirst, filled_limit}
use Rattle.row_patterns.specs.Verdicts.{verdict_in}
use Rattle.dom_terms.specs.Limits.{limit_kind_of}
use Rattle.theory_filler.specs.declared.faults.FillFault.{FillFault}
use Rattle.theory_filler.specs.declared.faults.FillFault.TheVariants as f

-- what is known of the place that a fault tells, and of why it fails
abbrev pub Told : (ℕ → ℕ → Fault → Type 0) → FillFault → Type 0
Told Bad (f.Fails procedure step verdict) = Bad procedure step (fails (verdict_in verdict))
Told Bad (f.NoProof procedure) = (step : ℕ) × Bad procedure step no_proof
Told Bad (f.Gap procedure step) = Bad procedure step gap
Told Bad (f.Limit kind) = ⊥
Told Bad f.OutOfMemory = Unit

-- the first place that fails is this step of this procedure, and it fails for this
abbrev pub FailsAt : Theory → List Voice → ℕ → ℕ → Fault → Type 0
FailsAt theory voices procedure step fault =
    FailsFirst theory voices (record { procedure = procedure; step = step; fault = fault })

-- the limit that the theory passes, as a fault tells it
abbrev pub PassesLimit : Theory → FillFault → Type 0
PassesLimit t (f.Fails procedure step verdict) = ⊥
PassesLimit t (f.NoProof procedure) = ⊥
PassesLimit t (f.Gap procedure step) = ⊥
PassesLimit t (f.Limit kind) = filled_limit t ≡ Some (limit_kind_of kind)
PassesLimit t f.OutOfMemory = Unit

-- why no filled theory is handed out: the first place that fails, or the limit that it passes
abbrev pub Refuses : Theory → List Voice → FillFault → Type 0
Refuses theory voices (f.Fails procedure step verdict) =
    FailsAt theory voices procedure step (fails (verdict_in verdict))
Refuses theory voices (f.NoProof procedure) =
    (step : ℕ) × FailsAt theory voices procedure step no_proof
Refuses theory voices (f.Gap procedure step) = FailsAt theory voices procedure step gap
Refuses theory voices (f.Limit kind) =
    (t : Theory) × IsFilled theory voices t × (filled_limit t ≡ Some (limit_kind_of kind))
Refuses theory voices f.OutOfMemory = Unit
