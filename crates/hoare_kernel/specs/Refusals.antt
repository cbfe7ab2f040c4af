-- Needn't be believed: the program's promise doesn't speak of it. Why a theory is refused.
use Rattle.std.specs.Prelude.{ℕ}
use Rattle.rule_table.specs.Accepted.{Fault, fails, gap, no_proof, IsFirstBad}
use Rattle.row_patterns.specs.Verdicts.{verdict_in}
use Rattle.theory_syntax.specs.declared.theories.Theory.{Theory}
use Rattle.theory_syntax.specs.Theories.{theory_of}
use Rattle.hoare_kernel.specs.declared.refusals.Refusal.{Refusal}
use Rattle.hoare_kernel.specs.declared.refusals.Refusal.TheVariants as r

-- the first bad place is this step of this procedure, and it is bad for this
abbrev pub IsBadAt : Theory → ℕ → ℕ → Fault → Type 0
IsBadAt theory procedure step fault = IsFirstBad (theory_of theory)
    (record { procedure = procedure; step = step; fault = fault })

-- The theory is refused for this: the first bad place has another verdict than instance, or is the
-- end of a proof, or is a gap.
abbrev pub Refuses : Theory → Refusal → Type 0
Refuses theory (r.Fails procedure step verdict) =
    IsBadAt theory procedure step (fails (verdict_in verdict))
Refuses theory (r.NoProof procedure) = (step : ℕ) × IsBadAt theory procedure step no_proof
Refuses theory (r.Gap procedure step) = IsBadAt theory procedure step gap
Refuses theory r.OutOfMemory = Unit
