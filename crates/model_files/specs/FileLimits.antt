-- What of a file is counted: the variables of each procedure, and the steps of all proofs.
use Rattle.std.specs.Prelude.{ℕ, ◌+◌, Bool, true, ◌&&◌, List, [], ◌∷◌, length, nat_le}
use Rattle.model_limits.specs.Limits.{standard_limits}
use Rattle.model_formulas.specs.Formulas.{Named}
use Rattle.model_commands.specs.Theories.{ProcedureOf}
use Rattle.model_files.specs.FileFaults.{declared_by}

-- no procedure declares more variables than the most, its parameters, results and locals
abbrev pub variables_within : List (ProcedureOf Named) → Bool
variables_within [] = true
variables_within (f ∷ fs) =
    nat_le (length (declared_by f)) standard_limits.variables && variables_within fs

-- the steps of all proofs
abbrev pub step_count : List (ProcedureOf Named) → ℕ
step_count [] = 0
step_count (f ∷ fs) = length f.proof + step_count fs
