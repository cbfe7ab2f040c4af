-- Needn't be believed: it serves the contracts of private functions. The places of a procedure at
-- which there may be a fault: its header and the steps of its proof.
use Rattle.std.specs.Prelude.{ℕ, List, ◌∷◌}
use Rattle.model_formulas.specs.Formulas.{Named}
use Rattle.model_commands.specs.Theories.{ProcedureOf, Theory}
use Rattle.model_files.specs.FileFaults.{Place, header, steps_from}

abbrev pub places_of : Theory → List (ProcedureOf Named) → ℕ → ProcedureOf Named → List Place
places_of theory earlier number f =
    record { procedure = number; step = 0; passes = header theory earlier f }
    ∷ steps_from theory number f 1 f.proof
