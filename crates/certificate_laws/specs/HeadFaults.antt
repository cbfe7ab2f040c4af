-- Needn't be believed: the program's promise doesn't speak of it. The first fault of a theory among
-- its version, its logic declarations and the headers with the bodies of its procedures: the places
-- that a head has.
use Rattle.std.specs.Prelude.{ℕ, ◌+◌, List, [], ◌∷◌, Option}
use Rattle.model_formulas.specs.Formulas.{Named}
use Rattle.model_commands.specs.Theories.{ProcedureOf, Theory}
use Rattle.model_files.specs.FileFaults.{Place, FileFault, declarations, header, first_fault_at}

-- the headers from this number on
abbrev pub headers_from : Theory → List (ProcedureOf Named) → ℕ → List (ProcedureOf Named)
    → List Place
headers_from theory earlier number [] = []
headers_from theory earlier number (f ∷ fs) =
    record { procedure = number; step = 0; passes = header theory earlier f }
    ∷ headers_from theory (f ∷ earlier) (number + 1) fs

-- the first fault at step 0
abbrev pub first_head_fault : Theory → Option FileFault
first_head_fault theory =
    first_fault_at (record { procedure = 0; step = 0; passes = declarations theory }
    ∷ headers_from theory [] 1 theory.procedures)
