-- Steps and procedures without their lines, where bound variables have no names any more.
use Rattle.std.proofs.Common.{◌≡◌, ◌∙◌, refl, ap, List, [], ◌∷◌, map}
use Rattle.model_formulas.specs.Formulas.{Named}
use Rattle.model_commands.specs.Theories.{Step, StepOf, Procedure, ProcedureOf, Theory, nameless_step, nameless_procedure, procedures_of}
use Rattle.model_round_trip.specs.ReadBack.{step_without_line, procedure_without_lines, without_lines}

-- the step as it would be on no line
abbrev pub unlined : Step → Step
unlined step = record step { line = 0 }

-- the procedure without the lines of its steps
abbrev pub bare : Procedure → Procedure
bare f = record f { proof = map unlined f.proof }

-- It is the same whether the lines or the names go first.
steps-commute : (steps : List (StepOf Named))
    → map nameless_step (map step_without_line steps) ≡ map unlined (map nameless_step steps)
steps-commute [] = refl
steps-commute (step ∷ steps) =
    ap (λ more. unlined (nameless_step step) ∷ more) (steps-commute steps)

procedure-commutes : (f : ProcedureOf Named)
    → nameless_procedure (procedure_without_lines f) ≡ bare (nameless_procedure f)
procedure-commutes f =
    ap (λ steps. record (nameless_procedure f) { proof = steps }) (steps-commute f.proof)

procedures-commute : (fs : List (ProcedureOf Named))
    → map nameless_procedure (map procedure_without_lines fs) ≡ map bare (map nameless_procedure fs)
procedures-commute [] = refl
procedures-commute (f ∷ fs) =
    ap (λ g. g ∷ map nameless_procedure (map procedure_without_lines fs)) (procedure-commutes f)
    ∙ ap (λ gs. bare (nameless_procedure f) ∷ gs) (procedures-commute fs)

pub commuting : (theory : Theory)
    → procedures_of (without_lines theory) ≡ map bare (procedures_of theory)
commuting theory = procedures-commute theory.procedures
