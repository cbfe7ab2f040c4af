-- The lines of steps and the sorts of variables have nothing to do with one another.
use Rattle.std.proofs.Common.{List, [], ◌∷◌, ◌≡◌, refl, map}
use Rattle.model_terms.specs.Variables.{Var}
use Rattle.model_formulas.specs.Formulas.{Named}
use Rattle.model_commands.specs.Theories.{StepOf, ProcedureOf, Theory}
use Rattle.model_grammar.specs.Sorts.{Declared, declared_in, sorted_formula, sorted_command, sorted_step, sorted_procedure, with_sorts}
use Rattle.model_round_trip.specs.ReadBack.{step_without_line, procedure_without_lines, without_lines}

step_lines_sorts : (d : Declared) (steps : List (StepOf Named))
    → map step_without_line (map (sorted_step d) steps)
    ≡ map (sorted_step d) (map step_without_line steps)
step_lines_sorts d [] = refl
step_lines_sorts d (step ∷ steps) =
    λ j. step_without_line (sorted_step d step) ∷ step_lines_sorts d steps j

lines_sorts : (logics : List Var) (fs : List (ProcedureOf Named))
    → map procedure_without_lines (map (sorted_procedure logics) fs)
    ≡ map (sorted_procedure logics) (map procedure_without_lines fs)
lines_sorts logics [] = refl
lines_sorts logics (f ∷ fs) =
    let d : Declared = declared_in logics f in
    λ j. record {
      name = f.name;
      params = f.params;
      results = f.results;
      sort = f.sort;
      pre = sorted_formula d f.pre;
      post = sorted_formula d f.post;
      body = sorted_command d f.body;
      proof = step_lines_sorts d f.proof j;
    } ∷ lines_sorts logics fs j

pub theory_lines_sorts : (theory : Theory)
    → without_lines (with_sorts theory) ≡ with_sorts (without_lines theory)
theory_lines_sorts theory = λ j. record {
  version = theory.version;
  logic = theory.logic;
  procedures = lines_sorts theory.logic theory.procedures j;
}
