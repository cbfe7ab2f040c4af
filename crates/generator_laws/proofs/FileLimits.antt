-- What reads back as the generated theory passes no limit of theories.
use Rattle.std.proofs.Common.{◌≡◌, ◌∙◌, ℕ, zero, suc, ◌+◌, ◌*◌, ◌≤◌, true, ◌&&◌, List, [], ◌∷◌, length, map, nat_le, None, refl, sym, ap, arith}
use Rattle.std.proofs.lemmas.Bool.Decides.{nat_tests}
use Rattle.std.proofs.lemmas.List.{length-map}
use Rattle.model_limits.specs.Limits.{standard_limits, variables_limit, steps_limit}
use Rattle.model_limits.specs.FirstOf.{or_else, unless}
use Rattle.model_formulas.specs.Formulas.{Named}
use Rattle.model_commands.specs.Theories.{ProcedureOf, Theory}
use Rattle.model_files.specs.FileFaults.{declared_by}
use Rattle.model_files.specs.FileLimits.{variables_within, step_count}
use Rattle.model_answers.specs.Texts.{theory_limit}
use Rattle.model_round_trip.specs.ReadBack.{step_without_line, procedure_without_lines, without_lines}
use Rattle.model_generator.specs.Made.{most_makers}
use Rattle.model_generator.specs.Generated.{makers, generated_theory}
use Rattle.model_generator.proofs.Counts.{so_many_makers, so_many_steps}
use Rattle.generator_laws.proofs.FileFormed.{read_procedures}

-- WITHOUT LINES the variables and the steps are the same
variables_same : (fs : List (ProcedureOf Named))
    → variables_within (map procedure_without_lines fs) ≡ variables_within fs
variables_same [] = refl
variables_same (f ∷ fs) =
    ap (λ b. nat_le (length (declared_by f)) standard_limits.variables && b) (variables_same fs)

steps_counted : (fs : List (ProcedureOf Named))
    → step_count (map procedure_without_lines fs) ≡ step_count fs
steps_counted [] = refl
steps_counted (f ∷ fs) = λ i. length-map f.proof step_without_line i + steps_counted fs i

-- A procedure of the generated theory has one variable.
makers_within : (first n : ℕ) → variables_within (makers first n) ≡ true
makers_within first zero = refl
makers_within first (suc n) = makers_within (first + 1) n

-- WHAT IS READ has as many procedures and steps, and passes no limit
module _ (read : Theory) (n : ℕ) (e : without_lines read ≡ without_lines (generated_theory n)) where
  pub read_length : length read.procedures ≡ n
  read_length =
      sym (length-map read.procedures procedure_without_lines)
      ∙ ap length (read_procedures read n e) ∙ so_many_makers 1 n

  pub read_steps : step_count read.procedures ≡ 8 * n
  read_steps =
      sym (steps_counted read.procedures) ∙ ap step_count (read_procedures read n e)
      ∙ so_many_steps 1 n

  pub read_within : n ≤ most_makers → theory_limit read ≡ None
  read_within small =
      let variables : variables_within read.procedures ≡ true =
      sym (variables_same read.procedures) ∙ ap variables_within (read_procedures read n e)
      ∙ makers_within 1 n in
      let count = read_steps in
      let few : step_count read.procedures ≤ standard_limits.proof_steps = omega arith in
      let steps : nat_le (step_count read.procedures) standard_limits.proof_steps ≡ true =
      grind (arith, nat_tests) in
      λ i. or_else (unless (variables i) variables_limit) (unless (steps i) steps_limit)
