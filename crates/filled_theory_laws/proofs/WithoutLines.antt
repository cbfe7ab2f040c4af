-- The lines of steps don't count: a theory that is the same but for them is well formed where the
-- theory is, and passes the limits that it passes.
use Rattle.std.proofs.Common.{◌≡◌, ◌∙◌, ℕ, ◌+◌, ◌&&◌, ◌||◌, List, [], ◌∷◌, ◌++◌, length, map, nat_le, None, refl, sym, ap, subst, bytes_eq}
use Rattle.std.specs.List.{list_any}
use Rattle.std.proofs.lemmas.List.{length-map}
use Rattle.model_limits.specs.Limits.{standard_limits}
use Rattle.model_formulas.specs.Formulas.{Named}
use Rattle.model_commands.specs.Theories.{StepOf, ProcedureOf, Theory, procedures_of, nameless_procedure}
use Rattle.model_files.specs.FileFaults.{header, proof_step, step_kind, declared_by, declarations, steps_from, procedures_from, first_fault_at, IsWellFormedTheory}
use Rattle.model_files.specs.FileLimits.{variables_within, step_count}
use Rattle.model_files.proofs.Places.{first-none, both-none, none-first, none-both}
use Rattle.model_round_trip.specs.ReadBack.{step_without_line, procedure_without_lines, without_lines}
use Rattle.model_filling.proofs.Bare.{bare}
use Rattle.model_filling.proofs.FileTests.{step_kind-alike, head_kind-alike}

bare-lines : (fs : List (ProcedureOf Named))
    → map bare (map nameless_procedure fs)
    ≡ map bare (map nameless_procedure (map procedure_without_lines fs))
bare-lines [] = refl
bare-lines (f ∷ fs) = ap (λ gs. bare (nameless_procedure f) ∷ gs) (bare-lines fs)

module _ (theory : Theory) where
  abbrev plain : Theory
  plain = without_lines theory

  alike : map bare (procedures_of theory) ≡ map bare (procedures_of plain)
  alike = bare-lines theory.procedures

  -- steps
  step-same : (f : ProcedureOf Named) (at : ℕ) (step : StepOf Named)
      → step_kind theory f at step
      ≡ step_kind plain (procedure_without_lines f) at (step_without_line step)
  step-same f at step =
      step_kind-alike theory plain.procedures alike f (map step_without_line f.proof) at step

  steps-plain : (number : ℕ) (f : ProcedureOf Named) (at : ℕ) (steps : List (StepOf Named))
      → first_fault_at (steps_from plain number (procedure_without_lines f) at
      (map step_without_line steps)) ≡ None
      → first_fault_at (steps_from theory number f at steps) ≡ None
  steps-plain number f at [] e = refl
  steps-plain number f at (step ∷ steps) e =
      let a = first-none number at
      (proof_step plain (procedure_without_lines f) at (step_without_line step))
      (steps_from plain number (procedure_without_lines f) (at + 1) (map step_without_line steps))
      e in
      none-first number at (proof_step theory f at step) (steps_from theory number f (at + 1) steps)
      (step-same f at step ∙ a.0) (steps-plain number f (at + 1) steps a.1)

  plain-steps : (number : ℕ) (f : ProcedureOf Named) (at : ℕ) (steps : List (StepOf Named))
      → first_fault_at (steps_from theory number f at steps) ≡ None
      → first_fault_at (steps_from plain number (procedure_without_lines f) at
      (map step_without_line steps)) ≡ None
  plain-steps number f at [] e = refl
  plain-steps number f at (step ∷ steps) e =
      let a = first-none number at (proof_step theory f at step)
      (steps_from theory number f (at + 1) steps) e in
      none-first number at
      (proof_step plain (procedure_without_lines f) at (step_without_line step))
      (steps_from plain number (procedure_without_lines f) (at + 1) (map step_without_line steps))
      (sym (step-same f at step) ∙ a.0) (plain-steps number f (at + 1) steps a.1)

  -- procedures
  names-same : (name : List ℕ) (earlier : List (ProcedureOf Named))
      → list_any (λ (g : ProcedureOf Named). bytes_eq name g.name) earlier
      ≡ list_any (λ (g : ProcedureOf Named). bytes_eq name g.name)
      (map procedure_without_lines earlier)
  names-same name [] = refl
  names-same name (g ∷ earlier) = ap (λ b. bytes_eq name g.name || b) (names-same name earlier)

  procedures-plain : (earlier : List (ProcedureOf Named)) (number : ℕ)
      (fs : List (ProcedureOf Named))
      → first_fault_at (procedures_from plain (map procedure_without_lines earlier) number
      (map procedure_without_lines fs)) ≡ None
      → first_fault_at (procedures_from theory earlier number fs) ≡ None
  procedures-plain earlier number [] e = refl
  procedures-plain earlier number (f ∷ fs) e =
      let those = map procedure_without_lines earlier in
      let g = procedure_without_lines f in
      let a = first-none number 0 (header plain those g) (steps_from plain number g 1 g.proof
      ++ procedures_from plain (g ∷ those) (number + 1) (map procedure_without_lines fs)) e in
      let b = both-none (steps_from plain number g 1 g.proof) _ a.1 in
      none-first number 0 (header theory earlier f) (steps_from theory number f 1 f.proof
      ++ procedures_from theory (f ∷ earlier) (number + 1) fs)
      (head_kind-alike theory plain.procedures alike f g.proof earlier those
      (names-same f.name earlier) ∙ a.0)
      (none-both (steps_from theory number f 1 f.proof)
      (procedures_from theory (f ∷ earlier) (number + 1) fs)
      (steps-plain number f 1 f.proof b.0) (procedures-plain (f ∷ earlier) (number + 1) fs b.1))

  plain-procedures : (earlier : List (ProcedureOf Named)) (number : ℕ)
      (fs : List (ProcedureOf Named))
      → first_fault_at (procedures_from theory earlier number fs) ≡ None
      → first_fault_at (procedures_from plain (map procedure_without_lines earlier) number
      (map procedure_without_lines fs)) ≡ None
  plain-procedures earlier number [] e = refl
  plain-procedures earlier number (f ∷ fs) e =
      let those = map procedure_without_lines earlier in
      let g = procedure_without_lines f in
      let a = first-none number 0 (header theory earlier f) (steps_from theory number f 1 f.proof
      ++ procedures_from theory (f ∷ earlier) (number + 1) fs) e in
      let b = both-none (steps_from theory number f 1 f.proof) _ a.1 in
      none-first number 0 (header plain those g) (steps_from plain number g 1 g.proof
      ++ procedures_from plain (g ∷ those) (number + 1) (map procedure_without_lines fs))
      (sym (head_kind-alike theory plain.procedures alike f g.proof earlier those
      (names-same f.name earlier)) ∙ a.0)
      (none-both (steps_from plain number g 1 g.proof)
      (procedures_from plain (g ∷ those) (number + 1) (map procedure_without_lines fs))
      (plain-steps number f 1 f.proof b.0) (plain-procedures (f ∷ earlier) (number + 1) fs b.1))

  plain-formed : IsWellFormedTheory theory → IsWellFormedTheory plain
  plain-formed e =
      let a = first-none 0 0 (declarations theory) (procedures_from theory [] 1 theory.procedures) e
      in
      none-first 0 0 (declarations plain) (procedures_from plain [] 1 plain.procedures) a.0
      (plain-procedures [] 1 theory.procedures a.1)

  formed-plain : IsWellFormedTheory plain → IsWellFormedTheory theory
  formed-plain e =
      let a = first-none 0 0 (declarations plain) (procedures_from plain [] 1 plain.procedures) e in
      none-first 0 0 (declarations theory) (procedures_from theory [] 1 theory.procedures) a.0
      (procedures-plain [] 1 theory.procedures a.1)

pub formed-apart : (t u : Theory) → without_lines t ≡ without_lines u → IsWellFormedTheory t
    → IsWellFormedTheory u
formed-apart t u same e = formed-plain u (subst IsWellFormedTheory same (plain-formed t e))

-- LIMITS
variables-same : (fs : List (ProcedureOf Named))
    → variables_within (map procedure_without_lines fs) ≡ variables_within fs
variables-same [] = refl
variables-same (f ∷ fs) =
    ap (λ b. nat_le (length (declared_by f)) standard_limits.variables && b) (variables-same fs)

steps-counted : (fs : List (ProcedureOf Named))
    → step_count (map procedure_without_lines fs) ≡ step_count fs
steps-counted [] = refl
steps-counted (f ∷ fs) = λ i. length-map f.proof step_without_line i + steps-counted fs i

pub variables-apart : (t u : Theory) → without_lines t ≡ without_lines u
    → variables_within t.procedures ≡ variables_within u.procedures
variables-apart t u same =
    sym (variables-same t.procedures)
    ∙ ap (λ (theory : Theory). variables_within theory.procedures) same
    ∙ variables-same u.procedures

pub count-apart : (t u : Theory) → without_lines t ≡ without_lines u
    → step_count t.procedures ≡ step_count u.procedures
count-apart t u same =
    sym (steps-counted t.procedures)
    ∙ ap (λ (theory : Theory). step_count theory.procedures) same
    ∙ steps-counted u.procedures
