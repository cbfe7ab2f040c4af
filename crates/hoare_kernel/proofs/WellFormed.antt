-- The steps of a well-formed theory: each is numbered by its place, and well sorted.
use Rattle.std.proofs.Common.{◌≡◌, ℕ, ◌+◌, ◌==◌, ◌&&◌, List, [], ◌∷◌, ◌++◌, map, refl, true, None}
use Rattle.std.specs.List.{list_all}
use Rattle.model_shapes.proofs.Truth.{both_true, and_from}
use Rattle.model_formulas.specs.Formulas.{Named}
use Rattle.model_commands.specs.CommandParts.{arguments_of}
use Rattle.model_commands.specs.Theories as model
use Rattle.model_files.specs.FileFaults.{number_kind, sort_kind, judgement_sorted, is_argument, inside_step, proof_step, header, declarations, steps_from, procedures_from, first_fault_at, IsWellFormedTheory}
use Rattle.model_files.proofs.Places.{passes-each, first-none, both-none}
use Rattle.theory_syntax.specs.declared.steps.Step.{Step}
use Rattle.theory_syntax.specs.declared.theories.Procedure.{Procedure}
use Rattle.theory_syntax.specs.declared.theories.Theory.{Theory}
use Rattle.theory_syntax.specs.Judgements.{step_of}
use Rattle.theory_syntax.specs.Theories.{procedure_of, theory_of}
use Rattle.cited_steps.specs.Earlier.{are_numbered}
use Rattle.hoare_kernel.specs.Walks.{AllSorted, EachSorted, AreNumbered}

module _ (theory : model.Theory) where
  proof-fine : (number : ℕ) (f : model.ProcedureOf Named) (at : ℕ) (steps : List Step)
      → first_fault_at (steps_from theory number f at (map step_of steps)) ≡ None
      → (are_numbered at steps ≡ true) × AllSorted steps
  proof-fine number f at [] e = (refl, tt)
  proof-fine number f at (s ∷ steps) e =
      let h = first-none number at (proof_step theory f at (step_of s))
      (steps_from theory number f (at + 1) (map step_of steps)) e in
      let passes = passes-each (proof_step theory f at (step_of s)) h.0 in
      let more = proof-fine number f (at + 1) steps h.1 in
      let sorted = both_true (judgement_sorted (step_of s).judgement
      && list_all is_argument (arguments_of (step_of s).reason))
      (inside_step theory f (step_of s) sort_kind) (passes sort_kind) in (
        and_from (s.number == at) (are_numbered (at + 1) steps) (passes number_kind) more.0,
        (
          (both_true (judgement_sorted (step_of s).judgement)
              (list_all is_argument (arguments_of (step_of s).reason)) sorted.0).0,
          more.1,
        ),
      )

  procedures-fine : (earlier : List (model.ProcedureOf Named)) (number : ℕ) (fs : List Procedure)
      → first_fault_at (procedures_from theory earlier number (map procedure_of fs)) ≡ None
      → AreNumbered fs × EachSorted fs
  procedures-fine earlier number [] e = (tt, tt)
  procedures-fine earlier number (f ∷ fs) e =
      let p = procedure_of f in
      let own = steps_from theory number p 1 (map step_of f.proof) in
      let later = procedures_from theory (p ∷ earlier) (number + 1) (map procedure_of fs) in
      let h = first-none number 0 (header theory earlier p) (own ++ later) e in
      let both = both-none own later h.1 in
      let here = proof-fine number p 1 f.proof both.0 in
      let more = procedures-fine (p ∷ earlier) (number + 1) fs both.1 in
      ((here.0, more.0), (here.1, more.1))

pub theory-fine : (theory : Theory) → IsWellFormedTheory (theory_of theory)
    → AreNumbered theory.procedures × EachSorted theory.procedures
theory-fine theory e =
    procedures-fine (theory_of theory) [] 1 theory.procedures
    (first-none 0 0 (declarations (theory_of theory))
    (procedures_from (theory_of theory) [] 1 (map procedure_of theory.procedures)) e).1
