-- The steps of a well-formed theory have commands that fit.
use Rattle.std.proofs.Common.{◌≡◌, ℕ, ◌+◌, List, [], ◌∷◌, ◌++◌, map, true, subst, refl, None}
use Rattle.std.specs.List.{list_all}
use Rattle.model_shapes.specs.Sorts.{DataSort}
use Rattle.model_shapes.proofs.Truth.{and_from}
use Rattle.model_formulas.specs.Formulas.{Named}
use Rattle.model_commands.specs.Commands.{Command}
use Rattle.model_commands.specs.CommandParts.{commands_in, commands_of_judgement}
use Rattle.model_commands.specs.SortTests.{is_sorted, results_apart}
use Rattle.model_commands.specs.Theories.{Theory, ProcedureOf, StepOf, JudgementOf, entails, triple, Procedures, procedures_of, nameless_judgement, nameless_step, nameless_procedure}
use Rattle.model_files.specs.FileFaults.{results_kind, declarations, header, proof_step, step_kind, steps_from, procedures_from, first_fault_at, IsWellFormedTheory}
use Rattle.model_files.proofs.Places.{passes-each, first-none, both-none}
use Rattle.model_files.proofs.WellFormedTheories.{step-sorted}
use Rattle.rule_table.specs.Accepted.{Each}
use Rattle.entailment_laws.specs.Judgements.{Fitting}
use Rattle.triple_laws.specs.BySteps.{step_fits, locally}
use Rattle.triple_laws.proofs.Proofs.{StepsFitting}

module _ (theory : Theory) where
  abbrev ps : Procedures
  ps = procedures_of theory

  -- the command of a step
  command-fits : (procedure : ProcedureOf Named) (place : ℕ) (step : StepOf Named)
      (p : Named) (c : Command) (q : Named) (d : DataSort)
      → step_kind theory procedure place step ≡ None → step.judgement ≡ triple p c q d
      → step_fits ps c ≡ true
  command-fits procedure place step p c q d e is =
      and_from (is_sorted ps c) (list_all results_apart (commands_in c))
      (step-sorted theory procedure place step p c q d e is)
      (subst (λ z. list_all results_apart (commands_of_judgement z) ≡ true) is
      (passes-each (proof_step theory procedure place step) e results_kind))

  judged : (procedure : ProcedureOf Named) (place : ℕ) (step : StepOf Named)
      → step_kind theory procedure place step ≡ None
      → (j : JudgementOf Named) → step.judgement ≡ j
      → Fitting (locally ps) (nameless_judgement j)
  judged procedure place step e (entails p q s) is = tt
  judged procedure place step e (triple p c q d) is =
      command-fits procedure place step p c q d e is

  steps-fit : (procedure : ProcedureOf Named) (number place : ℕ) (steps : List (StepOf Named))
      → first_fault_at (steps_from theory number procedure place steps) ≡ None
      → StepsFitting (locally ps) (map nameless_step steps)
  steps-fit procedure number place [] e = tt
  steps-fit procedure number place (step ∷ steps) e =
      let a = first-none number place (proof_step theory procedure place step)
      (steps_from theory number procedure (place + 1) steps) e in (
        judged procedure place step a.0 step.judgement refl,
        steps-fit procedure number (place + 1) steps a.1,
      )

  each-fits : (earlier : List (ProcedureOf Named)) (number : ℕ)
      (procedures : List (ProcedureOf Named))
      → first_fault_at (procedures_from theory earlier number procedures) ≡ None
      → Each (λ f. StepsFitting (locally ps) f.proof) (map nameless_procedure procedures)
  each-fits earlier number [] e = tt
  each-fits earlier number (procedure ∷ procedures) e =
      let a = first-none number 0 (header theory earlier procedure)
      (steps_from theory number procedure 1 procedure.proof
      ++ procedures_from theory (procedure ∷ earlier) (number + 1) procedures) e in
      let b = both-none (steps_from theory number procedure 1 procedure.proof) _ a.1 in (
        steps-fit procedure number 1 procedure.proof b.0,
        each-fits (procedure ∷ earlier) (number + 1) procedures b.1,
      )

  pub well-formed-steps : IsWellFormedTheory theory
      → Each (λ f. StepsFitting (locally (procedures_of theory)) f.proof) (procedures_of theory)
  well-formed-steps w =
      each-fits [] 1 theory.procedures
      (first-none 0 0 (declarations theory) (procedures_from theory [] 1 theory.procedures) w).1
