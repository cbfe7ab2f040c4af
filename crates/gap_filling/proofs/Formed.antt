-- Steps that are well formed in a file, and their verdicts.
use Rattle.std.proofs.Common.{◌≡◌, refl, subst, ℕ, suc, zero, ◌<◌, ◌&&◌, List, [], ◌∷◌, length, true, Option, Some, None, slice_get, arith}
use Rattle.std.specs.List.{list_all}
use Rattle.std.proofs.lemmas.Bool.{and_parts}
use Rattle.model_formulas.specs.Formulas.{Named}
use Rattle.model_commands.specs.CommandParts.{arguments_of}
use Rattle.model_commands.specs.Theories.{Judgement, Reason, auto, by_rule, Step, StepOf, ProcedureOf, Procedures, Theory}
use Rattle.model_files.specs.FileFaults.{FileFault, sort_kind, judgement_sorted, is_argument, inside_step, proof_step, step_kind}
use Rattle.model_files.proofs.Places.{passes-each}
use Rattle.rule_table.specs.Table.{table}
use Rattle.rule_table.specs.Verdicts as verdicts
use Rattle.rule_table.specs.Verdicts.{readings_in}
use Rattle.rule_table.specs.Accepted.{InstanceBy, VerdictBy, written_at}
use Rattle.rule_table.proofs.VerdictLaws.{instance-alone}
use Rattle.row_patterns.specs.Verdicts.{verdict_in}
use Rattle.dom_terms.specs.declared.verdicts.Verdict.{Verdict}
use Rattle.dom_terms.specs.declared.verdicts.Verdict.TheVariants as v
use Rattle.model_files.specs.FileFaults as files
use Rattle.dom_syntax.specs.declared.kinds.FileKind.{FileKind}
use Rattle.dom_syntax.specs.declared.programs.ProgramFault.{ProgramFault}
use Rattle.dom_syntax.specs.declared.programs.ProgramFault.TheVariants as faults
use Rattle.dom_syntax.specs.Faults.{step_fault, fault_at, FaultReports}
use Rattle.gap_filling.specs.Good.{IsFormed}

no-fault : (p s : ℕ) (kind : Option files.FileKind) → step_fault p s kind ≡ None → kind ≡ None
no-fault p s None e = refl
no-fault p s (Some kind) e = cc

some-fault : (p s : ℕ) (kind : Option files.FileKind) (fault : FileFault)
    → step_fault p s kind ≡ Some fault → kind ≡ None → ⊥
some-fault p s None fault e n = cc
some-fault p s (Some kind) fault e n = cc

module _ (theory : Theory) (f : ProcedureOf Named) (step : StepOf Named) where
  pub formed : (p s : ℕ) → step_fault p s (step_kind theory f step.number step) ≡ None
      → IsFormed theory f step
  unfolding IsFormed
  formed p s e = no-fault p s (step_kind theory f step.number step) e

  pub not-formed : (p s : ℕ) (fault : ProgramFault) (procedure place : ℕ) (kind : FileKind)
      → fault ≡ faults.BadProgram procedure place kind
      → FaultReports fault (step_fault p s (step_kind theory f step.number step))
      → IsFormed theory f step → ⊥
  unfolding IsFormed
  not-formed p s fault procedure place kind is e n =
      some-fault p s (step_kind theory f step.number step) (fault_at procedure place kind)
      (subst (λ (z : ProgramFault). FaultReports z
      (step_fault p s (step_kind theory f step.number step))) is e) n

  -- the judgement of a step that is well formed is well sorted
  pub formed-sorted : IsFormed theory f step → judgement_sorted step.judgement ≡ true
  unfolding IsFormed
  formed-sorted e =
      let sorted = passes-each (proof_step theory f step.number step) e sort_kind in
      let both = and_parts (judgement_sorted step.judgement
      && list_all is_argument (arguments_of step.reason)) (inside_step theory f step sort_kind)
      sorted in
      (and_parts (judgement_sorted step.judgement) (list_all is_argument (arguments_of step.reason))
      both.0).0

-- an item at a place
pub some-at : {A : Type 0} (xs : List A) (i : ℕ) → i < length xs
    → (x : A) × (slice_get xs i ≡ Some x)
some-at [] i lt = absurd (omega arith)
some-at (x ∷ xs) zero lt = (x, refl)
some-at (x ∷ xs) (suc i) lt = some-at xs i (omega arith)

-- an instance has no other verdict
pub instance-verdict : (ps : Procedures) (reason : Reason) (earlier : List Step)
    (judgement : Judgement) (verdict : verdicts.Verdict) → InstanceBy ps reason earlier judgement
    → VerdictBy ps reason earlier judgement verdict → verdict ≡ verdicts.instance_verdict
instance-verdict ps auto earlier judgement verdict i h = absurd i
instance-verdict ps (by_rule name ns arguments) earlier judgement verdict i h =
    instance-alone (readings_in (table ps) name) (written_at earlier ns arguments judgement) verdict
    i h

pub verdict-is : (verdict : Verdict) → verdict_in verdict ≡ verdicts.instance_verdict
    → verdict ≡ v.Instance
verdict-is v.Instance e = refl
verdict-is v.Premises e = cc
verdict-is v.Shape e = cc
verdict-is (v.Side name) e = cc
