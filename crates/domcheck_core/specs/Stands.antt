-- Needn't be believed: a theory has the procedure of a number, a procedure the step of one, and a
-- step the name of a rule; so a theory has its bad places.
use Rattle.std.specs.Prelude.{◌≡◌, ℕ, List, Some}
use Rattle.model_terms.specs.Terms.{Term}
use Rattle.model_commands.specs.Theories.{Reason, auto, by_rule}
use Rattle.rule_table.specs.Accepted.{Fault, gap, fails, no_proof}
use Rattle.theory_syntax.specs.declared.steps.Step.{Step}
use Rattle.theory_syntax.specs.declared.theories.Procedure.{Procedure}
use Rattle.theory_syntax.specs.declared.theories.Theory.{Theory}
use Rattle.theory_syntax.specs.Judgements.{reason_of}
use Rattle.domcheck_core.specs.Answers.{item_numbered}

-- counted from 1
pub record HasProcedure (theory : Theory) (number : ℕ) : Type 0 where
  pub procedure : Procedure
  pub there : item_numbered number theory.procedures ≡ Some procedure

pub record HasStep (f : Procedure) (number : ℕ) : Type 0 where
  pub step : Step
  pub there : item_numbered number f.proof ≡ Some step

-- the reason names this rule
pub record NamesRule (reason : Reason) (name : List ℕ) : Type 0 where
  pub citations : List ℕ
  pub arguments : List Term
  pub is : reason ≡ by_rule name citations arguments

-- the theory has the bad place, with this fault: the procedure, its step where it isn't the end of
-- the proof, and the rule of a step that fails
abbrev pub HasPlace : Theory → ℕ → ℕ → Fault → Type 0
HasPlace theory procedure place gap =
    (f : HasProcedure theory procedure) × HasStep f.procedure place
HasPlace theory procedure place (fails verdict) =
    (f : HasProcedure theory procedure) × (x : HasStep f.procedure place)
    × (reason_of x.step.reason ≡ auto → ⊥)
HasPlace theory procedure place no_proof = HasProcedure theory procedure
