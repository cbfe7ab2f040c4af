-- Needn't be believed: the program's promise doesn't speak of it. Steps that judge entailments by
-- rules of entailment, and the verdicts on them.
use Rattle.std.specs.Prelude.{◌≡◌, ◌⊎◌, List, ◌∷◌, Some, true, bytes_eq}
use Rattle.std.specs.List.{list_any}
use Rattle.model_commands.specs.Theories.{Judgement, Reason, auto, by_rule, Step}
use Rattle.model_files.specs.RuleNames.{entailment_rule_names}
use Rattle.rule_table.specs.Accepted.{cited, written_at}
use Rattle.rule_table.specs.Table.{entailments}
use Rattle.rule_table.specs.Verdicts.{Verdict, IsVerdict, readings_in}
use Rattle.theory_syntax.specs.declared.judgements.Judgement as rust_judgement
use Rattle.theory_syntax.specs.declared.judgements.Judgement.TheVariants as j
use Rattle.theory_syntax.specs.declared.steps.Reason as rust_reason
use Rattle.theory_syntax.specs.declared.steps.Reason.TheVariants as r
use Rattle.theory_syntax.specs.declared.steps.Step as rust_step
use Rattle.formula_table.specs.declared.tables.Table.{Table}
use Rattle.entail_rules.specs.Numbers.{AllHaveRows, IsFull}
use Rattle.entail_rules.specs.Premises.{IsSmallEntailment, IsWellSorted}

-- the reason names a rule of entailment
abbrev pub NamesEntailment : rust_reason.Reason → Type 0
NamesEntailment r.Auto = ⊥
NamesEntailment (r.Rule name premises arguments) =
    list_any (bytes_eq name) entailment_rule_names ≡ true

-- the judgement is an entailment, small, and its right side well sorted
abbrev pub IsEntailment : rust_judgement.Judgement → Type 0
IsEntailment (j.Entails entailment) = IsSmallEntailment entailment × IsWellSorted entailment
IsEntailment (j.Triple triple) = ⊥

-- a step that judges an entailment by a rule of entailment
abbrev pub IsEntailmentStep : rust_step.Step → Type 0
IsEntailmentStep step = NamesEntailment step.reason × IsEntailment step.judgement

-- the verdict on a judgement with this reason behind these earlier steps
abbrev pub EntailmentVerdict : List Step → Reason → Judgement → Verdict → Type 0
EntailmentVerdict earlier auto judgement verdict = ⊥
EntailmentVerdict earlier (by_rule name citations arguments) judgement verdict =
    IsVerdict (readings_in entailments name) (written_at earlier citations arguments judgement)
    verdict

-- each formula of the judgement and of what is cited has a row, or the table is full
abbrev pub StepHasRows : Table → List Step → Reason → Judgement → Type 0
StepHasRows t earlier auto judgement = ⊥
StepHasRows t earlier (by_rule name citations arguments) judgement = (js : List Judgement)
    → cited earlier citations ≡ Some js → AllHaveRows t (judgement ∷ js) ⊎ IsFull t
