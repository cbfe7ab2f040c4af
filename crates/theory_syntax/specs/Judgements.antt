-- Needn't be believed: the program's promise doesn't speak of it. The triples, judgements and steps
-- of the definitions, those of PODS 2008, that those of the program stand for.
use Rattle.std.specs.Prelude.{map}
use Rattle.model_formulas.specs.Formulas.{Named}
use Rattle.model_formulas.specs.Entailments.{EntailmentOf}
use Rattle.model_commands.specs.Theories as model
use Rattle.dom_terms.specs.Sorts.{data_sort_of}
use Rattle.dom_terms.specs.Terms.{term_of}
use Rattle.formula_syntax.specs.Formulas.{formula_of}
use Rattle.formula_syntax.specs.Entailments.{entailment_of}
use Rattle.theory_syntax.specs.Commands.{command_of}
use Rattle.theory_syntax.specs.declared.judgements.Triple.{Triple}
use Rattle.theory_syntax.specs.declared.judgements.Judgement.{Judgement}
use Rattle.theory_syntax.specs.declared.judgements.Judgement.TheVariants as j
use Rattle.theory_syntax.specs.declared.steps.Reason.{Reason}
use Rattle.theory_syntax.specs.declared.steps.Reason.TheVariants as r
use Rattle.theory_syntax.specs.declared.steps.Step.{Step}

-- the judgement that the triple holds
abbrev pub triple_of : Triple → model.JudgementOf Named
triple_of triple =
    model.triple (formula_of triple.pre) (command_of triple.command) (formula_of triple.post)
    (data_sort_of triple.sort)

-- the judgement that the entailment holds
abbrev pub entails_of : EntailmentOf Named → model.JudgementOf Named
entails_of entailment = model.entails entailment.left entailment.right entailment.sort

-- the judgement
abbrev pub judgement_of : Judgement → model.JudgementOf Named
judgement_of (j.Entails entailment) = entails_of (entailment_of entailment)
judgement_of (j.Triple triple) = triple_of triple

-- the reason
abbrev pub reason_of : Reason → model.Reason
reason_of r.Auto = model.auto
reason_of (r.Rule name premises arguments) =
    model.by_rule name premises (map term_of arguments)

-- the step
abbrev pub step_of : Step → model.StepOf Named
step_of step = record {
  number = step.number;
  line = step.line;
  reason = reason_of step.reason;
  judgement = judgement_of step.judgement;
}
