use Rattle.rule_table.specs.Table.{entailments}
use Rattle.entailment_laws.specs.Judgements.{entailments_alone}
use Rattle.entailment_laws.proofs.Instances.{named-instance}
use Rattle.entailment_laws.proofs.Sound.{entailments_sound}
use Rattle.entailment_laws.proofs.Steps.{any-fits}
use Rattle.entailment_laws.proofs.rules_of_entailment_are_sound.Goals as goal

pub returns : goal.returns
returns c name written premises cites h i =
    named-instance entailments_alone entailments (entailments_sound entailments_alone) name written
    premises (any-fits written.conclusion) cites h i
