use Rattle.letter_bindings.proofs.KeptBodies.{nameless-sorted, nameless_judgement-sorted}
use Rattle.letter_bindings.proofs.what_is_written_binds_its_sorts.Goals as goal

pub returns-clause-formulas : goal.returns-clause-formulas
returns-clause-formulas c = nameless-sorted

pub returns-clause-judgements : goal.returns-clause-judgements
returns-clause-judgements c = nameless_judgement-sorted
