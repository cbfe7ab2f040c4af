use Rattle.model_machine.proofs.Plain.{classical-plain, plain-classical}
use Rattle.model_machine.proofs.classical_triples_end_plainly.Goals as goal

pub returns-clause-plain : goal.returns-clause-plain
returns-clause-plain c = classical-plain

pub returns-clause-classical : goal.returns-clause-classical
returns-clause-classical c = plain-classical
