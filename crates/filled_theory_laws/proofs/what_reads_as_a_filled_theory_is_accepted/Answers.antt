use Rattle.filled_theory_laws.proofs.FilledFiles.{read-formed, read-accepted, read-within}
use Rattle.filled_theory_laws.proofs.what_reads_as_a_filled_theory_is_accepted.Goals as goal

pub returns-clause-formed : goal.returns-clause-formed
returns-clause-formed c = read-formed

pub returns-clause-accepted : goal.returns-clause-accepted
returns-clause-accepted c = read-accepted

pub returns-clause-within : goal.returns-clause-within
returns-clause-within c = read-within
