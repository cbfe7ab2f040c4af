use Rattle.formula_syntax.specs.FreeVariables.{occurrences}
use Rattle.formula_syntax.proofs.FreeOccurrences.{listed-free, listed-once}
use Rattle.formula_syntax.proofs.free.the_list_has_the_free_variables.Goals as goal

pub returns-clause-free : goal.returns-clause-free
returns-clause-free c = listed-free

pub returns-clause-once : goal.returns-clause-once
returns-clause-once c = λ p. listed-once (occurrences p)
