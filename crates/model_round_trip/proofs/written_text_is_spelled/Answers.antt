use Rattle.model_grammar.specs.Writing.{command_lexemes}
use Rattle.model_grammar.specs.TheoryWriting.{formula_lexemes}
use Rattle.model_grammar.proofs.Spelled.{formula_spelled, command_spelled}
use Rattle.model_round_trip.proofs.Laws.{formula_at, command_at}
use Rattle.model_round_trip.proofs.Written.{theory_spelled}
use Rattle.model_round_trip.proofs.written_text_is_spelled.Goals as goal

pub returns-clause-formulas : goal.returns-clause-formulas
returns-clause-formulas c = λ d p h e. formula_at d p (formula_lexemes p) e (formula_spelled p h)

pub returns-clause-commands : goal.returns-clause-commands
returns-clause-commands c = λ d c h e. command_at d c (command_lexemes c) e (command_spelled c h)

pub returns-clause-theories : goal.returns-clause-theories
returns-clause-theories c = theory_spelled
