use Rattle.std.proofs.Common.{sym}
use Rattle.model_round_trip.proofs.OneSpelling.{formula_written, command_written}
use Rattle.model_round_trip.proofs.spellings_are_unique.Goals as goal

pub returns-clause-formulas : goal.returns-clause-formulas
returns-clause-formulas c = λ p lexemes l. sym (formula_written l)

pub returns-clause-commands : goal.returns-clause-commands
returns-clause-commands c = λ d lexemes l. sym (command_written l)
