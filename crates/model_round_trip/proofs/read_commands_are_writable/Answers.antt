use Rattle.model_round_trip.proofs.Laws.{command_can, command_literals, command_words}
use Rattle.model_round_trip.proofs.read_commands_are_writable.Goals as goal

pub returns-clause-writable : goal.returns-clause-writable
returns-clause-writable c = command_can

pub returns-clause-literals : goal.returns-clause-literals
returns-clause-literals c = command_literals

pub returns-clause-words : goal.returns-clause-words
returns-clause-words c = command_words
