use Rattle.model_grammar.proofs.Spelled.{command_spelled}
use Rattle.model_grammar.proofs.written_commands_are_spelled.Goals as goal

pub returns : goal.returns
returns c = command_spelled
