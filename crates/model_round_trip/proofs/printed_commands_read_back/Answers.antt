use Rattle.model_text.specs.Versions.{seen_in}
use Rattle.model_text.specs.Nesting.{lexemes_of}
use Rattle.model_grammar.specs.Writing.{command_lexemes, text_of}
use Rattle.model_round_trip.proofs.Laws.{command_at, command_reads, command_reads_again}
use Rattle.model_round_trip.proofs.printed_commands_read_back.Goals as goal

pub returns-clause-raw : goal.returns-clause-raw
returns-clause-raw c = command_reads

pub returns-clause-declared : goal.returns-clause-declared
returns-clause-declared c =
    λ v d c h words utf8 e.
    command_at d c (seen_in v (lexemes_of (text_of (command_lexemes c)))) e
    (command_reads v c h words utf8)

pub returns-clause-again : goal.returns-clause-again
returns-clause-again c = command_reads_again
