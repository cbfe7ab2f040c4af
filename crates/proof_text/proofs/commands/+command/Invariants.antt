use Rattle.std.proofs.Common.{◌≡◌, ◌+◌, ◌-◌, ◌*◌, map}
use Rattle.theory_syntax.specs.Commands.{command_of}
use Rattle.token_readers.specs.Reading.{sep_list}
use Rattle.token_readers.specs.Leaves.{lexemes_in}
use Rattle.proof_text.specs.Commands.{semicolon, command_at}
use Rattle.token_readers.specs.Reading.{with_front}
use Rattle.proof_text.proofs.commands.+command.Given as goal

-- the nesting that is left, and at one depth the order of the calls
abbrev pub decreases-command : goal.decreases-command
decreases-command l = 6 * l.depth

abbrev pub decreases-commands : goal.decreases-commands
decreases-commands l = 6 * l.depth + 1

abbrev pub decreases-rest_of_block : goal.decreases-rest_of_block
decreases-rest_of_block l = 6 * l.depth + 2

abbrev pub decreases-block : goal.decreases-block
decreases-block l = 6 * l.depth + 3

abbrev pub decreases-choice : goal.decreases-choice
decreases-choice l = 6 * l.depth + 4

abbrev pub decreases-repeated : goal.decreases-repeated
decreases-repeated l = 6 * l.depth + 4

abbrev pub decreases-with_local : goal.decreases-with_local
decreases-with_local l = 6 * l.depth + 4

abbrev pub invariant-commands-loop : goal.invariant-commands-loop
invariant-commands-loop l =
    with_front (map command_of l.found) (sep_list semicolon (command_at 4294967295 l.depth)
    (4294967295 - l.counter) (lexemes_in l.tokens))
    ≡ sep_list semicolon (command_at 4294967295 l.depth) 4294967295 (lexemes_in l.fn.tokens)
