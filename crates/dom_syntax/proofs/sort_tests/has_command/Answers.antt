use Rattle.std.proofs.Common.{◌≡◌, ◌≤◌, ◌∙◌, ap, true, refl, List, [], ◌∷◌, length, arith}
use Rattle.model_commands.specs.SortTests.{has_command}
use Rattle.theory_syntax.specs.Commands.{block_of}
use Rattle.theory_syntax.specs.declared.commands.Command.{Command}
use Rattle.dom_syntax.proofs.sort_tests.has_command.Goals as goal

-- a list that isn't empty
some : (xs : List Command) → 1 ≤ length xs → true ≡ has_command (block_of xs)
some [] n = absurd (omega arith)
some (x ∷ xs) n = refl

pub returns-in-len1-up : goal.returns-in-len1-up
returns-in-len1-up c =
    some c.as_slice.result.now c.in-len1-up.len_at_least
    ∙ ap (λ z. has_command (block_of z)) c.as_slice.ensures
