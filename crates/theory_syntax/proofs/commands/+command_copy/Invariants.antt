use Rattle.std.proofs.Common.{◌≡◌, map, take}
use Rattle.theory_syntax.specs.Commands.{command_of}
use Rattle.theory_syntax.proofs.commands.+command_copy.Given as goal

abbrev pub invariant-copied_block-loop-command : goal.invariant-copied_block-loop-command
invariant-copied_block-loop-command l =
    map command_of l.copied ≡ map command_of (take l.command-index l.command-items)
