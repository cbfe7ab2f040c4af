use Rattle.std.proofs.Common.{◌≡◌, drop}
use Rattle.theory_syntax.specs.Commands.{block_of}
use Rattle.theory_syntax.specs.SameCommands.{same_block}
use Rattle.theory_syntax.proofs.same.+same_command.Given as goal

abbrev pub invariant-do_blocks_agree-loop-command : goal.invariant-do_blocks_agree-loop-command
invariant-do_blocks_agree-loop-command l =
    same_block (block_of l.left) (block_of l.right)
    ≡ same_block (block_of (drop l.command-index l.command-items)) (block_of l.others)
