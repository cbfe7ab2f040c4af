use Rattle.std.proofs.Common.{◌≡◌, drop}
use Rattle.theory_syntax.specs.Commands.{block_of}
use Rattle.theory_syntax.specs.SameCommands.{same_block}
use Rattle.triple_rules.proofs.same.are_same_blocks.Given as goal

abbrev pub invariant-loop-command : goal.invariant-loop-command
invariant-loop-command l =
    same_block (block_of l.left) (block_of l.right)
    ≡ same_block (block_of (drop l.command-index l.command-items)) (block_of l.others)
