use Rattle.std.proofs.Common.{◌≡◌, ◌+◌, length, drop}
use Rattle.theory_syntax.specs.Commands.{block_of}
use Rattle.dom_syntax.specs.Scopes.{block_locals}
use Rattle.dom_syntax.proofs.limits.+room_left.Given as goal

abbrev pub invariant-block_room_left-loop-command : goal.invariant-block_room_left-loop-command
invariant-block_room_left-loop-command l =
    l.left + length (block_locals (block_of l.block))
    ≡ l.room + length (block_locals (block_of (drop l.command-index l.command-items)))
