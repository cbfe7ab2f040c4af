use Rattle.std.proofs.Common.{◌≡◌, ◌+◌, length, drop}
use Rattle.std.specs.List.{filter}
use Rattle.model_commands.specs.CommandParts.{commands_of}
use Rattle.model_weakest.specs.Straight.{acts}
use Rattle.theory_syntax.specs.Commands.{block_of}
use Rattle.wp_calc.proofs.straight.+room_left.Given as goal

abbrev pub invariant-room_left_by_block-loop-command :
    goal.invariant-room_left_by_block-loop-command
invariant-room_left_by_block-loop-command l =
    l.left + length (filter acts (commands_of (block_of l.block)))
    ≡ l.room + length (filter acts
    (commands_of (block_of (drop l.command-index l.command-items))))
