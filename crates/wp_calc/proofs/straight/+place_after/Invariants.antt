use Rattle.std.proofs.Common.{◌≡◌, ◌+◌, length, map, not, drop}
use Rattle.std.specs.List.{position_from}
use Rattle.model_commands.specs.CommandParts.{commands_of}
use Rattle.model_weakest.specs.Straight.{goes_straight}
use Rattle.theory_syntax.specs.Commands.{block_of}
use Rattle.wp_calc.proofs.straight.+place_after.Given as goal

abbrev pub invariant-place_after_block-loop-command :
    goal.invariant-place_after_block-loop-command
invariant-place_after_block-loop-command l = record {
  all : l.place + length (commands_of (block_of l.block))
      ≡ l.next + length (commands_of (block_of (drop l.command-index l.command-items)));
  same : position_from not l.place (map goes_straight (commands_of (block_of l.block)))
      ≡ position_from not l.next (map goes_straight
      (commands_of (block_of (drop l.command-index l.command-items))));
}
