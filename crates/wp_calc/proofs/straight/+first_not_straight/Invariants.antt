use Rattle.std.proofs.Common.{◌≡◌, not, drop}
use Rattle.std.specs.List.{find}
use Rattle.model_commands.specs.CommandParts.{commands_of}
use Rattle.model_weakest.specs.Straight.{goes_straight}
use Rattle.theory_syntax.specs.Commands.{block_of}
use Rattle.wp_calc.proofs.straight.+first_not_straight.Given as goal

abbrev pub invariant-first_in_block-loop-command : goal.invariant-first_in_block-loop-command
invariant-first_in_block-loop-command l =
    find (λ c. not (goes_straight c)) (commands_of (block_of l.block))
    ≡ find (λ c. not (goes_straight c))
    (commands_of (block_of (drop l.command-index l.command-items)))
