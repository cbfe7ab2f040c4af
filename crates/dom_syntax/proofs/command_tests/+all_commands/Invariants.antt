use Rattle.std.proofs.Common.{◌≡◌, drop}
use Rattle.std.specs.List.{list_all}
use Rattle.model_commands.specs.CommandParts.{commands_of}
use Rattle.theory_syntax.specs.Commands.{block_of}
use Rattle.dom_syntax.proofs.command_tests.+all_commands.Given as goal

abbrev pub invariant-all_in_block-loop-command : goal.invariant-all_in_block-loop-command
invariant-all_in_block-loop-command g l =
    list_all (g.T.CommandTest.test l.test) (commands_of (block_of l.block))
    ≡ list_all (g.T.CommandTest.test l.test)
    (commands_of (block_of (drop l.command-index l.command-items)))
