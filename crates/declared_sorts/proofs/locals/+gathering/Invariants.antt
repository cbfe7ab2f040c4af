use Rattle.std.proofs.Common.{◌≡◌, ◌++◌, map, take}
use Rattle.std.specs.List.{flat_map}
use Rattle.model_commands.specs.CommandParts.{locals, commands_of}
use Rattle.dom_terms.specs.Terms.{prog_var_of}
use Rattle.theory_syntax.specs.Commands.{block_with, command_of}
use Rattle.declared_sorts.proofs.locals.+gathering.Given as goal

abbrev pub invariant-add_block-loop-item : goal.invariant-add_block-loop-item
invariant-add_block-loop-item l =
    map prog_var_of l.found
    ≡ map prog_var_of l.initial.found ++ flat_map locals
    (commands_of (block_with (map command_of (take l.item-index l.block))))
