use Rattle.std.proofs.Common.{◌≡◌, map, take}
use Rattle.std.specs.List.{list_all}
use Rattle.model_commands.specs.CommandParts.{variables_of_command}
use Rattle.model_grammar.specs.Sorts.{sorted_command}
use Rattle.theory_syntax.specs.Commands.{command_of}
use Rattle.declared_sorts.specs.Declarations.{declared_of, scope_in}
use Rattle.declared_sorts.specs.Settled.{is_settled}
use Rattle.declared_sorts.proofs.Each.{Each}
use Rattle.declared_sorts.proofs.commands.+sorting.Given as goal

abbrev pub invariant-set_commands-loop-i : goal.invariant-set_commands-loop-i
invariant-set_commands-loop-i l = record {
  unvisited : goal.unvisited-set_commands-loop-i l;
  each : Each command_of (sorted_command (declared_of l.declared)) l.commands
      l.initial.commands l.i;
  told : l.are_settled ≡ list_all
      (λ c. list_all (is_settled (scope_in l.declared)) (variables_of_command c))
      (map command_of (take l.i l.commands));
}
