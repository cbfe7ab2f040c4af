-- Needn't be believed: the promises speak of headers and steps themselves. What stands in a header
-- or a step: two formulas, a command or none, and arguments.
use Rattle.std.specs.Prelude.{List, [], ◌++◌, map, Option, Some, None}
use Rattle.std.specs.List.{flat_map}
use Rattle.std.specs.Borrow.{Bor}
use Rattle.model_terms.specs.Variables.{Var}
use Rattle.model_commands.specs.Commands as model
use Rattle.model_commands.specs.CommandParts.{commands_in, variables_of, variables_of_command, variables_of_term}
use Rattle.dom_terms.specs.Terms.{term_of}
use Rattle.formula_syntax.specs.Formulas.{formula_of}
use Rattle.theory_syntax.specs.declared.commands.Command.{Command}
use Rattle.theory_syntax.specs.Commands.{command_of}
use Rattle.dom_syntax.specs.declared.contents.Contents.{Contents}

-- the variables of the command, if there is one
abbrev pub variables_of_any : Option (Bor Command) → List Var
variables_of_any None = []
variables_of_any (Some command) = variables_of_command (command_of command.now)

-- the commands in it
abbrev pub commands_of_any : Option (Bor Command) → List model.Command
commands_of_any None = []
commands_of_any (Some command) = commands_in (command_of command.now)

-- the variables that stand there
abbrev pub variables_in : Contents → List Var
variables_in contents =
    (variables_of (formula_of contents.left.now)
    ++ (variables_of (formula_of contents.right.now) ++ variables_of_any contents.command))
    ++ flat_map variables_of_term (map term_of contents.arguments.now)

-- the commands that stand there
abbrev pub commands_there : Contents → List model.Command
commands_there contents = commands_of_any contents.command
