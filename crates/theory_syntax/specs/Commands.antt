-- Needn't be believed: the program's promise doesn't speak of it. The commands of the definitions,
-- those of PODS 2008 with blocks, choice, loops, local variables and calls, that the commands of
-- the program stand for.
use Rattle.std.specs.Prelude.{List, [], ◌∷◌, map}
use Rattle.model_commands.specs.Commands as model
use Rattle.model_commands.specs.Commands.{stop, ◌then◌}
use Rattle.dom_terms.specs.Terms.{prog_var_of, term_of}
use Rattle.dom_terms.specs.Conditions.{cond_of}
use Rattle.theory_syntax.specs.declared.commands.Command.{Command, fold-Command}
use Rattle.theory_syntax.specs.declared.commands.Command.TheOpen.{Command-F}

-- the commands of a list, one after another
abbrev pub block_with : List model.Command → model.Block
block_with [] = stop
block_with (command ∷ rest) = command then block_with rest

-- a command, each command in whose blocks is already what it stands for
abbrev pub command_step : Command-F model.Command → model.Command
command_step Command-F.Skip = model.skip
command_step (Command-F.Block block) = model.block (block_with block)
command_step (Command-F.Assign x value) = model.assign (prog_var_of x) (term_of value)
command_step (Command-F.Create x name) = model.create_node (prog_var_of x) (term_of name)
command_step (Command-F.Name x node) = model.node_name (prog_var_of x) (term_of node)
command_step (Command-F.Parent x node) = model.parent_node (prog_var_of x) (term_of node)
command_step (Command-F.Children x node) = model.child_nodes (prog_var_of x) (term_of node)
command_step (Command-F.Item x list place) =
    model.list_item (prog_var_of x) (term_of list) (term_of place)
command_step (Command-F.Append parent child) =
    model.append_child (term_of parent) (term_of child)
command_step (Command-F.Remove parent child) =
    model.remove_child (term_of parent) (term_of child)
command_step (Command-F.InsertBefore parent child next) =
    model.insert_before (term_of parent) (term_of child) (term_of next)
command_step (Command-F.If cond first second) =
    model.if_else (cond_of cond) (block_with first) (block_with second)
command_step (Command-F.While cond block) = model.while_do (cond_of cond) (block_with block)
command_step (Command-F.Local x block) = model.local (prog_var_of x) (block_with block)
command_step (Command-F.Call results name arguments) =
    model.call (map prog_var_of results) name (map term_of arguments)

-- the command
abbrev pub command_of : Command → model.Command
command_of = fold-Command model.Command command_step

-- the block
abbrev pub block_of : List Command → model.Block
block_of block = block_with (map command_of block)
