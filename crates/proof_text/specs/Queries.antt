-- Needn't be believed: the queries and changes that those of the program stand for.
use Rattle.model_terms.specs.Terms.{Term}
use Rattle.model_terms.specs.Stores.{ProgVar}
use Rattle.model_commands.specs.Commands.{Command, create_node, node_name, child_nodes, parent_node, list_item, append_child, remove_child}
use Rattle.dom_terms.specs.Terms.{prog_var_of}
use Rattle.proof_text.specs.declared.commands.Query.{Query}
use Rattle.proof_text.specs.declared.commands.Query.TheVariants as d
use Rattle.proof_text.specs.declared.commands.Change.{Change}
use Rattle.proof_text.specs.declared.commands.Change.TheVariants as e

-- what the query makes of a variable and a term
abbrev pub query_of : Query → ProgVar → Term → Command
query_of d.Create = create_node
query_of d.Name = node_name
query_of d.Parent = parent_node
query_of d.Children = child_nodes

-- what the change makes of two terms
abbrev pub change_of : Change → Term → Term → Command
change_of e.Append = append_child
change_of e.Remove = remove_child
change_of (e.Item x) = list_item (prog_var_of x)
