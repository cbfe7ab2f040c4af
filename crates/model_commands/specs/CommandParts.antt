-- What stands in a command: its commands in the order of the text, and what each has of its own;
-- and what stands in formulas and steps. File faults and the limit of variables are read off these
-- lists.
use Rattle.std.specs.Prelude.{List, [], ◌∷◌, ◌++◌, map}
use Rattle.std.specs.List.{flat_map}
use Rattle.model_terms.specs.Variables.{Var}
use Rattle.model_terms.specs.Terms.{Term}
pub use Rattle.model_terms.specs.TermSorts.{variables_of_term}
use Rattle.model_terms.specs.Stores.{ProgVar, as_var}
pub use Rattle.model_terms.specs.Conditions.{terms_of_cond}
use Rattle.model_formulas.specs.Formulas.{Named}
use Rattle.model_formulas.specs.Substitution.{gathered}
use Rattle.model_commands.specs.Theories.{JudgementOf, entails, triple, Reason, auto, by_rule}
use Rattle.model_commands.specs.Commands.{Command, block, assign, create_node, node_name, child_nodes, parent_node, list_item, append_child, remove_child, insert_before, if_else, while_do, local, call, Block, stop, ◌then◌}

-- the command and each command in its blocks, in the order of the text
abbrev mutual
  pub commands_in : Command → List Command
  commands_in (block b) = block b ∷ commands_of b
  commands_in (if_else c a b) = if_else c a b ∷ (commands_of a ++ commands_of b)
  commands_in (while_do c b) = while_do c b ∷ commands_of b
  commands_in (local x b) = local x b ∷ commands_of b
  commands_in command = command ∷ []

  pub commands_of : Block → List Command
  commands_of stop = []
  commands_of (c then b) = commands_in c ++ commands_of b

-- the variables that the command itself sets, as its target, its results or its local variable
abbrev pub targets : Command → List ProgVar
targets (assign x e) = x ∷ []
targets (create_node x e) = x ∷ []
targets (node_name x e) = x ∷ []
targets (child_nodes x e) = x ∷ []
targets (parent_node x e) = x ∷ []
targets (list_item x e f) = x ∷ []
targets (local x b) = x ∷ []
targets (call results name arguments) = results
targets command = []

-- its local variable
abbrev pub locals : Command → List ProgVar
locals (local x b) = x ∷ []
locals command = []

-- the terms that the command itself evaluates, from left to right
abbrev pub terms_of : Command → List Term
terms_of (assign x e) = e ∷ []
terms_of (create_node x e) = e ∷ []
terms_of (node_name x e) = e ∷ []
terms_of (child_nodes x e) = e ∷ []
terms_of (parent_node x e) = e ∷ []
terms_of (list_item x e f) = e ∷ f ∷ []
terms_of (append_child e f) = e ∷ f ∷ []
terms_of (remove_child e f) = e ∷ f ∷ []
terms_of (insert_before e f g) = e ∷ f ∷ g ∷ []
terms_of (if_else c a b) = terms_of_cond c
terms_of (while_do c b) = terms_of_cond c
terms_of (call results name arguments) = arguments
terms_of command = []

-- the variables that a command has of its own
abbrev pub own_variables : Command → List Var
own_variables command =
    map as_var (targets command) ++ flat_map variables_of_term (terms_of command)

-- of the command and of all that stands in it
abbrev pub variables_of_command : Command → List Var
variables_of_command command = flat_map own_variables (commands_in command)

-- the local variables of a body, in the order of the text
abbrev pub locals_of : Command → List ProgVar
locals_of command = flat_map locals (commands_in command)

-- FORMULAS AND STEPS: the variables of a formula, those of its quantifiers included
abbrev pub variables_of : Named → List Var
variables_of = gathered [] ◌++◌ variables_of_term ◌∷◌

-- the variables of a judgement
abbrev pub variables_of_judgement : JudgementOf Named → List Var
variables_of_judgement (entails p q s) = variables_of p ++ variables_of q
variables_of_judgement (triple p c q d) =
    variables_of p ++ (variables_of q ++ variables_of_command c)

-- its commands
abbrev pub commands_of_judgement : JudgementOf Named → List Command
commands_of_judgement (entails p q s) = []
commands_of_judgement (triple p c q d) = commands_in c

-- the arguments of a step
abbrev pub arguments_of : Reason → List Term
arguments_of auto = []
arguments_of (by_rule name premises arguments) = arguments
