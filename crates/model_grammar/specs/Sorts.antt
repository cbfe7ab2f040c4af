-- The sorts of variables: each use gets the sort of the first declaration of its name in scope.
-- In a procedure its parameters, its results and the local variables of its body are declared, in
-- the order of the text; in the whole file the logic variables. A name that isn't declared keeps
-- sort node. A `local` keeps the sort that it is written with, in bodies and in steps.
use Rattle.std.specs.Prelude.{ℕ, cond, List, [], ◌∷◌, map, bytes_eq}
use Rattle.model_shapes.specs.Sorts.{ValueSort, node_sort, Sort, value}
use Rattle.model_terms.specs.Variables.{Var, prog, logic, var_sort}
use Rattle.model_terms.specs.Terms.{Term, variable, term_with}
use Rattle.model_formulas.specs.Formulas.{Named}
use Rattle.model_formulas.specs.Changes.{changed}
use Rattle.model_terms.specs.Stores.{ProgVar, named}
use Rattle.model_terms.specs.Conditions.{Cond, cond_variable, cond_equal, cond_at_most, cond_not, cond_and, cond_or}
use Rattle.model_commands.specs.Commands.{Command, block, assign, create_node, node_name, child_nodes, parent_node, list_item, append_child, remove_child, insert_before, if_else, while_do, local, call, Block, stop, ◌then◌}
use Rattle.model_files.specs.FileFaults.{declared_by}
use Rattle.model_commands.specs.Theories.{JudgementOf, entails, triple, Reason, auto, by_rule, StepOf, ProcedureOf, Theory}

-- what is declared at a place: program variables and logic variables
pub record Declared : Type 0 where
  pub variables : List ProgVar
  pub logics : List Var

-- the sort of the first of the program variables that has the name
abbrev pub sort_among : List ProgVar → List ℕ → ValueSort
sort_among [] name = node_sort
sort_among (named first s ∷ rest) name = cond (bytes_eq name first) s (sort_among rest name)

-- the sort of the first of the logic variables that has the name
abbrev pub logic_sort_among : List Var → List ℕ → Sort
logic_sort_among [] name = value node_sort
logic_sort_among (logic first s ∷ rest) name =
    cond (bytes_eq name first) s (logic_sort_among rest name)
logic_sort_among (x ∷ rest) name = logic_sort_among rest name

-- the sort of a term that is a variable; `is` stands behind no other
abbrev pub sort_of_variable : Term → Sort → Sort
sort_of_variable (variable x) s = var_sort x
sort_of_variable a s = s

module _ (declared : Declared) where
  -- a program variable with its sort
  abbrev pub sorted_name : ProgVar → ProgVar
  sorted_name (named name s) = named name (sort_among declared.variables name)

  -- a variable with its sort
  abbrev pub sorted_var : Var → Var
  sorted_var (prog name s) = prog name (sort_among declared.variables name)
  sorted_var (logic name s) = logic name (logic_sort_among declared.logics name)
  sorted_var x = x

  -- a term
  abbrev pub sorted_term : Term → Term
  sorted_term = term_with (λ x. variable (sorted_var x))

  -- a formula, alike below each binder
  abbrev pub sorted_formula : Named → Named
  sorted_formula =
      changed {Change = Unit} (λ c. sorted_var) (λ x c. c) (λ c. sorted_term) sort_of_variable tt

  -- a condition
  abbrev pub sorted_cond : Cond → Cond
  sorted_cond (cond_variable x) = cond_variable (sorted_name x)
  sorted_cond (cond_equal a b) = cond_equal (sorted_term a) (sorted_term b)
  sorted_cond (cond_at_most a b) = cond_at_most (sorted_term a) (sorted_term b)
  sorted_cond (cond_not c) = cond_not (sorted_cond c)
  sorted_cond (cond_and c d) = cond_and (sorted_cond c) (sorted_cond d)
  sorted_cond (cond_or c d) = cond_or (sorted_cond c) (sorted_cond d)
  sorted_cond c = c

  abbrev mutual
    -- a command
    pub sorted_command : Command → Command
    sorted_command (block b) = block (sorted_block b)
    sorted_command (assign x a) = assign (sorted_name x) (sorted_term a)
    sorted_command (create_node x a) = create_node (sorted_name x) (sorted_term a)
    sorted_command (node_name x a) = node_name (sorted_name x) (sorted_term a)
    sorted_command (child_nodes x a) = child_nodes (sorted_name x) (sorted_term a)
    sorted_command (parent_node x a) = parent_node (sorted_name x) (sorted_term a)
    sorted_command (list_item x a b) =
        list_item (sorted_name x) (sorted_term a) (sorted_term b)
    sorted_command (append_child a b) = append_child (sorted_term a) (sorted_term b)
    sorted_command (remove_child a b) = remove_child (sorted_term a) (sorted_term b)
    sorted_command (insert_before a b c) =
        insert_before (sorted_term a) (sorted_term b) (sorted_term c)
    sorted_command (if_else c a b) = if_else (sorted_cond c) (sorted_block a) (sorted_block b)
    sorted_command (while_do c b) = while_do (sorted_cond c) (sorted_block b)
    sorted_command (local x b) = local x (sorted_block b)
    sorted_command (call results name arguments) =
        call (map sorted_name results) name (map sorted_term arguments)
    sorted_command c = c

    -- a block
    pub sorted_block : Block → Block
    sorted_block stop = stop
    sorted_block (c then b) = sorted_command c then sorted_block b

  -- the arguments of a reason
  abbrev pub sorted_reason : Reason → Reason
  sorted_reason auto = auto
  sorted_reason (by_rule name premises arguments) =
      by_rule name premises (map sorted_term arguments)

  -- a judgement
  abbrev pub sorted_judgement : JudgementOf Named → JudgementOf Named
  sorted_judgement (entails p q s) = entails (sorted_formula p) (sorted_formula q) s
  sorted_judgement (triple p c q k) =
      triple (sorted_formula p) (sorted_command c) (sorted_formula q) k

  -- a step
  abbrev pub sorted_step : StepOf Named → StepOf Named
  sorted_step step = record step {
    reason = sorted_reason step.reason;
    judgement = sorted_judgement step.judgement;
  }

-- what is declared in a procedure of a file with these logic variables
abbrev pub declared_in : List Var → ProcedureOf Named → Declared
declared_in logics procedure = record {
  variables = declared_by procedure;
  logics = logics;
}

-- a procedure
abbrev pub sorted_procedure : List Var → ProcedureOf Named → ProcedureOf Named
sorted_procedure logics procedure =
    let declared = declared_in logics procedure in
    record procedure {
      pre = sorted_formula declared procedure.pre;
      post = sorted_formula declared procedure.post;
      body = sorted_command declared procedure.body;
      proof = map (sorted_step declared) procedure.proof;
    }

-- A theory with the sorts of its declarations
abbrev pub with_sorts : Theory → Theory
with_sorts theory =
    record theory { procedures = map (sorted_procedure theory.logic) theory.procedures }
