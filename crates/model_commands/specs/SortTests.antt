-- Tests of a command by itself: its parts have the right sorts and number, a procedure that it
-- calls is there, and the results of a call are apart. Files are tested by them, and they are what
-- the conditions of a run's beginning and of a step ask.
use Rattle.std.specs.Prelude.{◌≡◌, List, [], ◌∷◌, Bool, true, false, not, ◌&&◌, Option, Some, None, is_some}
use Rattle.std.specs.List.{list_all, list_any, flat_map}
use Rattle.model_shapes.specs.Tests.{same_value_sort}
use Rattle.model_shapes.specs.Sorts.{node_sort, list_sort, int_sort, str_sort}
use Rattle.model_shapes.specs.Values.{Name}
use Rattle.model_terms.specs.VariableTests.{same_var}
use Rattle.model_terms.specs.Variables.{Var}
use Rattle.model_terms.specs.Terms.{Term}
use Rattle.model_terms.specs.Stores.{ProgVar, as_var, sort_of, same_name}
pub use Rattle.model_terms.specs.Conditions.{condition_sorted}
pub use Rattle.model_terms.specs.TermSorts.{is_program, is_plain, evaluates}
use Rattle.model_commands.specs.Commands.{Command, skip, block, assign, create_node, node_name, child_nodes, parent_node, list_item, append_child, remove_child, insert_before, if_else, while_do, local, call, Block, stop, ◌then◌}
use Rattle.model_commands.specs.CommandParts.{commands_in, variables_of_term}
use Rattle.model_commands.specs.Theories.{Procedure, Procedures, procedure_named}

-- arguments for these parameters
abbrev pub feeds : List ProgVar → List Term → Bool
feeds [] [] = true
feeds (x ∷ xs) (e ∷ es) = evaluates (sort_of x) e && feeds xs es
feeds xs es = false

-- variables that take these results
abbrev pub receives : List ProgVar → List ProgVar → Bool
receives [] [] = true
receives (r ∷ rs) (x ∷ xs) = same_value_sort (sort_of r) (sort_of x) && receives rs xs
receives rs xs = false

-- a call of a procedure; where there is none, the kind is another
abbrev pub call_fits : Option Procedure → List ProgVar → List Term → Bool
call_fits None results arguments = true
call_fits (Some f) results arguments = feeds f.params arguments && receives f.results results

-- a block has at least one command
abbrev pub has_command : Block → Bool
has_command stop = false
has_command (c then b) = true

-- the command's own parts have the right sorts and number, and each of its blocks has a command
abbrev pub parts_fit : Procedures → Command → Bool
parts_fit procedures skip = true
parts_fit procedures (block b) = has_command b
parts_fit procedures (assign x e) = evaluates (sort_of x) e
parts_fit procedures (create_node x e) =
    same_value_sort (sort_of x) node_sort && evaluates str_sort e
parts_fit procedures (node_name x e) =
    same_value_sort (sort_of x) str_sort && evaluates node_sort e
parts_fit procedures (child_nodes x e) =
    same_value_sort (sort_of x) list_sort && evaluates node_sort e
parts_fit procedures (parent_node x e) =
    same_value_sort (sort_of x) node_sort && evaluates node_sort e
parts_fit procedures (list_item x e f) =
    same_value_sort (sort_of x) node_sort && (evaluates list_sort e && evaluates int_sort f)
parts_fit procedures (append_child e f) = evaluates node_sort e && evaluates node_sort f
parts_fit procedures (remove_child e f) = evaluates node_sort e && evaluates node_sort f
parts_fit procedures (insert_before e f g) =
    evaluates node_sort e && (evaluates node_sort f && evaluates node_sort g)
parts_fit procedures (if_else c a b) = condition_sorted c && (has_command a && has_command b)
parts_fit procedures (while_do c b) = condition_sorted c && has_command b
parts_fit procedures (local x b) = has_command b
parts_fit procedures (call results name arguments) =
    call_fits (procedure_named name procedures) results arguments

-- a procedure that is called is one of the file
abbrev pub callee_known : Procedures → Command → Bool
callee_known procedures (call results name arguments) =
    is_some (procedure_named name procedures)
callee_known procedures command = true

-- CALLS: no two of a list are the same, by a test
abbrev pub distinct_by : {A : Type 0} → (A → A → Bool) → List A → Bool
distinct_by same [] = true
distinct_by same (x ∷ xs) = not (list_any (same x) xs) && distinct_by same xs

-- the variable is one of these
abbrev pub is_among : List ProgVar → ProgVar → Bool
is_among variables x = list_any (same_name x) variables

-- the program variable is among these
abbrev pub stands_in : List Var → ProgVar → Bool
stands_in variables x = list_any (same_var (as_var x)) variables

-- in a call, the results don't repeat, and none of them stands in its arguments
abbrev pub results_apart : Command → Bool
results_apart (call results name arguments) =
    distinct_by same_name results
    && list_all (λ x. not (stands_in (flat_map variables_of_term arguments) x)) results
results_apart command = true

-- in a call, the results don't repeat
abbrev pub results_differ : Command → Bool
results_differ (call results name arguments) = distinct_by same_name results
results_differ command = true

-- what a run asks of a command, but for the commands in it: the procedure that it calls is there,
-- its parts have the right sorts and number, and the results of a call don't repeat
abbrev pub fits_alone : Procedures → Command → Bool
fits_alone procedures command =
    callee_known procedures command
    && (parts_fit procedures command && results_differ command)

-- what a run asks of a command, and of each command in it
abbrev pub is_sorted : Procedures → Command → Bool
is_sorted procedures command = list_all (fits_alone procedures) (commands_in command)

-- so is the body of each procedure that a call may enter
abbrev pub BodiesSorted : Procedures → Type 0
BodiesSorted procedures =
    (name : Name) (f : Procedure) → procedure_named name procedures ≡ Some f
    → is_sorted procedures f.body ≡ true
