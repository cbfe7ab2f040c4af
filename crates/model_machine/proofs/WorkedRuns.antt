-- Worked runs, by computing: the commands on small groves, their ends and faults, and the changes.
use Rattle.std.proofs.Common.{◌≡◌, ℕ, List, [], ◌∷◌, refl, pos, negsuc, Option, Some, None}
use Rattle.std.specs.Prelude.{codes}
use Rattle.model_shapes.specs.Trees.{Trees, none, node}
use Rattle.model_shapes.specs.Sorts.{grove, node_sort, list_sort, int_sort, str_sort}
use Rattle.model_shapes.specs.Values.{Value, null, node_number, int, str}
use Rattle.model_terms.specs.Terms.{Term, literal, variable, sum}
use Rattle.model_terms.specs.Variables.{prog}
use Rattle.model_formulas.specs.Formulas.{truth}
use Rattle.model_terms.specs.Stores.{ProgVar, named}
use Rattle.model_terms.specs.Conditions.{cond_equal, cond_at_most, cond_not}
use Rattle.model_commands.specs.Commands.{Command, block, assign, create_node, node_name, child_nodes, parent_node, list_item, append_child, remove_child, insert_before, if_else, while_do, local, call, stop, ◌then◌}
use Rattle.model_commands.specs.Theories.{Procedure, Procedures}
use Rattle.model_machine.specs.Machine.{no_node, cycle, not_child, self_ref, start}
use Rattle.model_limits.specs.Limits.{Limits, standard_limits, identifier_limit, depth_limit, number_limit, nodes_limit}
use Rattle.model_machine.specs.Outcomes.{Outcome, outcome, ends, spends, passes_limit, has_fault}
use Rattle.model_machine.specs.Changes.{created, moved, removed, changes}

-- variables, and their terms
abbrev p : ProgVar
p = named (codes "p") node_sort

abbrev n : ProgVar
n = named (codes "n") node_sort

abbrev q : ProgVar
q = named (codes "q") node_sort

abbrev c : ProgVar
c = named (codes "c") node_sort

abbrev k : ProgVar
k = named (codes "k") int_sort

abbrev l : ProgVar
l = named (codes "l") list_sort

abbrev s : ProgVar
s = named (codes "s") str_sort

abbrev m : ProgVar
m = named (codes "m") str_sort

abbrev r : ProgVar
r = named (codes "r") int_sort

abbrev of : ProgVar → Term
of (named x u) = variable (prog x u)

abbrev number : ℕ → Term
number i = literal (int (pos i))

-- a procedure at groves, whose requires and ensures are true
abbrev procedure : List ℕ → List ProgVar → List ProgVar → Command → Procedure
procedure name params results body = record {
  name = name;
  params = params;
  results = results;
  sort = grove;
  pre = truth;
  post = truth;
  body = body;
  proof = [];
}

-- appendChild(p, n)
abbrev app : Procedure
app = procedure (codes "app") (p ∷ n ∷ []) [] (append_child (of p) (of n))

-- insertBefore(p, n, q)
abbrev ins : Procedure
ins = procedure (codes "ins") (p ∷ n ∷ q ∷ []) [] (insert_before (of p) (of n) (of q))

-- { removeChild(p, n) ; q := parentNode(n) }
abbrev rem : Procedure
rem = procedure (codes "rem") (p ∷ n ∷ []) (q ∷ [])
    (block (remove_child (of p) (of n) then (parent_node q (of n) then stop)))

-- local l : list { l := childNodes(p) ; c := item(l, k) }
abbrev kid : Procedure
kid = procedure (codes "kid") (p ∷ k ∷ []) (c ∷ [])
    (local l (child_nodes l (of p) then (list_item c (of l) (of k) then stop)))

-- { n := createNode(s) ; m := nodeName(n) }
abbrev add : Procedure
add = procedure (codes "add") (s ∷ []) (n ∷ m ∷ [])
    (block (create_node n (of s) then (node_name m (of n) then stop)))

-- the depth of the first path down: the first child's depth and one more, or 0 where there is none
abbrev depth : Procedure
depth = procedure (codes "depth") (p ∷ []) (r ∷ [])
    (local l (child_nodes l (of p) then (local c (list_item c (of l) (number 0) then
    (if_else (cond_equal (of c) (literal null)) (assign r (number 0) then stop)
    (call (r ∷ []) (codes "depth") (of c ∷ []) then
    (assign r (sum (of r) (number 1)) then stop)) then stop)) then stop)))

-- a procedure that only calls itself
abbrev down : Procedure
down = procedure (codes "down") [] [] (call [] (codes "down") [])

-- x := {x + 1}
abbrev up : Procedure
up = procedure (codes "up") (k ∷ []) (r ∷ []) (assign r (sum (of k) (number 1)))

-- a root, and children that are appended to it, as many as k less one
abbrev grow : Procedure
grow = procedure (codes "grow") (k ∷ []) (n ∷ [])
    (local r (local c (create_node n (literal (str (codes "r"))) then (assign r (number 1) then
    (while_do (cond_not (cond_at_most (of k) (of r)))
    (create_node c (literal (str (codes "c"))) then
    (append_child (of n) (of c) then (assign r (sum (of r) (number 1)) then stop))) then stop)))
    then stop))

abbrev file : Procedures
file = app ∷ rem ∷ kid ∷ add ∷ depth ∷ down ∷ up ∷ grow ∷ []

-- a run with this fuel
abbrev with_fuel : ℕ → Limits → Procedure → List Value → Trees → Outcome
with_fuel fuel limits f values roots =
    outcome limits file f.results fuel 0 (start f values roots)

abbrev result : Procedure → List Value → Trees → Outcome
result = with_fuel 100 standard_limits

-- a tree with two children, one with a child and a grandchild, and a chain of three
abbrev tree_of : List ℕ → ℕ → Trees → Trees
tree_of name i kids = node name i kids i none

abbrev wide : Trees
wide = node (codes "html") 1 (node (codes "a") 2 none 2 (node (codes "b") 3 none 3 none)) 1 none

abbrev high : Trees
high = tree_of (codes "html") 1 (tree_of (codes "a") 2 (tree_of (codes "i") 4 none))

abbrev chain : Trees
chain = tree_of (codes "a") 1 (tree_of (codes "b") 2 (tree_of (codes "c") 3 none))

-- appendChild takes the tree from where it is to the end of the children
append_moves : result app (node_number 1 ∷ node_number 4 ∷ []) high
    ≡ ends 1 [] (node (codes "html") 1
    (node (codes "a") 2 none 2 (node (codes "i") 4 none 4 none)) 1 none)
unfolding native.Mathlib.Decide.ℕ_discrete
append_moves = refl

-- the last child appended again stays
append_again : result app (node_number 1 ∷ node_number 3 ∷ []) wide ≡ ends 1 [] wide
unfolding native.Mathlib.Decide.ℕ_discrete
append_again = refl

-- an ancestor isn't appended
append_cycle : result app (node_number 2 ∷ node_number 1 ∷ []) wide
    ≡ has_fault cycle 0 app.body
unfolding native.Mathlib.Decide.ℕ_discrete
append_cycle = refl

-- nor is a node appended to itself; but one that isn't there is missed first
append_itself : result app (node_number 3 ∷ node_number 3 ∷ []) wide
    ≡ has_fault cycle 0 app.body
unfolding native.Mathlib.Decide.ℕ_discrete
append_itself = refl

append_absent_itself : result app (node_number 9 ∷ node_number 9 ∷ []) wide
    ≡ has_fault no_node 0 app.body
unfolding native.Mathlib.Decide.ℕ_discrete
append_absent_itself = refl

append_null : result app (node_number 1 ∷ null ∷ []) wide ≡ has_fault no_node 0 app.body
unfolding native.Mathlib.Decide.ℕ_discrete
append_null = refl

-- removeChild makes the child a root, which has no parent
remove_makes_a_root : result rem (node_number 1 ∷ node_number 2 ∷ []) wide
    ≡ ends 3 (null ∷ []) (node (codes "html") 1 (tree_of (codes "b") 3 none) 1
    (tree_of (codes "a") 2 none))
unfolding native.Mathlib.Decide.ℕ_discrete
remove_makes_a_root = refl

-- insertBefore puts the tree before a child of its new parent, and to the end for null
abbrev insert : List Value → Outcome
insert values = result ins values wide

insert_moves : insert (node_number 1 ∷ node_number 3 ∷ node_number 2 ∷ []) ≡ ends 1 []
    (node (codes "html") 1 (node (codes "b") 3 none 3 (node (codes "a") 2 none 2 none)) 1 none)
unfolding native.Mathlib.Decide.ℕ_discrete
insert_moves = refl

insert_again : insert (node_number 1 ∷ node_number 2 ∷ node_number 3 ∷ []) ≡ ends 1 [] wide
unfolding native.Mathlib.Decide.ℕ_discrete
insert_again = refl

insert_last : insert (node_number 1 ∷ node_number 3 ∷ null ∷ []) ≡ ends 1 [] wide
unfolding native.Mathlib.Decide.ℕ_discrete
insert_last = refl

-- a node isn't put before itself, nor below itself, nor before what is no child; but a node that
-- isn't there is missed first
insert_itself : insert (node_number 1 ∷ node_number 2 ∷ node_number 2 ∷ [])
    ≡ has_fault self_ref 0 ins.body
unfolding native.Mathlib.Decide.ℕ_discrete
insert_itself = refl

insert_thrice : insert (node_number 1 ∷ node_number 1 ∷ node_number 1 ∷ [])
    ≡ has_fault self_ref 0 ins.body
unfolding native.Mathlib.Decide.ℕ_discrete
insert_thrice = refl

insert_below : insert (node_number 2 ∷ node_number 1 ∷ null ∷ []) ≡ has_fault cycle 0 ins.body
unfolding native.Mathlib.Decide.ℕ_discrete
insert_below = refl

insert_no_child : insert (node_number 1 ∷ node_number 2 ∷ node_number 1 ∷ [])
    ≡ has_fault not_child 0 ins.body
unfolding native.Mathlib.Decide.ℕ_discrete
insert_no_child = refl

insert_absent : insert (node_number 1 ∷ node_number 2 ∷ node_number 9 ∷ [])
    ≡ has_fault no_node 0 ins.body
unfolding native.Mathlib.Decide.ℕ_discrete
insert_absent = refl

-- a grandchild is no child
remove_grandchild : result rem (node_number 1 ∷ node_number 4 ∷ []) high
    ≡ has_fault not_child 1 (remove_child (of p) (of n))
unfolding native.Mathlib.Decide.ℕ_discrete
remove_grandchild = refl

-- children are counted from 0, and there is none before the first or past the last
kid_before : result kid (node_number 1 ∷ int (negsuc 0) ∷ []) wide ≡ ends 5 (null ∷ []) wide
unfolding native.Mathlib.Decide.ℕ_discrete
kid_before = refl

kid_first : result kid (node_number 1 ∷ int (pos 0) ∷ []) wide ≡ ends 5 (node_number 2 ∷ []) wide
unfolding native.Mathlib.Decide.ℕ_discrete
kid_first = refl

kid_second : result kid (node_number 1 ∷ int (pos 1) ∷ []) wide
    ≡ ends 5 (node_number 3 ∷ []) wide
unfolding native.Mathlib.Decide.ℕ_discrete
kid_second = refl

kid_past : result kid (node_number 1 ∷ int (pos 2) ∷ []) wide ≡ ends 5 (null ∷ []) wide
unfolding native.Mathlib.Decide.ℕ_discrete
kid_past = refl

-- the first node of an empty grove has the numbers 1
add_first : result add (str (codes "div") ∷ []) none
    ≡ ends 3 (node_number 1 ∷ str (codes "div") ∷ []) (tree_of (codes "div") 1 none)
unfolding native.Mathlib.Decide.ℕ_discrete
add_first = refl

-- past the greatest number there is no next one
add_past : result add (str (codes "div") ∷ []) (node (codes "x") 4294967295 none 7 none)
    ≡ passes_limit identifier_limit
unfolding native.Mathlib.Decide.ℕ_discrete
add_past = refl

-- a node without children takes 11 steps, and one whose first child takes some takes 13 more
depth_of_one : result depth (node_number 3 ∷ []) chain ≡ ends 11 (int (pos 0) ∷ []) chain
unfolding native.Mathlib.Decide.ℕ_discrete
depth_of_one = refl

depth_of_two : result depth (node_number 2 ∷ []) chain ≡ ends 24 (int (pos 1) ∷ []) chain
unfolding native.Mathlib.Decide.ℕ_discrete
depth_of_two = refl

depth_of_three : result depth (node_number 1 ∷ []) chain ≡ ends 37 (int (pos 2) ∷ []) chain
unfolding native.Mathlib.Decide.ℕ_discrete
depth_of_three = refl

-- the steps taken where the fuel is spent
abbrev spent : Outcome → Option ℕ
spent (spends taken config) = Some taken
spent otherwise = None

depth_unfinished : spent (with_fuel 36 standard_limits depth (node_number 1 ∷ []) chain) ≡ Some 36
unfolding native.Mathlib.Decide.ℕ_discrete
depth_unfinished = refl

-- limits: the depth of calls, integers, nodes
abbrev shallow : Limits
shallow = record standard_limits { depth = 3 }

down_past : with_fuel 4 shallow down [] none ≡ passes_limit depth_limit
down_past = refl

down_at_limit : spent (with_fuel 3 shallow down [] none) ≡ Some 3
down_at_limit = refl

up_one : result up (int (pos 41) ∷ []) none ≡ ends 1 (int (pos 42) ∷ []) none
up_one = refl

up_past : result up (int (pos 9223372036854775807) ∷ []) none ≡ passes_limit number_limit
up_past = refl

few_nodes : with_fuel 9 (record standard_limits { nodes = 2 }) add (str [] ∷ []) wide
    ≡ passes_limit nodes_limit
unfolding native.Mathlib.Decide.ℕ_discrete
few_nodes = refl

-- a loop: 5k + 4 steps, and its changes
grow_three : result grow (int (pos 3) ∷ []) none
    ≡ ends 19 (node_number 1 ∷ []) (node (codes "r") 1
    (node (codes "c") 2 none 2 (node (codes "c") 3 none 3 none)) 1 none)
unfolding native.Mathlib.Decide.ℕ_discrete
grow_three = refl

grow_changes : changes file 12 0 (start grow (int (pos 3) ∷ []) none)
    ≡ created 5 1 1 ∷ created 9 2 2 ∷ moved 10 2 0 1 0 ∷ []
unfolding native.Mathlib.Decide.ℕ_discrete
grow_changes = refl

remove_changes : changes file 100 0 (start rem (node_number 1 ∷ node_number 2 ∷ []) wide)
    ≡ removed 2 2 1 ∷ []
unfolding native.Mathlib.Decide.ℕ_discrete
remove_changes = refl

-- a move that leaves the grove as it was is a change; one that faults is none
again_changes : changes file 100 0 (start app (node_number 1 ∷ node_number 3 ∷ []) wide)
    ≡ moved 1 3 1 1 0 ∷ []
unfolding native.Mathlib.Decide.ℕ_discrete
again_changes = refl

cycle_changes : changes file 100 0 (start app (node_number 2 ∷ node_number 1 ∷ []) wide) ≡ []
unfolding native.Mathlib.Decide.ℕ_discrete
cycle_changes = refl

insert_changes : changes file 100 0
    (start ins (node_number 1 ∷ node_number 3 ∷ node_number 2 ∷ []) wide)
    ≡ moved 1 3 1 1 2 ∷ []
unfolding native.Mathlib.Decide.ℕ_discrete
insert_changes = refl
