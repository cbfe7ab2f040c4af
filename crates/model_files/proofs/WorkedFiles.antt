-- Worked files, by computing: one that is well formed, and one for each kind of fault; and the
-- variables that a command changes.
use Rattle.std.proofs.Common.{◌≡◌, ℕ, List, [], ◌∷◌, length, refl, sym, ap, pos, Option, Some, None, inl, inr}
use Rattle.std.specs.Prelude.{codes}
use Rattle.model_shapes.specs.Sorts.{value, shape, context, tree, forest, grove, node_sort, list_sort, int_sort, str_sort}
use Rattle.model_shapes.proofs.Truth.{false≢true}
use Rattle.model_shapes.specs.Values.{null, int}
use Rattle.model_terms.specs.Terms.{Term, literal, variable, sum}
use Rattle.model_terms.specs.Variables.{Var, prog, logic}
use Rattle.model_formulas.specs.Formulas.{Named, truth, empty, existential, equality}
use Rattle.model_terms.specs.Stores.{ProgVar, named, same_name}
use Rattle.model_terms.specs.Conditions.{cond_equal, cond_true}
use Rattle.model_commands.specs.Commands.{Command, skip, assign, child_nodes, list_item, insert_before, if_else, while_do, local, call, stop, ◌then◌, Modifies}
use Rattle.model_commands.specs.Theories.{Theory, ProcedureOf, StepOf, JudgementOf, entails, triple, Reason, auto, by_rule}
use Rattle.model_files.specs.RuleNames.{entailment_rule_names, triple_rule_names}
use Rattle.model_files.specs.FileFaults.{FileKind, version_kind, twice_kind, unknown_kind, sort_kind, constant_kind, results_kind, scope_kind, rule_kind, number_kind, FileFault, declared_by, first_file_fault}

-- variables, and their terms
abbrev a : ProgVar
a = named (codes "a") int_sort

abbrev b : ProgVar
b = named (codes "b") int_sort

abbrev x : ProgVar
x = named (codes "x") int_sort

abbrev of : ProgVar → Term
of (named name s) = variable (prog name s)

abbrev one : Term
one = literal (int (pos 1))

abbrev n : Var
n = logic (codes "$n") (value int_sort)

-- a step, a procedure and a theory of one procedure
abbrev step : ℕ → Reason → JudgementOf Named → StepOf Named
step number reason judgement =
    record { number = number; line = 0; reason = reason; judgement = judgement }

abbrev rule : List ℕ → Reason
rule name = by_rule name [] []

abbrev proc : List ℕ → List ProgVar → List ProgVar → Named → Named → Command
    → List (StepOf Named) → ProcedureOf Named
proc name params results pre post body proof = record {
  name = name;
  params = params;
  results = results;
  sort = grove;
  pre = pre;
  post = post;
  body = body;
  proof = proof;
}

abbrev theory : ℕ → List Var → List (ProcedureOf Named) → Theory
theory version logics procedures =
    record { version = version; logic = logics; procedures = procedures }

-- the place and the kind of a fault
abbrev at : ℕ → ℕ → FileKind → Option FileFault
at p s kind = Some (record { procedure = p; step = s; kind = kind })

-- requires 0g ensures 0g
abbrev plain : List ProgVar → List ProgVar → Command → List (StepOf Named) → ProcedureOf Named
plain params results body proof =
    proc (codes "main") params results (empty grove) (empty grove) body proof

abbrev skips : StepOf Named
skips = step 1 (rule (codes "skip")) (triple (empty grove) skip (empty grove) grove)

-- a file without a fault, and the same with the other versions
well_formed : first_file_fault (theory 1 [] (plain [] [] skip (skips ∷ []) ∷ [])) ≡ None
well_formed = refl

second_version : first_file_fault (theory 2 [] (plain [] [] skip (skips ∷ []) ∷ [])) ≡ None
second_version = refl

version : first_file_fault (theory 3 [] (plain [] [] skip (skips ∷ []) ∷ [])) ≡ at 0 0 version_kind
version = refl

-- insertBefore in a body and in a step, and its axiom, in version 2 and in version 1
abbrev inserts : Command
inserts = insert_before (literal null) (literal null) (literal null)

abbrev inserted : ℕ → Command → Command → Option FileFault
inserted number body command = first_file_fault (theory number [] (plain [] [] body
    (step 1 (rule (codes "insert_last")) (triple truth command truth grove) ∷ []) ∷ []))

inserts_well : inserted 2 inserts inserts ≡ None
inserts_well = refl

inserts_early : inserted 1 inserts inserts ≡ at 1 0 version_kind
inserts_early = refl

inserts_in_step : inserted 1 skip inserts ≡ at 1 1 version_kind
inserts_in_step = refl

early_rule : inserted 1 skip skip ≡ at 1 1 rule_kind
early_rule = refl

-- a file with quantifiers, whose bound names differ between its ensures and its step
abbrev m : Var
m = logic (codes "$m") (value int_sort)

abbrev sum_is : Var → Named
sum_is y = existential y (equality (sum (of a) one) (variable y))

abbrev x_is : Var → Named
x_is y = existential y (equality (of x) (variable y))

abbrev adds : Command
adds = assign x (sum (of a) one)

quantified : first_file_fault (theory 1 (m ∷ n ∷ [])
    (proc (codes "inc") (a ∷ []) (x ∷ []) (sum_is m) (x_is n) adds
    (step 1 (rule (codes "assign")) (triple (sum_is m) adds (x_is n) grove) ∷ []) ∷ [])) ≡ None
quantified = refl

-- a file with local variables, a choice and a call of itself
abbrev p : ProgVar
p = named (codes "p") node_sort

abbrev c : ProgVar
c = named (codes "c") node_sort

abbrev l : ProgVar
l = named (codes "l") list_sort

recursive : first_file_fault (theory 1 [] (proc (codes "depth") (p ∷ []) (x ∷ []) truth truth
    (local l (child_nodes l (of p) then (local c (list_item c (of l) one then
    (if_else (cond_equal (of c) (literal null)) (assign x one then stop)
    (call (x ∷ []) (codes "depth") (of c ∷ []) then (assign x (sum (of x) one) then stop))
    then stop)) then stop))) [] ∷ [])) ≡ None
recursive = refl

-- a logic variable declared twice, at two sorts; a procedure; a parameter that is a local variable
twice_logic : first_file_fault (theory 1 (n ∷ logic (codes "$n") (shape tree) ∷ []) [])
    ≡ at 0 0 twice_kind
twice_logic = refl

twice_procedure : first_file_fault
    (theory 1 [] (plain [] [] skip [] ∷ plain [] [] skip [] ∷ [])) ≡ at 2 0 twice_kind
twice_procedure = refl

twice_local : first_file_fault
    (theory 1 [] (plain (a ∷ []) [] (local a (skip then stop)) [] ∷ [])) ≡ at 1 0 twice_kind
twice_local = refl

-- a variable that isn't declared; a procedure that isn't there; a quantified variable
unknown : first_file_fault (theory 1 [] (plain [] [] (assign x one) [] ∷ [])) ≡ at 1 0 unknown_kind
unknown = refl

unknown_callee : first_file_fault
    (theory 1 [] (plain [] [] (call [] (codes "other") []) [] ∷ [])) ≡ at 1 0 unknown_kind
unknown_callee = refl

unknown_bound : first_file_fault (theory 1 [] (proc (codes "main") [] [] truth
    (existential n truth) skip [] ∷ [])) ≡ at 1 0 unknown_kind
unknown_bound = refl

-- a term of the wrong sort; a block without a command; a name declared at another sort; a logic
-- variable of a sort that is none; a formula at the wrong sort
sort_of_term : first_file_fault
    (theory 1 [] (plain [] (x ∷ []) (assign x (literal null)) [] ∷ [])) ≡ at 1 0 sort_kind
sort_of_term = refl

sort_of_block : first_file_fault (theory 1 [] (plain [] [] (while_do cond_true stop) [] ∷ []))
    ≡ at 1 0 sort_kind
sort_of_block = refl

sort_of_name : first_file_fault (theory 1 []
    (plain [] (x ∷ []) (assign (named (codes "x") node_sort) (literal null)) [] ∷ []))
    ≡ at 1 0 sort_kind
sort_of_name = refl

sort_of_logic : first_file_fault (theory 1 (logic (codes "$x") (context grove tree) ∷ []) [])
    ≡ at 0 0 sort_kind
sort_of_logic = refl

sort_of_formula : first_file_fault
    (theory 1 [] (proc (codes "main") [] [] (empty forest) truth skip [] ∷ [])) ≡ at 1 0 sort_kind
sort_of_formula = refl

-- the local variable of a step has another sort than its name
sort_of_local : first_file_fault (theory 1 [] (plain [] (x ∷ []) skip
    (step 1 (rule (codes "local")) (triple truth
    (local (named (codes "x") str_sort) (skip then stop)) truth grove) ∷ []) ∷ []))
    ≡ at 1 1 sort_kind
sort_of_local = refl

-- a parameter is assigned, in the body or in a step
constant : first_file_fault (theory 1 [] (plain (a ∷ []) [] (assign a one) [] ∷ []))
    ≡ at 1 0 constant_kind
constant = refl

constant_in_step : first_file_fault (theory 1 [] (plain (a ∷ []) [] skip
    (step 1 (rule (codes "assign")) (triple truth (assign a one) truth grove) ∷ []) ∷ []))
    ≡ at 1 1 constant_kind
constant_in_step = refl

-- a result stands in the arguments
results : first_file_fault (theory 1 []
    (plain (a ∷ []) (x ∷ []) (call (x ∷ []) (codes "main") (of x ∷ [])) [] ∷ []))
    ≡ at 1 0 results_kind
results = refl

-- requires speaks of a result
scope : first_file_fault (theory 1 []
    (proc (codes "main") [] (x ∷ []) (equality (of x) one) truth skip [] ∷ []))
    ≡ at 1 0 scope_kind
scope = refl

-- a rule that isn't one, and a number that isn't the place; the first kind counts
unknown_rule : first_file_fault (theory 1 [] (plain [] [] skip
    (step 2 (rule (codes "skips")) (triple (empty grove) skip (empty grove) grove) ∷ []) ∷ []))
    ≡ at 1 1 rule_kind
unknown_rule = refl

wrong_number : first_file_fault (theory 1 [] (plain [] [] skip
    (skips ∷ step 3 auto (entails truth truth (shape grove)) ∷ []) ∷ [])) ≡ at 1 2 number_kind
wrong_number = refl

-- the earlier place counts
earlier : first_file_fault (theory 1 [] (plain [] [] skip
    (step 7 auto (entails truth truth (shape grove)) ∷ []) ∷ plain [] [] skip [] ∷ []))
    ≡ at 1 1 number_kind
earlier = refl

-- the local variables of a body count among those that a procedure declares
counts_locals : length (declared_by (plain (a ∷ []) (x ∷ []) (local b (skip then stop)) [])) ≡ 3
counts_locals = refl

-- there are 120 rules of entailment, and 13 rules and 11 axioms for triples
entailment_rules : length entailment_rule_names ≡ 120
entailment_rules = refl

triple_rules : length triple_rule_names ≡ 24
triple_rules = refl

-- local b : int { b := 1 ; x := b }
abbrev sets_locally : Command
sets_locally = local b (assign b one then (assign x (of b) then stop))

-- it changes x
changes_outer : Modifies sets_locally x
changes_outer = ((λ e. false≢true (sym (ap (same_name x) e))), inr (inl refl))

-- and not its own variable
keeps_own : Modifies sets_locally b → ⊥
keeps_own m = m.0 refl
