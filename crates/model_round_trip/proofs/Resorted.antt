-- Of the sorts that are set one after another the last alone count.
use Rattle.std.proofs.Common.{List, [], ◌∷◌, ◌++◌, ◌≡◌, refl, ◌∙◌, map}
use Rattle.std.specs.List.{flat_map}
use Rattle.std.proofs.lemmas.Grind.{flat_map-append}
use Rattle.model_shapes.specs.Sorts.{Sort}
use Rattle.model_terms.specs.Variables.{Var, prog, logic, bound}
use Rattle.model_terms.specs.Terms.{Term, literal, variable, sum, difference, appended}
use Rattle.model_terms.specs.Stores.{ProgVar, named}
use Rattle.model_terms.specs.Conditions.{Cond, cond_true, cond_false, cond_variable, cond_equal, cond_at_most, cond_not, cond_and, cond_or}
use Rattle.model_formulas.specs.Formulas.{Named, truth, falsity, conjunction, disjunction, implication, negation, existential, universal, equality, at_most, empty, bare_hole, node_formula, one_tree, one_root, concatenation, grove_sum, grove_sum_hole, application, hole_adjoint, context_adjoint, same_as, length_is, value_meets}
use Rattle.model_commands.specs.Commands.{Command, skip, block, assign, create_node, node_name, child_nodes, parent_node, list_item, append_child, remove_child, insert_before, if_else, while_do, local, call, Block, stop, ◌then◌}
use Rattle.model_commands.specs.CommandParts.{commands_of, locals, locals_of}
use Rattle.model_commands.specs.Theories.{JudgementOf, entails, triple, Reason, auto, by_rule, StepOf, ProcedureOf, Theory}
use Rattle.model_grammar.specs.Sorts.{Declared, sorted_name, sorted_var, sorted_term, sort_of_variable, sorted_formula, sorted_cond, sorted_command, sorted_block, sorted_reason, sorted_judgement, sorted_step, declared_in, sorted_procedure, with_sorts}

pub map_twice : {A B C : Type 0} (f : B → C) (g : A → B) (k : A → C) → ((x : A) → f (g x) ≡ k x)
    → (xs : List A) → map f (map g xs) ≡ map k xs
map_twice f g k same [] = refl
map_twice f g k same (x ∷ xs) = λ j. same x j ∷ map_twice f g k same xs j

module _ (d e : Declared) where
  name_resorted : (x : ProgVar) → sorted_name d (sorted_name e x) ≡ sorted_name d x
  name_resorted (named name s) = refl

  var_resorted : (x : Var) → sorted_var d (sorted_var e x) ≡ sorted_var d x
  var_resorted (prog name s) = refl
  var_resorted (logic name s) = refl
  var_resorted (bound i s) = refl

  term_resorted : (a : Term) → sorted_term d (sorted_term e a) ≡ sorted_term d a
  term_resorted (literal v) = refl
  term_resorted (variable x) = λ j. variable (var_resorted x j)
  term_resorted (sum a b) = λ j. sum (term_resorted a j) (term_resorted b j)
  term_resorted (difference a b) = λ j. difference (term_resorted a j) (term_resorted b j)
  term_resorted (appended a b) = λ j. appended (term_resorted a j) (term_resorted b j)

  -- the sort that `is` keeps of its variable
  sort_resorted : (a : Term) (s : Sort)
      → sort_of_variable (sorted_term d (sorted_term e a)) (sort_of_variable (sorted_term e a) s)
      ≡ sort_of_variable (sorted_term d a) s
  sort_resorted (literal v) s = refl
  sort_resorted (variable (prog name u)) s = refl
  sort_resorted (variable (logic name u)) s = refl
  sort_resorted (variable (bound i u)) s = refl
  sort_resorted (sum a b) s = refl
  sort_resorted (difference a b) s = refl
  sort_resorted (appended a b) s = refl

  pub formula_resorted : (p : Named) → sorted_formula d (sorted_formula e p) ≡ sorted_formula d p
  formula_resorted truth = refl
  formula_resorted falsity = refl
  formula_resorted (conjunction p q) =
      λ j. conjunction (formula_resorted p j) (formula_resorted q j)
  formula_resorted (disjunction p q) =
      λ j. disjunction (formula_resorted p j) (formula_resorted q j)
  formula_resorted (implication p q) =
      λ j. implication (formula_resorted p j) (formula_resorted q j)
  formula_resorted (negation p) = λ j. negation (formula_resorted p j)
  formula_resorted (existential x p) =
      λ j. existential (var_resorted x j) (formula_resorted p j)
  formula_resorted (universal x p) = λ j. universal (var_resorted x j) (formula_resorted p j)
  formula_resorted (equality a b) = λ j. equality (term_resorted a j) (term_resorted b j)
  formula_resorted (at_most a b) = λ j. at_most (term_resorted a j) (term_resorted b j)
  formula_resorted (empty k) = refl
  formula_resorted (bare_hole k) = refl
  formula_resorted (node_formula name number p list) =
      λ j. node_formula (term_resorted name j) (term_resorted number j) (formula_resorted p j)
      (term_resorted list j)
  formula_resorted (one_tree p) = λ j. one_tree (formula_resorted p j)
  formula_resorted (one_root p) = λ j. one_root (formula_resorted p j)
  formula_resorted (concatenation side p q) =
      λ j. concatenation side (formula_resorted p j) (formula_resorted q j)
  formula_resorted (grove_sum p q) = λ j. grove_sum (formula_resorted p j) (formula_resorted q j)
  formula_resorted (grove_sum_hole p q) =
      λ j. grove_sum_hole (formula_resorted p j) (formula_resorted q j)
  formula_resorted (application h p q) =
      λ j. application h (formula_resorted p j) (formula_resorted q j)
  formula_resorted (hole_adjoint p q) =
      λ j. hole_adjoint (formula_resorted p j) (formula_resorted q j)
  formula_resorted (context_adjoint k p q) =
      λ j. context_adjoint k (formula_resorted p j) (formula_resorted q j)
  formula_resorted (same_as a) = λ j. same_as (term_resorted a j)
  formula_resorted (length_is a) = λ j. length_is (term_resorted a j)
  formula_resorted (value_meets s a p) =
      λ j. value_meets (sort_resorted a s j) (term_resorted a j) (formula_resorted p j)

  cond_resorted : (c : Cond) → sorted_cond d (sorted_cond e c) ≡ sorted_cond d c
  cond_resorted cond_true = refl
  cond_resorted cond_false = refl
  cond_resorted (cond_variable x) = λ j. cond_variable (name_resorted x j)
  cond_resorted (cond_equal a b) = λ j. cond_equal (term_resorted a j) (term_resorted b j)
  cond_resorted (cond_at_most a b) = λ j. cond_at_most (term_resorted a j) (term_resorted b j)
  cond_resorted (cond_not c) = λ j. cond_not (cond_resorted c j)
  cond_resorted (cond_and c f) = λ j. cond_and (cond_resorted c j) (cond_resorted f j)
  cond_resorted (cond_or c f) = λ j. cond_or (cond_resorted c j) (cond_resorted f j)

  terms_resorted : (es : List Term)
      → map (sorted_term d) (map (sorted_term e) es) ≡ map (sorted_term d) es
  terms_resorted = map_twice (sorted_term d) (sorted_term e) (sorted_term d) term_resorted

  mutual
    pub command_resorted : (c : Command)
        → sorted_command d (sorted_command e c) ≡ sorted_command d c
    command_resorted skip = refl
    command_resorted (block b) = λ j. block (block_resorted b j)
    command_resorted (assign x a) = λ j. assign (name_resorted x j) (term_resorted a j)
    command_resorted (create_node x a) = λ j. create_node (name_resorted x j) (term_resorted a j)
    command_resorted (node_name x a) = λ j. node_name (name_resorted x j) (term_resorted a j)
    command_resorted (child_nodes x a) = λ j. child_nodes (name_resorted x j) (term_resorted a j)
    command_resorted (parent_node x a) = λ j. parent_node (name_resorted x j) (term_resorted a j)
    command_resorted (list_item x a b) =
        λ j. list_item (name_resorted x j) (term_resorted a j) (term_resorted b j)
    command_resorted (append_child a b) =
        λ j. append_child (term_resorted a j) (term_resorted b j)
    command_resorted (remove_child a b) =
        λ j. remove_child (term_resorted a j) (term_resorted b j)
    command_resorted (insert_before a b c) =
        λ j. insert_before (term_resorted a j) (term_resorted b j) (term_resorted c j)
    command_resorted (if_else c a b) =
        λ j. if_else (cond_resorted c j) (block_resorted a j) (block_resorted b j)
    command_resorted (while_do c b) = λ j. while_do (cond_resorted c j) (block_resorted b j)
    command_resorted (local x b) = λ j. local x (block_resorted b j)
    command_resorted (call results name arguments) =
        λ j. call
        (map_twice (sorted_name d) (sorted_name e) (sorted_name d) name_resorted results j) name
        (terms_resorted arguments j)

    block_resorted : (b : Block) → sorted_block d (sorted_block e b) ≡ sorted_block d b
    block_resorted stop = refl
    block_resorted (c then b) = λ j. command_resorted c j then block_resorted b j

  reason_resorted : (r : Reason) → sorted_reason d (sorted_reason e r) ≡ sorted_reason d r
  reason_resorted auto = refl
  reason_resorted (by_rule name premises arguments) =
      λ j. by_rule name premises (terms_resorted arguments j)

  judgement_resorted : (w : JudgementOf Named)
      → sorted_judgement d (sorted_judgement e w) ≡ sorted_judgement d w
  judgement_resorted (entails p q s) =
      λ j. entails (formula_resorted p j) (formula_resorted q j) s
  judgement_resorted (triple p c q k) =
      λ j. triple (formula_resorted p j) (command_resorted c j) (formula_resorted q j) k

  step_resorted : (step : StepOf Named) → sorted_step d (sorted_step e step) ≡ sorted_step d step
  step_resorted step = λ j. record {
    number = step.number;
    line = step.line;
    reason = reason_resorted step.reason j;
    judgement = judgement_resorted step.judgement j;
  }

-- ---- what a body declares

module _ (d : Declared) where
  mutual
    locals_kept : (c : Command) → locals_of (sorted_command d c) ≡ locals_of c
    locals_kept skip = refl
    locals_kept (block b) = locals_in_kept b
    locals_kept (assign x a) = refl
    locals_kept (create_node x a) = refl
    locals_kept (node_name x a) = refl
    locals_kept (child_nodes x a) = refl
    locals_kept (parent_node x a) = refl
    locals_kept (list_item x a b) = refl
    locals_kept (append_child a b) = refl
    locals_kept (remove_child a b) = refl
    locals_kept (insert_before a b c) = refl
    locals_kept (if_else c a b) =
        simp flat_map-append (λ j. locals_in_kept a j ++ locals_in_kept b j)
    locals_kept (while_do c b) = locals_in_kept b
    locals_kept (local x b) = λ j. x ∷ locals_in_kept b j
    locals_kept (call results name arguments) = refl

    locals_in_kept : (b : Block) → flat_map locals (commands_of (sorted_block d b))
        ≡ flat_map locals (commands_of b)
    locals_in_kept stop = refl
    locals_in_kept (c then b) =
        simp flat_map-append (λ j. locals_kept c j ++ locals_in_kept b j)

-- ---- theories

-- a procedure with the sorts of what is declared
abbrev pub procedure_with : Declared → ProcedureOf Named → ProcedureOf Named
procedure_with d f = record {
  name = f.name;
  params = f.params;
  results = f.results;
  sort = f.sort;
  pre = sorted_formula d f.pre;
  post = sorted_formula d f.post;
  body = sorted_command d f.body;
  proof = map (sorted_step d) f.proof;
}

-- a theory each of whose procedures has the sorts that are declared for it
abbrev pub theory_with : (ProcedureOf Named → Declared) → Theory → Theory
theory_with declared theory = record {
  version = theory.version;
  logic = theory.logic;
  procedures = map (λ f. procedure_with (declared f) f) theory.procedures;
}

declared_kept : (logics : List Var) (e : Declared) (f : ProcedureOf Named)
    → declared_in logics (procedure_with e f) ≡ declared_in logics f
declared_kept logics e f = λ j. record {
  variables = f.params ++ (f.results ++ locals_kept e f.body j);
  logics = logics;
}

procedure_again : (d e : Declared) (f : ProcedureOf Named)
    → procedure_with d (procedure_with e f) ≡ procedure_with d f
procedure_again d e f = λ j. record {
  name = f.name;
  params = f.params;
  results = f.results;
  sort = f.sort;
  pre = formula_resorted d e f.pre j;
  post = formula_resorted d e f.post j;
  body = command_resorted d e f.body j;
  proof = map_twice (sorted_step d) (sorted_step e) (sorted_step d) (step_resorted d e) f.proof j;
}

procedure_resorted : (logics : List Var) (e : Declared) (f : ProcedureOf Named)
    → sorted_procedure logics (procedure_with e f) ≡ sorted_procedure logics f
procedure_resorted logics e f =
    (λ j. procedure_with (declared_kept logics e f j) (procedure_with e f))
    ∙ procedure_again (declared_in logics f) e f

pub theory_resorted : (declared : ProcedureOf Named → Declared) (theory : Theory)
    → with_sorts (theory_with declared theory) ≡ with_sorts theory
theory_resorted declared theory = λ j. record {
  version = theory.version;
  logic = theory.logic;
  procedures = map_twice (sorted_procedure theory.logic) (λ f. procedure_with (declared f) f)
      (sorted_procedure theory.logic)
      (λ f. procedure_resorted theory.logic (declared f) f) theory.procedures j;
}

-- a theory with its sorts has them
pub sorted_twice : (theory : Theory) → with_sorts (with_sorts theory) ≡ with_sorts theory
sorted_twice theory = theory_resorted (declared_in theory.logic) theory
