-- The sorts of variables change nothing of what can be written.
use Rattle.std.proofs.Common.{List, [], ◌∷◌, sym, subst, map}
use Rattle.model_terms.specs.Variables.{Var, prog, logic, bound}
use Rattle.model_terms.specs.Terms.{Term, literal, variable, sum, difference, appended}
use Rattle.model_terms.specs.Stores.{ProgVar, named}
use Rattle.model_terms.specs.Conditions.{Cond, cond_true, cond_false, cond_variable, cond_equal, cond_at_most, cond_not, cond_and, cond_or}
use Rattle.model_formulas.specs.Formulas.{Named, truth, falsity, conjunction, disjunction, implication, negation, existential, universal, equality, at_most, empty, bare_hole, node_formula, one_tree, one_root, concatenation, grove_sum, grove_sum_hole, application, hole_adjoint, context_adjoint, same_as, length_is, value_meets}
use Rattle.model_commands.specs.Commands.{Command, skip, block, assign, create_node, node_name, child_nodes, parent_node, list_item, append_child, remove_child, insert_before, if_else, while_do, local, call, Block, stop, ◌then◌}
use Rattle.model_commands.specs.Theories.{JudgementOf, entails, triple, Reason, auto, by_rule, StepOf, ProcedureOf, Theory}
use Rattle.model_grammar.specs.Terms.{Place, in_formula, in_command}
use Rattle.model_grammar.specs.Sorts.{Declared, sorted_name, sorted_var, sorted_term, sorted_formula, sorted_cond, sorted_command, sorted_block, sorted_reason, sorted_judgement, sorted_step, declared_in, sorted_procedure, with_sorts}
use Rattle.model_grammar.specs.Writable.{Each, IsWritableName, IsLogic, IsLogicTerm, IsWritableTerm, IsWritable, IsWritableCondition, IsWritableCommand, IsWritableBlock, AreWritable}
use Rattle.model_round_trip.specs.Writable.{IsWritableReason, IsWritableJudgement, IsWritableStep, IsWritableProcedure, HasOne, IsWritableTheory}
use Rattle.model_text.specs.Versions.{IsOfVersion}
use Rattle.model_round_trip.proofs.Resorted.{procedure_with}
use Rattle.model_round_trip.proofs.SameWriting.{theory_kept}

each_kept : {A : Type 0} (Can : A → Type 0) (f : A → A) → ((x : A) → Can x → Can (f x))
    → (xs : List A) → Each Can xs → Each Can (map f xs)
each_kept Can f one [] h = tt
each_kept Can f one (x ∷ xs) h = (one x h.0, each_kept Can f one xs h.1)

module _ (d : Declared) where
  name_sorted : (x : ProgVar) → IsWritableName x → IsWritableName (sorted_name d x)
  name_sorted (named name s) h = h

  logic_sorted : (x : Var) → IsLogic x → IsLogic (sorted_var d x)
  logic_sorted (logic name s) h = h
  logic_sorted (prog name s) h = h
  logic_sorted (bound i s) h = h

  logic_term_sorted : (a : Term) → IsLogicTerm a → IsLogicTerm (sorted_term d a)
  logic_term_sorted (variable x) h = logic_sorted x h
  logic_term_sorted a h = absurd h

  term_sorted : (place : Place) (a : Term) → IsWritableTerm place a
      → IsWritableTerm place (sorted_term d a)
  term_sorted place (literal v) h = h
  term_sorted place (variable (prog name s)) h = h
  term_sorted in_formula (variable (logic name s)) h = h
  term_sorted in_command (variable (logic name s)) h = h
  term_sorted place (variable (bound i s)) h = h
  term_sorted place (sum a b) h = (term_sorted place a h.0, term_sorted place b h.1)
  term_sorted place (difference a b) h = (term_sorted place a h.0, term_sorted place b h.1)
  term_sorted place (appended a b) h = (term_sorted place a h.0, term_sorted place b h.1)

  terms_sorted : (place : Place) (es : List Term) → Each (IsWritableTerm place) es
      → Each (IsWritableTerm place) (map (sorted_term d) es)
  terms_sorted place = each_kept (IsWritableTerm place) (sorted_term d) (term_sorted place)

  formula_sorted : (p : Named) → IsWritable p → IsWritable (sorted_formula d p)
  formula_sorted truth h = tt
  formula_sorted falsity h = tt
  formula_sorted (conjunction p q) h = (formula_sorted p h.0, formula_sorted q h.1)
  formula_sorted (disjunction p q) h = (formula_sorted p h.0, formula_sorted q h.1)
  formula_sorted (implication p q) h = (formula_sorted p h.0, formula_sorted q h.1)
  formula_sorted (negation p) h = formula_sorted p h
  formula_sorted (existential x p) h = (logic_sorted x h.0, formula_sorted p h.1)
  formula_sorted (universal x p) h = (logic_sorted x h.0, formula_sorted p h.1)
  formula_sorted (equality a b) h = (term_sorted in_formula a h.0, term_sorted in_formula b h.1)
  formula_sorted (at_most a b) h = (term_sorted in_formula a h.0, term_sorted in_formula b h.1)
  formula_sorted (empty k) h = h
  formula_sorted (bare_hole k) h = h
  formula_sorted (node_formula a b p c) h = (
    term_sorted in_formula a h.0,
    term_sorted in_formula b h.1,
    formula_sorted p h.2,
    term_sorted in_formula c h.3,
  )
  formula_sorted (one_tree p) h = formula_sorted p h
  formula_sorted (one_root p) h = formula_sorted p h
  formula_sorted (concatenation side p q) h = (formula_sorted p h.0, formula_sorted q h.1)
  formula_sorted (grove_sum p q) h = (formula_sorted p h.0, formula_sorted q h.1)
  formula_sorted (grove_sum_hole p q) h = (formula_sorted p h.0, formula_sorted q h.1)
  formula_sorted (application k p q) h = (formula_sorted p h.0, formula_sorted q h.1)
  formula_sorted (hole_adjoint p q) h = (formula_sorted p h.0, formula_sorted q h.1)
  formula_sorted (context_adjoint k p q) h = (formula_sorted p h.0, formula_sorted q h.1)
  formula_sorted (same_as a) h = logic_term_sorted a h
  formula_sorted (length_is a) h = term_sorted in_formula a h
  formula_sorted (value_meets s a p) h = (logic_term_sorted a h.0, formula_sorted p h.1)

  condition_sorted : (c : Cond) → IsWritableCondition c → IsWritableCondition (sorted_cond d c)
  condition_sorted cond_true h = h
  condition_sorted cond_false h = h
  condition_sorted (cond_variable x) h = name_sorted x h
  condition_sorted (cond_equal a b) h =
      (term_sorted in_command a h.0, term_sorted in_command b h.1)
  condition_sorted (cond_at_most a b) h =
      (term_sorted in_command a h.0, term_sorted in_command b h.1)
  condition_sorted (cond_not c) h = condition_sorted c h
  condition_sorted (cond_and c e) h = (condition_sorted c h.0, condition_sorted e h.1)
  condition_sorted (cond_or c e) h = (condition_sorted c h.0, condition_sorted e h.1)

  mutual
    command_sorted : (c : Command) → IsWritableCommand c → IsWritableCommand (sorted_command d c)
    command_sorted skip h = h
    command_sorted (block b) h = block_sorted b h
    command_sorted (assign x a) h = (name_sorted x h.0, term_sorted in_command a h.1)
    command_sorted (create_node x a) h = (name_sorted x h.0, term_sorted in_command a h.1)
    command_sorted (node_name x a) h = (name_sorted x h.0, term_sorted in_command a h.1)
    command_sorted (child_nodes x a) h = (name_sorted x h.0, term_sorted in_command a h.1)
    command_sorted (parent_node x a) h = (name_sorted x h.0, term_sorted in_command a h.1)
    command_sorted (list_item x a b) h =
        (name_sorted x h.0, term_sorted in_command a h.1, term_sorted in_command b h.2)
    command_sorted (append_child a b) h =
        (term_sorted in_command a h.0, term_sorted in_command b h.1)
    command_sorted (remove_child a b) h =
        (term_sorted in_command a h.0, term_sorted in_command b h.1)
    command_sorted (insert_before a b c) h =
        (term_sorted in_command a h.0, term_sorted in_command b h.1, term_sorted in_command c h.2)
    command_sorted (if_else c a b) h =
        (condition_sorted c h.0, block_sorted a h.1, block_sorted b h.2)
    command_sorted (while_do c b) h = (condition_sorted c h.0, block_sorted b h.1)
    command_sorted (local x b) h = (h.0, block_sorted b h.1)
    command_sorted (call results name arguments) h = (
      each_kept IsWritableName (sorted_name d) name_sorted results h.0,
      h.1,
      terms_sorted in_command arguments h.2,
    )

    block_sorted : (b : Block) → IsWritableBlock b → IsWritableBlock (sorted_block d b)
    block_sorted stop h = h
    block_sorted (c then b) h = (command_sorted c h.0, further_sorted b h.1)

    further_sorted : (b : Block) → AreWritable b → AreWritable (sorted_block d b)
    further_sorted stop h = h
    further_sorted (c then b) h = (command_sorted c h.0, further_sorted b h.1)

  reason_sorted : (r : Reason) → IsWritableReason r → IsWritableReason (sorted_reason d r)
  reason_sorted auto h = h
  reason_sorted (by_rule name premises arguments) h =
      (h.0, h.1, terms_sorted in_formula arguments h.2)

  judgement_sorted : (w : JudgementOf Named) → IsWritableJudgement w
      → IsWritableJudgement (sorted_judgement d w)
  judgement_sorted (entails p q s) h = (formula_sorted p h.0, formula_sorted q h.1, h.2)
  judgement_sorted (triple p c q k) h =
      (formula_sorted p h.0, command_sorted c h.1, formula_sorted q h.2)

  step_sorted : (step : StepOf Named) → IsWritableStep step → IsWritableStep (sorted_step d step)
  step_sorted step h = record {
    number = h.number;
    reason = reason_sorted step.reason h.reason;
    judgement = judgement_sorted step.judgement h.judgement;
  }

  procedure_sorted : (f : ProcedureOf Named) → IsWritableProcedure f
      → IsWritableProcedure (procedure_with d f)
  procedure_sorted f h = record {
    name = h.name;
    params = h.params;
    results = h.results;
    pre = formula_sorted f.pre h.pre;
    post = formula_sorted f.post h.post;
    body = command_sorted f.body h.body;
    proof = each_kept IsWritableStep (sorted_step d) step_sorted f.proof h.proof;
  }

pub theory_sorted : (theory : Theory) → IsWritableTheory theory
    → IsWritableTheory (with_sorts theory)
theory_sorted theory h = record {
  version = h.version;
  logic = h.logic;
  some = one_sorted theory.procedures h.some;
  procedures = each_kept IsWritableProcedure (sorted_procedure theory.logic)
      (λ f. procedure_sorted (declared_in theory.logic f) f) theory.procedures h.procedures;
  words = subst (Each (Each (IsOfVersion theory.version))) (sym (theory_kept theory)) h.words;
} where
  one_sorted : (fs : List (ProcedureOf Named)) → HasOne fs
      → HasOne (map (sorted_procedure theory.logic) fs)
  one_sorted [] h = h
  one_sorted (f ∷ fs) h = tt
