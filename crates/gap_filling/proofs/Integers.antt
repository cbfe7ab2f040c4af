-- The integers of steps are those of the numbers that are written for them.
use Rattle.std.proofs.Common.{◌≡◌, ◌∙◌, ℕ, suc, ◌==◌, Bool, true, false, ◌&&◌, cond, nat_le, List, [], ◌∷◌, ◌++◌, map, bytes_eq, codes, refl, sym, ap, pos, negsuc}
use Rattle.std.specs.Prelude.{if◌then◌else◌}
use Rattle.std.specs.List.{list_all}
use Rattle.std.proofs.Math.Bool.{and-true, and_assoc}
use Rattle.std.proofs.lemmas.Bool.{and_parts}
use Rattle.std.proofs.lemmas.List.Folds.{list_all-append}
use Rattle.model_limits.specs.Limits.{standard_limits}
use Rattle.model_shapes.specs.Sorts.{DataSort, tree, forest, grove, Sort, value, shape, context, ValueSort, node_sort, list_sort, int_sort, str_sort, bool_sort}
use Rattle.model_shapes.specs.Values.{null, nolist, node_number, list_number, int, str, boolean}
use Rattle.model_terms.specs.Variables.{Var, prog, logic, bound}
use Rattle.model_terms.specs.Terms.{Term, literal, variable, sum, difference, appended}
use Rattle.model_terms.specs.Stores.{ProgVar, named}
use Rattle.model_terms.specs.Conditions.{Cond, cond_true, cond_false, cond_variable, cond_equal, cond_at_most, cond_not, cond_and, cond_or}
use Rattle.model_formulas.specs.Formulas.{Named, Side, whole, hole_left, hole_right, truth, falsity, conjunction, disjunction, implication, negation, existential, universal, equality, at_most, empty, bare_hole, node_formula, one_tree, one_root, concatenation, grove_sum, grove_sum_hole, application, hole_adjoint, context_adjoint, same_as, length_is, value_meets}
use Rattle.model_commands.specs.Commands.{Command, skip, block, assign, create_node, node_name, child_nodes, parent_node, list_item, append_child, remove_child, insert_before, if_else, while_do, local, call, Block, stop, ◌then◌}
use Rattle.model_commands.specs.CommandParts.{commands_in, commands_of, terms_of, terms_of_cond, arguments_of}
use Rattle.model_commands.specs.Theories.{JudgementOf, entails, triple, Reason, auto, by_rule, StepOf}
use Rattle.model_text.specs.Lexemes.{Lexeme, terminal, step_word, name_lexeme, is_reserved}
use Rattle.model_text.specs.Versions.{reserving, insert_word}
use Rattle.model_grammar.specs.Writing.{name_lexemes, var_lexemes, term_lexemes, cond_lexemes, value_sort_lexemes, behind_commas, in_brackets, command_lexemes, block_lexemes, further_commands}
use Rattle.model_grammar.specs.TheoryWriting.{formula_lexemes, empty_sign, hole_sign, at_sign, into_sign, star_sign, data_sort_lexemes, sort_lexemes, word_lexemes, number_lexemes, argument_lexemes, reason_lexemes, judgement_lexemes, step_line}
use Rattle.model_filling.specs.Sizes.{integers_fit, formula_integers_fit, judgement_integers_fit, step_integers_fit, offer_lexemes}
use Rattle.gap_filling.specs.Measured.{number_fits}
use Rattle.gap_filling.specs.Numbers.{citations_fit, citations_of, numbers_fit}

-- whether each number fits
abbrev fit : List Lexeme → Bool
fit = list_all number_fits

fit-append : (a b : List Lexeme) → list_all number_fits (a ++ b)
    ≡ (list_all number_fits a && list_all number_fits b)
fit-append = list_all-append number_fits

ruleset fit_rules = (fit-append, and_assoc, and-true)

-- ---- variables, sorts and signs have no number

fit-var : (x : Var) → fit (var_lexemes x) ≡ true
fit-var (prog name s) = refl
fit-var (logic name s) = refl
fit-var (bound i s) = refl

fit-name : (x : ProgVar) → fit (name_lexemes x) ≡ true
fit-name (named name s) = refl

fit-value_sort : (s : ValueSort) → fit (value_sort_lexemes s) ≡ true
fit-value_sort node_sort = refl
fit-value_sort list_sort = refl
fit-value_sort int_sort = refl
fit-value_sort str_sort = refl
fit-value_sort bool_sort = refl

fit-data_sort : (k : DataSort) → fit (data_sort_lexemes k) ≡ true
fit-data_sort tree = refl
fit-data_sort forest = refl
fit-data_sort grove = refl

fit-sort : (s : Sort) → fit (sort_lexemes s) ≡ true
fit-sort (value s) = fit-value_sort s
fit-sort (shape k) = fit-data_sort k
fit-sort (context tree tree) = refl
fit-sort (context tree forest) = refl
fit-sort (context tree grove) = refl
fit-sort (context forest tree) = refl
fit-sort (context forest forest) = refl
fit-sort (context forest grove) = refl
fit-sort (context grove tree) = refl
fit-sort (context grove forest) = refl
fit-sort (context grove grove) = refl

fit-empty : (k : DataSort) → fit (empty_sign k) ≡ true
fit-empty tree = refl
fit-empty forest = refl
fit-empty grove = refl

fit-hole : (k : DataSort) → fit (hole_sign k) ≡ true
fit-hole tree = refl
fit-hole forest = refl
fit-hole grove = refl

fit-at : (k : DataSort) → fit (at_sign k) ≡ true
fit-at tree = refl
fit-at forest = refl
fit-at grove = refl

fit-into : (k : DataSort) → fit (into_sign k) ≡ true
fit-into tree = refl
fit-into forest = refl
fit-into grove = refl

fit-star : (side : Side) → fit (star_sign side) ≡ true
fit-star whole = refl
fit-star hole_left = refl
fit-star hole_right = refl

-- ---- terms

pub fit-term : (t : Term) → fit (term_lexemes t) ≡ integers_fit t
fit-term (literal null) = refl
fit-term (literal nolist) = refl
fit-term (literal (node_number n)) = refl
fit-term (literal (list_number n)) = refl
fit-term (literal (int (pos n))) = and-true (nat_le n standard_limits.integer)
fit-term (literal (int (negsuc n))) = and-true (nat_le (suc n) standard_limits.integer)
fit-term (literal (str text)) = refl
fit-term (literal (boolean true)) = refl
fit-term (literal (boolean false)) = refl
fit-term (variable x) = fit-var x
fit-term (sum a b) = simp fit_rules (rw (fit-term a, fit-term b) refl)
fit-term (difference a b) = simp fit_rules (rw (fit-term a, fit-term b) refl)
fit-term (appended a b) = simp fit_rules (rw (fit-term a, fit-term b) refl)

-- ---- formulas

pub fit-formula : (p : Named) → fit (formula_lexemes p) ≡ formula_integers_fit p
fit-formula truth = refl
fit-formula falsity = refl
fit-formula (conjunction p q) = simp fit_rules (rw (fit-formula p, fit-formula q) refl)
fit-formula (disjunction p q) = simp fit_rules (rw (fit-formula p, fit-formula q) refl)
fit-formula (implication p q) = simp fit_rules (rw (fit-formula p, fit-formula q) refl)
fit-formula (negation p) = simp fit_rules (rw (fit-formula p) refl)
fit-formula (existential x p) = simp fit_rules (rw (fit-var x, fit-formula p) refl)
fit-formula (universal x p) = simp fit_rules (rw (fit-var x, fit-formula p) refl)
fit-formula (equality a b) = simp fit_rules (rw (fit-term a, fit-term b) refl)
fit-formula (at_most a b) = simp fit_rules (rw (fit-term a, fit-term b) refl)
fit-formula (empty k) = fit-empty k
fit-formula (bare_hole k) = fit-hole k
fit-formula (node_formula a b p c) =
    simp fit_rules (rw (fit-term a, fit-term b, fit-formula p, fit-term c) refl)
fit-formula (one_tree p) = simp fit_rules (rw (fit-formula p) refl)
fit-formula (one_root p) = simp fit_rules (rw (fit-formula p) refl)
fit-formula (concatenation side p q) =
    simp fit_rules (rw (fit-formula p, fit-star side, fit-formula q) refl)
fit-formula (grove_sum p q) = simp fit_rules (rw (fit-formula p, fit-formula q) refl)
fit-formula (grove_sum_hole p q) = simp fit_rules (rw (fit-formula p, fit-formula q) refl)
fit-formula (application k p q) =
    simp fit_rules (rw (fit-formula p, fit-at k, fit-formula q) refl)
fit-formula (hole_adjoint p q) = simp fit_rules (rw (fit-formula p, fit-formula q) refl)
fit-formula (context_adjoint k p q) =
    simp fit_rules (rw (fit-formula p, fit-into k, fit-formula q) refl)
fit-formula (same_as a) = fit-term a
fit-formula (length_is a) = fit-term a
fit-formula (value_meets s a p) = simp fit_rules (rw (fit-term a, fit-formula p) refl)

-- ---- conditions

pub fit-cond : (c : Cond) → fit (cond_lexemes c) ≡ list_all integers_fit (terms_of_cond c)
fit-cond cond_true = refl
fit-cond cond_false = refl
fit-cond (cond_variable x) = fit-name x
fit-cond (cond_equal a b) = simp fit_rules (rw (fit-term a, fit-term b) refl)
fit-cond (cond_at_most a b) = simp fit_rules (rw (fit-term a, fit-term b) refl)
fit-cond (cond_not c) = simp fit_rules (rw (fit-cond c) refl)
fit-cond (cond_and c d) =
    simp fit_rules (rw (fit-cond c, fit-cond d) (sym (list_all-append integers_fit (terms_of_cond c)
    (terms_of_cond d))))
fit-cond (cond_or c d) =
    simp fit_rules (rw (fit-cond c, fit-cond d) (sym (list_all-append integers_fit (terms_of_cond c)
    (terms_of_cond d))))

-- ---- lists in brackets

fit-behind : (parts : List (List Lexeme)) → fit (behind_commas parts) ≡ list_all fit parts
fit-behind [] = refl
fit-behind (part ∷ parts) = simp fit_rules (rw (fit-behind parts) refl)

fit-brackets : (parts : List (List Lexeme)) → fit (in_brackets parts) ≡ list_all fit parts
fit-brackets [] = refl
fit-brackets (part ∷ parts) = simp fit_rules (rw (fit-behind parts) refl)

fit-names : (names : List ProgVar) → list_all fit (map name_lexemes names) ≡ true
fit-names [] = refl
fit-names (x ∷ names) = rw (fit-name x, fit-names names) refl

fit-terms : (ts : List Term) → list_all fit (map term_lexemes ts) ≡ list_all integers_fit ts
fit-terms [] = refl
fit-terms (t ∷ ts) = rw (fit-term t, fit-terms ts) refl

fit-numbers : (ks : List ℕ) → list_all fit (map number_lexemes ks) ≡ citations_fit ks
fit-numbers [] = refl
fit-numbers (k ∷ ks) = rw (and-true (nat_le k standard_limits.integer), fit-numbers ks) refl

-- ---- commands

abbrev own_fit : Command → Bool
own_fit command = list_all integers_fit (terms_of command)

own-append : (a b : List Command) → list_all own_fit (a ++ b)
    ≡ (list_all own_fit a && list_all own_fit b)
own-append = list_all-append own_fit

mutual
  pub fit-command : (c : Command) → fit (command_lexemes c) ≡ list_all own_fit (commands_in c)
  fit-command skip = refl
  fit-command (block b) = fit-block b
  fit-command (assign (named x s) a) = simp fit_rules (rw (fit-term a) refl)
  fit-command (create_node (named x s) a) = simp fit_rules (rw (fit-term a) refl)
  fit-command (node_name (named x s) a) = simp fit_rules (rw (fit-term a) refl)
  fit-command (child_nodes (named x s) a) = simp fit_rules (rw (fit-term a) refl)
  fit-command (parent_node (named x s) a) = simp fit_rules (rw (fit-term a) refl)
  fit-command (list_item (named x s) a b) = simp fit_rules (rw (fit-term a, fit-term b) refl)
  fit-command (append_child a b) = simp fit_rules (rw (fit-term a, fit-term b) refl)
  fit-command (remove_child a b) = simp fit_rules (rw (fit-term a, fit-term b) refl)
  fit-command (insert_before a b c) =
      simp fit_rules (rw (fit-term a, fit-term b, fit-term c) refl)
  fit-command (if_else c a b) =
      simp (fit_rules, own-append) (rw (fit-cond c, fit-block a, fit-block b) refl)
  fit-command (while_do c b) = simp fit_rules (rw (fit-cond c, fit-block b) refl)
  fit-command (local (named x s) b) =
      simp fit_rules (rw (fit-value_sort s, fit-block b) refl)
  fit-command (call results name arguments) =
      fit-append (in_brackets (map name_lexemes results))
      (terminal (codes ":=") ∷ name_lexeme name ∷ in_brackets (map term_lexemes arguments))
      ∙ rw (
        fit-brackets (map name_lexemes results),
        fit-names results,
        fit-brackets (map term_lexemes arguments),
        fit-terms arguments,
      ) (sym (and-true (list_all integers_fit arguments)))

  fit-block : (b : Block) → fit (block_lexemes b) ≡ list_all own_fit (commands_of b)
  fit-block stop = refl
  fit-block (c then b) =
      simp (fit_rules, own-append) (rw (fit-command c, fit-further b) refl)

  fit-further : (b : Block) → fit (further_commands b) ≡ list_all own_fit (commands_of b)
  fit-further stop = refl
  fit-further (c then b) =
      simp (fit_rules, own-append) (rw (fit-command c, fit-further b) refl)

-- ---- steps

fit-judgement : (j : JudgementOf Named) → fit (judgement_lexemes j) ≡ judgement_integers_fit j
fit-judgement (entails p q s) =
    simp fit_rules (rw (fit-formula p, fit-formula q, fit-sort s)
    (ap (λ b. formula_integers_fit p && b) (and-true (formula_integers_fit q))))
fit-judgement (triple p c q k) =
    simp fit_rules (rw (
      fit-formula p,
      fit-command c,
      fit-formula q,
      fit-data_sort k,
      and-true (formula_integers_fit q),
    ) (turned (formula_integers_fit p) (list_all own_fit (commands_in c)) (formula_integers_fit q)))
  where
    turned : (x y z : Bool) → (x && (y && z)) ≡ (x && (z && y))
    turned true true true = refl
    turned true true false = refl
    turned true false true = refl
    turned true false false = refl
    turned false y z = refl

fit-word : (version : ℕ) (name : List ℕ) → fit (word_lexemes version name) ≡ true
fit-word version name =
    by_kind (bytes_eq name (codes "step")) (is_reserved name) (version == 2)
  where
    by_insert : (b : Bool) → fit (cond b (terminal name) (name_lexeme name) ∷ []) ≡ true
    by_insert true = refl
    by_insert false = refl

    by_kind : (s r v : Bool) → fit (cond v
        (map reserving ((if s then step_word 0
        else (if r then terminal name else name_lexeme name)) ∷ []))
        ((if s then step_word 0 else (if r then terminal name else name_lexeme name)) ∷ []))
        ≡ true
    by_kind true r true = refl
    by_kind true r false = refl
    by_kind false true true = refl
    by_kind false true false = refl
    by_kind false false true = by_insert (bytes_eq name insert_word)
    by_kind false false false = refl

fit-arguments : (ts : List Term) → fit (argument_lexemes ts) ≡ list_all integers_fit ts
fit-arguments [] = refl
fit-arguments (t ∷ ts) =
    fit-brackets (map term_lexemes (t ∷ ts)) ∙ fit-terms (t ∷ ts)

fit-reason : (version : ℕ) (r : Reason) → fit (reason_lexemes version r)
    ≡ (citations_fit (citations_of r) && list_all integers_fit (arguments_of r))
fit-reason version auto = refl
fit-reason version (by_rule name ks ts) =
    fit-append (word_lexemes version name)
    (in_brackets (map number_lexemes ks) ++ argument_lexemes ts)
    ∙ (rw (fit-word version name)
    (fit-append (in_brackets (map number_lexemes ks)) (argument_lexemes ts)
    ∙ rw (fit-brackets (map number_lexemes ks), fit-numbers ks, fit-arguments ts) refl))

pub fit-step : (version : ℕ) (step : StepOf Named)
    → fit (step_line version step) ≡ (numbers_fit step && step_integers_fit step)
fit-step version step =
    simp fit_rules (rw (fit-reason version step.reason, fit-judgement step.judgement)
    (turned (nat_le step.number standard_limits.integer)
    (citations_fit (citations_of step.reason)) (list_all integers_fit (arguments_of step.reason))
    (judgement_integers_fit step.judgement)))
  where
    turned : (n c a j : Bool)
        → (n && ((c && a) && j)) ≡ (n && (c && (j && a)))
    turned true true true true = refl
    turned true true true false = refl
    turned true true false true = refl
    turned true true false false = refl
    turned true false a j = refl
    turned false c a j = refl

-- where the numbers of the steps are in the range, the integers are exactly where all numbers are
pub fit-offer : (version : ℕ) (steps : List (StepOf Named)) → list_all numbers_fit steps ≡ true
    → fit (offer_lexemes version steps) ≡ list_all step_integers_fit steps
fit-offer version [] e = refl
fit-offer version (step ∷ steps) e =
    let h = and_parts (numbers_fit step) (list_all numbers_fit steps) e in
    fit-append (step_line version step) (offer_lexemes version steps)
    ∙ rw (fit-step version step, h.0, fit-offer version steps h.1) refl
