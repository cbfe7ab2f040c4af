-- The sorts of variables change nothing of what is written.
use Rattle.std.proofs.Common.{ℕ, List, [], ◌∷◌, ◌++◌, ◌≡◌, refl, map}
use Rattle.model_terms.specs.Variables.{Var, prog, logic, bound}
use Rattle.model_terms.specs.Terms.{Term, literal, variable, sum, difference, appended}
use Rattle.model_terms.specs.Stores.{ProgVar, named}
use Rattle.model_terms.specs.Conditions.{Cond, cond_true, cond_false, cond_variable, cond_equal, cond_at_most, cond_not, cond_and, cond_or}
use Rattle.model_formulas.specs.Formulas.{Named, truth, falsity, conjunction, disjunction, implication, negation, existential, universal, equality, at_most, empty, bare_hole, node_formula, one_tree, one_root, concatenation, grove_sum, grove_sum_hole, application, hole_adjoint, context_adjoint, same_as, length_is, value_meets}
use Rattle.model_commands.specs.Commands.{Command, skip, block, assign, create_node, node_name, child_nodes, parent_node, list_item, append_child, remove_child, insert_before, if_else, while_do, local, call, Block, stop, ◌then◌}
use Rattle.model_commands.specs.Theories.{JudgementOf, entails, triple, Reason, auto, by_rule, StepOf, ProcedureOf, Theory}
use Rattle.model_text.specs.Lexemes.{Lexeme, name_lexeme, step_word}
use Rattle.model_grammar.specs.Words.{the, ◌⌢◌}
use Rattle.model_grammar.specs.Sorts.{Declared, sorted_name, sorted_var, sorted_term, sorted_formula, sorted_cond, sorted_command, sorted_block, sorted_reason, sorted_judgement, sorted_step, declared_in, sorted_procedure, with_sorts}
use Rattle.model_grammar.specs.Writing.{name_lexemes, var_lexemes, term_lexemes, braced, bracketed, cond_lexemes, value_sort_lexemes, in_brackets, command_lexemes, block_lexemes, further_commands}
use Rattle.model_grammar.specs.TheoryWriting.{quantified, star_sign, at_sign, into_sign, formula_lexemes, argument_lexemes, reason_lexemes, word_lexemes, judgement_lexemes, sort_lexemes, data_sort_lexemes, step_line, procedure_lines, procedures_lines, declaration_lexemes, theory_lines, number_lexemes, logic_line}
use Rattle.model_round_trip.proofs.Resorted.{map_twice, procedure_with}

abbrev left_set : List Lexeme → List Lexeme → List Lexeme
left_set left right = left ⌢ the ":=" ⌢ right

module _ (d : Declared) where
  name_kept : (x : ProgVar) → name_lexemes (sorted_name d x) ≡ name_lexemes x
  name_kept (named name s) = refl

  var_kept : (x : Var) → var_lexemes (sorted_var d x) ≡ var_lexemes x
  var_kept (prog name s) = refl
  var_kept (logic name s) = refl
  var_kept (bound i s) = refl

  term_kept : (a : Term) → term_lexemes (sorted_term d a) ≡ term_lexemes a
  term_kept (literal v) = refl
  term_kept (variable x) = var_kept x
  term_kept (sum a b) = λ j. braced (term_kept a j) (the "+") (term_kept b j)
  term_kept (difference a b) = λ j. braced (term_kept a j) (the "-") (term_kept b j)
  term_kept (appended a b) = λ j. braced (term_kept a j) (the "++") (term_kept b j)

  pub formula_kept : (p : Named) → formula_lexemes (sorted_formula d p) ≡ formula_lexemes p
  formula_kept truth = refl
  formula_kept falsity = refl
  formula_kept (conjunction p q) = λ j. bracketed (formula_kept p j) (the "and") (formula_kept q j)
  formula_kept (disjunction p q) = λ j. bracketed (formula_kept p j) (the "or") (formula_kept q j)
  formula_kept (implication p q) = λ j. bracketed (formula_kept p j) (the "->") (formula_kept q j)
  formula_kept (negation p) = λ j. the "(" ⌢ the "not" ⌢ formula_kept p j ⌢ the ")"
  formula_kept (existential x p) =
      λ j. quantified (the "exists") (var_kept x j) (formula_kept p j)
  formula_kept (universal x p) = λ j. quantified (the "forall") (var_kept x j) (formula_kept p j)
  formula_kept (equality a b) = λ j. term_kept a j ⌢ the "=" ⌢ term_kept b j
  formula_kept (at_most a b) = λ j. term_kept a j ⌢ the "<=" ⌢ term_kept b j
  formula_kept (empty k) = refl
  formula_kept (bare_hole k) = refl
  formula_kept (node_formula a b p c) =
      λ j. term_kept a j ⌢ the "#" ⌢ term_kept b j ⌢ the "[" ⌢ formula_kept p j ⌢ the "]"
      ⌢ the "%" ⌢ term_kept c j
  formula_kept (one_tree p) = λ j. the "<" ⌢ formula_kept p j ⌢ the ">"
  formula_kept (one_root p) = λ j. the "[" ⌢ formula_kept p j ⌢ the "]"
  formula_kept (concatenation side p q) =
      λ j. bracketed (formula_kept p j) (star_sign side) (formula_kept q j)
  formula_kept (grove_sum p q) =
      λ j. bracketed (formula_kept p j) (the "+") (formula_kept q j)
  formula_kept (grove_sum_hole p q) =
      λ j. bracketed (formula_kept p j) (the ".+") (formula_kept q j)
  formula_kept (application k p q) =
      λ j. bracketed (formula_kept p j) (at_sign k) (formula_kept q j)
  formula_kept (hole_adjoint p q) =
      λ j. bracketed (formula_kept p j) (the "-o") (formula_kept q j)
  formula_kept (context_adjoint k p q) =
      λ j. bracketed (formula_kept p j) (into_sign k) (formula_kept q j)
  formula_kept (same_as a) = term_kept a
  formula_kept (length_is a) = λ j. the "len" ⌢ term_kept a j
  formula_kept (value_meets s a p) =
      λ j. bracketed (term_kept a j) (the "is") (formula_kept p j)

  cond_kept : (c : Cond) → cond_lexemes (sorted_cond d c) ≡ cond_lexemes c
  cond_kept cond_true = refl
  cond_kept cond_false = refl
  cond_kept (cond_variable x) = name_kept x
  cond_kept (cond_equal a b) = λ j. term_kept a j ⌢ the "=" ⌢ term_kept b j
  cond_kept (cond_at_most a b) = λ j. term_kept a j ⌢ the "<=" ⌢ term_kept b j
  cond_kept (cond_not c) = λ j. the "(" ⌢ the "not" ⌢ cond_kept c j ⌢ the ")"
  cond_kept (cond_and c e) = λ j. bracketed (cond_kept c j) (the "and") (cond_kept e j)
  cond_kept (cond_or c e) = λ j. bracketed (cond_kept c j) (the "or") (cond_kept e j)

  names_kept : (xs : List ProgVar)
      → map name_lexemes (map (sorted_name d) xs) ≡ map name_lexemes xs
  names_kept = map_twice name_lexemes (sorted_name d) name_lexemes name_kept

  terms_kept : (es : List Term) → map term_lexemes (map (sorted_term d) es) ≡ map term_lexemes es
  terms_kept = map_twice term_lexemes (sorted_term d) term_lexemes term_kept

  mutual
    pub command_kept : (c : Command) → command_lexemes (sorted_command d c) ≡ command_lexemes c
    command_kept skip = refl
    command_kept (block b) = block_kept b
    command_kept (assign x a) = λ j. left_set (name_kept x j) (term_kept a j)
    command_kept (create_node x a) =
        λ j. left_set (name_kept x j) (the "createNode" ⌢ in_brackets (term_kept a j ∷ []))
    command_kept (node_name x a) =
        λ j. left_set (name_kept x j) (the "nodeName" ⌢ in_brackets (term_kept a j ∷ []))
    command_kept (child_nodes x a) =
        λ j. left_set (name_kept x j) (the "childNodes" ⌢ in_brackets (term_kept a j ∷ []))
    command_kept (parent_node x a) =
        λ j. left_set (name_kept x j) (the "parentNode" ⌢ in_brackets (term_kept a j ∷ []))
    command_kept (list_item x a b) =
        λ j. left_set (name_kept x j)
        (the "item" ⌢ in_brackets (term_kept a j ∷ term_kept b j ∷ []))
    command_kept (append_child a b) =
        λ j. the "appendChild" ⌢ in_brackets (term_kept a j ∷ term_kept b j ∷ [])
    command_kept (remove_child a b) =
        λ j. the "removeChild" ⌢ in_brackets (term_kept a j ∷ term_kept b j ∷ [])
    command_kept (insert_before a b c) =
        λ j. the "insertBefore" ⌢ in_brackets (term_kept a j ∷ term_kept b j ∷ term_kept c j ∷ [])
    command_kept (if_else c a b) =
        λ j. the "if" ⌢ cond_kept c j ⌢ block_kept a j ⌢ the "else" ⌢ block_kept b j
    command_kept (while_do c b) = λ j. the "while" ⌢ cond_kept c j ⌢ block_kept b j
    command_kept (local (named name s) b) =
        λ j. the "local" ⌢ name_lexeme name ∷ [] ⌢ the ":" ⌢ value_sort_lexemes s
        ⌢ block_kept b j
    command_kept (call results name arguments) =
        λ j. the "call" ⌢ in_brackets (names_kept results j) ⌢ the ":=" ⌢ name_lexeme name ∷ []
        ⌢ in_brackets (terms_kept arguments j)

    block_kept : (b : Block) → block_lexemes (sorted_block d b) ≡ block_lexemes b
    block_kept stop = refl
    block_kept (c then b) = λ j. the "{" ⌢ command_kept c j ⌢ further_kept b j ⌢ the "}"

    further_kept : (b : Block) → further_commands (sorted_block d b) ≡ further_commands b
    further_kept stop = refl
    further_kept (c then b) = λ j. the ";" ⌢ command_kept c j ⌢ further_kept b j

  arguments_kept : (es : List Term)
      → argument_lexemes (map (sorted_term d) es) ≡ argument_lexemes es
  arguments_kept [] = refl
  arguments_kept (a ∷ es) = λ j. the "with" ⌢ in_brackets (term_kept a j ∷ terms_kept es j)

  reason_kept : (v : ℕ) (r : Reason)
      → reason_lexemes v (sorted_reason d r) ≡ reason_lexemes v r
  reason_kept v auto = refl
  reason_kept v (by_rule name premises arguments) =
      λ j. the "by" ⌢ word_lexemes v name ⌢ in_brackets (map number_lexemes premises)
      ⌢ arguments_kept arguments j

  judgement_kept : (w : JudgementOf Named)
      → judgement_lexemes (sorted_judgement d w) ≡ judgement_lexemes w
  judgement_kept (entails p q s) =
      λ j. formula_kept p j ⌢ the "entails" ⌢ formula_kept q j ⌢ the "at" ⌢ sort_lexemes s
  judgement_kept (triple p c q k) =
      λ j. the "pre" ⌢ formula_kept p j ⌢ the "do" ⌢ command_kept c j ⌢ the "post"
      ⌢ formula_kept q j ⌢ the "at" ⌢ data_sort_lexemes k

  step_kept : (v : ℕ) (step : StepOf Named) → step_line v (sorted_step d step) ≡ step_line v step
  step_kept v step =
      λ j. step_word step.line ∷ [] ⌢ number_lexemes step.number ⌢ reason_kept v step.reason j
      ⌢ the ":" ⌢ judgement_kept step.judgement j ⌢ the ";"

  pub procedure_kept : (v : ℕ) (f : ProcedureOf Named)
      → procedure_lines v (procedure_with d f) ≡ procedure_lines v f
  procedure_kept v f =
      λ j. (the "proc" ⌢ name_lexeme f.name ∷ [] ⌢ in_brackets (map declaration_lexemes f.params)
      ⌢ the "returns" ⌢ in_brackets (map declaration_lexemes f.results) ⌢ the "sort"
      ⌢ data_sort_lexemes f.sort)
      ∷ (the "requires" ⌢ formula_kept f.pre j) ∷ (the "ensures" ⌢ formula_kept f.post j)
      ∷ (the "body" ⌢ command_kept f.body j) ∷ the "proof"
      ∷ (map_twice (step_line v) (sorted_step d) (step_line v) (step_kept v) f.proof j
      ++ the "end" ∷ [])

procedures_kept : (v : ℕ) (logics : List Var) (fs : List (ProcedureOf Named))
    → procedures_lines v (map (sorted_procedure logics) fs) ≡ procedures_lines v fs
procedures_kept v logics [] = refl
procedures_kept v logics (f ∷ fs) =
    λ j. procedure_kept (declared_in logics f) v f j ++ procedures_kept v logics fs j

pub theory_kept : (theory : Theory) → theory_lines (with_sorts theory) ≡ theory_lines theory
theory_kept theory =
    λ j. (the "domlogic" ⌢ number_lexemes theory.version)
    ∷ (map logic_line theory.logic
    ++ procedures_kept theory.version theory.logic theory.procedures j)
