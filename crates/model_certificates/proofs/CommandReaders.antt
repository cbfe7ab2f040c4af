-- Commands, judgements and steps are read exactly.
use Rattle.std.proofs.Common.{◌≡◌, ℕ, zero, suc, Bool, true, false, not, ◌&&◌, ◌==◌, List, [], ◌∷◌, ◌++◌, length, map, Some, refl, sym, ap, subst, ◌∙◌}
use Rattle.std.specs.List.{list_all}
use Rattle.model_shapes.specs.Sorts.{Sort, DataSort, value, shape, context}
use Rattle.model_terms.specs.Terms.{Term}
use Rattle.model_terms.specs.Stores.{ProgVar, named}
use Rattle.model_terms.specs.Conditions.{Cond}
use Rattle.model_formulas.specs.Formulas.{Named}
use Rattle.model_commands.specs.Each.{Each}
use Rattle.model_commands.specs.Commands.{Command, skip, block, assign, create_node, node_name, child_nodes, parent_node, list_item, append_child, remove_child, insert_before, if_else, while_do, local, call, Block, stop, ◌then◌}
use Rattle.model_commands.specs.Theories.{JudgementOf, entails, triple, Reason, auto, by_rule, StepOf}
use Rattle.model_text.specs.Lexemes.{name_lexeme}
use Rattle.model_grammar.specs.Words.{the, ◌⌢◌}
use Rattle.model_grammar.specs.Terms.{in_formula, in_command}
use Rattle.model_grammar.specs.Writing.{name_lexemes, term_lexemes, cond_lexemes, value_sort_lexemes, in_brackets, command_lexemes, block_lexemes, further_commands}
use Rattle.model_grammar.specs.TheoryWriting.{formula_lexemes, data_sort_lexemes, sort_lexemes, number_lexemes, word_lexemes, argument_lexemes, reason_lexemes, judgement_lexemes, step_line}
use Rattle.model_grammar.specs.Writable.{IsWritableCommand, IsWritableBlock, AreWritable}
use Rattle.model_round_trip.specs.Writable.{IsWord, IsNumeral, IsShapeSort, IsWritableReason, IsWritableJudgement, IsWritableStep}
use Rattle.model_round_trip.proofs.Versions.{seen, one_by_one, rule_of_version}
use Rattle.model_text.specs.Lexemes.{word_lexeme}
use Rattle.model_certificates.specs.Numbers.{number_bytes, all_bytes, list_bytes, IsNumber}
use Rattle.model_certificates.specs.Terms.{sort_bytes}
use Rattle.model_certificates.specs.Commands.{count, command_bytes, commands_bytes, judgement_bytes, reason_bytes, step_bytes}
use Rattle.model_certificates.specs.Bounds.{CommandFits, CommandsFit, levels, ReasonFits, JudgementFits, StepFits}
use Rattle.model_certificates.specs.Reading.{Read, both, kept, is_free, number_at, listed, word_at, prog_var_at, term_at, sort_at, formula_at}
use Rattle.model_certificates.specs.CommandReading.{in_block, has_one, block_at, inserting, command_at, reason_at, is_shape_sort, judgement_at, step_at}
use Rattle.model_certificates.proofs.Words.{and_true, are_of, are_held, parted, behind_sign, before_sign, between, between_closed, value_sort_words, data_sort_words, sort_words, in_bracket_words, mapped, on_two, set_words, set_on_one}
use Rattle.model_certificates.proofs.Exact.{Spelling, Taken, Exact, Always, every, pair, none_some, made_again, made_exact, both_exact, kept_exact, tested, tested_exact, no_more, ◌or◌, tagged_takes, variant, alone}
use Rattle.model_certificates.proofs.Leaves.{numbers, names, lists, number_exact, name_exact, word_exact, data_sort_exact, sort_exact, prog_vars, prog_var_exact, listed_exact}
use Rattle.model_certificates.proofs.TermReaders.{terms, term_exact, cond_exact}
use Rattle.model_certificates.proofs.FormulaReaders.{formulas, formula_exact}

-- ---- blocks

abbrev in_list : Block → List Command
in_list stop = []
in_list (c then b) = c ∷ in_list b

block_again : (b : Block) → in_block (in_list b) ≡ b
block_again stop = refl
block_again (c then b) = ap (λ (z : Block). c then z) (block_again b)

count_is : (cs : List Command) → count (in_block cs) ≡ length cs
count_is [] = refl
count_is (c ∷ cs) = ap suc (count_is cs)

bytes_are : (cs : List Command) → commands_bytes (in_block cs) ≡ all_bytes command_bytes cs
bytes_are [] = refl
bytes_are (c ∷ cs) = ap (λ (z : List ℕ). command_bytes c ++ z) (bytes_are cs)

block_bytes_are : (cs : List Command)
    → number_bytes (count (in_block cs)) ++ commands_bytes (in_block cs)
    ≡ list_bytes command_bytes cs
block_bytes_are cs = rw (count_is cs, bytes_are cs) refl

are_writable : (cs : List Command) → Each IsWritableCommand cs → AreWritable (in_block cs)
are_writable [] w = tt
are_writable (c ∷ cs) w = (w.0, are_writable cs w.1)

block_writable : (cs : List Command) → Each IsWritableCommand cs × (has_one cs ≡ true)
    → IsWritableBlock (in_block cs)
block_writable [] w = absurd (let e : false ≡ true = w.1 in cc)
block_writable (c ∷ cs) w = (w.0.0, are_writable cs w.0.1)

each_writable : (b : Block) → AreWritable b → Each IsWritableCommand (in_list b)
each_writable stop w = tt
each_writable (c then b) w = (w.0, each_writable b w.1)

list_writable : (b : Block) → IsWritableBlock b
    → Each IsWritableCommand (in_list b) × (has_one (in_list b) ≡ true)
list_writable stop w = absurd w
list_writable (c then b) w = ((w.0, each_writable b w.1), refl)

each_fits : (n : ℕ) (cs : List Command) → Each (CommandFits n) cs → CommandsFit n (in_block cs)
each_fits n [] f = tt
each_fits n (c ∷ cs) f = (f.0, each_fits n cs f.1)

commands_fit : (n : ℕ) (b : Block) → CommandsFit n b → Each (CommandFits n) (in_list b)
commands_fit n stop f = tt
commands_fit n (c then b) f = (f.0, commands_fit n b f.1)

abbrev pub commands : ℕ → ℕ → Spelling Command
commands v n = record {
  bytes = command_bytes;
  Writes = IsWritableCommand;
  Fits = CommandFits n;
  words = λ c. are_of v (command_lexemes c);
}

abbrev pub blocks : ℕ → ℕ → Spelling Block
blocks v n = record {
  bytes = λ b. number_bytes (count b) ++ commands_bytes b;
  Writes = IsWritableBlock;
  Fits = λ b. IsNumber (count b) × CommandsFit n b;
  words = λ b. are_of v (block_lexemes b);
}

length_is : (b : Block) → length (in_list b) ≡ count b
length_is stop = refl
length_is (c then b) = ap suc (length_is b)

-- the words of a block are those of its commands
further_words : (v : ℕ) (cs : List Command) → are_of v (further_commands (in_block cs))
    ≡ list_all (λ c. are_of v (command_lexemes c)) cs
further_words v [] = refl
further_words v (c ∷ cs) =
    parted v (command_lexemes c) (further_commands (in_block cs))
    ∙ ap (λ b. are_of v (command_lexemes c) && b) (further_words v cs)

block_words : (v : ℕ) (cs : List Command) → are_of v (block_lexemes (in_block cs))
    ≡ list_all (λ c. are_of v (command_lexemes c)) cs
block_words v [] = refl
block_words v (c ∷ cs) =
    parted v (command_lexemes c) (further_commands (in_block cs) ⌢ the "}")
    ∙ ap (λ b. are_of v (command_lexemes c) && b)
    (before_sign v (further_commands (in_block cs)) (the "}") refl ∙ further_words v cs)

pub block_exact : (v n : ℕ) {r : Read Command} → Exact r (commands v n)
    → Exact (block_at r) (blocks v n)
unfolding block_at
block_exact v n C =
    made_exact (blocks v n) in_block in_list (λ b f. block_again b)
    (kept_exact has_one (λ cs. Each IsWritableCommand cs × (has_one cs ≡ true))
    (λ cs w e. (w, e)) (λ cs w. w.0) (λ cs w. w.1) (listed_exact C))
    block_bytes_are block_writable
    (λ cs f. (subst IsNumber (sym (count_is cs)) f.0, each_fits n cs f.1))
    list_writable
    (λ b f. (subst IsNumber (sym (length_is b)) f.0, commands_fit n b f.1))
    (λ cs w. block_words v cs)

-- ---- commands

module _ (v : ℕ) where
  item_words : (x : ProgVar) (a b : Term) → are_of v (command_lexemes (list_item x a b))
      ≡ (are_of v (name_lexemes x) && (are_of v (term_lexemes a) && are_of v (term_lexemes b)))
  item_words x a b =
      set_words v x (the "item" ⌢ in_brackets (term_lexemes a ∷ term_lexemes b ∷ []))
      ∙ ap (λ z. are_of v (name_lexemes x) && z)
      (on_two v (the "item") (term_lexemes a) (term_lexemes b) refl)

  -- the word is a command in version 2 alone
  insert_words : (a b c : Term) → are_of v (command_lexemes (insert_before a b c))
      ≡ ((v == 2) && (are_of v (term_lexemes a)
      && (are_of v (term_lexemes b) && are_of v (term_lexemes c))))
  insert_words a b c =
      ap (λ z. not (not (v == 2)) && z)
      (in_bracket_words v (term_lexemes a ∷ term_lexemes b ∷ term_lexemes c ∷ [])
      ∙ ap (λ z. are_of v (term_lexemes a) && (are_of v (term_lexemes b) && z))
      (and_true (are_of v (term_lexemes c))))
      ∙ ap (λ z. z && (are_of v (term_lexemes a)
      && (are_of v (term_lexemes b) && are_of v (term_lexemes c)))) (twice (v == 2))
    where
      twice : (b : Bool) → not (not b) ≡ b
      twice true = refl
      twice false = refl

  if_words : (c : Cond) (a b : Block) → are_of v (command_lexemes (if_else c a b))
      ≡ (are_of v (cond_lexemes c) && (are_of v (block_lexemes a) && are_of v (block_lexemes b)))
  if_words c a b =
      parted v (cond_lexemes c) (block_lexemes a ⌢ the "else" ⌢ block_lexemes b)
      ∙ ap (λ z. are_of v (cond_lexemes c) && z)
      (between v (block_lexemes a) (the "else") (block_lexemes b) refl)

  local_words : (x : ProgVar) (b : Block) → are_of v (command_lexemes (local x b))
      ≡ (are_of v (name_lexemes x) && are_of v (block_lexemes b))
  local_words (named name s) b =
      between v (name_lexeme name ∷ []) (the ":" ⌢ value_sort_lexemes s) (block_lexemes b)
      (value_sort_words v s)

  call_words : (results : List ProgVar) (name : List ℕ) (arguments : List Term)
      → are_of v (command_lexemes (call results name arguments))
      ≡ (list_all (λ x. are_of v (name_lexemes x)) results
      && ((is_free v name && true) && list_all (λ a. are_of v (term_lexemes a)) arguments))
  call_words results name arguments =
      between v (in_brackets (map name_lexemes results)) (the ":=")
      (name_lexeme name ∷ in_brackets (map term_lexemes arguments)) refl
      ∙ (λ j. mapped v name_lexemes (λ x. are_of v (name_lexemes x)) (λ x. refl) results j
      && (sym (and_true (is_free v name)) j
      && mapped v term_lexemes (λ a. are_of v (term_lexemes a)) (λ a. refl) arguments j))

module _ (v n : ℕ) (C : Exact (command_at v n) (commands v n)) where
  B : Exact (block_at (command_at v n)) (blocks v n)
  B = block_exact v n C

  T : Exact (term_at v in_command n) (terms v in_command n)
  T = term_exact v in_command n

  two_terms : Exact (both (term_at v in_command n) (term_at v in_command n))
      (pair (terms v in_command n) (terms v in_command n))
  two_terms = both_exact T T

  set_to : Exact (both (prog_var_at v) (term_at v in_command n))
      (pair (prog_vars v) (terms v in_command n))
  set_to = both_exact (prog_var_exact v) T

  inserted : Exact (inserting v (both (term_at v in_command n)
      (both (term_at v in_command n) (term_at v in_command n))))
      (tested (λ a. v == 2) (pair (terms v in_command n)
      (pair (terms v in_command n) (terms v in_command n))))
  inserted = tested_exact (λ a. v == 2) (both_exact T two_terms)

  command_again : (c : Command) (rest : List ℕ) → IsWritableCommand c → CommandFits (suc n) c
      → are_of v (command_lexemes c) ≡ true
      → command_at v (suc n) (command_bytes c ++ rest) ≡ Some (c, rest)
  unfolding command_at
  command_again skip rest w f o = refl
  command_again (block b) rest w f o = made_again block B b rest w f o
  command_again (assign x a) rest w f o = made_again (λ y. assign y.0 y.1) set_to (x, a) rest w f
      (sym (set_words v x (term_lexemes a)) ∙ o)
  command_again (create_node x a) rest w f o =
      made_again (λ y. create_node y.0 y.1) set_to (x, a) rest w f
      (sym (set_on_one v x (the "createNode") (term_lexemes a) refl) ∙ o)
  command_again (node_name x a) rest w f o =
      made_again (λ y. node_name y.0 y.1) set_to (x, a) rest w f
      (sym (set_on_one v x (the "nodeName") (term_lexemes a) refl) ∙ o)
  command_again (parent_node x a) rest w f o =
      made_again (λ y. parent_node y.0 y.1) set_to (x, a) rest w f
      (sym (set_on_one v x (the "parentNode") (term_lexemes a) refl) ∙ o)
  command_again (child_nodes x a) rest w f o =
      made_again (λ y. child_nodes y.0 y.1) set_to (x, a) rest w f
      (sym (set_on_one v x (the "childNodes") (term_lexemes a) refl) ∙ o)
  command_again (list_item x a b) rest w f o =
      made_again (λ y. list_item y.0 y.1.0 y.1.1) (both_exact (prog_var_exact v) two_terms)
      (x, (a, b)) rest (w.0, (w.1, w.2)) (f.0, (f.1, f.2))
      (sym (item_words v x a b) ∙ o)
  command_again (append_child a b) rest w f o =
      made_again (λ y. append_child y.0 y.1) two_terms (a, b) rest w f
      (sym (on_two v (the "appendChild") (term_lexemes a) (term_lexemes b) refl) ∙ o)
  command_again (remove_child a b) rest w f o =
      made_again (λ y. remove_child y.0 y.1) two_terms (a, b) rest w f
      (sym (on_two v (the "removeChild") (term_lexemes a) (term_lexemes b) refl) ∙ o)
  command_again (if_else c a b) rest w f o =
      made_again (λ y. if_else y.0 y.1.0 y.1.1) (both_exact (cond_exact v n) (both_exact B B))
      (c, (a, b)) rest (w.0, (w.1, w.2)) (f.0, (f.1, f.2))
      (sym (if_words v c a b) ∙ o)
  command_again (while_do c b) rest w f o =
      made_again (λ y. while_do y.0 y.1) (both_exact (cond_exact v n) B) (c, b) rest w f
      (sym (parted v (cond_lexemes c) (block_lexemes b)) ∙ o)
  command_again (local x b) rest w f o =
      made_again (λ y. local y.0 y.1) (both_exact (prog_var_exact v) B) (x, b) rest w f
      (sym (local_words v x b) ∙ o)
  command_again (call results name arguments) rest w f o =
      made_again (λ y. call y.0 y.1.0 y.1.1)
      (both_exact (listed_exact (prog_var_exact v)) (both_exact (name_exact v) (listed_exact T)))
      (results, (name, arguments)) rest (w.0, (w.1, w.2)) (f.0, (f.1, f.2))
      (sym (call_words v results name arguments) ∙ o)
  command_again (insert_before a b c) rest w f o =
      made_again (λ y. insert_before y.0 y.1.0 y.1.1) inserted (a, (b, c)) rest
      (w.0, (w.1, w.2)) (f.0, (f.1, f.2)) (sym (insert_words v a b c) ∙ o)

  command_takes : (bs : List ℕ) (c : Command) (rest : List ℕ)
      → command_at v (suc n) bs ≡ Some (c, rest) → Taken (commands v (suc n)) bs c rest
  unfolding command_at
  command_takes = tagged_takes (commands v (suc n)) _ (
      alone skip refl tt tt refl
      or variant block B (λ x w. refl) (λ x w. w) (λ x f. f)
      (λ x w. refl)
      or variant (λ x. assign x.0 x.1) set_to (λ x w. refl) (λ x w. w) (λ x f. f)
      (λ x w. set_words v x.0 (term_lexemes x.1))
      or variant (λ x. create_node x.0 x.1) set_to (λ x w. refl) (λ x w. w) (λ x f. f)
      (λ x w. set_on_one v x.0 (the "createNode") (term_lexemes x.1) refl)
      or variant (λ x. node_name x.0 x.1) set_to (λ x w. refl) (λ x w. w) (λ x f. f)
      (λ x w. set_on_one v x.0 (the "nodeName") (term_lexemes x.1) refl)
      or variant (λ x. parent_node x.0 x.1) set_to (λ x w. refl) (λ x w. w) (λ x f. f)
      (λ x w. set_on_one v x.0 (the "parentNode") (term_lexemes x.1) refl)
      or variant (λ x. child_nodes x.0 x.1) set_to (λ x w. refl) (λ x w. w) (λ x f. f)
      (λ x w. set_on_one v x.0 (the "childNodes") (term_lexemes x.1) refl)
      or variant (λ x. list_item x.0 x.1.0 x.1.1) (both_exact (prog_var_exact v) two_terms)
      (λ x w. refl) (λ x w. (w.0, w.1.0, w.1.1)) (λ x f. (f.0, f.1.0, f.1.1))
      (λ x w. item_words v x.0 x.1.0 x.1.1)
      or variant (λ x. append_child x.0 x.1) two_terms (λ x w. refl) (λ x w. w) (λ x f. f)
      (λ x w. on_two v (the "appendChild") (term_lexemes x.0) (term_lexemes x.1) refl)
      or variant (λ x. remove_child x.0 x.1) two_terms (λ x w. refl) (λ x w. w) (λ x f. f)
      (λ x w. on_two v (the "removeChild") (term_lexemes x.0) (term_lexemes x.1) refl)
      or variant (λ x. if_else x.0 x.1.0 x.1.1) (both_exact (cond_exact v n) (both_exact B B))
      (λ x w. refl) (λ x w. (w.0, w.1.0, w.1.1)) (λ x f. (f.0, f.1.0, f.1.1))
      (λ x w. if_words v x.0 x.1.0 x.1.1)
      or variant (λ x. while_do x.0 x.1) (both_exact (cond_exact v n) B) (λ x w. refl) (λ x w. w)
      (λ x f. f)
      (λ x w. parted v (cond_lexemes x.0) (block_lexemes x.1))
      or variant (λ x. local x.0 x.1) (both_exact (prog_var_exact v) B) (λ x w. refl) (λ x w. w)
      (λ x f. f)
      (λ x w. local_words v x.0 x.1)
      or variant (λ x. call x.0 x.1.0 x.1.1)
      (both_exact (listed_exact (prog_var_exact v)) (both_exact (name_exact v) (listed_exact T)))
      (λ x w. refl) (λ x w. (w.0, w.1.0, w.1.1)) (λ x f. (f.0, f.1.0, f.1.1))
      (λ x w. call_words v x.0 x.1.0 x.1.1)
      or variant (λ x. insert_before x.0 x.1.0 x.1.1) inserted (λ x w. refl)
      (λ x w. (w.0, w.1.0, w.1.1)) (λ x f. (f.0, f.1.0, f.1.1))
      (λ x w. insert_words v x.0 x.1.0 x.1.1)
      or no_more)

pub command_exact : (v n : ℕ) → Exact (command_at v n) (commands v n)
unfolding command_at
command_exact v zero = record {
  again = λ c rest w f o. absurd f;
  takes = λ bs c rest e. absurd (none_some (c, rest) e);
}
command_exact v (suc n) = record {
  again = command_again v n (command_exact v n);
  takes = command_takes v n (command_exact v n);
}

-- ---- steps

pub numeral_exact : Exact number_at (numbers IsNumeral)
numeral_exact = number_exact IsNumeral (λ n f. f)

shape_sort_said : (s : Sort) → is_shape_sort s ≡ true → IsShapeSort s
shape_sort_said (value s) e = absurd cc
shape_sort_said (shape k) e = e
shape_sort_said (context h k) e = e

shape_sort_holds : (s : Sort) → IsShapeSort s → is_shape_sort s ≡ true
shape_sort_holds (value s) w = absurd w
shape_sort_holds (shape k) w = w
shape_sort_holds (context h k) w = w

abbrev shape_sorts : Spelling Sort
shape_sorts = record { bytes = sort_bytes; Writes = IsShapeSort; Fits = Always; words = every }

shape_sort_exact : Exact (kept is_shape_sort sort_at) shape_sorts
shape_sort_exact = kept_exact is_shape_sort IsShapeSort (λ s w e. shape_sort_said s e) (λ s w. tt)
    shape_sort_holds sort_exact

module _ (v : ℕ) where
  abbrev pub reasons : Spelling Reason
  reasons = record {
    bytes = reason_bytes;
    Writes = IsWritableReason;
    Fits = ReasonFits;
    words = λ r. are_of v (reason_lexemes v r);
  }

  rule_words : (name : List ℕ) → are_of v (word_lexemes v name) ≡ true
  rule_words name =
      ap (are_of v) (one_by_one v (word_lexeme name 0 ∷ []))
      ∙ are_held v (seen v (word_lexeme name 0) ∷ []) (rule_of_version v name, tt)

  every_number : (xs : List ℕ) → list_all (every {A = ℕ}) xs ≡ true
  every_number [] = refl
  every_number (x ∷ xs) = every_number xs

  argument_words : (arguments : List Term) → are_of v (argument_lexemes arguments)
      ≡ list_all (λ a. are_of v (term_lexemes a)) arguments
  argument_words [] = refl
  argument_words (a ∷ rest) =
      mapped v term_lexemes (λ a. are_of v (term_lexemes a)) (λ a. refl) (a ∷ rest)

  reason_words : (name premises : List ℕ) (arguments : List Term)
      → are_of v (reason_lexemes v (by_rule name premises arguments))
      ≡ (list_all (every {A = ℕ}) premises && list_all (λ a. are_of v (term_lexemes a)) arguments)
  reason_words name premises arguments =
      behind_sign v (word_lexemes v name)
      (in_brackets (map number_lexemes premises) ⌢ argument_lexemes arguments) (rule_words name)
      ∙ parted v (in_brackets (map number_lexemes premises)) (argument_lexemes arguments)
      ∙ (λ j. mapped v number_lexemes every (λ n. refl) premises j && argument_words arguments j)

  R : Exact (both word_at (both (listed number_at) (listed (term_at v in_formula levels))))
      (pair (names IsWord) (pair (lists (numbers IsNumeral))
      (lists (terms v in_formula levels))))
  R = both_exact word_exact (both_exact (listed_exact numeral_exact)
      (listed_exact (term_exact v in_formula levels)))

  reason_again : (r : Reason) (rest : List ℕ) → IsWritableReason r → ReasonFits r
      → are_of v (reason_lexemes v r) ≡ true → reason_at v (reason_bytes r ++ rest) ≡ Some (r, rest)
  unfolding reason_at
  reason_again auto rest w f o = refl
  reason_again (by_rule name premises arguments) rest w f o =
      made_again (λ x. by_rule x.0 x.1.0 x.1.1) R (name, (premises, arguments)) rest
      (w.0, (w.1, w.2)) (f.0, (f.1, f.2)) (sym (reason_words name premises arguments) ∙ o)

  pub reason_exact : Exact (reason_at v) reasons
  unfolding reason_at
  reason_exact = record {
    again = reason_again;
    takes = tagged_takes reasons _ (
        alone auto refl tt tt refl
        or variant (λ x. by_rule x.0 x.1.0 x.1.1) R (λ x w. refl) (λ x w. (w.0, w.1.0, w.1.1))
        (λ x f. (f.0, f.1.0, f.1.1)) (λ x w. reason_words x.0 x.1.0 x.1.1)
        or no_more);
  }

  abbrev pub judgements : Spelling (JudgementOf Named)
  judgements = record {
    bytes = judgement_bytes;
    Writes = IsWritableJudgement;
    Fits = JudgementFits;
    words = λ j. are_of v (judgement_lexemes j);
  }

  P : Exact (formula_at v levels) (formulas v levels)
  P = formula_exact v levels

  entails_words : (p q : Named) (s : Sort) → are_of v (judgement_lexemes (entails p q s))
      ≡ (are_of v (formula_lexemes p) && (are_of v (formula_lexemes q) && true))
  entails_words p q s =
      between v (formula_lexemes p) (the "entails")
      (formula_lexemes q ⌢ the "at" ⌢ sort_lexemes s) refl
      ∙ ap (λ z. are_of v (formula_lexemes p) && z)
      (before_sign v (formula_lexemes q) (the "at" ⌢ sort_lexemes s) (sort_words v s)
      ∙ sym (and_true (are_of v (formula_lexemes q))))

  triple_words : (p : Named) (c : Command) (q : Named) (k : DataSort)
      → are_of v (judgement_lexemes (triple p c q k))
      ≡ (are_of v (formula_lexemes p) && (are_of v (command_lexemes c)
      && (are_of v (formula_lexemes q) && true)))
  triple_words p c q k =
      between v (formula_lexemes p) (the "do")
      (command_lexemes c ⌢ the "post" ⌢ formula_lexemes q ⌢ the "at" ⌢ data_sort_lexemes k) refl
      ∙ ap (λ z. are_of v (formula_lexemes p) && z)
      (between v (command_lexemes c) (the "post")
      (formula_lexemes q ⌢ the "at" ⌢ data_sort_lexemes k) refl
      ∙ ap (λ z. are_of v (command_lexemes c) && z)
      (before_sign v (formula_lexemes q) (the "at" ⌢ data_sort_lexemes k) (data_sort_words v k)
      ∙ sym (and_true (are_of v (formula_lexemes q)))))

  judgement_again : (j : JudgementOf Named) (rest : List ℕ) → IsWritableJudgement j
      → JudgementFits j → are_of v (judgement_lexemes j) ≡ true
      → judgement_at v (judgement_bytes j ++ rest) ≡ Some (j, rest)
  unfolding judgement_at
  judgement_again (entails p q s) rest w f o =
      made_again (λ x. entails x.0 x.1.0 x.1.1) (both_exact P (both_exact P shape_sort_exact))
      (p, (q, s)) rest (w.0, (w.1, w.2)) (f.0, (f.1, tt)) (sym (entails_words p q s) ∙ o)
  judgement_again (triple p c q k) rest w f o =
      made_again (λ x. triple x.0 x.1.0 x.1.1.0 x.1.1.1)
      (both_exact P (both_exact (command_exact v levels) (both_exact P data_sort_exact)))
      (p, (c, (q, k))) rest (w.0, (w.1, (w.2, tt))) (f.0, (f.1, (f.2, tt)))
      (sym (triple_words p c q k) ∙ o)

  pub judgement_exact : Exact (judgement_at v) judgements
  unfolding judgement_at
  judgement_exact = record {
    again = judgement_again;
    takes = tagged_takes judgements _ (
        variant (λ x. entails x.0 x.1.0 x.1.1) (both_exact P (both_exact P shape_sort_exact))
        (λ x w. refl) (λ x w. (w.0, w.1.0, w.1.1)) (λ x f. (f.0, f.1.0))
        (λ x w. entails_words x.0 x.1.0 x.1.1)
        or variant (λ x. triple x.0 x.1.0 x.1.1.0 x.1.1.1)
        (both_exact P (both_exact (command_exact v levels) (both_exact P data_sort_exact)))
        (λ x w. refl) (λ x w. (w.0, w.1.0, w.1.1.0)) (λ x f. (f.0, f.1.0, f.1.1.0))
        (λ x w. triple_words x.0 x.1.0 x.1.1.0 x.1.1.1)
        or no_more);
  }

  abbrev pub steps : Spelling (StepOf Named)
  steps = record {
    bytes = step_bytes;
    Writes = IsWritableStep;
    Fits = StepFits;
    words = λ s. are_of v (step_line v s);
  }

  pub step_exact : Exact (step_at v) steps
  unfolding step_at
  step_exact =
      made_exact steps _ (λ s. (s.number, (s.line, (s.reason, s.judgement)))) (λ s f. refl)
      (both_exact numeral_exact (both_exact (number_exact Always (λ n f. tt))
      (both_exact reason_exact judgement_exact)))
      (λ x. refl)
      (λ x w. record { number = w.0; reason = w.1.1.0; judgement = w.1.1.1 })
      (λ x f. record { number = f.0; line = f.1.0; reason = f.1.1.0; judgement = f.1.1.1 })
      (λ s w. (w.number, (tt, (w.reason, w.judgement))))
      (λ s f. (f.number, (f.line, (f.reason, f.judgement))))
      (λ x w. between_closed v (reason_lexemes v x.1.1.0) (the ":")
      (judgement_lexemes x.1.1.1) (the ";") refl refl)
