-- The generated theory can be written, has the sorts of its declarations, and literals of UTF-8.
use Rattle.std.proofs.Common.{◌≡◌, ℕ, zero, suc, ◌+◌, ◌≤◌, Bool, true, false, not, ◌&&◌, cond, bytes_eq, List, [], ◌∷◌, ◌++◌, map, codes, refl, arith}
use Rattle.std.specs.List.{list_all}
use Rattle.std.specs.Fmt.{decimal}
use Rattle.model_shapes.proofs.Truth.{both_true}
use Rattle.model_text.specs.Versions.{insert_word, IsOfVersion}
use Rattle.std.specs.Str.{IsUtf8}
use Rattle.model_terms.specs.Terms.{Term, variable}
use Rattle.model_formulas.specs.Formulas.{Named}
use Rattle.model_commands.specs.Theories.{StepOf}
use Rattle.model_commands.specs.Commands.{block, stop, ◌then◌}
use Rattle.model_text.specs.Lexemes.{Lexeme, terminal, step_word, name_lexeme, logic_lexeme, number_lexeme, literal_lexeme, bad_lexeme, reserved_words}
use Rattle.model_text.proofs.Computing.{lexing}
use Rattle.model_grammar.specs.Sorts.{sorted_procedure, with_sorts}
use Rattle.model_grammar.specs.Terms.{in_formula}
use Rattle.model_grammar.specs.TheoryWriting.{procedure_lines, procedures_lines, theory_lines}
use Rattle.model_grammar.specs.Writable.{Each, IsName, IsLogicName, IsWritableTerm, IsWritable, IsWritableCommand}
use Rattle.model_round_trip.specs.Writable.{IsWord, IsNumeral, IsWritableReason, IsWritableJudgement, IsWritableStep, IsWritableProcedure, IsWritableTheory}
use Rattle.model_round_trip.specs.Literals.{LiteralsAreUtf8}
use Rattle.model_round_trip.proofs.Versions.{plain}
use Rattle.rule_table.proofs.SomeLetters.{◌&◌}
use Rattle.model_generator.specs.Made.{most_makers}
use Rattle.model_generator.specs.Generated.{x_term, some_node, some_list, beginning, new_root, some_root, nothing_yet, creation, body, proof, maker, makers, generated_theory}
use Rattle.generator_laws.proofs.FileNames.{name_is_name, text_is_utf8}

-- THE WORDS
x_is_name : IsName (codes "x")
unfolding lexing
x_is_name = refl

n_is_logic : IsLogicName (codes "$n")
unfolding lexing
n_is_logic = refl

m_is_logic : IsLogicName (codes "$m")
unfolding lexing
m_is_logic = refl

create_is_word : IsWord (codes "create")
unfolding lexing
create_is_word = refl

and_left_is_word : IsWord (codes "and_left")
unfolding lexing
and_left_is_word = refl

eq_refl_is_word : IsWord (codes "eq_refl")
unfolding lexing
eq_refl_is_word = refl

and_in_is_word : IsWord (codes "and_in")
unfolding lexing
and_in_is_word = refl

exists_in_is_word : IsWord (codes "exists_in")
unfolding lexing
exists_in_is_word = refl

consequence_is_word : IsWord (codes "consequence")
unfolding lexing
consequence_is_word = refl

seq_is_word : IsWord (codes "seq")
unfolding lexing
seq_is_word = refl

local_is_word : IsWord (codes "local")
unfolding lexing
local_is_word = refl

-- WHAT CAN BE WRITTEN
step_writable : {step : StepOf Named} → IsNumeral step.number → IsWritableReason step.reason
    → IsWritableJudgement step.judgement → IsWritableStep step
step_writable number reason judgement =
    record { number = number; reason = reason; judgement = judgement }

beginning_writable : IsWritable beginning
beginning_writable = (tt, (x_is_name, tt))

module _ (k : ℕ) where
  nothing_yet_writable : IsWritable (nothing_yet k)
  nothing_yet_writable = (tt, (tt, tt))

  new_root_writable : (number : Term) → IsWritableTerm in_formula number
      → IsWritable (new_root k number)
  new_root_writable number h = (m_is_logic, (tt, h, tt, m_is_logic))

  new_one_writable : IsWritable (new_root k x_term)
  new_one_writable = new_root_writable x_term x_is_name

  some_root_writable : IsWritable (some_root k)
  some_root_writable = (n_is_logic, new_root_writable (variable some_node) n_is_logic)

  creation_writable : IsWritableCommand (creation k)
  creation_writable = (x_is_name, tt)

  block_writable : IsWritableCommand (block (creation k then stop))
  block_writable = (creation_writable, tt)

  body_writable : IsWritableCommand (body k)
  body_writable = (x_is_name, block_writable)

  proof_writable : Each IsWritableStep (proof k)
  proof_writable =
      step_writable (omega arith) (create_is_word, tt, tt)
      (nothing_yet_writable, creation_writable, new_one_writable)
      & step_writable (omega arith) (and_left_is_word, tt, tt) (beginning_writable, tt, refl)
      & step_writable (omega arith) (eq_refl_is_word, tt, tt) (beginning_writable, (tt, tt), refl)
      & step_writable (omega arith) (and_in_is_word, (omega arith, (omega arith, tt)), tt)
      (beginning_writable, nothing_yet_writable, refl)
      & step_writable (omega arith) (exists_in_is_word, tt, (x_is_name, tt))
      (new_one_writable, some_root_writable, refl)
      & step_writable (omega arith)
      (consequence_is_word, (omega arith, (omega arith, (omega arith, tt))), tt)
      (beginning_writable, creation_writable, some_root_writable)
      & step_writable (omega arith) (seq_is_word, (omega arith, tt), tt)
      (beginning_writable, block_writable, some_root_writable)
      & step_writable (omega arith) (local_is_word, (omega arith, tt), tt)
      (tt, body_writable, some_root_writable)
      & tt

  maker_writable : k ≤ most_makers → IsWritableProcedure (maker k)
  maker_writable small = record {
    name = name_is_name k small;
    params = tt;
    results = tt;
    pre = tt;
    post = some_root_writable;
    body = body_writable;
    proof = proof_writable;
  }

makers_writable : (first n : ℕ) → first + n ≤ suc most_makers
    → Each IsWritableProcedure (makers first n)
makers_writable first zero small = tt
makers_writable first (suc n) small =
    (maker_writable first (omega arith), makers_writable (first + 1) n (omega arith))

-- THE WORDS of the file are those of version 1, by computing
abbrev is_of_first : Lexeme → Bool
is_of_first (terminal text) = not (bytes_eq text insert_word)
is_of_first lexeme = true

and_false : (b : Bool) → (b && false) ≡ false
and_false true = refl
and_false false = refl

tested_word : (lexeme : Lexeme) → is_of_first lexeme ≡ true → IsOfVersion 1 lexeme
tested_word (terminal text) e = by_test (bytes_eq text insert_word) e
  where
    by_test : (b : Bool) → not b ≡ true → (b && true) ≡ false
    by_test true e = absurd cc
    by_test false e = refl
tested_word (name_lexeme name) e = and_false (bytes_eq name insert_word)
tested_word (step_word line) e = tt
tested_word (logic_lexeme name) e = tt
tested_word (number_lexeme n) e = tt
tested_word (literal_lexeme text) e = tt
tested_word bad_lexeme e = tt

tested_line : (line : List Lexeme) → list_all is_of_first line ≡ true
    → Each (IsOfVersion 1) line
tested_line [] e = tt
tested_line (x ∷ line) e =
    let h = both_true (is_of_first x) (list_all is_of_first line) e in
    (tested_word x h.0, tested_line line h.1)

tested_lines : (lines : List (List Lexeme)) → list_all (list_all is_of_first) lines ≡ true
    → Each (Each (IsOfVersion 1)) lines
tested_lines [] e = tt
tested_lines (line ∷ lines) e =
    let h = both_true (list_all is_of_first line) (list_all (list_all is_of_first) lines) e in
    (tested_line line h.0, tested_lines lines h.1)

maker_words : (k : ℕ) (rest : List (List Lexeme)) → list_all (list_all is_of_first) rest ≡ true
    → list_all (list_all is_of_first) (procedure_lines 1 (maker k) ++ rest) ≡ true
unfolding reserved_words
maker_words k rest e = e

makers_words : (first n : ℕ)
    → list_all (list_all is_of_first) (procedures_lines 1 (makers first n)) ≡ true
makers_words first zero = refl
makers_words first (suc n) =
    maker_words first (procedures_lines 1 (makers (first + 1) n)) (makers_words (first + 1) n)

file_words : (n : ℕ)
    → list_all (list_all is_of_first) (theory_lines (generated_theory n)) ≡ true
file_words n = makers_words 1 n

-- so they are plain
one_plain : (lexeme : Lexeme) → is_of_first lexeme ≡ true → plain lexeme ≡ lexeme
one_plain (terminal text) e = by_test (bytes_eq text insert_word) e
  where
    by_test : (b : Bool) → not b ≡ true
        → cond b (name_lexeme text) (terminal text) ≡ terminal text
    by_test true e = absurd cc
    by_test false e = refl
one_plain (name_lexeme name) e = refl
one_plain (step_word line) e = refl
one_plain (logic_lexeme name) e = refl
one_plain (number_lexeme n) e = refl
one_plain (literal_lexeme text) e = refl
one_plain bad_lexeme e = refl

plain_line : (line : List Lexeme) → list_all is_of_first line ≡ true → map plain line ≡ line
plain_line [] e = refl
plain_line (x ∷ line) e =
    let h = both_true (is_of_first x) (list_all is_of_first line) e in
    λ j. one_plain x h.0 j ∷ plain_line line h.1 j

plain_lines : (lines : List (List Lexeme)) → list_all (list_all is_of_first) lines ≡ true
    → map (map plain) lines ≡ lines
plain_lines [] e = refl
plain_lines (line ∷ lines) e =
    let h = both_true (list_all is_of_first line) (list_all (list_all is_of_first) lines) e in
    λ j. plain_line line h.0 j ∷ plain_lines lines h.1 j

pub file_plain : (n : ℕ) → map (map plain) (theory_lines (generated_theory n))
    ≡ theory_lines (generated_theory n)
file_plain n = plain_lines (theory_lines (generated_theory n)) (file_words n)

pub theory_writable : (n : ℕ) → 1 ≤ n → n ≤ most_makers → IsWritableTheory (generated_theory n)
theory_writable zero some small = absurd (omega arith)
theory_writable (suc n) some small = record {
  version = omega arith;
  logic = ((m_is_logic, refl), ((n_is_logic, refl), tt));
  some = tt;
  procedures = makers_writable 1 (suc n) (omega arith);
  words = tested_lines (theory_lines (generated_theory (suc n))) (file_words (suc n));
}

-- THE SORTS are those that are declared
makers_sorted : (first n : ℕ)
    → map (sorted_procedure (some_list ∷ some_node ∷ [])) (makers first n) ≡ makers first n
makers_sorted first zero = refl
makers_sorted first (suc n) = λ i. maker first ∷ makers_sorted (first + 1) n i

pub theory_sorted : (n : ℕ) → with_sorts (generated_theory n) ≡ generated_theory n
theory_sorted n = λ i. record {
  version = 1;
  logic = some_list ∷ some_node ∷ [];
  procedures = makers_sorted 1 n i;
}

-- THE LITERALS: their texts on a line, before others, and on lines
abbrev texts_before : List Lexeme → List (List ℕ) → List (List ℕ)
texts_before [] more = more
texts_before (terminal text ∷ rest) more = texts_before rest more
texts_before (step_word line ∷ rest) more = texts_before rest more
texts_before (name_lexeme name ∷ rest) more = texts_before rest more
texts_before (logic_lexeme name ∷ rest) more = texts_before rest more
texts_before (number_lexeme n ∷ rest) more = texts_before rest more
texts_before (literal_lexeme text ∷ rest) more = text ∷ texts_before rest more
texts_before (bad_lexeme ∷ rest) more = texts_before rest more

abbrev texts_in : List (List Lexeme) → List (List ℕ)
texts_in [] = []
texts_in (line ∷ rest) = texts_before line (texts_in rest)

line_literals : (line : List Lexeme) (more : List (List ℕ)) → Each IsUtf8 (texts_before line more)
    → LiteralsAreUtf8 line × Each IsUtf8 more
line_literals [] more h = (tt, h)
line_literals (terminal text ∷ rest) more h =
    let r = line_literals rest more h in ((tt, r.0), r.1)
line_literals (step_word line ∷ rest) more h =
    let r = line_literals rest more h in ((tt, r.0), r.1)
line_literals (name_lexeme name ∷ rest) more h =
    let r = line_literals rest more h in ((tt, r.0), r.1)
line_literals (logic_lexeme name ∷ rest) more h =
    let r = line_literals rest more h in ((tt, r.0), r.1)
line_literals (number_lexeme n ∷ rest) more h =
    let r = line_literals rest more h in ((tt, r.0), r.1)
line_literals (literal_lexeme text ∷ rest) more h =
    let r = line_literals rest more h.1 in ((h.0, r.0), r.1)
line_literals (bad_lexeme ∷ rest) more h =
    let r = line_literals rest more h in ((tt, r.0), r.1)

lines_literals : (lines : List (List Lexeme)) → Each IsUtf8 (texts_in lines)
    → Each LiteralsAreUtf8 lines
lines_literals [] h = tt
lines_literals (line ∷ rest) h =
    let r = line_literals line (texts_in rest) h in (r.0, lines_literals rest r.1)

-- each literal of a procedure stands for its own text
abbrev copies : ℕ → List ℕ → List (List ℕ) → List (List ℕ)
copies zero text more = more
copies (suc n) text more = text ∷ copies n text more

each_copy : (n : ℕ) (text : List ℕ) (more : List (List ℕ)) → IsUtf8 text → Each IsUtf8 more
    → Each IsUtf8 (copies n text more)
each_copy zero text more h others = others
each_copy (suc n) text more h others = (h, each_copy n text more h others)

makers_texts : (first n : ℕ) → first + n ≤ suc most_makers
    → Each IsUtf8 (texts_in (procedures_lines 1 (makers first n)))
unfolding reserved_words
makers_texts first zero small = tt
makers_texts first (suc n) small =
    each_copy 18 (codes "t" ++ decimal first) (texts_in (procedures_lines 1 (makers (first + 1) n)))
    (text_is_utf8 first (omega arith)) (makers_texts (first + 1) n (omega arith))

pub theory_literals : (n : ℕ) → n ≤ most_makers
    → Each LiteralsAreUtf8 (theory_lines (generated_theory n))
theory_literals n small =
    lines_literals (theory_lines (generated_theory n)) (makers_texts 1 n (omega arith))
