-- The reader of conditions reads what the grammar spells, and only that.
use Rattle.std.proofs.Common.{◌≡◌, ℕ, zero, suc, Bool, true, false, ◌||◌, List, [], ◌∷◌, ◌++◌, refl, sym, subst, append_assoc, codes}
use Rattle.std.specs.Prelude as std
use Rattle.model_shapes.specs.Sorts.{node_sort}
use Rattle.model_shapes.specs.Values.{null}
use Rattle.model_terms.specs.Variables.{prog}
use Rattle.model_terms.specs.Terms.{Term, literal, variable}
use Rattle.model_terms.specs.Conditions.{Cond, cond_true, cond_false, cond_variable, cond_equal, cond_at_most, cond_not, cond_and, cond_or}
use Rattle.model_text.specs.Lexemes.{Lexeme, terminal, name_lexeme}
use Rattle.model_grammar.specs.Words.{the}
use Rattle.model_grammar.specs.Terms.{used_name, in_command, a_name, SpellsTerm, program_variable, text_literal, number_literal, negative_literal, constant, operation, null_word, nolist_word, yes_word, no_word, plus_sign, minus_sign, append_sign}
use Rattle.model_grammar.specs.Commands as g
use Rattle.model_grammar.specs.Commands.{SpellsVariable, a_variable, SpellsCondition, bool_variable, comparison, joined}
use Rattle.model_text.proofs.Usual.{AreUsual, is_seen}
use Rattle.token_readers.specs.Reading.{Read, then, is_terminal}
use Rattle.logic_text.specs.TermReaders.{term_at}
use Rattle.logic_text.proofs.TermReader.{term_sound, term_only}
use Rattle.logic_text.proofs.FormulaReader.{ends_with}
use Rattle.proof_text.specs.Commands.{cond_joined_at, cond_bracket_at, lone_name, cond_compared_at, cond_at, ends_cond}
use Rattle.token_readers.proofs.Sound.{Sound, Behind, After, s_ret, s_fail, s_then, s_when, s_case, s_deep, s_close}
use Rattle.token_readers.proofs.Only.{Only, OrDeep, deep, read, o_last, o_then}

joined_sound : (n : ℕ) (condition : Read Cond) → Sound n condition SpellsCondition
    → (c : Cond) (s : List Lexeme) → SpellsCondition c s
    → Sound n (cond_joined_at condition c) (Behind s (After (terminal (codes "(")) SpellsCondition))
unfolding cond_joined_at
joined_sound n condition S c s lc =
    s_case (codes "and") (s_then _ S λ d t ld. s_close n (codes ")") refl (cond_and c d) _
    (joined lc g.and_word ld))
    (s_case (codes "or") (s_then _ S λ d t ld. s_close n (codes ")") refl (cond_or c d) _
    (joined lc g.or_word ld))
    (s_fail n (cond_and c cond_true) (terminal (codes "and") ∷ (terminal (codes "true") ∷ the ")"))
    _ (joined lc g.and_word g.true_word)
    (is_seen (codes "and") refl, (is_seen (codes "true") refl, (is_seen (codes ")") refl, tt)))))

bracket_sound : (n : ℕ) (condition : Read Cond) → Sound n condition SpellsCondition
    → Sound n (cond_bracket_at condition) (After (terminal (codes "(")) SpellsCondition)
unfolding cond_bracket_at
bracket_sound n condition S =
    s_case (codes "not") (s_then _ S λ c s lc. s_close n (codes ")") refl (cond_not c) _ (g.not lc))
    (s_then _ S λ c s lc. joined_sound n condition S c s lc)

lone_sound : (n : ℕ) (a : Term) (s : List Lexeme) → SpellsTerm in_command a s
    → (c : Cond) (t : List Lexeme) → SpellsCondition c (s ++ t) → AreUsual t
    → Sound n (lone_name a) (Behind s SpellsCondition)
lone_sound n a s (program_variable name) c t lc seen = s_ret n (cond_variable (used_name name)) _
    (bool_variable (a_variable (a_name name)))
lone_sound n a s (text_literal text) c t lc seen = s_fail n c t _ lc seen
lone_sound n a s (number_literal m h) c t lc seen = s_fail n c t _ lc seen
lone_sound n a s (negative_literal m h) c t lc seen = s_fail n c t _ lc seen
lone_sound n a s (constant null_word) c t lc seen = s_fail n c t _ lc seen
lone_sound n a s (constant nolist_word) c t lc seen = s_fail n c t _ lc seen
lone_sound n a s (constant yes_word) c t lc seen = s_fail n c t _ lc seen
lone_sound n a s (constant no_word) c t lc seen = s_fail n c t _ lc seen
lone_sound n a s (operation la plus_sign lb) c t lc seen = s_fail n c t _ lc seen
lone_sound n a s (operation la minus_sign lb) c t lc seen = s_fail n c t _ lc seen
lone_sound n a s (operation la append_sign lb) c t lc seen = s_fail n c t _ lc seen

compared_sound : (n : ℕ) (term : Read Term) → Sound n term (SpellsTerm in_command)
    → (a : Term) (s : List Lexeme) → SpellsTerm in_command a s
    → Sound (suc n) (cond_compared_at term a) (Behind s SpellsCondition)
unfolding cond_compared_at
compared_sound n term T a s la =
    s_when n (codes "=") (s_then _ T λ b t lb. s_ret n (cond_equal a b) _
    (comparison la g.equal_sign (ends_with (SpellsTerm in_command) lb)))
    (s_when n (codes "<=") (s_then _ T λ b t lb. s_ret n (cond_at_most a b) _
    (comparison la g.at_most_sign (ends_with (SpellsTerm in_command) lb)))
    (lone_sound (suc n) a s la (cond_equal a (literal null)) (terminal (codes "=") ∷ the "null")
    (comparison la g.equal_sign (constant null_word))
    (is_seen (codes "=") refl, (is_seen (codes "null") refl, tt))))

pub cond_sound : (n : ℕ) → Sound n (cond_at n) SpellsCondition
unfolding cond_at
cond_sound zero = s_deep _ _ (λ ts. refl) cond_true (the "true") g.true_word
    (is_seen (codes "true") refl, tt)
cond_sound (suc n) =
    s_when n (codes "(") (bracket_sound n (cond_at n) (cond_sound n))
    (s_when n (codes "true") (s_ret n cond_true _ g.true_word)
    (s_when n (codes "false") (s_ret n cond_false _ g.false_word)
    (s_then _ (term_sound in_command (suc n)) λ a s la. compared_sound n (term_at in_command n)
    (term_sound in_command n) a s la)))

-- WHAT IS SPELLED IS READ
-- a condition that begins with a term
term_first : (n : ℕ) (a : Term) (s x : List Lexeme) → SpellsTerm in_command a s
    → cond_at (suc n) (s ++ x) ≡ then (term_at in_command (suc n))
    (λ a. cond_compared_at (term_at in_command n) a) (s ++ x)
unfolding cond_at
term_first n a s x (program_variable name) = refl
term_first n a s x (text_literal text) = refl
term_first n a s x (number_literal m h) = refl
term_first n a s x (negative_literal m h) = refl
term_first n a s x (constant null_word) = refl
term_first n a s x (constant nolist_word) = refl
term_first n a s x (constant yes_word) = refl
term_first n a s x (constant no_word) = refl
term_first n a s x (operation la lo lb) = refl

term_then : (n : ℕ) (a : Term) (s t rest : List Lexeme) (c : Cond) (after : List Lexeme)
    → SpellsTerm in_command a s
    → OrDeep (cond_compared_at (term_at in_command n) a (t ++ rest)) c after
    → OrDeep (cond_at (suc n) ((s ++ t) ++ rest)) c after
term_then n a s t rest c after la h =
    subst (λ z. OrDeep (cond_at (suc n) z) c after) (sym (append_assoc s t rest))
    (subst (λ z. OrDeep z c after) (sym (term_first n a s (t ++ rest) la))
    (o_last _ (t ++ rest) (term_only in_command (suc n)) la refl h))

-- behind a bracket a condition doesn't begin with `not`
bracket_term : (C : Read Cond) (a : Term) (s x y z : List Lexeme) → SpellsTerm in_command a s
    → cond_bracket_at C (((s ++ x) ++ y) ++ z) ≡ then C (λ c. cond_joined_at C c)
    (((s ++ x) ++ y) ++ z)
unfolding cond_bracket_at
bracket_term C a s x y z (program_variable name) = refl
bracket_term C a s x y z (text_literal text) = refl
bracket_term C a s x y z (number_literal m h) = refl
bracket_term C a s x y z (negative_literal m h) = refl
bracket_term C a s x y z (constant null_word) = refl
bracket_term C a s x y z (constant nolist_word) = refl
bracket_term C a s x y z (constant yes_word) = refl
bracket_term C a s x y z (constant no_word) = refl
bracket_term C a s x y z (operation la lo lb) = refl

bracket_first : (C : Read Cond) (c : Cond) (s y z : List Lexeme) → SpellsCondition c s
    → cond_bracket_at C ((s ++ y) ++ z) ≡ then C (λ c. cond_joined_at C c) ((s ++ y) ++ z)
unfolding cond_bracket_at
bracket_first C c s y z g.true_word = refl
bracket_first C c s y z g.false_word = refl
bracket_first C c s y z (bool_variable (a_variable (a_name name))) = refl
bracket_first C c s y z (comparison la lo lb) = bracket_term C _ _ _ y z la
bracket_first C c s y z (g.not lc) = refl
bracket_first C c s y z (joined lc lo ld) = refl

none_of : (a b : Bool) → std.not (a || b) ≡ true → (a ≡ false) × (b ≡ false)
none_of false false e = (refl, refl)
none_of false true e = absurd cc
none_of true b e = absurd cc

variable_ends : (name : List ℕ) (T : Read Term) (rest : List Lexeme) → ends_cond rest ≡ true
    → OrDeep (cond_compared_at T (variable (prog name node_sort)) rest)
    (cond_variable (used_name name)) rest
unfolding cond_compared_at
variable_ends name T [] st = read
variable_ends name T (t ∷ ts) st =
    let h = none_of (is_terminal (codes "=") t) (is_terminal (codes "<=") t) st in
    let a : is_terminal (codes "=") t ≡ false = h.0 in
    let b : is_terminal (codes "<=") t ≡ false = h.1 in
    rw (a, b) read

cond_reads : (n : ℕ) (c : Cond) (s rest : List Lexeme) → SpellsCondition c s → ends_cond rest ≡ true
    → OrDeep (cond_at n (s ++ rest)) c rest
unfolding cond_at cond_bracket_at cond_joined_at cond_compared_at
cond_reads zero c s rest l st = deep
cond_reads (suc n) c s rest g.true_word st = read
cond_reads (suc n) c s rest g.false_word st = read
cond_reads (suc n) c s rest (bool_variable (a_variable (a_name name))) st =
    term_then n (variable (prog name node_sort)) (name_lexeme name ∷ []) [] rest _ _
    (program_variable name) (variable_ends name (term_at in_command n) rest st)
cond_reads (suc n) c s rest (comparison la g.equal_sign lb) st = term_then n _ _ _ rest _ _ la
    (o_last _ rest (term_only in_command n) lb refl read)
cond_reads (suc n) c s rest (comparison la g.at_most_sign lb) st = term_then n _ _ _ rest _ _ la
    (o_last _ rest (term_only in_command n) lb refl read)
cond_reads (suc n) c s rest (g.not lc) st =
    let S : Only (cond_at n) SpellsCondition ends_cond = record
    { only = λ c s rest l st. cond_reads n c s rest l st } in
    o_then _ _ rest S lc refl read
cond_reads (suc n) c s rest (joined lc g.and_word ld) st =
    let S : Only (cond_at n) SpellsCondition ends_cond = record
    { only = λ c s rest l st. cond_reads n c s rest l st } in
    subst (λ z. OrDeep z c rest) (sym (bracket_first (cond_at n) _ _ _ rest lc))
    (o_then _ _ rest S lc refl (o_then _ _ rest S ld refl read))
cond_reads (suc n) c s rest (joined lc g.or_word ld) st =
    let S : Only (cond_at n) SpellsCondition ends_cond = record
    { only = λ c s rest l st. cond_reads n c s rest l st } in
    subst (λ z. OrDeep z c rest) (sym (bracket_first (cond_at n) _ _ _ rest lc))
    (o_then _ _ rest S lc refl (o_then _ _ rest S ld refl read))

pub cond_only : (n : ℕ) → Only (cond_at n) SpellsCondition ends_cond
cond_only n = record { only = λ c s rest l st. cond_reads n c s rest l st }
