-- The reader of terms reads what the grammar spells, and only that.
use Rattle.model_limits.specs.Limits.{standard_limits}
use Rattle.std.proofs.Common.{◌≡◌, ℕ, zero, suc, true, false, List, [], ◌∷◌, ◌++◌, Some, refl, subst, codes, arith}
use Rattle.std.specs.Prelude.{nat_le, pos, negsuc}
use Rattle.std.proofs.lemmas.Bool.{leb-true, le-leb}
use Rattle.model_shapes.specs.Sorts.{node_sort}
use Rattle.model_shapes.specs.Values.{null, nolist, int, str, boolean}
use Rattle.model_terms.specs.Variables.{prog}
use Rattle.model_terms.specs.Terms.{Term, literal, variable, sum, difference, appended}
use Rattle.model_text.specs.Lexemes.{Lexeme, terminal, name_lexeme, logic_lexeme, number_lexeme, literal_lexeme}
use Rattle.model_grammar.specs.Terms.{used_logic, Place, in_formula, in_command, SpellsOperator, plus_sign, minus_sign, append_sign, null_word, nolist_word, yes_word, no_word, SpellsTerm, program_variable, logic_variable, text_literal, number_literal, negative_literal, constant, operation}
use Rattle.model_text.proofs.Usual.{is_seen, number_seen}
use Rattle.token_readers.specs.Reading.{Read, leaf}
use Rattle.logic_text.specs.TermReaders.{logic_at, leaf_term, negated, leaf_negative, operator_at, operation_at, word_at, term_at}
use Rattle.token_readers.proofs.Sound.{Sound, After, s_ret, s_fail, s_then, s_when, s_case, s_leaf, s_deep, s_close}
use Rattle.token_readers.proofs.Only.{Only, OrDeep, deep, read, Prefix_free, o_then}
use Rattle.logic_text.proofs.LeafReader.{chosen, taken}

logic_at_is : (place : Place) (name : List ℕ) (a : Term) → logic_at place name ≡ Some a
    → SpellsTerm place a (logic_lexeme name ∷ [])
logic_at_is in_formula name a e =
    let h : variable (used_logic name) ≡ a = cc in
    subst (λ z. SpellsTerm in_formula z (logic_lexeme name ∷ [])) h (logic_variable name)
logic_at_is in_command name a e = absurd cc

leaf_term_is : (place : Place) (t : Lexeme) (a : Term) → leaf_term place t ≡ Some a
    → SpellsTerm place a (t ∷ [])
leaf_term_is place (name_lexeme name) a e =
    let h : variable (prog name node_sort) ≡ a = cc in
    subst (λ z. SpellsTerm place z (name_lexeme name ∷ [])) h (program_variable name)
leaf_term_is place (logic_lexeme name) a e = logic_at_is place name a e
leaf_term_is place (literal_lexeme text) a e =
    let h : literal (str text) ≡ a = cc in
    subst (λ z. SpellsTerm place z (literal_lexeme text ∷ [])) h (text_literal text)
leaf_term_is place (number_lexeme n) a e =
    let h = chosen (nat_le n standard_limits.integer) (literal (int (pos n))) a e in
    subst (λ z. SpellsTerm place z (number_lexeme n ∷ [])) h.1
    (number_literal n (leb-true n standard_limits.integer h.0))
leaf_term_is place _ a e = absurd cc

negated_is : (place : Place) (n : ℕ) (a : Term) → negated n ≡ Some a
    → SpellsTerm place a (terminal (codes "-") ∷ (number_lexeme n ∷ []))
negated_is place zero a e = absurd cc
negated_is place (suc n) a e =
    let h = chosen (nat_le (suc n) standard_limits.integer) (literal (int (negsuc n))) a e in
    subst (λ z. SpellsTerm place z (terminal (codes "-") ∷ (number_lexeme (suc n) ∷ []))) h.1
    (negative_literal n (leb-true (suc n) standard_limits.integer h.0))

leaf_negative_is : (place : Place) (t : Lexeme) (a : Term) → leaf_negative t ≡ Some a
    → SpellsTerm place a (terminal (codes "-") ∷ (t ∷ []))
leaf_negative_is place (number_lexeme n) a e = negated_is place n a e
leaf_negative_is place _ a e = absurd cc

operator_sound : (n : ℕ) → Sound n operator_at SpellsOperator
unfolding operator_at
operator_sound n =
    s_case (codes "+") (s_ret n sum _ plus_sign) (s_case (codes "-")
    (s_ret n difference _ minus_sign)
    (s_case (codes "++") (s_ret n appended _ append_sign)
    (s_fail n sum (terminal (codes "+") ∷ []) _ plus_sign (is_seen (codes "+") refl, tt))))

operation_sound : (place : Place) (n : ℕ) (term : Read Term) → Sound n term (SpellsTerm place)
    → Sound n (operation_at term) (After (terminal (codes "{")) (SpellsTerm place))
unfolding operation_at
operation_sound place n term S =
    s_then _ S λ a s la. s_then _ (operator_sound n) λ o t lo. s_then _ S λ b u lb.
    s_close n (codes "}") refl (o a b) _ (operation la lo lb)

word_sound : (place : Place) (n : ℕ) (other : Read Term) → Sound (suc n) other (SpellsTerm place)
    → Sound (suc n) (word_at other) (SpellsTerm place)
unfolding word_at
word_sound place n other S =
    s_when n (codes "-") (s_leaf n leaf_negative _ (
      literal
          (int (negsuc 0)),
      number_lexeme 1 ∷ [],
      negative_literal 0 (omega arith),
      (number_seen, tt),
    )
    (leaf_negative_is place))
    (s_when n (codes "null") (s_ret n (literal null) _ (constant null_word))
    (s_when n (codes "nolist") (s_ret n (literal nolist) _ (constant nolist_word))
    (s_when n (codes "yes") (s_ret n (literal (boolean true)) _ (constant yes_word))
    (s_when n (codes "no") (s_ret n (literal (boolean false)) _ (constant no_word)) S))))

pub term_sound : (place : Place) (n : ℕ) → Sound n (term_at place n) (SpellsTerm place)
unfolding term_at
term_sound place zero = s_deep _ _ (λ ts. refl) (literal null) (terminal (codes "null") ∷ [])
    (constant null_word) (is_seen (codes "null") refl, tt)
term_sound place (suc n) =
    s_when n (codes "{") (operation_sound place n (term_at place n) (term_sound place n))
    (word_sound place n (leaf (leaf_term place))
    (s_leaf (suc n) (leaf_term place) _ (
      literal null,
      terminal
          (codes "null") ∷ [],
      constant null_word,
      (is_seen (codes "null") refl, tt),
    )
    (leaf_term_is place)))

-- what is spelled is read

operator_only : Only operator_at SpellsOperator Prefix_free
unfolding operator_at
operator_only = record { only = λ o s rest l st. reads o s rest l }
  where
    reads : (o : Term → Term → Term) (s rest : List Lexeme) → SpellsOperator o s
        → OrDeep (operator_at (s ++ rest)) o rest
    reads o s rest plus_sign = read
    reads o s rest minus_sign = read
    reads o s rest append_sign = read

term_reads : (place : Place) (n : ℕ) (a : Term) (s rest : List Lexeme) → SpellsTerm place a s
    → OrDeep (term_at place n (s ++ rest)) a rest
unfolding term_at operation_at word_at
term_reads place zero a s rest l = deep
term_reads place (suc n) a s rest (program_variable name) = read
term_reads place (suc n) a s rest (logic_variable name) = read
term_reads place (suc n) a s rest (text_literal text) = read
term_reads place (suc n) a s rest (number_literal m h) = taken (nat_le m standard_limits.integer)
    (literal (int (pos m))) rest _ (le-leb m standard_limits.integer h)
term_reads place (suc n) a s rest (negative_literal m h) = taken
    (nat_le (suc m) standard_limits.integer) (literal (int (negsuc m))) rest _
    (le-leb (suc m) standard_limits.integer h)
term_reads place (suc n) a s rest (constant null_word) = read
term_reads place (suc n) a s rest (constant nolist_word) = read
term_reads place (suc n) a s rest (constant yes_word) = read
term_reads place (suc n) a s rest (constant no_word) = read
term_reads place (suc n) a s rest (operation la lo lb) =
    let T : Only (term_at place n) (SpellsTerm place) Prefix_free = record
    { only = λ a s rest l st. term_reads place n a s rest l } in
    o_then _ _ rest T la refl (o_then _ _ rest operator_only lo refl
    (o_then _ _ rest T lb refl read))

pub term_only : (place : Place) (n : ℕ) → Only (term_at place n) (SpellsTerm place) Prefix_free
term_only place n = record { only = λ a s rest l st. term_reads place n a s rest l }
