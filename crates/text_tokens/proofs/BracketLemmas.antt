-- Only symbols are brackets.
use Rattle.std.proofs.Common.{◌≡◌, ◌≢◌, ℕ, ◌+◌, ◌-◌, ◌==◌, ◌&&◌, Bool, true, false, not, List, [], ◌∷◌, bytes_eq, codes, refl, sym, ap, ◌∙◌, arith}
use Rattle.std.specs.Prelude.{if◌then◌else◌}
use Rattle.std.specs.Char.{is_ascii_alphabetic, is_ascii_digit}
use Rattle.std.specs.Str.Parse.{digits_value}
use Rattle.std.proofs.lemmas.Bool.Decides.{nat_tests}
use Rattle.std.proofs.lemmas.Slice.Eq.{bytes_eq-Decides}
use Rattle.model_text.specs.Lexemes.{terminal, step_word, name_lexeme, number_lexeme, bad_lexeme, reserved_words, is_reserved, lexeme_at}
use Rattle.model_text.specs.Tokens.{TokenKind, word_token, logic_token, number_token, literal_token, symbol_token, bad_token, digits_fit, is_blank}
use Rattle.model_text.specs.Nesting.{open_behind}
use Rattle.text_tokens.specs.declared.pieces.Start.{Start}
use Rattle.text_tokens.specs.declared.pieces.Start.TheVariants.{Blank, Opening, Closing, LoneSymbol, Symbol, Word, LogicName, Literal, Digit, Other}
use Rattle.text_tokens.specs.Pieces.{start_of}
use Rattle.text_tokens.specs.Symbols.{is_among}
use Rattle.text_tokens.proofs.StartLemmas.{by_test}

-- no reserved word is this text, which isn't reserved
other_text : (text bracket : List ℕ) → is_reserved text ≡ true → is_reserved bracket ≡ false
    → bytes_eq text bracket ≡ false
other_text text bracket e n = by_test (bytes_eq text bracket) refl
  where
    by_test : (b : Bool) → bytes_eq text bracket ≡ b → bytes_eq text bracket ≡ false
    by_test true q =
        let same : is_reserved bracket ≡ true =
        sym (ap is_reserved ((bytes_eq-Decides text bracket).0 q)) ∙ e in cc
    by_test false q = q

-- a reserved word is no bracket
word_stays : (before : ℕ) (text : List ℕ) → is_reserved text ≡ true
    → open_behind before (terminal text) ≡ before
unfolding reserved_words
word_stays before text e =
    let a = other_text text (codes "(") e refl in
    let b = other_text text (codes "[") e refl in
    let c = other_text text (codes "{") e refl in
    let d = other_text text (codes "<") e refl in
    let f = other_text text (codes ")") e refl in
    let g = other_text text (codes "]") e refl in
    let h = other_text text (codes "}") e refl in
    let i = other_text text (codes ">") e refl in
    rw a (rw b (rw c (rw d (rw f (rw g (rw h (rw i refl)))))))

-- a token of another kind than a symbol leaves the brackets that are open
pub brackets : (before : ℕ) (kind : TokenKind) (text : List ℕ) (line : ℕ) → kind ≢ symbol_token
    → open_behind before (lexeme_at kind text line) ≡ before
brackets before word_token text line n = by_step (bytes_eq text (codes "step"))
  where
    by_word : (b : Bool) → is_reserved text ≡ b
        → open_behind before (if b then terminal text else name_lexeme text) ≡ before
    by_word true e = word_stays before text e
    by_word false e = refl

    by_step : (b : Bool) → open_behind before (if b then step_word line
        else (if is_reserved text then terminal text else name_lexeme text)) ≡ before
    by_step true = refl
    by_step false = by_word (is_reserved text) refl
brackets before logic_token text line n = refl
brackets before number_token text line n = by_digits (digits_fit text)
  where
    by_digits : (b : Bool) → open_behind before
        (if b then number_lexeme (digits_value 10 text)
        else bad_lexeme) ≡ before
    by_digits true = refl
    by_digits false = refl
brackets before literal_token text line n = refl
brackets before symbol_token text line n = absurd (n refl)
brackets before bad_token text line n = refl

-- how many brackets are open behind a character, as far as it says it
abbrev pub open_by : Start → ℕ → ℕ → ℕ
open_by Opening c before = before + 1
open_by Closing c before = before - 1
open_by LoneSymbol c before = before
open_by start c before = open_behind before (terminal (c ∷ []))

abbrev Says : ℕ → ℕ → Start → Type 0
Says c before start = open_by start c before ≡ open_behind before (terminal (c ∷ []))

-- it says it right
pub brackets_by : (c before : ℕ)
    → Says c before (start_of c)
brackets_by c before = by_test (Says c before) (is_blank c) Blank _ (λ e. refl)
    (by_test (Says c before) (is_among (codes "([{") c) Opening _ (λ e. grind (arith, nat_tests))
    (by_test (Says c before) (is_among (codes ")]}>") c) Closing _ (λ e. grind (arith, nat_tests))
    (by_test (Says c before) (is_among (codes ",;=#%") c) LoneSymbol _
    (λ e. grind (arith, nat_tests))
    (by_test (Says c before) (is_ascii_alphabetic c && not (c == 111)) Word _ (λ e. refl)
    (by_test (Says c before) (c == 36) LogicName _ (λ e. refl)
    (by_test (Says c before) (is_ascii_digit c) Digit _ (λ e. refl)
    (by_test (Says c before) (c == 34) Literal _ (λ e. refl)
    (by_test (Says c before) (is_among (codes "<:.+-*@?") c) Symbol Other (λ e. refl) refl))))))))
