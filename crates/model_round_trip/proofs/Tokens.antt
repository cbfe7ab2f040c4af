-- The words among the lexemes of tokens.
use Rattle.std.proofs.Common.{ℕ, Bool, true, false, List, [], ◌∷◌, ◌++◌, ◌≡◌, refl, sym, ◌∙◌, subst, map, codes, bytes_eq, inl, inr}
use Rattle.std.specs.Prelude.{◌⊎◌, if◌then◌else◌}
use Rattle.std.specs.Str.Parse.{digits_value}
use Rattle.std.proofs.lemmas.Slice.Eq.{bytes_eq-Decides}
use Rattle.model_text.specs.Tokens.{TokenKind, word_token, logic_token, number_token, literal_token, symbol_token, bad_token, Token, tokens_of, digits_fit}
use Rattle.model_text.specs.Lexemes.{Lexeme, terminal, step_word, name_lexeme, logic_lexeme, number_lexeme, bad_lexeme, is_reserved, word_lexeme, lexeme_at, lexeme_of}
use Rattle.model_text.specs.Nesting.{lexemes_of}
use Rattle.model_text.specs.FaultTokens.{IsOfToken, AreOfTokens}
use Rattle.model_text.proofs.Computing.{lexing}
use Rattle.model_grammar.specs.Writable.{IsName, IsLogicName}
use Rattle.model_printing.specs.Printable.{IsPrintable}
use Rattle.model_printing.proofs.Found.{token_printable}
use Rattle.model_round_trip.specs.Writable.{IsWord}

pub printable : (lexeme : Lexeme) → IsOfToken lexeme → (lexeme ≡ bad_lexeme → ⊥)
    → IsPrintable lexeme
printable lexeme h good = by_law (token_printable lexeme h) where
  by_law : (lexeme ≡ bad_lexeme) ⊎ IsPrintable lexeme → IsPrintable lexeme
  by_law (inl e) = absurd (good e)
  by_law (inr k) = k

pub name_of_token : (name : List ℕ) → IsOfToken (name_lexeme name) → IsName name
name_of_token name h = printable (name_lexeme name) h (λ e. cc)

pub logic_of_token : (name : List ℕ) → IsOfToken (logic_lexeme name) → IsLogicName name
logic_of_token name h = printable (logic_lexeme name) h (λ e. cc)

-- ---- words, reserved or not

abbrev pub word_by : Bool → Bool → List ℕ → ℕ → Lexeme
word_by step reserved text line =
    if step then step_word line else (if reserved then terminal text else name_lexeme text)

-- a word that is seen as a name on one line is seen so on another
by_tests : (step reserved : Bool) (text name : List ℕ) (line : ℕ)
    → bytes_eq text (codes "step") ≡ step → is_reserved text ≡ reserved
    → word_by step reserved text line ≡ name_lexeme name → word_lexeme name 1 ≡ name_lexeme name
by_tests true reserved text name line e f h = absurd cc
by_tests false true text name line e f h = absurd cc
by_tests false false text name line e f h =
    let same : text ≡ name = cc in
    subst (λ (z : List ℕ). word_lexeme z 1 ≡ name_lexeme z) same
    (λ j. word_by (e j) (f j) text 1)

no_digits : (fits : Bool) (text name : List ℕ)
    → (if fits then number_lexeme (digits_value 10 text) else bad_lexeme) ≡ name_lexeme name → ⊥
no_digits true text name h = cc
no_digits false text name h = cc

seen_as_name : (kind : TokenKind) (text name : List ℕ) (line : ℕ)
    → lexeme_at kind text line ≡ name_lexeme name → word_lexeme name 1 ≡ name_lexeme name
seen_as_name word_token text name line h =
    by_tests (bytes_eq text (codes "step")) (is_reserved text) text name line refl refl h
seen_as_name logic_token text name line h = absurd cc
seen_as_name number_token text name line h = absurd (no_digits (digits_fit text) text name h)
seen_as_name literal_token text name line h = absurd cc
seen_as_name symbol_token text name line h = absurd cc
seen_as_name bad_token text name line h = absurd cc

first_name : (tokens : List Token) (name : List ℕ)
    → map lexeme_of tokens ≡ name_lexeme name ∷ [] → word_lexeme name 1 ≡ name_lexeme name
first_name [] name e = absurd cc
first_name (token ∷ tokens) name e =
    let here : lexeme_of token ≡ name_lexeme name = cc in
    seen_as_name token.kind token.text name token.line here

pub name_is_word : (name : List ℕ) → IsOfToken (name_lexeme name) → IsWord name
name_is_word name h =
    let e = name_of_token name h in
    e ∙ sym (λ j. first_name (tokens_of name) name e j ∷ [])

pub step_is_word : IsWord (codes "step")
unfolding lexing
step_is_word = refl

pub reserved_is_word : (name : List ℕ) → is_reserved name ≡ true → IsOfToken (terminal name)
    → IsWord name
reserved_is_word name e h =
    by_step (bytes_eq name (codes "step")) refl (printable (terminal name) h (λ f. cc)) where
      by_step : (b : Bool) → bytes_eq name (codes "step") ≡ b → lexemes_of name ≡ terminal name ∷ []
          → IsWord name
      by_step true f k =
          subst IsWord (sym ((bytes_eq-Decides name (codes "step")).0 f)) step_is_word
      by_step false f k = k ∙ sym (λ j. word_by (f j) (e j) name 1 ∷ [])

pub both_seen : (a b : List Lexeme) → AreOfTokens (a ++ b) → AreOfTokens a × AreOfTokens b
both_seen [] b h = (tt, h)
both_seen (x ∷ a) b h = let more = both_seen a b h.1 in ((h.0, more.0), more.1)
