-- What is printed for a lexeme is a token that is seen as it.
use Rattle.std.proofs.Common.{◌≡◌, ℕ, Bool, true, false, List, [], ◌∷◌, encode_utf8_all, codes, bytes_eq, refl, sym, subst, ◌∙◌, ap, inl, inr}
use Rattle.std.specs.Prelude.{if◌then◌else◌, slice_get}
use Rattle.std.proofs.Math.Utf8.{scalars}
use Rattle.std.specs.Fmt.{decimal}
use Rattle.std.specs.Str.{IsUtf8}
use Rattle.std.specs.Str.Parse.{digits_value}
use Rattle.model_text.specs.Lexemes.{Lexeme, terminal, step_word, name_lexeme, logic_lexeme, number_lexeme, literal_lexeme, bad_lexeme, lexeme_at, is_reserved}
use Rattle.model_text.specs.Tokens.{TokenKind, word_token, logic_token, number_token, literal_token, symbol_token, bad_token, digits_fit, token_text}
use Rattle.model_text.specs.Nesting.{lexemes_of}
use Rattle.model_text.proofs.Computing.{lexing}
use Rattle.model_documents.specs.Printed.{quoted}
use Rattle.model_grammar.specs.Writing.{printed}
use Rattle.model_printing.specs.Printable.{IsPrintable, without_line}
use Rattle.model_printing.proofs.Alone.{IsToken}
use Rattle.model_printing.proofs.Reading.{any_line}
use Rattle.model_printing.proofs.Found.{IsFound, token_found}
use Rattle.model_printing.proofs.Numbers.{ascii_valid, decimal_ascii, decimal_bytes, decimal_seen, decimal_is_token}
use Rattle.model_printing.proofs.Literals.{scalars_quoted, quoted_bytes, literal_is_token, literal_text}

-- the characters that are printed for the lexeme are a token
pub record HasToken (lexeme : Lexeme) : Type 0 where
  pub kind : TokenKind
  pub own : List ℕ
  pub valid : scalars own ≡ true
  pub token : IsToken kind own
  pub bytes : encode_utf8_all own ≡ printed lexeme
  pub seen : without_line (lexeme_at kind (token_text kind own) 0) ≡ without_line lexeme

-- WORDS AND SYMBOLS
-- the lexeme is a word or a symbol, and carries no line
abbrev IsText : Lexeme → Type 0
IsText (terminal text) = Unit
IsText (step_word line) = ⊥
IsText (name_lexeme name) = Unit
IsText (logic_lexeme name) = Unit
IsText (number_lexeme n) = ⊥
IsText (literal_lexeme text) = ⊥
IsText bad_lexeme = ⊥

word_text : (own : List ℕ) (line : ℕ) (a b : Bool)
    → IsText (if a then step_word line else (if b then terminal own else name_lexeme own))
    → own ≡ printed (if a then step_word line else (if b then terminal own else name_lexeme own))
word_text own line true b is = absurd is
word_text own line false true is = refl
word_text own line false false is = refl

digits_no_text : (own : List ℕ) (b : Bool)
    → IsText (if b then number_lexeme (digits_value 10 own) else bad_lexeme) → ⊥
digits_no_text own true is = is
digits_no_text own false is = is

kind_text : (kind : TokenKind) (own : List ℕ) (line : ℕ)
    → IsText (lexeme_at kind (token_text kind own) line)
    → encode_utf8_all own ≡ printed (lexeme_at kind (token_text kind own) line)
kind_text word_token own line is = word_text (encode_utf8_all own) line
    (bytes_eq (encode_utf8_all own) (codes "step")) (is_reserved (encode_utf8_all own)) is
kind_text logic_token own line is = refl
kind_text number_token own line is =
    absurd (digits_no_text (encode_utf8_all own) (digits_fit (encode_utf8_all own)) is)
kind_text literal_token own line is = absurd is
kind_text symbol_token own line is = refl
kind_text bad_token own line is = absurd is

text_token : (lexeme : Lexeme) → IsText lexeme → IsFound lexeme → HasToken lexeme
text_token lexeme is (inl bad) = absurd (subst IsText bad is)
text_token lexeme is (inr so) = record {
  kind = so.kind;
  own = so.own;
  valid = so.valid;
  token = so.token;
  bytes = kind_text so.kind so.own so.line (subst IsText so.is is) ∙ ap printed (sym so.is);
  seen = any_line so.kind (token_text so.kind so.own) 0 so.line ∙ ap without_line (sym so.is);
}

-- it is the only lexeme of its text
printed_alone : (lexeme : Lexeme) → IsText lexeme → lexemes_of (printed lexeme) ≡ lexeme ∷ []
    → HasToken lexeme
printed_alone lexeme is e = text_token lexeme is (token_found lexeme (record {
  bytes = printed lexeme;
  place = 0;
  found = ap (λ lexemes. slice_get lexemes 0) e;
}))

-- EACH LEXEME
step_token : (line : ℕ) → HasToken (step_word line)
unfolding lexing
step_token line = record {
  kind = word_token;
  own = codes "step";
  valid = refl;
  token = refl;
  bytes = refl;
  seen = refl;
}

abbrev pub number_has_token : (n : ℕ) → IsPrintable (number_lexeme n) → HasToken (number_lexeme n)
number_has_token n fits = record {
  kind = number_token;
  own = decimal n;
  valid = ascii_valid (decimal n) (decimal_ascii n fits);
  token = decimal_is_token n fits;
  bytes = decimal_bytes n fits;
  seen = ap without_line (decimal_seen n fits);
}

abbrev pub literal_has_token : (text : List ℕ) → IsUtf8 text → HasToken (literal_lexeme text)
literal_has_token text (own, (valid, bytes)) = record {
  kind = literal_token;
  own = quoted own;
  valid = scalars_quoted own valid;
  token = literal_is_token own;
  bytes = quoted_bytes own ∙ ap quoted bytes;
  seen = ap literal_lexeme (literal_text own ∙ bytes);
}

-- what can be printed is a token
pub printable_token : (lexeme : Lexeme) → IsPrintable lexeme → HasToken lexeme
printable_token (terminal text) e = printed_alone (terminal text) tt e
printable_token (step_word line) e = step_token line
printable_token (name_lexeme name) e = printed_alone (name_lexeme name) tt e
printable_token (logic_lexeme name) e = printed_alone (logic_lexeme name) tt e
printable_token (number_lexeme n) e = number_has_token n e
printable_token (literal_lexeme text) e = literal_has_token text e
printable_token bad_lexeme e = absurd e
