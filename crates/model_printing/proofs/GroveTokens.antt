-- The tokens of a grove, each before what may follow it.
use Rattle.std.proofs.Common.{◌≡◌, ℕ, ◌≤◌, true, false, List, [], ◌∷◌, ◌++◌, length, refl, subst, ◌∙◌, ap}
use Rattle.std.proofs.Math.Utf8.{scalar, encode}
use Rattle.std.proofs.lemmas.Bool.{and_parts}
use Rattle.std.proofs.lemmas.List.{append-nil}
use Rattle.std.specs.Char.{is_ascii_digit}
use Rattle.std.specs.Fmt.{decimal}
use Rattle.std.specs.List.{list_all}
use Rattle.std.specs.Str.{IsUtf8}
use Rattle.model_limits.specs.Limits.{standard_limits}
use Rattle.model_text.specs.Lexemes.{Lexeme, terminal, number_lexeme, literal_lexeme}
use Rattle.model_text.specs.Tokens.{TokenKind, number_token, symbol_token, quote, in_digit_run, token_piece, piece_at}
use Rattle.model_text.proofs.Computing.{lexing}
use Rattle.model_documents.specs.Printed.{quoted}
use Rattle.model_printing.proofs.Alone.{IsToken}
use Rattle.model_printing.proofs.Ended.{digits_before}
use Rattle.model_printing.proofs.Scalars.{both}
use Rattle.model_printing.proofs.Numbers.{decimal_digits, decimal_is_token}
use Rattle.model_printing.proofs.Literals.{literal_before}
use Rattle.model_printing.proofs.Printing.{HasToken, number_has_token, literal_has_token}
use Rattle.model_printing.proofs.Backwards.{Reads, First, ReadsFrom, space_is_gap, token_reads, gap_reads}

-- THE FIRST CHARACTER OF WHAT FOLLOWS
-- no digit goes on with it, or it is a quote, or a space, or any
abbrev pub NoDigit : ℕ → Type 0
NoDigit c = in_digit_run c ≡ false

abbrev pub Quote : ℕ → Type 0
Quote c = quote ≡ c

abbrev pub Space : ℕ → Type 0
Space c = 32 ≡ c

abbrev pub Any : ℕ → Type 0
Any c = Unit

pub any_first : (own : List ℕ) → First Any own
any_first [] = tt
any_first (c ∷ own) = tt

pub any : {bytes : List ℕ} {lexemes : List Lexeme} → Reads bytes lexemes
    → ReadsFrom Any bytes lexemes
any so = record { reads = so; first = any_first so.own }

-- TOKENS BEFORE WHAT FOLLOWS
digits_rest : (kind : TokenKind) (own rest : List ℕ) → list_all is_ascii_digit own ≡ true
    → IsToken kind own → First NoDigit rest
    → piece_at (own ++ rest) ≡ token_piece kind (length own)
unfolding lexing
digits_rest kind [] rest digits token first = absurd cc
digits_rest kind (c ∷ own) [] digits token first = ap piece_at (append-nil (c ∷ own)) ∙ token
digits_rest kind (c ∷ own) (d ∷ rest) digits token first =
    digits_before kind c own rest d first (and_parts (is_ascii_digit c) _ digits).0 token

pub number_reads : (n : ℕ) → n ≤ standard_limits.integer → {bytes : List ℕ}
    → {lexemes : List Lexeme} → ReadsFrom NoDigit bytes lexemes
    → Reads (decimal n ++ bytes) (number_lexeme n ∷ lexemes)
number_reads n fits rest = token_reads (number_has_token n fits) rest.reads
    (digits_rest number_token (decimal n) rest.reads.own (decimal_digits n fits)
    (decimal_is_token n fits) rest.first)

pub literal_reads : (text : List ℕ) → IsUtf8 text → {bytes : List ℕ} → {lexemes : List Lexeme}
    → Reads bytes lexemes
    → ReadsFrom Quote (quoted text ++ bytes) (literal_lexeme text ∷ lexemes)
literal_reads text valid rest = record {
  reads = token_reads (literal_has_token text valid) rest (literal_before valid.0 rest.own);
  first = refl;
}

-- a symbol of one character before such a character
pub record IsSymbol (Next : ℕ → Type 0) (c : ℕ) : Type 0 where
  pub valid : scalar c ≡ true
  pub byte : encode c ≡ c ∷ []
  pub no_digit : NoDigit c
  pub piece : (rest : List ℕ) → First Next rest → piece_at (c ∷ rest) ≡ token_piece symbol_token 1

abbrev symbol_token_of : {Next : ℕ → Type 0} {c : ℕ} → IsSymbol Next c
    → HasToken (terminal (c ∷ []))
symbol_token_of {c = c} so = record {
  kind = symbol_token;
  own = c ∷ [];
  valid = both (scalar c) true so.valid refl;
  token = so.piece [] tt;
  bytes = ap (λ bytes. bytes ++ []) so.byte;
  seen = ap (λ bytes. terminal (bytes ++ [])) so.byte;
}

pub symbol_reads : {Next : ℕ → Type 0} {c : ℕ} → IsSymbol Next c → (Is : ℕ → Type 0) → Is c
    → {bytes : List ℕ} → {lexemes : List Lexeme} → ReadsFrom Next bytes lexemes
    → ReadsFrom Is (c ∷ bytes) (terminal (c ∷ []) ∷ lexemes)
symbol_reads so Is is rest = record {
  reads = token_reads (symbol_token_of so) rest.reads (so.piece rest.reads.own rest.first);
  first = is;
}

-- where the next character is this one
before_this : (c next : ℕ)
    → ((rest : List ℕ) → piece_at (c ∷ next ∷ rest) ≡ token_piece symbol_token 1)
    → piece_at (c ∷ []) ≡ token_piece symbol_token 1
    → (rest : List ℕ) → First (λ x. next ≡ x) rest
    → piece_at (c ∷ rest) ≡ token_piece symbol_token 1
before_this c next some last [] first = last
before_this c next some last (x ∷ rest) first =
    subst (λ y. piece_at (c ∷ y ∷ rest) ≡ token_piece symbol_token 1) first (some rest)

pub hash : IsSymbol Any 35
unfolding lexing
hash = record { valid = refl; byte = refl; no_digit = refl; piece = λ rest first. refl }

pub percent : IsSymbol Any 37
unfolding lexing
percent = record { valid = refl; byte = refl; no_digit = refl; piece = λ rest first. refl }

pub left_bracket : IsSymbol Any 91
unfolding lexing
left_bracket = record { valid = refl; byte = refl; no_digit = refl; piece = λ rest first. refl }

pub right_bracket : IsSymbol Any 93
unfolding lexing
right_bracket = record { valid = refl; byte = refl; no_digit = refl; piece = λ rest first. refl }

pub right_angle : IsSymbol Any 62
unfolding lexing
right_angle = record { valid = refl; byte = refl; no_digit = refl; piece = λ rest first. refl }

pub left_angle : IsSymbol Quote 60
unfolding lexing
left_angle = record {
  valid = refl;
  byte = refl;
  no_digit = refl;
  piece = before_this 60 quote (λ rest. refl) refl;
}

pub star : IsSymbol Space 42
unfolding lexing
star = record {
  valid = refl;
  byte = refl;
  no_digit = refl;
  piece = before_this 42 32 (λ rest. refl) refl;
}

pub plus : IsSymbol Space 43
unfolding lexing
plus = record {
  valid = refl;
  byte = refl;
  no_digit = refl;
  piece = before_this 43 32 (λ rest. refl) refl;
}

-- a sign between two spaces
pub sign_reads : {sign : ℕ} → IsSymbol Space sign → {bytes : List ℕ} → {lexemes : List Lexeme}
    → Reads bytes lexemes
    → Reads (32 ∷ sign ∷ 32 ∷ bytes) (terminal (sign ∷ []) ∷ lexemes)
sign_reads so rest = (gap_reads Any 32 space_is_gap tt
    (symbol_reads so Any tt (gap_reads Space 32 space_is_gap refl rest)).reads).reads

-- where it stands before anything, it does before some
pub anywhere : {Next : ℕ → Type 0} {c : ℕ} → IsSymbol Any c → IsSymbol Next c
anywhere so = record {
  valid = so.valid;
  byte = so.byte;
  no_digit = so.no_digit;
  piece = λ rest first. so.piece rest (any_first rest);
}
