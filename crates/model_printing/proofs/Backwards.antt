-- Bytes and the lexemes that they have, from the last one to the first.
use Rattle.std.proofs.Common.{◌≡◌, ℕ, true, List, [], ◌∷◌, ◌++◌, length, map, encode_utf8_all, refl, sym, ◌∙◌, ap}
use Rattle.std.proofs.Math.Utf8.{scalar, scalars, encode}
use Rattle.std.proofs.lemmas.Str.{encodes-append}
use Rattle.model_text.specs.Lexemes.{Lexeme}
use Rattle.model_text.specs.Tokens.{gap_piece, token_piece, newline, piece_at}
use Rattle.model_text.specs.Nesting.{lexemes_of}
use Rattle.model_text.proofs.Computing.{lexing}
use Rattle.model_grammar.specs.Writing.{printed}
use Rattle.model_printing.specs.Printable.{without_line}
use Rattle.model_printing.proofs.Reading.{lexemes_in, nothing_in, gap_in, token_in, lexemes_of_characters}
use Rattle.model_printing.proofs.Scalars.{both, scalars_both}
use Rattle.model_printing.proofs.Printing.{HasToken}

-- the bytes have these lexemes, on no line
pub record Reads (bytes : List ℕ) (lexemes : List Lexeme) : Type 0 where
  pub own : List ℕ
  pub valid : scalars own ≡ true
  pub spelled : encode_utf8_all own ≡ bytes
  pub seen : lexemes_in own ≡ lexemes

-- the first character, if there is one
abbrev pub First : (ℕ → Type 0) → List ℕ → Type 0
First Is [] = Unit
First Is (c ∷ rest) = Is c

-- they have them, and their first character is such a one
pub record ReadsFrom (Is : ℕ → Type 0) (bytes : List ℕ) (lexemes : List Lexeme) : Type 0 where
  pub reads : Reads bytes lexemes
  pub first : First Is reads.own

pub nothing_reads : {Is : ℕ → Type 0} → ReadsFrom Is [] []
nothing_reads = record {
  reads = record { own = []; valid = refl; spelled = refl; seen = nothing_in };
  first = tt;
}

-- a token before them
abbrev pub token_reads : {lexeme : Lexeme} {bytes : List ℕ} {lexemes : List Lexeme}
    → (so : HasToken lexeme) (rest : Reads bytes lexemes)
    → piece_at (so.own ++ rest.own) ≡ token_piece so.kind (length so.own)
    → Reads (printed lexeme ++ bytes) (without_line lexeme ∷ lexemes)
token_reads so rest piece = record {
  own = so.own ++ rest.own;
  valid = scalars_both so.own rest.own so.valid rest.valid;
  spelled = encodes-append so.own rest.own ∙ (λ i. so.bytes i ++ rest.spelled i);
  seen = token_in so.kind so.own rest.own piece ∙ (λ i. so.seen i ∷ rest.seen i);
}

-- the character is a gap, whatever follows
pub record IsGap (c : ℕ) : Type 0 where
  pub valid : scalar c ≡ true
  pub byte : encode c ≡ c ∷ []
  pub piece : (rest : List ℕ) → piece_at (c ∷ rest) ≡ gap_piece 1

pub space_is_gap : IsGap 32
unfolding lexing
space_is_gap = record { valid = refl; byte = refl; piece = λ rest. refl }

pub newline_is_gap : IsGap newline
unfolding lexing
newline_is_gap = record { valid = refl; byte = refl; piece = λ rest. refl }

-- a gap before them
pub gap_reads : (Is : ℕ → Type 0) (c : ℕ) → IsGap c → Is c → {bytes : List ℕ}
    → {lexemes : List Lexeme} → Reads bytes lexemes → ReadsFrom Is (c ∷ bytes) lexemes
gap_reads Is c gap is rest = record {
  reads = record {
    own = c ∷ rest.own;
    valid = both (scalar c) (scalars rest.own) gap.valid rest.valid;
    spelled = (λ i. gap.byte i ++ rest.spelled i);
    seen = gap_in (c ∷ []) rest.own (gap.piece rest.own) ∙ rest.seen;
  };
  first = is;
}

-- what is read of them
pub read_back : {bytes : List ℕ} {lexemes : List Lexeme} → Reads bytes lexemes
    → map without_line (lexemes_of bytes) ≡ lexemes
read_back so = ap (λ text. map without_line (lexemes_of text)) (sym so.spelled)
    ∙ lexemes_of_characters so.own so.valid ∙ so.seen
