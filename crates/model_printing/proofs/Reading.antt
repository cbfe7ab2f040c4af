-- The lexemes of characters, piece by piece: each forgets what stood before it, but for its line.
use Rattle.std.proofs.Common.{◌≡◌, ℕ, zero, suc, ◌+◌, ◌-◌, ◌<◌, ◌==◌, Bool, true, false, List, [], ◌∷◌, ◌++◌, length, map, take, drop, codes, bytes_eq, encode_utf8_all, refl, sym, ◌∙◌, ap, subst, arith, length-append}
use Rattle.std.specs.Prelude.{if◌then◌else◌}
use Rattle.std.proofs.Math.Seq.{take-append_seam, drop-append_seam, take-length, take-add}
use Rattle.std.proofs.Math.Nat.{add_assoc, add-zero, zero-add}
use Rattle.std.proofs.Math.Utf8.{scalars}
use Rattle.std.proofs.lemmas.Bool.Decides.{nat_tests}
use Rattle.std.proofs.lemmas.List.{take_at, drop-drop}
use Rattle.std.proofs.lemmas.Str.{chars-encodes, encodes-append, utf8_valid_len-IsUtf8}
use Rattle.std.specs.Str.{chars}
use Rattle.model_text.specs.Lexemes.{Lexeme, lexeme_at, lexeme_of, is_reserved, terminal, name_lexeme, step_word}
use Rattle.model_text.specs.Tokens.{Token, TokenKind, word_token, logic_token, number_token, literal_token, symbol_token, bad_token, Piece, gap_piece, token_piece, no_piece, piece_at, token_text, characters, place_of, line_of, token_from, bad_token_at, tokens_with, tokens_from, tokens_of}
use Rattle.model_text.specs.Nesting.{lexemes_of}
use Rattle.model_text.proofs.Computing.{lexing}
use Rattle.model_text.proofs.Pieces.{Fits, piece_at-Fits}
use Rattle.model_text.proofs.Steps.{enough}
use Rattle.model_printing.specs.Printable.{without_line}

-- what is seen of tokens, on no line
abbrev pub unlined : List Token → List Lexeme
unlined tokens = map without_line (map lexeme_of tokens)

-- what is seen of characters
abbrev pub lexemes_in : List ℕ → List Lexeme
lexemes_in text = unlined (tokens_from (encode_utf8_all text) text (suc (length text)) 0)

-- THE LINE IS FORGOTTEN
pub any_line : (kind : TokenKind) (own : List ℕ) (k l : ℕ)
    → without_line (lexeme_at kind own k) ≡ without_line (lexeme_at kind own l)
any_line word_token own k l = by_test (bytes_eq own (codes "step"))
  where
    by_test : (b : Bool)
        → without_line (if b then step_word k
        else (if is_reserved own then terminal own else name_lexeme own))
        ≡ without_line (if b then step_word l
        else (if is_reserved own then terminal own else name_lexeme own))
    by_test true = refl
    by_test false = refl
any_line logic_token own k l = refl
any_line number_token own k l = refl
any_line literal_token own k l = refl
any_line symbol_token own k l = refl
any_line bad_token own k l = refl

-- WHAT STOOD BEFORE IS FORGOTTEN
drop_past : (own text : List ℕ) (number : ℕ)
    → drop (length own + number) (own ++ text) ≡ drop number text
drop_past own text number = sym (drop-drop number (length own) (own ++ text))
    ∙ ap (drop number) (drop-append_seam own text)

take_past : (own text : List ℕ) (number : ℕ)
    → take (length own + number) (own ++ text) ≡ own ++ take number text
take_past own text number = take-add (length own) number (own ++ text)
    ∙ (λ i. take-append_seam own text i ++ take number (drop-append_seam own text i))

cancels : (a m n : ℕ) → (a + m == a + n) ≡ (m == n)
cancels a m n = grind (arith, nat_tests)

module _ (own text : List ℕ) (number : ℕ) where
  same_end : (place_of (own ++ text) (length own + number)
      == length (encode_utf8_all (own ++ text)))
      ≡ (place_of text number == length (encode_utf8_all text))
  same_end = let place : place_of (own ++ text) (length own + number)
      ≡ length (encode_utf8_all own) + place_of text number =
      ap (λ cs. length (encode_utf8_all cs)) (take_past own text number)
      ∙ ap length (encodes-append own (take number text))
      ∙ length-append (encode_utf8_all own) (encode_utf8_all (take number text)) in
      let whole : length (encode_utf8_all (own ++ text))
      ≡ length (encode_utf8_all own) + length (encode_utf8_all text) =
      ap length (encodes-append own text)
      ∙ length-append (encode_utf8_all own) (encode_utf8_all text) in
      (λ i. place i == whole i) ∙ cancels (length (encode_utf8_all own)) _ _

  by_end : (a b : Bool) → a ≡ b
      → unlined (if a then [] else bad_token_at (encode_utf8_all (own ++ text)) (own ++ text)
      (length own + number) ∷ [])
      ≡ unlined (if b then [] else bad_token_at (encode_utf8_all text) text number ∷ [])
  by_end true true e = refl
  by_end true false e = absurd cc
  by_end false true e = absurd cc
  by_end false false e = refl

  with_piece : (piece : Piece) (f g : ℕ → List Token)
      → ((n : ℕ) → unlined (f (length own + number + n)) ≡ unlined (g (number + n)))
      → unlined (tokens_with (encode_utf8_all (own ++ text)) (own ++ text)
      (length own + number) piece f)
      ≡ unlined (tokens_with (encode_utf8_all text) text number piece g)
  with_piece (gap_piece n) f g same = same n
  with_piece (token_piece kind n) f g same =
      let line : ℕ = line_of (encode_utf8_all text) (place_of text number) in
      let here : without_line (lexeme_of (token_from (encode_utf8_all (own ++ text)) (own ++ text)
      (length own + number) kind n))
      ≡ without_line (lexeme_of (token_from (encode_utf8_all text) text number kind n)) =
      any_line kind (token_text kind (take n (drop (length own + number) (own ++ text)))) _ line
      ∙ ap (λ cs. without_line (lexeme_at kind (token_text kind (take n cs)) line))
      (drop_past own text number) in
      λ i. here i ∷ same n i
  with_piece no_piece f g same = by_end _ _ same_end

pub later_same : (own text : List ℕ) (steps number : ℕ)
    → unlined (tokens_from (encode_utf8_all (own ++ text)) (own ++ text) steps
    (length own + number))
    ≡ unlined (tokens_from (encode_utf8_all text) text steps number)
unfolding tokens_from
later_same own text zero number = refl
later_same own text (suc steps) number =
    let bytes : List ℕ = encode_utf8_all (own ++ text) in
    ap (λ cs. unlined (tokens_with bytes (own ++ text) (length own + number) (piece_at cs)
    (tokens_from bytes (own ++ text) steps))) (drop_past own text number)
    ∙ with_piece own text number (piece_at (drop number text))
    (tokens_from bytes (own ++ text) steps) (tokens_from (encode_utf8_all text) text steps)
    (λ n. ap (λ k. unlined (tokens_from bytes (own ++ text) steps k))
    (add_assoc (length own) number n) ∙ later_same own text steps (number + n))

-- PIECE BY PIECE
pub nothing_in : lexemes_in [] ≡ []
unfolding lexing
nothing_in = refl

-- what is left behind the first piece
behind : (own rest : List ℕ) → 0 < length own
    → unlined (tokens_from (encode_utf8_all (own ++ rest)) (own ++ rest) (length (own ++ rest))
    (length own))
    ≡ lexemes_in rest
behind own rest some =
    let whole : length (own ++ rest) ≡ length own + length rest = length-append own rest in
    let bytes : List ℕ = encode_utf8_all (own ++ rest) in
    let steps : length (own ++ rest) ≡ suc (length (own ++ rest) - 1) = omega arith in
    ap (λ k. unlined (tokens_from bytes (own ++ rest) k (length own))) steps
    ∙ ap unlined (enough bytes (own ++ rest) (length (own ++ rest) - 1) (length rest) (length own)
    (omega arith) (omega arith))
    ∙ ap (λ k. unlined (tokens_from bytes (own ++ rest) (suc (length rest)) k))
    (sym (add-zero (length own)))
    ∙ later_same own rest (suc (length rest)) 0

some_gap : (own rest : List ℕ) → piece_at (own ++ rest) ≡ gap_piece (length own) → 0 < length own
some_gap own rest e = (subst (Fits (own ++ rest)) e (piece_at-Fits (own ++ rest))).0

some_token : (kind : TokenKind) (own rest : List ℕ)
    → piece_at (own ++ rest) ≡ token_piece kind (length own) → 0 < length own
some_token kind own rest e = (subst (Fits (own ++ rest)) e (piece_at-Fits (own ++ rest))).0

-- a gap isn't seen
pub gap_in : (own rest : List ℕ) → piece_at (own ++ rest) ≡ gap_piece (length own)
    → lexemes_in (own ++ rest) ≡ lexemes_in rest
unfolding tokens_from
gap_in own rest e = let bytes : List ℕ = encode_utf8_all (own ++ rest) in
    ap (λ piece. unlined (tokens_with bytes (own ++ rest) 0 piece
    (tokens_from bytes (own ++ rest) (length (own ++ rest))))) e
    ∙ ap (λ k. unlined (tokens_from bytes (own ++ rest) (length (own ++ rest)) k))
    (zero-add (length own))
    ∙ behind own rest (some_gap own rest e)

-- a token is
pub token_in : (kind : TokenKind) (own rest : List ℕ)
    → piece_at (own ++ rest) ≡ token_piece kind (length own)
    → lexemes_in (own ++ rest)
    ≡ without_line (lexeme_at kind (token_text kind own) 0) ∷ lexemes_in rest
unfolding tokens_from
token_in kind own rest e = let bytes : List ℕ = encode_utf8_all (own ++ rest) in
    let line : ℕ = line_of bytes (place_of (own ++ rest) 0) in
    let here : without_line (lexeme_of (token_from bytes (own ++ rest) 0 kind (length own)))
    ≡ without_line (lexeme_at kind (token_text kind own) 0) =
    any_line kind _ line 0
    ∙ ap (λ cs. without_line (lexeme_at kind (token_text kind cs) 0))
    (take_at own rest (length own) refl) in
    let others : unlined (tokens_from bytes (own ++ rest) (length (own ++ rest)) (0 + length own))
    ≡ lexemes_in rest =
    ap (λ k. unlined (tokens_from bytes (own ++ rest) (length (own ++ rest)) k))
    (zero-add (length own))
    ∙ behind own rest (some_token kind own rest e) in
    ap (λ piece. unlined (tokens_with bytes (own ++ rest) 0 piece
    (tokens_from bytes (own ++ rest) (length (own ++ rest))))) e
    ∙ (λ i. here i ∷ others i)

-- BYTES
pub characters_of : (text : List ℕ) → scalars text ≡ true
    → characters (encode_utf8_all text) ≡ text
unfolding characters
characters_of text valid = let bytes : List ℕ = encode_utf8_all text in
    ap (λ n. chars (take n bytes)) (utf8_valid_len-IsUtf8 bytes (text, (valid, refl)))
    ∙ ap chars (take-length bytes) ∙ chars-encodes text valid

-- what is seen of bytes is what is seen of their characters
pub lexemes_of_characters : (text : List ℕ) → scalars text ≡ true
    → map without_line (lexemes_of (encode_utf8_all text)) ≡ lexemes_in text
unfolding tokens_of
lexemes_of_characters text valid =
    ap (λ cs. unlined (tokens_from (encode_utf8_all text) cs (suc (length cs)) 0))
    (characters_of text valid)
