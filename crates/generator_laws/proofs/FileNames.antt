-- The names of the generated procedures are words that aren't reserved, and the texts of their
-- nodes are UTF-8; the number in each has three digits at most.
use Rattle.std.proofs.Common.{◌≡◌, ◌∙◌, ℕ, zero, suc, ◌+◌, ◌-◌, ◌≤◌, ◌<◌, true, List, [], ◌∷◌, ◌++◌, length, map, encode_utf8_all, codes, nat_lt, refl, ap, subst, arith}
use Rattle.std.specs.Prelude.{if◌then◌else◌}
use Rattle.std.specs.Char.{is_ascii_digit}
use Rattle.std.specs.Fmt.{decimal}
use Rattle.std.specs.List.{list_all}
use Rattle.std.specs.Str.{IsAscii, IsUtf8}
use Rattle.std.proofs.lemmas.Bool.{and_parts}
use Rattle.std.proofs.lemmas.Bool.Decides.{nat_tests}
use Rattle.std.proofs.lemmas.Fmt.{decimal_nonempty, length-decimal-le, IsAscii-decimal}
use Rattle.std.proofs.lemmas.Str.{encodes-IsAscii, IsUtf8-from_ascii}
use Rattle.model_text.specs.Tokens.{word_token, token_piece, no_piece, word_length, Piece}
use Rattle.model_text.specs.Lexemes.{name_lexeme, word_lexeme}
use Rattle.model_text.specs.Nesting.{lexemes_of}
use Rattle.model_text.proofs.Computing.{lexing}
use Rattle.model_grammar.specs.Writable.{IsName}
use Rattle.model_printing.specs.Printable.{without_line}
use Rattle.model_printing.proofs.Alone.{IsToken}
use Rattle.model_printing.proofs.Found.{only_token, lines_kept}
use Rattle.model_printing.proofs.Numbers.{ascii_valid, decimal_digits}
use Rattle.model_generator.specs.Made.{most_makers}

-- ONE DIGIT
-- what holds of each of the ten digits
module _ (P : ℕ → Type 0)
    (p0 : P 48) (p1 : P 49) (p2 : P 50) (p3 : P 51) (p4 : P 52)
    (p5 : P 53) (p6 : P 54) (p7 : P 55) (p8 : P 56) (p9 : P 57) where
  each_digit : (d : ℕ) → d < 10 → P (48 + d)
  each_digit zero h = p0
  each_digit (suc zero) h = p1
  each_digit (suc (suc zero)) h = p2
  each_digit (suc (suc (suc zero))) h = p3
  each_digit (suc (suc (suc (suc zero)))) h = p4
  each_digit (suc (suc (suc (suc (suc zero))))) h = p5
  each_digit (suc (suc (suc (suc (suc (suc zero)))))) h = p6
  each_digit (suc (suc (suc (suc (suc (suc (suc zero))))))) h = p7
  each_digit (suc (suc (suc (suc (suc (suc (suc (suc zero)))))))) h = p8
  each_digit (suc (suc (suc (suc (suc (suc (suc (suc (suc zero))))))))) h = p9
  each_digit (suc (suc (suc (suc (suc (suc (suc (suc (suc (suc d)))))))))) h =
      absurd (omega arith)

  by_digit : (c : ℕ) → is_ascii_digit c ≡ true → P c
  by_digit c e =
      let within : 48 ≤ c = grind (arith, nat_tests) in
      let below : c ≤ 57 = grind (arith, nat_tests) in
      let same : 48 + (c - 48) ≡ c = omega arith in
      subst P same (each_digit (c - 48) (omega arith))

-- THE WORD of a letter p and digits
word_more : (ds : List ℕ) (c : ℕ) → is_ascii_digit c ≡ true
    → word_length (112 ∷ (c ∷ ds)) ≡ 1 + word_length (112 ∷ ds)
unfolding lexing
word_more ds c e =
    by_digit (λ d. word_length (112 ∷ (d ∷ ds)) ≡ 1 + word_length (112 ∷ ds))
    refl refl refl refl refl refl refl refl refl refl c e

word_whole : (ds : List ℕ) → list_all is_ascii_digit ds ≡ true
    → word_length (112 ∷ ds) ≡ suc (length ds)
unfolding lexing
word_whole [] e = refl
word_whole (c ∷ ds) e =
    let parts = and_parts (is_ascii_digit c) (list_all is_ascii_digit ds) e in
    let more : word_length (112 ∷ (c ∷ ds)) ≡ 1 + word_length (112 ∷ ds) =
    word_more ds c parts.0 in
    let rest : word_length (112 ∷ ds) ≡ suc (length ds) = word_whole ds parts.1 in
    more ∙ ap (λ m. 1 + m) rest ∙ omega arith

abbrev if_longer : ℕ → Piece
if_longer count = if nat_lt 0 count then token_piece word_token count else no_piece

longer_some : (n : ℕ) → if_longer (suc n) ≡ token_piece word_token (suc n)
longer_some n = let some : nat_lt 0 (suc n) ≡ true = grind (arith, nat_tests) in
    ap (λ b. if b then token_piece word_token (suc n) else no_piece) some

word_is_token : (ds : List ℕ) → list_all is_ascii_digit ds ≡ true → IsToken word_token (112 ∷ ds)
unfolding lexing
word_is_token ds e = ap if_longer (word_whole ds e) ∙ longer_some (length ds)

-- it isn't reserved
word_is_free : (c : ℕ) (ds : List ℕ) → is_ascii_digit c ≡ true
    → word_lexeme (112 ∷ (c ∷ ds)) 0 ≡ name_lexeme (112 ∷ (c ∷ ds))
unfolding lexing
word_is_free c ds e =
    by_digit (λ d. word_lexeme (112 ∷ (d ∷ ds)) 0 ≡ name_lexeme (112 ∷ (d ∷ ds)))
    refl refl refl refl refl refl refl refl refl refl c e

free_word : (ds : List ℕ) → 0 < length ds → list_all is_ascii_digit ds ≡ true
    → word_lexeme (112 ∷ ds) 0 ≡ name_lexeme (112 ∷ ds)
free_word [] some e = absurd (omega arith)
free_word (c ∷ ds) some e =
    word_is_free c ds (and_parts (is_ascii_digit c) (list_all is_ascii_digit ds) e).0

-- ASCII
ascii_more : (c : ℕ) (text : List ℕ) → c < 128 → IsAscii text → IsAscii (c ∷ text)
ascii_more c text small ascii zero = small
ascii_more c text small ascii (suc i) = ascii i

module _ (k : ℕ) (small : k ≤ most_makers) where
  pub few_digits : length (decimal k) ≤ 3
  few_digits = length-decimal-le 3 k (omega arith) (omega arith) (omega arith)

  ascii : IsAscii (decimal k)
  ascii = IsAscii-decimal k (omega arith)

  -- the name of a procedure is one
  pub name_is_name : IsName (codes "p" ++ decimal k)
  name_is_name =
      let own : List ℕ = 112 ∷ decimal k in
      let digits : list_all is_ascii_digit (decimal k) ≡ true = decimal_digits k (omega arith) in
      let own_ascii : IsAscii own = ascii_more 112 (decimal k) (omega arith) ascii in
      let bytes : encode_utf8_all own ≡ own = encodes-IsAscii own own_ascii in
      let free : word_lexeme own 0 ≡ name_lexeme own =
      free_word (decimal k) (decimal_nonempty k (omega arith)) digits in
      let seen : map without_line (lexemes_of (encode_utf8_all own))
      ≡ without_line (word_lexeme (encode_utf8_all own) 0) ∷ [] =
      only_token word_token own (ascii_valid own own_ascii)
      (word_is_token (decimal k) digits) in
      let read : map without_line (lexemes_of own) ≡ without_line (word_lexeme own 0) ∷ [] =
      subst (λ text. map without_line (lexemes_of text)
      ≡ without_line (word_lexeme text 0) ∷ []) bytes seen in
      lines_kept (lexemes_of own) (name_lexeme own ∷ [])
      (read ∙ ap (λ lexeme. without_line lexeme ∷ []) free) (tt, tt)

  -- the text of its nodes is UTF-8
  pub text_is_utf8 : IsUtf8 (codes "t" ++ decimal k)
  text_is_utf8 =
      IsUtf8-from_ascii (116 ∷ decimal k) (ascii_more 116 (decimal k) (omega arith) ascii)
