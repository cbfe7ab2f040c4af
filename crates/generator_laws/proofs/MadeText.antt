-- What is printed for the generated theory is the text that `make N` prints. Both are laid out from
-- their front, each part before the text behind it; so they compute to the same.
use Rattle.std.proofs.Common.{◌≡◌, ◌∙◌, ℕ, zero, suc, ◌+◌, ◌==◌, ◌/◌, ◌%◌, Bool, true, false, not, ◌||◌, ◌&&◌, cond, List, [], ◌∷◌, ◌++◌, codes, nat_lt, refl, sym, ap, append_assoc, arith}
use Rattle.std.specs.Prelude.{if◌then◌else◌}
use Rattle.std.specs.Fmt.{decimal, digits, digits_onto, digit_glyph}
use Rattle.std.specs.List.{list_all, flat_map}
use Rattle.std.proofs.lemmas.Bool.{and_parts}
use Rattle.std.proofs.lemmas.Bool.Decides.{nat_tests}
use Rattle.std.proofs.lemmas.Fmt.{decimal_digit}
use Rattle.model_text.specs.Tokens.{newline, quote, backslash, letter_n}
use Rattle.model_text.specs.Lexemes.{Lexeme, terminal, step_word, name_lexeme, logic_lexeme, number_lexeme, literal_lexeme, bad_lexeme, reserved_words}
use Rattle.model_documents.specs.Printed.{escaped, escaped_byte}
use Rattle.model_grammar.specs.Writing.{printed, spaced, text_of}
use Rattle.model_grammar.specs.TheoryWriting.{text_of_lines, procedure_lines, procedures_lines, theory_text}
use Rattle.model_generator.specs.Made.{letter_k, maker_template, numbered, makers_text, made_text}
use Rattle.model_generator.specs.Generated.{maker, makers, generated_theory}

-- A PLAIN LEXEME is a number of one digit, a literal whose bytes stand for themselves, or no
-- number and no literal
abbrev is_kept : ℕ → Bool
is_kept byte = not (byte == quote || (byte == backslash || byte == newline))

abbrev is_plain : Lexeme → Bool
is_plain (number_lexeme n) = nat_lt n 10
is_plain (literal_lexeme text) = list_all is_kept text
is_plain lexeme = true

-- what is printed for one, before other text
abbrev plain_before : Lexeme → List ℕ → List ℕ
plain_before (terminal text) more = text ++ more
plain_before (step_word line) more = codes "step" ++ more
plain_before (name_lexeme name) more = name ++ more
plain_before (logic_lexeme name) more = name ++ more
plain_before (number_lexeme n) more = (48 + n) ∷ more
plain_before (literal_lexeme text) more = quote ∷ (text ++ (quote ∷ more))
plain_before bad_lexeme more = more

byte_kept : (byte : ℕ) → is_kept byte ≡ true → escaped_byte byte ≡ byte ∷ []
byte_kept byte e = by_tests (byte == quote) (byte == backslash) (byte == newline) e
  where
    by_tests : (a b c : Bool) → not (a || (b || c)) ≡ true
        → cond a (backslash ∷ quote ∷ []) (cond b (backslash ∷ backslash ∷ [])
        (cond c (backslash ∷ letter_n ∷ []) (byte ∷ []))) ≡ byte ∷ []
    by_tests true b c e = absurd cc
    by_tests false true c e = absurd cc
    by_tests false false true e = absurd cc
    by_tests false false false e = refl

text_kept : (text : List ℕ) → list_all is_kept text ≡ true → escaped text ≡ text
text_kept [] e = refl
text_kept (byte ∷ text) e =
    let parts = and_parts (is_kept byte) (list_all is_kept text) e in
    λ i. byte_kept byte parts.0 i ++ text_kept text parts.1 i

one_digit : (n : ℕ) → nat_lt n 10 ≡ true → decimal n ≡ (48 + n) ∷ []
one_digit n e = decimal_digit n (grind (arith, nat_tests))

lexeme_before : (lexeme : Lexeme) (more : List ℕ) → is_plain lexeme ≡ true
    → printed lexeme ++ more ≡ plain_before lexeme more
lexeme_before (terminal text) more e = refl
lexeme_before (step_word line) more e = refl
lexeme_before (name_lexeme name) more e = refl
lexeme_before (logic_lexeme name) more e = refl
lexeme_before (number_lexeme n) more e = ap (λ text. text ++ more) (one_digit n e)
lexeme_before (literal_lexeme text) more e =
    ap (λ own. quote ∷ ((own ++ quote ∷ []) ++ more)) (text_kept text e)
    ∙ ap (λ own. quote ∷ own) (append_assoc text (quote ∷ []) more)
lexeme_before bad_lexeme more e = refl

-- LINES of plain lexemes, before other text
abbrev plain_line : List Lexeme → Bool → Bool
plain_line [] more = more
plain_line (lexeme ∷ line) more = is_plain lexeme && plain_line line more

abbrev are_plain : List (List Lexeme) → Bool → Bool
are_plain [] more = more
are_plain (line ∷ lines) more = plain_line line (are_plain lines more)

abbrev spaced_before : List Lexeme → List ℕ → List ℕ
spaced_before [] more = more
spaced_before (lexeme ∷ line) more = 32 ∷ plain_before lexeme (spaced_before line more)

abbrev line_before : List Lexeme → List ℕ → List ℕ
line_before [] more = more
line_before (lexeme ∷ line) more = plain_before lexeme (spaced_before line more)

abbrev lines_before : List (List Lexeme) → List ℕ → List ℕ
lines_before [] more = more
lines_before (line ∷ lines) more = line_before line (newline ∷ lines_before lines more)

spaced_same : (line : List Lexeme) (rest : Bool) (more : List ℕ) → plain_line line rest ≡ true
    → (rest ≡ true) × (spaced line ++ more ≡ spaced_before line more)
spaced_same [] rest more e = (e, refl)
spaced_same (lexeme ∷ line) rest more e =
    let parts = and_parts (is_plain lexeme) (plain_line line rest) e in
    let later = spaced_same line rest more parts.1 in (
      later.0,
      ap (λ text. 32 ∷ text) (append_assoc (printed lexeme) (spaced line) more
          ∙ ap (λ text. printed lexeme ++ text) later.1
          ∙ lexeme_before lexeme (spaced_before line more) parts.0),
    )

line_same : (line : List Lexeme) (rest : Bool) (more : List ℕ) → plain_line line rest ≡ true
    → (rest ≡ true) × (text_of line ++ more ≡ line_before line more)
line_same [] rest more e = (e, refl)
line_same (lexeme ∷ line) rest more e =
    let parts = and_parts (is_plain lexeme) (plain_line line rest) e in
    let later = spaced_same line rest more parts.1 in (
      later.0,
      append_assoc (printed lexeme) (spaced line) more
          ∙ ap (λ text. printed lexeme ++ text) later.1
          ∙ lexeme_before lexeme (spaced_before line more) parts.0,
    )

lines_same : (lines others : List (List Lexeme)) → are_plain lines true ≡ true
    → text_of_lines (lines ++ others) ≡ lines_before lines (text_of_lines others)
lines_same [] others e = refl
lines_same (line ∷ lines) others e =
    let here = line_same line (are_plain lines true)
    (newline ∷ text_of_lines (lines ++ others)) e in
    here.1 ∙ ap (λ text. line_before line (newline ∷ text)) (lines_same lines others here.0)

-- THE TEMPLATE before other text
abbrev pieces_before : (ℕ → List ℕ) → List ℕ → List ℕ → List ℕ
pieces_before piece [] more = more
pieces_before piece (byte ∷ bytes) more = piece byte ++ pieces_before piece bytes more

pieces_same : (piece : ℕ → List ℕ) (bytes more : List ℕ)
    → flat_map piece bytes ++ more ≡ pieces_before piece bytes more
pieces_same piece [] more = refl
pieces_same piece (byte ∷ bytes) more =
    append_assoc (piece byte) (flat_map piece bytes) more
    ∙ ap (λ text. piece byte ++ text) (pieces_same piece bytes more)

-- THE DIGITS of a number stand for themselves
glyph_kept : (n : ℕ) → is_kept (digit_glyph false (n % 10)) ≡ true
glyph_kept n = grind (arith, nat_tests)

onto_kept : (most n : ℕ) (more : List ℕ) → list_all is_kept more ≡ true
    → list_all is_kept (digits_onto most 10 false n more) ≡ true
onto_kept zero n more e = e
onto_kept (suc most) n more e =
    let next : list_all is_kept (digit_glyph false (n % 10) ∷ more) ≡ true =
    λ i. glyph_kept n i && e i in
    by_test (n / 10 == 0) next
    (onto_kept most (n / 10) (digit_glyph false (n % 10) ∷ more) next)
  where
    by_test : (last : Bool) → list_all is_kept (digit_glyph false (n % 10) ∷ more) ≡ true
        → list_all is_kept (digits_onto most 10 false (n / 10)
        (digit_glyph false (n % 10) ∷ more)) ≡ true
        → list_all is_kept (if last then digit_glyph false (n % 10) ∷ more
        else digits_onto most 10 false (n / 10) (digit_glyph false (n % 10) ∷ more)) ≡ true
    by_test true here there = here
    by_test false here there = there

-- A PROCEDURE
module _ (k : ℕ) where
  digits_kept : list_all is_kept (decimal k) ≡ true
  unfolding digits
  digits_kept = onto_kept 64 k [] refl

  maker_plain : are_plain (procedure_lines 1 (maker k)) true ≡ true
  unfolding reserved_words
  maker_plain = rw digits_kept refl

  maker_before : (more : List ℕ) → lines_before (procedure_lines 1 (maker k)) more
      ≡ pieces_before (λ byte. cond (byte == letter_k) (decimal k) (byte ∷ [])) maker_template more
  unfolding reserved_words
  maker_before more = refl

  maker_same : (others : List (List Lexeme))
      → text_of_lines (procedure_lines 1 (maker k) ++ others)
      ≡ numbered k maker_template ++ text_of_lines others
  maker_same others =
      lines_same (procedure_lines 1 (maker k)) others maker_plain
      ∙ maker_before (text_of_lines others)
      ∙ sym (pieces_same (λ byte. cond (byte == letter_k) (decimal k) (byte ∷ [])) maker_template
      (text_of_lines others))

makers_same : (first n : ℕ)
    → text_of_lines (procedures_lines 1 (makers first n)) ≡ makers_text first n
makers_same first zero = refl
makers_same first (suc n) =
    maker_same first (procedures_lines 1 (makers (first + 1) n))
    ∙ ap (λ text. numbered first maker_template ++ text) (makers_same (first + 1) n)

-- THE TEXT for a number
pub text_is_made : (n : ℕ) → theory_text (generated_theory n) ≡ made_text n
unfolding digits reserved_words
text_is_made n =
    ap (λ text. codes "domlogic 1\nlogic list $m ;\nlogic node $n ;\n" ++ text) (makers_same 1 n)
