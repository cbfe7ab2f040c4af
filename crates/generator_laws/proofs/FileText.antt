-- The printed text of the generated theory has few enough bytes: each procedure is printed as at
-- most 600 lexemes and line ends, and each of those as at most 13 bytes.
use Rattle.std.proofs.Common.{◌≡◌, ◌∙◌, ℕ, zero, suc, ◌+◌, ◌*◌, ◌≤◌, ◌==◌, Bool, true, false, cond, ◌&&◌, List, [], ◌∷◌, ◌++◌, length, length-append, codes, nat_le, refl, arith}
use Rattle.std.specs.Fmt.{decimal}
use Rattle.std.proofs.lemmas.Bool.{and_parts}
use Rattle.std.proofs.lemmas.Bool.Decides.{nat_tests}
use Rattle.std.proofs.lemmas.Fmt.{length-decimal-le}
use Rattle.model_limits.specs.Limits.{standard_limits}
use Rattle.model_text.specs.Tokens.{newline, quote, backslash, letter_n}
use Rattle.model_text.specs.Lexemes.{Lexeme, terminal, step_word, name_lexeme, logic_lexeme, number_lexeme, literal_lexeme, bad_lexeme, reserved_words}
use Rattle.model_grammar.specs.Writing.{printed, spaced, text_of}
use Rattle.model_grammar.specs.TheoryWriting.{text_of_lines, procedure_lines, procedures_lines, theory_lines, theory_text}
use Rattle.model_generator.specs.Made.{most_makers}
use Rattle.model_generator.specs.Generated.{maker, makers, generated_theory}
use Rattle.generator_laws.proofs.FileNames.{few_digits}

-- THE BYTES that are printed for a lexeme, at most
abbrev bulk : Lexeme → ℕ
bulk (terminal text) = length text
bulk (step_word line) = 4
bulk (name_lexeme name) = length name
bulk (logic_lexeme name) = length name
bulk (number_lexeme n) = n
bulk (literal_lexeme text) = 2 * length text + 2
bulk bad_lexeme = 0

abbrev is_short : Lexeme → Bool
is_short lexeme = nat_le (bulk lexeme) 12

-- one more byte of a literal is two more that are printed, at most
one_more : (byte : ℕ) (rest : List ℕ) (a b c : Bool)
    → length (quote ∷ ((cond a (backslash ∷ quote ∷ []) (cond b (backslash ∷ backslash ∷ [])
    (cond c (backslash ∷ letter_n ∷ []) (byte ∷ []))) ++ rest) ++ quote ∷ []))
    ≤ length (quote ∷ (rest ++ quote ∷ [])) + 2
one_more byte rest true b c = omega arith
one_more byte rest false true c = omega arith
one_more byte rest false false true = omega arith
one_more byte rest false false false = omega arith

short_quoted : (text : List ℕ) → length (printed (literal_lexeme text)) ≤ 2 * length text + 2
short_quoted [] = omega arith
short_quoted (byte ∷ text) =
    let more : length (printed (literal_lexeme (byte ∷ text)))
    ≤ length (printed (literal_lexeme text)) + 2 =
    one_more byte _ (byte == quote) (byte == backslash) (byte == newline) in
    let rest = short_quoted text in
    omega arith

within_twelve : (n : ℕ) → nat_le n 12 ≡ true → n ≤ 12
within_twelve n e = grind (arith, nat_tests)

short_printed : (lexeme : Lexeme) → is_short lexeme ≡ true → length (printed lexeme) ≤ 12
short_printed (terminal text) e = within_twelve (length text) e
short_printed (step_word line) e = omega arith
short_printed (name_lexeme name) e = within_twelve (length name) e
short_printed (logic_lexeme name) e = within_twelve (length name) e
short_printed (number_lexeme n) e =
    let small = within_twelve n e in
    let digits : length (decimal n) ≤ 2 =
    length-decimal-le 2 n (omega arith) (omega arith) (omega arith) in
    omega arith
short_printed (literal_lexeme text) e =
    let small = within_twelve (2 * length text + 2) e in
    let few = short_quoted text in
    omega arith
short_printed bad_lexeme e = omega arith

-- how many lexemes and ends of lines there are
abbrev counted_before : List Lexeme → ℕ → ℕ
counted_before [] more = more
counted_before (lexeme ∷ rest) more = suc (counted_before rest more)

abbrev counted : List (List Lexeme) → ℕ
counted [] = 0
counted (line ∷ rest) = suc (counted_before line (counted rest))

-- each of them is short
abbrev short_before : List Lexeme → Bool → Bool
short_before [] more = more
short_before (lexeme ∷ rest) more = is_short lexeme && short_before rest more

abbrev are_short : List (List Lexeme) → Bool
are_short [] = true
are_short (line ∷ rest) = short_before line (are_short rest)

spaced_length : (line : List Lexeme) (more : Bool) (most : ℕ) → short_before line more ≡ true
    → (more ≡ true) × (length (spaced line) + 13 * most ≤ 13 * counted_before line most)
spaced_length [] more most e = (e, omega arith)
spaced_length (lexeme ∷ line) more most e =
    let parts = and_parts (is_short lexeme) (short_before line more) e in
    let here = short_printed lexeme parts.0 in
    let rest = spaced_length line more most parts.1 in
    let both : length (printed lexeme ++ spaced line)
    ≡ length (printed lexeme) + length (spaced line) =
    length-append (printed lexeme) (spaced line) in
    (rest.0, omega (arith, rest.1))

line_length : (line : List Lexeme) (more : Bool) (most : ℕ) → short_before line more ≡ true
    → (more ≡ true) × (length (text_of line) + 13 * most ≤ 13 * counted_before line most)
line_length [] more most e = (e, omega arith)
line_length (lexeme ∷ line) more most e =
    let parts = and_parts (is_short lexeme) (short_before line more) e in
    let here = short_printed lexeme parts.0 in
    let rest = spaced_length line more most parts.1 in
    let both : length (printed lexeme ++ spaced line)
    ≡ length (printed lexeme) + length (spaced line) =
    length-append (printed lexeme) (spaced line) in
    (rest.0, omega (arith, rest.1))

text_length : (lines : List (List Lexeme)) → are_short lines ≡ true
    → length (text_of_lines lines) ≤ 13 * counted lines
text_length [] e = omega arith
text_length (line ∷ rest) e =
    let here = line_length line (are_short rest) (counted rest) e in
    let more = text_length rest here.0 in
    let both : length (text_of line ++ (newline ∷ text_of_lines rest))
    ≡ length (text_of line) + suc (length (text_of_lines rest)) =
    length-append (text_of line) (newline ∷ text_of_lines rest) in
    omega (arith, here.1)

-- what is printed for a procedure is short
module _ (k : ℕ) (small : k ≤ most_makers) where
  short_name : is_short (name_lexeme (codes "p" ++ decimal k)) ≡ true
  short_name = let few = few_digits k small in grind (arith, nat_tests)

  short_text : is_short (literal_lexeme (codes "t" ++ decimal k)) ≡ true
  short_text = let few = few_digits k small in grind (arith, nat_tests)

  maker_short : (rest : List (List Lexeme))
      → are_short (procedure_lines 1 (maker k) ++ rest) ≡ are_short rest
  unfolding reserved_words
  maker_short rest = rw (short_name, short_text) refl

makers_short : (first n : ℕ) → first + n ≤ suc most_makers
    → are_short (procedures_lines 1 (makers first n)) ≡ true
makers_short first zero small = refl
makers_short first (suc n) small =
    maker_short first (omega arith) (procedures_lines 1 (makers (first + 1) n))
    ∙ makers_short (first + 1) n (omega arith)

maker_counted : (k : ℕ) (rest : List (List Lexeme))
    → counted (procedure_lines 1 (maker k) ++ rest) ≤ counted rest + 600
maker_counted k rest = omega arith

makers_counted : (first n : ℕ) → counted (procedures_lines 1 (makers first n)) ≤ 600 * n
makers_counted first zero = omega arith
makers_counted first (suc n) =
    let here : counted (procedures_lines 1 (makers first (suc n)))
    ≤ counted (procedures_lines 1 (makers (first + 1) n)) + 600 =
    maker_counted first (procedures_lines 1 (makers (first + 1) n)) in
    let rest = makers_counted (first + 1) n in
    omega arith

-- THE TEXT of the theory has 13 lexemes and line ends before those of the procedures
pub few_bytes : (n : ℕ) → n ≤ most_makers
    → nat_le (length (theory_text (generated_theory n))) standard_limits.file_bytes ≡ true
few_bytes n small =
    let lines : List (List Lexeme) = theory_lines (generated_theory n) in
    let short : are_short lines ≡ true = makers_short 1 n (omega arith) in
    let size : length (text_of_lines lines) ≤ 13 * counted lines = text_length lines short in
    let head : counted lines ≤ counted (procedures_lines 1 (makers 1 n)) + 20 = omega arith in
    let rest : counted (procedures_lines 1 (makers 1 n)) ≤ 600 * n = makers_counted 1 n in
    within (length (text_of_lines lines)) (omega arith)
  where
    within : (size : ℕ) → size ≤ standard_limits.file_bytes
        → nat_le size standard_limits.file_bytes ≡ true
    within size h = grind (arith, nat_tests)
