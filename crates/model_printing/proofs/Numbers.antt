-- A number that fits is written by digits, and they are a token.
use Rattle.std.proofs.Common.{◌≡◌, ℕ, zero, suc, ◌+◌, ◌≤◌, ◌<◌, ◌^◌, Bool, true, false, not, ◌||◌, List, [], ◌∷◌, length, take, get_or, encode_utf8_all, codes, bytes_eq, nat_le, refl, sym, ◌∙◌, ap, arith}
use Rattle.std.specs.Prelude.{if◌then◌else◌}
use Rattle.std.proofs.Math.Utf8.{scalars}
use Rattle.std.proofs.lemmas.Bool.{and_parts, ne_eqb}
use Rattle.std.proofs.lemmas.Bool.Decides.{nat_tests}
use Rattle.std.proofs.lemmas.Fmt.{decimal_nonempty, first_decimal, IsAscii-decimal, digits_decimal, digits_value-decimal}
use Rattle.std.proofs.lemmas.List.{take_all}
use Rattle.std.proofs.lemmas.Slice.Eq.{bytes_eq-Decides}
use Rattle.std.proofs.lemmas.Str.{encodes-IsAscii, chars-IsAscii, scalars-chars, IsUtf8-from_ascii}
use Rattle.std.proofs.lemmas.Str.Parse.{IsNumeralModel, numerals_by_value}
use Rattle.std.specs.Char.{is_ascii_digit}
use Rattle.std.specs.Fmt.{decimal, digits}
use Rattle.std.specs.Int.{IsInRange}
use Rattle.std.specs.List.{list_all, prefix_len}
use Rattle.std.specs.Str.{IsAscii}
use Rattle.std.specs.Str.Parse.{digits_value}
use Rattle.unicode_ident.specs.Ident.{is_xid_continue}
use Rattle.model_limits.specs.Limits.{standard_limits}
use Rattle.model_text.specs.Lexemes.{number_lexeme, bad_lexeme, digits_lexeme}
use Rattle.model_text.specs.Tokens.{number_token, symbol_token, in_digit_run, digit_run, leading_zero, digits_fit, is_number, token_piece, no_piece, digits_piece}
use Rattle.model_printing.proofs.Alone.{IsToken, digit_piece}
use Rattle.model_printing.proofs.Scalars.{both}

-- ASCII bytes are their own characters
pub ascii_valid : (text : List ℕ) → IsAscii text → scalars text ≡ true
ascii_valid text ascii = ap scalars (sym (chars-IsAscii text ascii))
    ∙ scalars-chars text (IsUtf8-from_ascii text ascii)

-- DIGITS THAT ARE A TOKEN
all_in_run : (own : List ℕ) → list_all is_ascii_digit own ≡ true
    → prefix_len in_digit_run own ≡ length own
all_in_run [] e = refl
all_in_run (c ∷ own) e = let parts = and_parts (is_ascii_digit c) (list_all is_ascii_digit own) e in
    ap (λ b. if b || is_xid_continue c then 1 + prefix_len in_digit_run own else 0) parts.0
    ∙ omega (arith, all_in_run own parts.1)

run_is_all : (own : List ℕ) → list_all is_ascii_digit own ≡ true → digit_run own ≡ own
run_is_all own e = ap (λ n. take n own) (all_in_run own e) ∙ take_all (length own) own (omega arith)

-- digits are no other text
differs : (own other : List ℕ) → list_all is_ascii_digit own ≡ true
    → list_all is_ascii_digit other ≡ false → bytes_eq own other ≡ false
differs own other e none = by_test (bytes_eq own other) refl
  where
    by_test : (b : Bool) → bytes_eq own other ≡ b → b ≡ false
    by_test true is = absurd (let same : list_all is_ascii_digit own ≡ false =
        ap (list_all is_ascii_digit) ((bytes_eq-Decides own other).0 is) ∙ none in cc)
    by_test false is = refl

pub number_is_token : (own : List ℕ) → 0 < length own → leading_zero own ≡ false
    → digits_fit own ≡ true → IsToken number_token own
number_is_token [] some zeros fit = absurd (omega arith)
number_is_token (first ∷ own) some zeros fit =
    let digits : list_all is_ascii_digit (first ∷ own) ≡ true =
    (and_parts (list_all is_ascii_digit (first ∷ own)) _ fit).0 in
    let number : is_number (first ∷ own) ≡ true =
    both (not (leading_zero (first ∷ own))) (digits_fit (first ∷ own)) (ap not zeros) fit in
    let no_f : bytes_eq (first ∷ own) (codes "0f") ≡ false =
    differs (first ∷ own) (codes "0f") digits refl in
    let no_g : bytes_eq (first ∷ own) (codes "0g") ≡ false =
    differs (first ∷ own) (codes "0g") digits refl in
    digit_piece first own (and_parts (is_ascii_digit first) _ digits).0
    ∙ ap digits_piece (run_is_all (first ∷ own) digits)
    ∙ (λ i. if no_f i || no_g i then token_piece symbol_token (length (first ∷ own))
    else (if number i then token_piece number_token (length (first ∷ own)) else no_piece))

-- A NUMBER
-- the test of digits that the tokens use
abbrev AreDigits : List ℕ → Type 0
AreDigits own = list_all is_ascii_digit own ≡ true

in_range : (c : ℕ) → is_ascii_digit c ≡ true → IsInRange 48 57 c
in_range c e = grind (arith, nat_tests)

is_digit : (c : ℕ) → IsInRange 48 57 c → is_ascii_digit c ≡ true
is_digit c h = grind (arith, nat_tests)

digits_model : IsNumeralModel AreDigits (digits_value 10)
digits_model = numerals_by_value AreDigits (record {
  empty = refl;
  parts = λ c own e. let parts = and_parts (is_ascii_digit c) (list_all is_ascii_digit own) e in
      (in_range c parts.0, parts.1);
  more = λ c own h e. both (is_ascii_digit c) (list_all is_ascii_digit own) (is_digit c h) e;
})

module _ (n : ℕ) (fits : n ≤ standard_limits.integer) where
  below : n < 2 ^ 64
  below = omega arith

  value : digits_value 10 (decimal n) ≡ n
  value = digits_value-decimal digits_model n below

  pub decimal_digits : list_all is_ascii_digit (decimal n) ≡ true
  decimal_digits = digits_decimal digits_model n below

  pub decimal_fits : digits_fit (decimal n) ≡ true
  decimal_fits = both (list_all is_ascii_digit (decimal n))
      (nat_le (digits_value 10 (decimal n)) standard_limits.integer)
      decimal_digits
      (at_most (digits_value 10 (decimal n)) (omega (arith, value)))
    where
      at_most : (k : ℕ) → k ≤ standard_limits.integer → nat_le k standard_limits.integer ≡ true
      at_most k h = grind (arith, nat_tests)

  pub decimal_ascii : IsAscii (decimal n)
  decimal_ascii = IsAscii-decimal n below

  pub decimal_bytes : encode_utf8_all (decimal n) ≡ decimal n
  decimal_bytes = encodes-IsAscii (decimal n) decimal_ascii

  pub decimal_seen : digits_lexeme (encode_utf8_all (decimal n)) ≡ number_lexeme n
  decimal_seen = ap digits_lexeme decimal_bytes
      ∙ (λ i. if decimal_fits i then number_lexeme (digits_value 10 (decimal n)) else bad_lexeme)
      ∙ ap number_lexeme value

no_leading : (own : List ℕ) → 48 < get_or own 0 0 → leading_zero own ≡ false
no_leading [] h = refl
no_leading (first ∷ []) h = refl
no_leading (first ∷ second ∷ own) h = ne_eqb first 48 (λ e. omega arith)

decimal_leading : (n : ℕ) → n < 2 ^ 64 → leading_zero (decimal n) ≡ false
unfolding digits
decimal_leading zero h = refl
decimal_leading (suc n) h = no_leading (decimal (suc n)) (first_decimal (suc n) (omega arith) h)

pub decimal_is_token : (n : ℕ) → n ≤ standard_limits.integer → IsToken number_token (decimal n)
decimal_is_token n fits = number_is_token (decimal n) (decimal_nonempty n (omega arith))
    (decimal_leading n (omega arith)) (decimal_fits n fits)
