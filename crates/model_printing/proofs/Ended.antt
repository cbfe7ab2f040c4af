-- A token stays one before a character that ends it, as a space or a newline does.
use Rattle.std.proofs.Common.{◌≡◌, ℕ, ◌+◌, ◌<◌, ◌≤◌, Bool, true, false, not, ◌&&◌, ◌==◌, List, [], ◌∷◌, ◌++◌, length, take, drop, nat_eq, nat_lt, refl, sym, ◌∙◌, ap, arith}
use Rattle.std.specs.Prelude.{if◌then◌else◌}
use Rattle.std.proofs.lemmas.Bool.{eqb-true, and_parts, or_parts}
use Rattle.std.proofs.lemmas.List.{take_all}
use Rattle.std.proofs.lemmas.List.Folds.{length-prefix_len}
use Rattle.std.specs.Char.{is_ascii_digit}
use Rattle.std.specs.List.{list_all, list_any, prefix_len, starts_with}
use Rattle.unicode_ident.specs.Ident.{is_xid_continue}
use Rattle.model_text.specs.Tokens.{TokenKind, newline, quote, dollar, backslash, starts_word, word_length, logic_length, is_escape, literal_end, literal_length, symbols, length_at_front, longest_at_front, in_digit_run, digit_run, token_piece, piece_length, digits_piece, longest_token, piece_at}
use Rattle.model_text.proofs.Computing.{lexing}
use Rattle.model_printing.proofs.Fronts.{prefix_same}
use Rattle.model_printing.proofs.Alone.{IsToken, Starts, with_digit, with_other, starts, digit_piece, other_piece, longest_length, longest_token_same, digits_length, run_is_own}

-- the character isn't in a symbol but for its first place
abbrev pub goes_on_no_symbol : ℕ → List ℕ → Bool
goes_on_no_symbol c symbol = not (list_any (λ x. nat_eq x c) (drop 1 symbol))

-- no word, number or symbol goes on with the character
pub record EndsTokens (c : ℕ) : Type 0 where
  pub no_digit : in_digit_run c ≡ false
  pub no_start : starts_word c ≡ false
  pub no_word : is_xid_continue c ≡ false
  pub no_symbol : list_all (goes_on_no_symbol c) symbols ≡ true

pub space_ends : EndsTokens 32
unfolding lexing
space_ends = record { no_digit = refl; no_start = refl; no_word = refl; no_symbol = refl }

pub newline_ends : EndsTokens newline
unfolding lexing
newline_ends = record { no_digit = refl; no_start = refl; no_word = refl; no_symbol = refl }

-- NO LONGER THAN WHAT STANDS BEFORE IT
pub prefix_stops : (p : ℕ → Bool) (own rest : List ℕ) (c : ℕ) → p c ≡ false
    → prefix_len p (own ++ c ∷ rest) ≤ length own
prefix_stops p [] rest c e = rw e (omega arith)
prefix_stops p (x ∷ own) rest c e = by_test (p x) (prefix_stops p own rest c e)
  where
    by_test : (b : Bool) → prefix_len p (own ++ c ∷ rest) ≤ length own
        → (if b then 1 + prefix_len p (own ++ c ∷ rest) else 0) ≤ length (x ∷ own)
    by_test true h = omega arith
    by_test false h = omega arith

word_stops : (own rest : List ℕ) (c : ℕ) → EndsTokens c
    → word_length (own ++ c ∷ rest) ≤ length own
word_stops [] rest c ends = rw ends.no_start (omega arith)
word_stops (x ∷ own) rest c ends =
    by_test (starts_word x) (prefix_stops is_xid_continue own rest c ends.no_word)
  where
    by_test : (b : Bool) → prefix_len is_xid_continue (own ++ c ∷ rest) ≤ length own
        → (if b then 1 + prefix_len is_xid_continue (own ++ c ∷ rest) else 0) ≤ length (x ∷ own)
    by_test true h = omega arith
    by_test false h = omega arith

logic_stops : (first : ℕ) (own rest : List ℕ) (c : ℕ) → EndsTokens c
    → logic_length (first ∷ (own ++ c ∷ rest)) ≤ length (first ∷ own)
logic_stops first own rest c ends =
    by_test ((first == dollar) && nat_lt 0 (word_length (own ++ c ∷ rest)))
    (word_stops own rest c ends)
  where
    by_test : (b : Bool) → word_length (own ++ c ∷ rest) ≤ length own
        → (if b then 1 + word_length (own ++ c ∷ rest) else 0) ≤ length (first ∷ own)
    by_test true h = omega arith
    by_test false h = omega arith

-- a literal that ends does so whatever follows
pub literal_goes_on : (escaped : Bool) (before : ℕ) (own more : List ℕ)
    → 0 < literal_end escaped before own
    → literal_end escaped before (own ++ more) ≡ literal_end escaped before own
literal_goes_on escaped before [] more h = absurd (omega arith)
literal_goes_on true before (c ∷ own) more h =
    by_test (is_escape c) h (literal_goes_on false (before + 1) own more)
  where
    by_test : (b : Bool) → 0 < (if b then literal_end false (before + 1) own else 0)
        → (0 < literal_end false (before + 1) own
        → literal_end false (before + 1) (own ++ more) ≡ literal_end false (before + 1) own)
        → (if b then literal_end false (before + 1) (own ++ more) else 0)
        ≡ (if b then literal_end false (before + 1) own else 0)
    by_test true h same = same h
    by_test false h same = refl
literal_goes_on false before (c ∷ own) more h = by_test (c == quote) (c == newline) h
    (literal_goes_on (c == backslash) (before + 1) own more)
  where
    by_test : (a b : Bool) → 0 < (if a then before + 1
        else (if b then 0 else literal_end (c == backslash) (before + 1) own))
        → (0 < literal_end (c == backslash) (before + 1) own
        → literal_end (c == backslash) (before + 1) (own ++ more)
        ≡ literal_end (c == backslash) (before + 1) own)
        → (if a then before + 1
        else (if b then 0 else literal_end (c == backslash) (before + 1) (own ++ more)))
        ≡ (if a then before + 1
        else (if b then 0 else literal_end (c == backslash) (before + 1) own))
    by_test true b h same = refl
    by_test false true h same = refl
    by_test false false h same = same h

-- nothing but a literal begins with a quote
pub only_literal : (rest : List ℕ) → (word_length (quote ∷ rest) ≡ 0)
    × (logic_length (quote ∷ rest) ≡ 0) × (longest_at_front symbols (quote ∷ rest) ≡ 0)
unfolding lexing
only_literal rest = (refl, refl, refl)

pub longest_at_quote : (rest : List ℕ)
    → piece_length (longest_token (quote ∷ rest)) ≡ literal_end false 1 rest
longest_at_quote rest = let none = only_literal rest in
    omega (arith, longest_length (quote ∷ rest))

literal_stops : (first : ℕ) (own more : List ℕ)
    → piece_length (longest_token (first ∷ own)) ≡ length (first ∷ own)
    → literal_length (first ∷ (own ++ more)) ≤ length (first ∷ own)
literal_stops first own more e = by_test (first == quote) refl
  where
    quoted : first ≡ quote → literal_end false 1 own ≡ length (first ∷ own)
    quoted is = sym (longest_at_quote own)
        ∙ ap (λ c. piece_length (longest_token (c ∷ own))) (sym is) ∙ e

    by_test : (b : Bool) → (first == quote) ≡ b
        → (if b then literal_end false 1 (own ++ more) else 0) ≤ length (first ∷ own)
    by_test true is =
        let all : literal_end false 1 own ≡ length (first ∷ own) =
        quoted (eqb-true first quote is) in
        omega (arith, literal_goes_on false 1 own more (omega arith))
    by_test false is = omega arith

symbol_end : (own rest symbol : List ℕ) (c : ℕ) → list_any (λ x. nat_eq x c) symbol ≡ false
    → starts_with nat_eq (own ++ c ∷ rest) symbol ≡ true → length symbol ≤ length own
symbol_end own rest [] c none e = omega arith
symbol_end [] rest (x ∷ symbol) c none e =
    let here : nat_eq x c ≡ true = (and_parts (nat_eq x c) _ e).0 in
    let not_here : nat_eq x c ≡ false = (or_parts (nat_eq x c) _ none).0 in
    absurd cc
symbol_end (y ∷ own) rest (x ∷ symbol) c none e =
    omega (
      arith,
      symbol_end own rest symbol c (or_parts (nat_eq x c) _ none).1
          (and_parts (nat_eq x y) _ e).1,
    )

front_stops : (first : ℕ) (own rest symbol : List ℕ) (c : ℕ) → goes_on_no_symbol c symbol ≡ true
    → length_at_front (first ∷ (own ++ c ∷ rest)) symbol ≤ length (first ∷ own)
front_stops first own rest [] c none = omega arith
front_stops first own rest (x ∷ symbol) c none =
    by_test (starts_with nat_eq (first ∷ (own ++ c ∷ rest)) (x ∷ symbol)) refl
  where
    is_false : (b : Bool) → not b ≡ true → b ≡ false
    is_false true e = sym e
    is_false false e = refl

    by_test : (b : Bool)
        → starts_with nat_eq (first ∷ (own ++ c ∷ rest)) (x ∷ symbol) ≡ b
        → (if b then length (x ∷ symbol) else 0) ≤ length (first ∷ own)
    by_test true e = omega (
      arith,
      symbol_end own rest symbol c (is_false _ none)
          (and_parts (nat_eq x first) _ e).1,
    )
    by_test false e = omega arith

symbol_stops : (all : List (List ℕ)) (first : ℕ) (own rest : List ℕ) (c : ℕ)
    → list_all (goes_on_no_symbol c) all ≡ true
    → longest_at_front all (first ∷ (own ++ c ∷ rest)) ≤ length (first ∷ own)
symbol_stops [] first own rest c none = omega arith
symbol_stops (symbol ∷ all) first own rest c none =
    let parts = and_parts (goes_on_no_symbol c symbol) (list_all (goes_on_no_symbol c) all) none in
    omega (
      arith,
      front_stops first own rest symbol c parts.0,
      symbol_stops all first own rest c parts.1,
    )

-- THE SAME TOKEN
pub digits_before : (kind : TokenKind) (first : ℕ) (own rest : List ℕ) (c : ℕ)
    → in_digit_run c ≡ false → is_ascii_digit first ≡ true → IsToken kind (first ∷ own)
    → piece_at (first ∷ (own ++ c ∷ rest)) ≡ token_piece kind (length (first ∷ own))
digits_before kind first own rest c ends digit e =
    let run : List ℕ = digit_run (first ∷ own) in
    let token : digits_piece run ≡ token_piece kind (length (first ∷ own)) =
    sym (digit_piece first own digit) ∙ e in
    let all : prefix_len in_digit_run (first ∷ own) ≡ length (first ∷ own) =
    sym (length-prefix_len in_digit_run (first ∷ own))
    ∙ digits_length run kind (length (first ∷ own)) token in
    let before : prefix_len in_digit_run (first ∷ (own ++ c ∷ rest)) ≡ length (first ∷ own) =
    sym (prefix_same in_digit_run (first ∷ own) (c ∷ rest)
    (prefix_stops in_digit_run (first ∷ own) rest c ends)) ∙ all in
    let alone : run ≡ first ∷ own =
    ap (λ n. take n (first ∷ own)) all ∙ take_all (length (first ∷ own)) (first ∷ own) (omega arith)
    in
    digit_piece first (own ++ c ∷ rest) digit
    ∙ ap digits_piece (run_is_own (first ∷ own) (c ∷ rest) before ∙ sym alone) ∙ token

pub token_before : (kind : TokenKind) (own rest : List ℕ) (c : ℕ) → EndsTokens c
    → IsToken kind own → piece_at (own ++ c ∷ rest) ≡ token_piece kind (length own)
unfolding piece_at
token_before kind [] rest c ends e = absurd cc
token_before kind (first ∷ own) rest c ends e =
    by_start (starts first own kind (length (first ∷ own)) e)
  where
    by_start : Starts first own kind (length (first ∷ own))
        → piece_at (first ∷ (own ++ c ∷ rest)) ≡ token_piece kind (length (first ∷ own))
    by_start (with_digit digit token) =
        digits_before kind first own rest c ends.no_digit digit e
    by_start (with_other plain token) =
        other_piece first (own ++ c ∷ rest) plain
        ∙ sym (longest_token_same (first ∷ own) (c ∷ rest) (omega (
          arith,
          longest_length (first ∷ (own ++ c ∷ rest)),
          word_stops (first ∷ own) rest c ends,
          logic_stops first own rest c ends,
          literal_stops first own (c ∷ rest) (ap piece_length token),
          symbol_stops symbols first own rest c ends.no_symbol,
        )))
        ∙ token
