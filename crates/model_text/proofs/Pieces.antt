-- A piece has a character or more, and no more than the text.
use Rattle.std.proofs.Common.{◌≡◌, ℕ, ◌+◌, ◌<◌, ◌≤◌, Bool, true, false, not, ◌&&◌, ◌||◌, ◌==◌, List, [], ◌∷◌, length, take, nat_eq, nat_lt, codes, bytes_eq, refl, ap, arith}
use Rattle.std.specs.Prelude.{if◌then◌else◌}
use Rattle.std.proofs.lemmas.Bool.{ltb-true}
use Rattle.std.proofs.lemmas.Bool.Decides.{nat_tests}
use Rattle.std.proofs.lemmas.List.Folds.{length-prefix_len}
use Rattle.std.proofs.lemmas.List.Sums.{prefix_len-le-length}
use Rattle.std.specs.Char.{is_ascii_digit}
use Rattle.std.specs.List.{prefix_len, starts_with}
use Rattle.unicode_ident.specs.Ident.{is_xid_continue}
use Rattle.model_text.specs.Tokens.{TokenKind, word_token, logic_token, number_token, literal_token, symbol_token, newline, quote, backslash, is_blank, starts_word, word_length, logic_length, is_escape, literal_end, literal_length, symbols, length_at_front, longest_at_front, is_number, Piece, gap_piece, token_piece, no_piece, piece_length, digits_piece, longer_token, longest_token, piece_at}

-- the piece has a character or more, and no more than the text; no piece has none
abbrev pub Fits : List ℕ → Piece → Type 0
Fits text (gap_piece n) = (0 < n) × (n ≤ length text)
Fits text (token_piece kind n) = (0 < n) × (n ≤ length text)
Fits text no_piece = Unit {0}

if_le : (b : Bool) (m n : ℕ) → m ≤ n → (if b then m else 0) ≤ n
if_le true m n h = h
if_le false m n h = omega arith

word_length-le : (text : List ℕ) → word_length text ≤ length text
word_length-le [] = omega arith
word_length-le (c ∷ rest) =
    if_le (starts_word c) _ _ (omega (arith, prefix_len-le-length is_xid_continue rest))

logic_length-le : (text : List ℕ) → logic_length text ≤ length text
logic_length-le [] = omega arith
logic_length-le (c ∷ rest) =
    if_le ((c == 36) && nat_lt 0 (word_length rest)) _ _ (omega (arith, word_length-le rest))

literal_end-le : (escaped : Bool) (used : ℕ) (rest : List ℕ)
    → literal_end escaped used rest ≤ used + length rest
literal_end-le escaped used [] = omega arith
literal_end-le true used (c ∷ rest) =
    if_le (is_escape c) _ _ (omega (arith, literal_end-le false (used + 1) rest))
literal_end-le false used (c ∷ rest) =
    elim (c == quote) as (λ b. (if b then used + 1
    else (if c == newline then 0
    else literal_end (c == backslash) (used + 1) rest)) ≤ used + length (c ∷ rest)) [
      | true ↦ omega arith
      | false ↦ elim (c == newline) as
          (λ b. (if b then 0 else literal_end (c == backslash) (used + 1) rest) ≤ used + length (c
          ∷ rest)) [
            | true ↦ omega arith
            | false ↦ omega (arith, literal_end-le (c == backslash) (used + 1) rest)
          ]
    ]

literal_length-le : (text : List ℕ) → literal_length text ≤ length text
literal_length-le [] = omega arith
literal_length-le (c ∷ rest) = if_le (c == quote) _ _ (omega (arith, literal_end-le false 1 rest))

both_true : (a b : Bool) → (a && b) ≡ true → (a ≡ true) × (b ≡ true)
both_true true b e = (refl, e)
both_true false b e = cc

starts_with-le : (text front : List ℕ) → starts_with nat_eq text front ≡ true
    → length front ≤ length text
starts_with-le text [] e = omega arith
starts_with-le [] (x ∷ front) e = cc
starts_with-le (c ∷ text) (x ∷ front) e =
    omega (arith, starts_with-le text front (both_true (nat_eq x c) _ e).1)

length_at_front-le : (text symbol : List ℕ) → length_at_front text symbol ≤ length text
length_at_front-le text symbol = let h : (b : Bool) → (b ≡ true → length symbol ≤ length text)
    → (if b then length symbol else 0) ≤ length text =
    λ b. elim b as (λ b. (b ≡ true → length symbol ≤ length text)
    → (if b then length symbol else 0) ≤ length text) [
      | true ↦ λ h. h refl
      | false ↦
          λ h. omega arith
    ] in
    h (starts_with nat_eq text symbol) (starts_with-le text symbol)

longest_at_front-le : (all : List (List ℕ)) (text : List ℕ)
    → longest_at_front all text ≤ length text
longest_at_front-le [] text = omega arith
longest_at_front-le (symbol ∷ all) text =
    omega (arith, length_at_front-le text symbol, longest_at_front-le all text)

longer_token-Fits : (kind : TokenKind) (n : ℕ) (other : Piece) (text : List ℕ) → n ≤ length text
    → Fits text other → Fits text (longer_token kind n other)
longer_token-Fits kind n other text h f = let by_test : (b : Bool)
    → (b ≡ true → piece_length other < n) → Fits text (if b then token_piece kind n else other) =
    λ b. elim b as (λ b. (b ≡ true → piece_length other < n)
    → Fits text (if b then token_piece kind n else other)) [
      | true ↦ λ l. (
        omega (arith, l refl),
        h,
      )
      | false ↦ λ l. f
    ] in
    by_test (nat_lt (piece_length other) n) (ltb-true (piece_length other) n)

longest_token-Fits : (text : List ℕ) → Fits text (longest_token text)
longest_token-Fits text =
    longer_token-Fits word_token _ _ text (word_length-le text)
    (longer_token-Fits logic_token _ _ text (logic_length-le text)
    (longer_token-Fits literal_token _ _ text (literal_length-le text)
    (longer_token-Fits symbol_token _ no_piece text (longest_at_front-le symbols text) tt)))

digits_piece-Fits : (run text : List ℕ) → 0 < length run → length run ≤ length text
    → Fits text (digits_piece run)
digits_piece-Fits run text p h =
    elim (bytes_eq run (codes "0f") || bytes_eq run (codes "0g")) as
    (λ b. Fits text (if b then token_piece symbol_token (length run)
    else (if is_number run then token_piece number_token (length run) else no_piece))) [
      | true ↦ (p, h)
      | false ↦ elim (is_number run) as
          (λ b. Fits text (if b then token_piece number_token (length run) else no_piece)) [
            | true ↦
                (p, h)
            | false ↦ tt
          ]
    ]

-- where the first character passes, the prefix has a character or more
prefix_len-positive : (p : ℕ → Bool) (c : ℕ) (rest : List ℕ) → p c ≡ true
    → 0 < prefix_len p (c ∷ rest)
prefix_len-positive p c rest e = rw e (omega arith)

digit_run-Fits : (c : ℕ) (rest : List ℕ) → is_ascii_digit c ≡ true
    → Fits (c ∷ rest) (digits_piece
    (take (prefix_len (λ d. is_ascii_digit d || is_xid_continue d) (c ∷ rest)) (c ∷ rest)))
digit_run-Fits c rest e = let p : ℕ → Bool = λ d. is_ascii_digit d || is_xid_continue d in
    let first : p c ≡ true = ap (λ b. b || is_xid_continue c) e in
    let own : length (take (prefix_len p (c ∷ rest)) (c ∷ rest)) ≡ prefix_len p (c ∷ rest) =
    length-prefix_len p (c ∷ rest) in
    let positive : 0 < prefix_len p (c ∷ rest) = prefix_len-positive p c rest first in
    let bounded : prefix_len p (c ∷ rest) ≤ length (c ∷ rest) = prefix_len-le-length p (c ∷ rest) in
    digits_piece-Fits (take (prefix_len p (c ∷ rest)) (c ∷ rest)) (c ∷ rest) (omega arith)
    (omega arith)

comment-Fits : (c : ℕ) (rest : List ℕ) → starts_with nat_eq (c ∷ rest) (codes "//") ≡ true
    → Fits (c ∷ rest) (gap_piece (prefix_len (λ d. not (d == newline)) (c ∷ rest)))
comment-Fits c rest e = let slash : (47 == c) ≡ true = (both_true (47 == c) _ e).0 in
    let is : c ≡ 47 = grind (arith, nat_tests) in
    let other : not (c == newline) ≡ true = rw is refl in (
      prefix_len-positive (λ d. not (d == newline)) c rest other,
      prefix_len-le-length (λ d. not (d == newline)) (c ∷ rest),
    )

-- a choice where the test is known in the first part
choice-Fits : (text : List ℕ) (b : Bool) (p q : Piece) → (b ≡ true → Fits text p) → Fits text q
    → Fits text (if b then p else q)
choice-Fits text true p q h k = h refl
choice-Fits text false p q h k = k

pub piece_at-Fits : (text : List ℕ) → Fits text (piece_at text)
unfolding piece_at
piece_at-Fits [] = tt
piece_at-Fits (c ∷ rest) = choice-Fits (c ∷ rest) (is_blank c) _ _ (λ _. (omega arith, omega arith))
    (choice-Fits (c ∷ rest) (starts_with nat_eq (c ∷ rest) (codes "//")) _ _ (comment-Fits c rest)
    (choice-Fits (c ∷ rest) (is_ascii_digit c) _ _ (digit_run-Fits c rest)
    (longest_token-Fits (c ∷ rest))))
