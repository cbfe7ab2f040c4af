-- A token at the front of a text is a token by itself, and stays one before what can't go on it.
use Rattle.std.proofs.Common.{◌≡◌, ℕ, ◌≤◌, max, Bool, true, false, not, ◌||◌, ◌==◌, List, [], ◌∷◌, ◌++◌, length, take, nat_eq, nat_lt, codes, bytes_eq, refl, sym, ◌∙◌, ap, subst, arith}
use Rattle.std.specs.Prelude.{if◌then◌else◌}
use Rattle.std.proofs.lemmas.Bool.{ltb-true, ltb-false, eqb-true}
use Rattle.std.proofs.lemmas.Bool.Decides.{nat_tests}
use Rattle.std.proofs.lemmas.List.{take_at, take_all}
use Rattle.std.proofs.lemmas.List.Folds.{length-prefix_len}
use Rattle.std.specs.Char.{is_ascii_digit}
use Rattle.std.specs.List.{prefix_len, starts_with}
use Rattle.model_text.specs.Tokens.{TokenKind, word_token, logic_token, number_token, literal_token, symbol_token, newline, is_blank, word_length, logic_length, literal_length, symbols, longest_at_front, in_digit_run, digit_run, is_number, Piece, gap_piece, token_piece, no_piece, piece_length, digits_piece, longer_token, longest_token, piece_at}
use Rattle.model_text.proofs.Computing.{lexing}
use Rattle.model_text.proofs.Pieces.{Fits, piece_at-Fits}
use Rattle.model_printing.proofs.Fronts.{prefix_same, word_same, logic_same, literal_same, longest_same}

-- the characters are a token of the kind
abbrev pub IsToken : TokenKind → List ℕ → Type 0
IsToken kind own = piece_at own ≡ token_piece kind (length own)

-- HOW A TOKEN BEGINS
-- the character is neither a blank nor a slash nor a digit
pub record IsPlain (first : ℕ) : Type 0 where
  pub blank : is_blank first ≡ false
  pub slash : nat_eq 47 first ≡ false
  pub digit : is_ascii_digit first ≡ false

-- with a digit, or with another character
pub data Starts (first : ℕ) (rest : List ℕ) (kind : TokenKind) (n : ℕ) : Type 0 where
  with_digit : is_ascii_digit first ≡ true
      → digits_piece (digit_run (first ∷ rest)) ≡ token_piece kind n → Starts first rest kind n
  with_other : IsPlain first → longest_token (first ∷ rest) ≡ token_piece kind n
      → Starts first rest kind n

-- no token begins with a slash
slash_none : (rest : List ℕ) → longest_token (47 ∷ rest) ≡ no_piece
unfolding lexing
slash_none rest = refl

no_slash : (first : ℕ) (rest : List ℕ) (kind : TokenKind) (n : ℕ)
    → longest_token (first ∷ rest) ≡ token_piece kind n → nat_eq 47 first ≡ false
no_slash first rest kind n e = by_test (nat_eq 47 first) refl
  where
    by_test : (b : Bool) → nat_eq 47 first ≡ b → b ≡ false
    by_test true is = absurd (let none : no_piece ≡ token_piece kind n =
        sym (slash_none rest) ∙ ap (λ c. longest_token (c ∷ rest)) (eqb-true 47 first is) ∙ e in
        cc)
    by_test false is = refl

pub starts : (first : ℕ) (rest : List ℕ) (kind : TokenKind) (n : ℕ)
    → piece_at (first ∷ rest) ≡ token_piece kind n → Starts first rest kind n
unfolding piece_at
starts first rest kind n e =
    by_test (is_blank first) (starts_with nat_eq (first ∷ rest) (codes "//"))
    (is_ascii_digit first) refl refl e
  where
    comment : ℕ
    comment = prefix_len (λ c. not (c == newline)) (first ∷ rest)

    by_test : (a b d : Bool) → is_blank first ≡ a → is_ascii_digit first ≡ d
        → (if a then gap_piece 1 else (if b then gap_piece comment
        else (if d then digits_piece (digit_run (first ∷ rest)) else longest_token (first ∷ rest))))
        ≡ token_piece kind n
        → Starts first rest kind n
    by_test true b d blank digit e = absurd cc
    by_test false true d blank digit e = absurd cc
    by_test false false true blank digit e = with_digit digit e
    by_test false false false blank digit e = with_other
        (record { blank = blank; slash = no_slash first rest kind n e; digit = digit }) e

pub digit_piece : (first : ℕ) (rest : List ℕ) → is_ascii_digit first ≡ true
    → piece_at (first ∷ rest) ≡ digits_piece (digit_run (first ∷ rest))
unfolding piece_at
digit_piece first rest digit = let blank : is_blank first ≡ false = grind (arith, nat_tests) in
    let slash : nat_eq 47 first ≡ false = grind (arith, nat_tests) in
    rw (blank, slash, digit)

pub other_piece : (first : ℕ) (rest : List ℕ) → IsPlain first
    → piece_at (first ∷ rest) ≡ longest_token (first ∷ rest)
unfolding piece_at
other_piece first rest plain = rw (plain.blank, plain.slash, plain.digit)

-- THE LONGEST TOKEN
longer_length : (kind : TokenKind) (n : ℕ) (other : Piece)
    → piece_length (longer_token kind n other) ≡ max n (piece_length other)
longer_length kind n other = by_test (nat_lt (piece_length other) n) refl
  where
    by_test : (b : Bool) → nat_lt (piece_length other) n ≡ b
        → piece_length (if b then token_piece kind n else other) ≡ max n (piece_length other)
    by_test true e = omega (arith, ltb-true (piece_length other) n e)
    by_test false e = omega (arith, ltb-false (piece_length other) n e)

pub longest_length : (text : List ℕ) → piece_length (longest_token text)
    ≡ max (word_length text) (max (logic_length text)
    (max (literal_length text) (max (longest_at_front symbols text) 0)))
longest_length text =
    let symbol : Piece = longer_token symbol_token (longest_at_front symbols text) no_piece in
    let literal : Piece = longer_token literal_token (literal_length text) symbol in
    let logic : Piece = longer_token logic_token (logic_length text) literal in
    longer_length word_token (word_length text) logic
    ∙ ap (max (word_length text)) (longer_length logic_token (logic_length text) literal
    ∙ ap (max (logic_length text)) (longer_length literal_token (literal_length text) symbol
    ∙ ap (max (literal_length text))
    (longer_length symbol_token (longest_at_front symbols text) no_piece)))

pub longest_token_same : (own more : List ℕ)
    → piece_length (longest_token (own ++ more)) ≤ length own
    → longest_token own ≡ longest_token (own ++ more)
longest_token_same own more h =
    let all = longest_length (own ++ more) in
    let word : word_length own ≡ word_length (own ++ more) =
    word_same own more (omega arith) in
    let logic : logic_length own ≡ logic_length (own ++ more) =
    logic_same own more (omega arith) in
    let literal : literal_length own ≡ literal_length (own ++ more) =
    literal_same own more (omega arith) in
    let symbol : longest_at_front symbols own ≡ longest_at_front symbols (own ++ more) =
    longest_same symbols own more (omega arith) in
    λ i. longer_token word_token (word i) (longer_token logic_token (logic i)
    (longer_token literal_token (literal i) (longer_token symbol_token (symbol i) no_piece)))

-- DIGITS
-- the token has the whole run
pub digits_length : (run : List ℕ) (kind : TokenKind) (n : ℕ)
    → digits_piece run ≡ token_piece kind n → length run ≡ n
digits_length run kind n e =
    by_test (bytes_eq run (codes "0f") || bytes_eq run (codes "0g")) (is_number run) e
  where
    by_test : (a b : Bool) → (if a then token_piece symbol_token (length run)
        else (if b then token_piece number_token (length run) else no_piece)) ≡ token_piece kind n
        → length run ≡ n
    by_test true b e = cc
    by_test false true e = cc
    by_test false false e = absurd cc

pub run_is_own : (own more : List ℕ) → prefix_len in_digit_run (own ++ more) ≡ length own
    → digit_run (own ++ more) ≡ own
run_is_own own more e =
    ap (λ n. take n (own ++ more)) e ∙ take_at own more (length own) refl

run_alone : (own more : List ℕ) → prefix_len in_digit_run (own ++ more) ≡ length own
    → digit_run own ≡ own
run_alone own more e =
    let all : prefix_len in_digit_run own ≡ length own =
    prefix_same in_digit_run own more (omega arith) ∙ e in
    ap (λ n. take n own) all ∙ take_all (length own) own (omega arith)

-- ALONE
pub token_alone : (kind : TokenKind) (own more : List ℕ)
    → piece_at (own ++ more) ≡ token_piece kind (length own) → IsToken kind own
token_alone kind [] more e = absurd (omega (arith, (subst (Fits more) e (piece_at-Fits more)).0))
token_alone kind (first ∷ own) more e =
    by_start (starts first (own ++ more) kind (length (first ∷ own)) e)
  where
    by_start : Starts first (own ++ more) kind (length (first ∷ own))
        → IsToken kind (first ∷ own)
    by_start (with_digit digit e) =
        let all : prefix_len in_digit_run (first ∷ (own ++ more)) ≡ length (first ∷ own) =
        sym (length-prefix_len in_digit_run (first ∷ (own ++ more)))
        ∙ digits_length (digit_run (first ∷ (own ++ more))) kind (length (first ∷ own)) e in
        let run : digit_run (first ∷ own) ≡ digit_run (first ∷ (own ++ more)) =
        run_alone (first ∷ own) more all ∙ sym (run_is_own (first ∷ own) more all) in
        digit_piece first own digit ∙ ap digits_piece run ∙ e
    by_start (with_other plain e) = other_piece first own plain
        ∙ longest_token_same (first ∷ own) more (omega (arith, ap piece_length e)) ∙ e
