-- No token has a newline.
use Rattle.std.proofs.Common.{◌≡◌, ℕ, suc, ◌+◌, ◌-◌, ◌<◌, ◌≤◌, ◌==◌, ◌⊎◌, inl, inr, Bool, true, false, not, ◌&&◌, ◌||◌, max, List, [], ◌∷◌, length, take, count_by, cond, codes, bytes_eq, nat_eq, nat_lt, refl, sym, ap, ◌∙◌, subst, arith}
use Rattle.std.specs.Prelude.{if◌then◌else◌}
use Rattle.std.specs.Char.{is_ascii_digit}
use Rattle.std.specs.List.{list_all, prefix_len, starts_with}
use Rattle.std.proofs.lemmas.Bool.{and_parts, cases_lt, eqb-true}
use Rattle.std.proofs.lemmas.List.Folds.{length-prefix_len}
use Rattle.std.proofs.lemmas.List.Sums.{sum_by-cons}
use Rattle.unicode_ident.specs.Ident.{is_xid_continue}
use Rattle.model_text.specs.Tokens.{TokenKind, Piece, gap_piece, token_piece, no_piece, piece_length, word_token, logic_token, literal_token, symbol_token, newline, quote, dollar, backslash, is_blank, is_escape, starts_word, word_length, logic_length, literal_end, literal_length, symbols, length_at_front, longest_at_front, in_digit_run, digit_run, is_number, digits_piece, longer_token, longest_token, piece_at}
use Rattle.text_tokens.proofs.LineLemmas.{start_stops, continue_stops, run_stops, keeps_line}

-- none of the first so many characters is a newline
abbrev NoNewline : List ℕ → ℕ → Type 0
NoNewline text n = count_by (λ c. c == newline) (take n text) ≡ 0

-- nor is one in the piece, if it is a token
abbrev TokenHasNone : List ℕ → Piece → Type 0
TokenHasNone text (gap_piece n) = Unit {0}
TokenHasNone text (token_piece kind n) = NoNewline text n
TokenHasNone text no_piece = Unit {0}

-- a choice
either : {A : Type 0} (P : A → Type 0) (b : Bool) (x y : A) → (b ≡ true → P x)
    → (b ≡ false → P y) → P (if b then x else y)
either P true x y h k = h refl
either P false x y h k = k refl

as_many : (text : List ℕ) (m n : ℕ) → m ≡ n → NoNewline text m → NoNewline text n
as_many text m n e none = subst (NoNewline text) e none

-- a character that passes a test which a newline doesn't is none
no_newline : (p : ℕ → Bool) → p newline ≡ false → (c : ℕ) → p c ≡ true → (c == newline) ≡ false
no_newline p stops c passes = by_test (c == newline) refl
  where
    by_test : (b : Bool) → (c == newline) ≡ b → (c == newline) ≡ false
    by_test true is =
        let same : p newline ≡ true = ap p (sym (eqb-true c newline is)) ∙ passes in cc
    by_test false other = other

-- with one more before them
one_more : (c n : ℕ) (rest : List ℕ) → (c == newline) ≡ false → NoNewline rest n
    → NoNewline (c ∷ rest) (suc n)
one_more c n rest other others =
    sum_by-cons (λ d. cond (d == newline) 1 0) c (take n rest)
    ∙ ap (λ b. cond b 1 0 + count_by (λ d. d == newline) (take n rest)) other
    ∙ omega (arith, others)

-- WORDS, LOGIC NAMES AND DIGITS
-- a character that passes and so many others, if it does
passing : (p : ℕ → Bool) → p newline ≡ false → (c n : ℕ) (rest : List ℕ) → NoNewline rest n
    → NoNewline (c ∷ rest) (if p c then 1 + n else 0)
passing p stops c n rest others = either (NoNewline (c ∷ rest)) (p c) (1 + n) 0
    (λ passes. as_many (c ∷ rest) (suc n) (1 + n) (omega arith)
    (one_more c n rest (no_newline p stops c passes) others)) (λ _. refl)

-- a prefix of characters that pass
prefix_none : (p : ℕ → Bool) → p newline ≡ false → (text : List ℕ)
    → NoNewline text (prefix_len p text)
prefix_none p stops [] = refl
prefix_none p stops (c ∷ rest) =
    passing p stops c (prefix_len p rest) rest (prefix_none p stops rest)

word_none : (text : List ℕ) → NoNewline text (word_length text)
word_none [] = refl
word_none (c ∷ rest) = passing starts_word start_stops c (prefix_len is_xid_continue rest) rest
    (prefix_none is_xid_continue continue_stops rest)

logic_none : (text : List ℕ) → NoNewline text (logic_length text)
logic_none [] = refl
logic_none (c ∷ rest) = passing (λ d. (d == dollar) && nat_lt 0 (word_length rest)) refl c
    (word_length rest) rest (word_none rest)

digits_none : (text : List ℕ) → NoNewline text (length (digit_run text))
digits_none text =
    as_many text (prefix_len in_digit_run text) (length (digit_run text))
    (sym (length-prefix_len in_digit_run text)) (prefix_none in_digit_run run_stops text)

-- LITERALS
-- what is left of a literal of which so many characters stand before the text
abbrev LeavesNone : List ℕ → ℕ → ℕ → Type 0
LeavesNone text before whole = NoNewline text (whole - before)

nothing_more : (text : List ℕ) (before : ℕ) → LeavesNone text before 0
nothing_more text before = as_many text 0 (0 - before) (omega arith) refl

-- a character of it before others
one_left : (c before whole : ℕ) (rest : List ℕ) → (c == newline) ≡ false
    → LeavesNone rest (before + 1) whole → LeavesNone (c ∷ rest) before whole
one_left c before whole rest other others = by_order (cases_lt before whole)
  where
    by_order : (before < whole) ⊎ (whole ≤ before) → LeavesNone (c ∷ rest) before whole
    by_order (inl less) = as_many (c ∷ rest) (suc (whole - (before + 1))) (whole - before)
        (omega (arith, less)) (one_more c (whole - (before + 1)) rest other others)
    by_order (inr no_less) = as_many (c ∷ rest) 0 (whole - before) (omega (arith, no_less)) refl

end_none : (escaped : Bool) (before : ℕ) (text : List ℕ)
    → LeavesNone text before (literal_end escaped before text)
end_none escaped before [] = nothing_more [] before
end_none true before (c ∷ rest) =
    either (LeavesNone (c ∷ rest) before) (is_escape c) (literal_end false (before + 1) rest) 0
    (λ passes. one_left c before (literal_end false (before + 1) rest) rest
    (no_newline is_escape refl c passes) (end_none false (before + 1) rest))
    (λ _. nothing_more (c ∷ rest) before)
end_none false before (c ∷ rest) =
    either (LeavesNone (c ∷ rest) before) (c == quote) (before + 1) _
    (λ passes. one_left c before (before + 1) rest (no_newline (λ d. d == quote) refl c passes)
    (as_many rest 0 (before + 1 - (before + 1)) (omega arith) refl))
    (λ _. either (LeavesNone (c ∷ rest) before) (c == newline) 0
    (literal_end (c == backslash) (before + 1) rest) (λ _. nothing_more (c ∷ rest) before)
    (λ other. one_left c before (literal_end (c == backslash) (before + 1) rest) rest other
    (end_none (c == backslash) (before + 1) rest)))

literal_none : (text : List ℕ) → NoNewline text (literal_length text)
literal_none [] = refl
literal_none (c ∷ rest) =
    either (NoNewline (c ∷ rest)) (c == quote) (literal_end false 1 rest) 0
    (λ passes. as_many (c ∷ rest) (literal_end false 1 rest - 0) (literal_end false 1 rest)
    (omega arith) (one_left c 0 (literal_end false 1 rest) rest
    (no_newline (λ d. d == quote) refl c passes) (end_none false 1 rest))) (λ _. refl)

-- SYMBOLS
-- what begins with a symbol that has none
symbol_none : (text symbol : List ℕ) → keeps_line symbol ≡ true
    → starts_with nat_eq text symbol ≡ true → NoNewline text (length symbol)
symbol_none text [] keeps starts = refl
symbol_none [] (x ∷ symbol) keeps starts = refl
symbol_none (c ∷ text) (x ∷ symbol) keeps starts =
    let others = and_parts (not (x == newline)) (keeps_line symbol) keeps in
    let same = and_parts (nat_eq x c) (starts_with nat_eq text symbol) starts in
    one_more c (length symbol) text
    (ap (λ d. d == newline) (sym (eqb-true x c same.0))
    ∙ no_newline (λ d. not (d == newline)) refl x others.0)
    (symbol_none text symbol others.1 same.1)

greater : (text : List ℕ) (m n : ℕ) → NoNewline text m → NoNewline text n
    → NoNewline text (max m n)
greater text m n h k = by_order (cases_lt m n)
  where
    by_order : (m < n) ⊎ (n ≤ m) → NoNewline text (max m n)
    by_order (inl less) = as_many text n (max m n) (omega (arith, less)) k
    by_order (inr no_less) = as_many text m (max m n) (omega (arith, no_less)) h

longest_none : (all : List (List ℕ)) → list_all keeps_line all ≡ true → (text : List ℕ)
    → NoNewline text (longest_at_front all text)
longest_none [] keep text = refl
longest_none (symbol ∷ all) keep text =
    let parts = and_parts (keeps_line symbol) (list_all keeps_line all) keep in
    greater text (length_at_front text symbol) (longest_at_front all text)
    (either (NoNewline text) (starts_with nat_eq text symbol) (length symbol) 0
    (symbol_none text symbol parts.0) (λ _. refl)) (longest_none all parts.1 text)

symbols_none : (text : List ℕ) → NoNewline text (longest_at_front symbols text)
unfolding symbols
symbols_none = longest_none symbols refl

-- PIECES
longer : (text : List ℕ) (kind : TokenKind) (n : ℕ) (other : Piece) → NoNewline text n
    → TokenHasNone text other → TokenHasNone text (longer_token kind n other)
longer text kind n other h k = either (TokenHasNone text) (nat_lt (piece_length other) n)
    (token_piece kind n) other (λ _. h) (λ _. k)

longest_token-none : (text : List ℕ) → TokenHasNone text (longest_token text)
longest_token-none text =
    longer text word_token (word_length text) _ (word_none text)
    (longer text logic_token (logic_length text) _ (logic_none text)
    (longer text literal_token (literal_length text) _ (literal_none text)
    (longer text symbol_token (longest_at_front symbols text) no_piece (symbols_none text) tt)))

digits_piece-none : (text : List ℕ) → TokenHasNone text (digits_piece (digit_run text))
digits_piece-none text =
    let run = digit_run text in
    either (TokenHasNone text) (bytes_eq run (codes "0f") || bytes_eq run (codes "0g")) _ _
    (λ _. digits_none text)
    (λ _. either (TokenHasNone text) (is_number run) _ no_piece (λ _. digits_none text) (λ _. tt))

piece_at-none : (text : List ℕ) → TokenHasNone text (piece_at text)
unfolding piece_at
piece_at-none [] = tt
piece_at-none (c ∷ rest) =
    let has_none = TokenHasNone (c ∷ rest) in
    either has_none (is_blank c) _ _ (λ _. tt)
    (λ _. either has_none (starts_with nat_eq (c ∷ rest) (codes "//")) _ _ (λ _. tt)
    (λ _. either has_none (is_ascii_digit c) _ _ (λ _. digits_piece-none (c ∷ rest))
    (λ _. longest_token-none (c ∷ rest))))

-- a token at the front of a text
pub token_none : (text : List ℕ) (kind : TokenKind) (n : ℕ)
    → token_piece kind n ≡ piece_at text → count_by (λ c. c == newline) (take n text) ≡ 0
token_none text kind n e = subst (TokenHasNone text) (sym e) (piece_at-none text)
