-- What stands at the front of a line stands there whatever follows the line.
use Rattle.std.proofs.Common.{◌≡◌, ℕ, zero, suc, ◌+◌, ◌<◌, ◌==◌, Bool, true, false, not, ◌&&◌, ◌||◌, cond, List, [], ◌∷◌, ◌++◌, length, take, drop, max, nat_eq, nat_lt, codes, refl, sym, ◌∙◌, ap, arith, append_assoc, inl, inr}
use Rattle.std.specs.Prelude.{if◌then◌else◌, ◌⊎◌}
use Rattle.std.specs.Str.{chars, IsUtf8, IsCharBoundary}
use Rattle.std.specs.Str.Pattern.{HasCharAt}
use Rattle.std.proofs.Math.Seq.{take-add, drop-nil}
use Rattle.std.proofs.lemmas.Str.{chars-append, IsUtf8-take}
use Rattle.std.proofs.lemmas.Str.Pattern.{drop_at_char}
use Rattle.std.proofs.lemmas.Bool.{eqb-true}
use Rattle.std.proofs.lemmas.List.{append-nil}
use Rattle.std.specs.Char.{is_ascii_digit}
use Rattle.std.specs.List.{prefix_len, starts_with, list_all}
use Rattle.unicode_ident.specs.Ident.{is_xid_continue}
use Rattle.unicode_ident.proofs.IdentLemmas.{is_xid_start-ascii, is_xid_continue-ascii}
use Rattle.model_text.specs.Tokens.{word_token, logic_token, literal_token, symbol_token, newline, quote, backslash, is_blank, starts_word, word_length, logic_length, is_escape, literal_end, literal_length, symbols, length_at_front, longest_at_front, in_digit_run, gap_piece, no_piece, digits_piece, longer_token, longest_token, piece_at}
use Rattle.text_tokens.specs.Lines.{ends_line, IsLineLength}

-- LINES
-- the last character is a newline
last_newline : (c : ℕ) (line : List ℕ) → ends_line (c ∷ line) ≡ true
    → (front : List ℕ) × (c ∷ line ≡ front ++ newline ∷ [])
last_newline c [] e = ([], ap (λ x. x ∷ []) (eqb-true c newline e))
last_newline c (d ∷ line) e =
    let others = last_newline d line e in (c ∷ others.0, ap (λ xs. c ∷ xs) others.1)

-- the rest of a line ends as it does
pub ends_line-drop : (n : ℕ) (line : List ℕ) → ends_line line ≡ true
    → ends_line (drop n line) ≡ true
ends_line-drop zero line e = e
ends_line-drop (suc n) [] e = refl
ends_line-drop (suc n) (c ∷ []) e = ap ends_line (drop-nil n)
ends_line-drop (suc n) (c ∷ d ∷ line) e = ends_line-drop n (d ∷ line) e

-- a newline after what stands before it
ends_line-newline : (front : List ℕ) → ends_line (front ++ newline ∷ []) ≡ true
ends_line-newline [] = refl
ends_line-newline (c ∷ []) = refl
ends_line-newline (c ∷ d ∷ front) = ends_line-newline (d ∷ front)

one_newline : chars (newline ∷ []) ≡ newline ∷ []
unfolding chars
one_newline = refl

-- up to a newline of the text stands a line
pub line_at : (text : List ℕ) (i j : ℕ) → IsUtf8 text → HasCharAt newline text i j
    → IsCharBoundary text i → IsLineLength text (i + 1)
line_at text i j utf8 has cut = inr
    (ap (λ xs. ends_line (chars xs)) (take-add i 1 text
    ∙ ap (λ xs. take i text ++ take 1 xs) (drop_at_char newline text i j has (omega arith)))
    ∙ ap ends_line (chars-append (take i text) (newline ∷ []) (IsUtf8-take text i utf8 cut)
    ∙ ap (λ xs. chars (take i text) ++ xs) one_newline)
    ∙ ends_line-newline (chars (take i text)))

-- LENGTHS
-- those that pass come to an end at a character that doesn't
prefix_same : (p : ℕ → Bool) → p newline ≡ false → (front rest : List ℕ)
    → prefix_len p (front ++ newline ∷ rest) ≡ prefix_len p (front ++ newline ∷ [])
prefix_same p e [] rest = ap (λ b. cond b (1 + prefix_len p rest) 0) e
    ∙ sym (ap (λ b. cond b (1 + prefix_len p []) 0) e)
prefix_same p e (c ∷ front) rest = ap (λ n. cond (p c) (1 + n) 0) (prefix_same p e front rest)

-- as words and runs of digits do at a newline
pub continue_stops : is_xid_continue newline ≡ false
continue_stops = is_xid_continue-ascii newline (omega arith)

pub start_stops : starts_word newline ≡ false
start_stops = ap (λ b. b || (newline == 95)) (is_xid_start-ascii newline (omega arith))

pub run_stops : in_digit_run newline ≡ false
run_stops = continue_stops

word_same : (front rest : List ℕ)
    → word_length (front ++ newline ∷ rest) ≡ word_length (front ++ newline ∷ [])
word_same [] rest = ap (λ b. if b then 1 + prefix_len is_xid_continue rest else 0) start_stops
    ∙ sym (ap (λ b. if b then 1 + prefix_len is_xid_continue [] else 0) start_stops)
word_same (c ∷ front) rest = ap (λ n. if starts_word c then 1 + n else 0)
    (prefix_same is_xid_continue continue_stops front rest)

logic_same : (front rest : List ℕ)
    → logic_length (front ++ newline ∷ rest) ≡ logic_length (front ++ newline ∷ [])
logic_same [] rest = refl
logic_same (c ∷ front) rest = ap (λ n. if (c == 36) && nat_lt 0 n then 1 + n else 0)
    (word_same front rest)

end_same : (escaped : Bool) (before : ℕ) (front rest : List ℕ)
    → literal_end escaped before (front ++ newline ∷ rest)
    ≡ literal_end escaped before (front ++ newline ∷ [])
end_same true before [] rest = refl
end_same false before [] rest = refl
end_same true before (c ∷ front) rest = ap (λ n. if is_escape c then n else 0)
    (end_same false (before + 1) front rest)
end_same false before (c ∷ front) rest = ap
    (λ n. if c == quote then before + 1 else (if c == newline then 0 else n))
    (end_same (c == backslash) (before + 1) front rest)

literal_same : (front rest : List ℕ)
    → literal_length (front ++ newline ∷ rest) ≡ literal_length (front ++ newline ∷ [])
literal_same [] rest = refl
literal_same (c ∷ front) rest = ap (λ n. if c == quote then n else 0) (end_same false 1 front rest)

-- SYMBOLS
-- no newline is among the characters
abbrev pub keeps_line : List ℕ → Bool
keeps_line symbol = list_all (λ c. not (c == newline)) symbol

both_true : (a b : Bool) → (a && b) ≡ true → (a ≡ true) × (b ≡ true)
both_true true b e = (refl, e)
both_true false b e = cc

starts_same : (front rest symbol : List ℕ) → keeps_line symbol ≡ true
    → starts_with nat_eq (front ++ newline ∷ rest) symbol
    ≡ starts_with nat_eq (front ++ newline ∷ []) symbol
starts_same front rest [] e = refl
starts_same [] rest (x ∷ symbol) e =
    by_test (x == newline) refl (both_true (not (x == newline)) _ e).0
  where
    by_test : (b : Bool) → (x == newline) ≡ b → not b ≡ true
        → starts_with nat_eq (newline ∷ rest) (x ∷ symbol)
        ≡ starts_with nat_eq (newline ∷ []) (x ∷ symbol)
    by_test true is other = absurd cc
    by_test false is other = ap (λ b. b && starts_with nat_eq rest symbol) is
        ∙ sym (ap (λ b. b && starts_with nat_eq [] symbol) is)
starts_same (c ∷ front) rest (x ∷ symbol) e = ap (λ b. nat_eq x c && b)
    (starts_same front rest symbol (both_true (not (x == newline)) _ e).1)

front_same : (front rest symbol : List ℕ) → keeps_line symbol ≡ true
    → length_at_front (front ++ newline ∷ rest) symbol
    ≡ length_at_front (front ++ newline ∷ []) symbol
front_same front rest symbol e = ap (λ b. if b then length symbol else 0)
    (starts_same front rest symbol e)

longest_same : (front rest : List ℕ) (all : List (List ℕ)) → list_all keeps_line all ≡ true
    → longest_at_front all (front ++ newline ∷ rest)
    ≡ longest_at_front all (front ++ newline ∷ [])
longest_same front rest [] e = refl
longest_same front rest (symbol ∷ all) e =
    let parts = both_true (keeps_line symbol) (list_all keeps_line all) e in
    ap (λ n. max n (longest_at_front all (front ++ newline ∷ rest)))
    (front_same front rest symbol parts.0)
    ∙ ap (max (length_at_front (front ++ newline ∷ []) symbol))
    (longest_same front rest all parts.1)

symbol_same : (front rest : List ℕ) → longest_at_front symbols (front ++ newline ∷ rest)
    ≡ longest_at_front symbols (front ++ newline ∷ [])
unfolding symbols
symbol_same front rest = longest_same front rest symbols refl

-- PIECES
longest_token-same : (front rest : List ℕ)
    → longest_token (front ++ newline ∷ rest) ≡ longest_token (front ++ newline ∷ [])
longest_token-same front rest = λ i.
    longer_token word_token (word_same front rest i)
    (longer_token logic_token (logic_same front rest i)
    (longer_token literal_token (literal_same front rest i)
    (longer_token symbol_token (symbol_same front rest i) no_piece)))

one_more : (n : ℕ) → 1 + n ≡ suc n
one_more n = omega arith

-- so many of those up to the newline
take_same : (p : ℕ → Bool) → p newline ≡ false → (front rest : List ℕ)
    → take (prefix_len p (front ++ newline ∷ rest)) (front ++ newline ∷ rest)
    ≡ take (prefix_len p (front ++ newline ∷ [])) (front ++ newline ∷ [])
take_same p e [] rest = ap (λ b. take (cond b (1 + prefix_len p rest) 0) (newline ∷ rest)) e
    ∙ sym (ap (λ b. take (cond b (1 + prefix_len p []) 0) (newline ∷ [])) e)
take_same p e (c ∷ front) rest = by_test (p c) (take_same p e front rest)
  where
    by_test : (b : Bool) → take (prefix_len p (front ++ newline ∷ rest)) (front ++ newline ∷ rest)
        ≡ take (prefix_len p (front ++ newline ∷ [])) (front ++ newline ∷ [])
        → take (cond b (1 + prefix_len p (front ++ newline ∷ rest)) 0) (c ∷ front ++ newline ∷ rest)
        ≡ take (cond b (1 + prefix_len p (front ++ newline ∷ [])) 0) (c ∷ front ++ newline ∷ [])
    by_test true same = ap (λ n. take n (c ∷ front ++ newline ∷ rest))
        (one_more (prefix_len p (front ++ newline ∷ rest)))
        ∙ ap (λ xs. c ∷ xs) same
        ∙ sym (ap (λ n. take n (c ∷ front ++ newline ∷ []))
        (one_more (prefix_len p (front ++ newline ∷ []))))
    by_test false same = refl

piece_same : (front rest : List ℕ)
    → piece_at (front ++ newline ∷ rest) ≡ piece_at (front ++ newline ∷ [])
unfolding piece_at
piece_same [] rest = refl
piece_same (c ∷ front) rest = λ i. if is_blank c then gap_piece 1
    else (if starts_same (c ∷ front) rest (codes "//") refl i
    then gap_piece (prefix_same (λ d. not (d == newline)) refl (c ∷ front) rest i)
    else (if is_ascii_digit c
    then digits_piece (take_same in_digit_run run_stops (c ∷ front) rest i)
    else longest_token-same (c ∷ front) rest i))

-- what stands at the front of a line
pub piece_in_line : (line rest : List ℕ) → 0 < length line → (rest ≡ []) ⊎ (ends_line line ≡ true)
    → piece_at (line ++ rest) ≡ piece_at line
piece_in_line [] rest some whole = absurd (omega arith)
piece_in_line (c ∷ line) rest some (inl none) =
    ap (λ r. piece_at ((c ∷ line) ++ r)) none ∙ ap piece_at (append-nil (c ∷ line))
piece_in_line (c ∷ line) rest some (inr ends) =
    let last = last_newline c line ends in
    ap (λ l. piece_at (l ++ rest)) last.1
    ∙ ap piece_at (append_assoc last.0 (newline ∷ []) rest)
    ∙ piece_same last.0 rest ∙ ap piece_at (sym last.1)
