-- What stands at the front of a text is told by its own characters alone, where it is no longer.
use Rattle.std.proofs.Common.{◌≡◌, ℕ, suc, ◌+◌, ◌≤◌, max, Bool, true, false, ◌&&◌, ◌==◌, List, [], ◌∷◌, ◌++◌, length, nat_eq, nat_lt, refl, sym, ap, arith}
use Rattle.std.specs.Prelude.{if◌then◌else◌}
use Rattle.std.proofs.lemmas.Bool.Decides.{nat_tests}
use Rattle.std.specs.List.{prefix_len, starts_with}
use Rattle.unicode_ident.specs.Ident.{is_xid_continue}
use Rattle.model_text.specs.Tokens.{newline, quote, dollar, backslash, starts_word, word_length, logic_length, is_escape, literal_end, literal_length, length_at_front, longest_at_front}

-- THE SAME WITHOUT WHAT FOLLOWS
pub prefix_same : (p : ℕ → Bool) (own more : List ℕ) → prefix_len p (own ++ more) ≤ length own
    → prefix_len p own ≡ prefix_len p (own ++ more)
prefix_same p [] more h = omega arith
prefix_same p (c ∷ own) more h = by_test (p c) h (prefix_same p own more)
  where
    by_test : (b : Bool)
        → (if b then 1 + prefix_len p (own ++ more) else 0) ≤ length (c ∷ own)
        → (prefix_len p (own ++ more) ≤ length own
        → prefix_len p own ≡ prefix_len p (own ++ more))
        → (if b then 1 + prefix_len p own else 0)
        ≡ (if b then 1 + prefix_len p (own ++ more) else 0)
    by_test true h same = omega (arith, same (omega arith))
    by_test false h same = refl

pub word_same : (own more : List ℕ) → word_length (own ++ more) ≤ length own
    → word_length own ≡ word_length (own ++ more)
word_same [] more h = omega arith
word_same (c ∷ own) more h = by_test (starts_word c) h
  where
    by_test : (b : Bool)
        → (if b then 1 + prefix_len is_xid_continue (own ++ more) else 0) ≤ length (c ∷ own)
        → (if b then 1 + prefix_len is_xid_continue own else 0)
        ≡ (if b then 1 + prefix_len is_xid_continue (own ++ more) else 0)
    by_test true h =
        omega (arith, prefix_same is_xid_continue own more (omega arith))
    by_test false h = refl

-- a name behind a dollar, where a word of so many characters is
abbrev behind_dollar : ℕ → ℕ
behind_dollar count = if nat_lt 0 count then 1 + count else 0

behind_dollar-le : (count most : ℕ) → behind_dollar count ≤ suc most → count ≤ most
behind_dollar-le count most h = grind (arith, nat_tests)

pub logic_same : (own more : List ℕ) → logic_length (own ++ more) ≤ length own
    → logic_length own ≡ logic_length (own ++ more)
logic_same [] more h = omega arith
logic_same (c ∷ own) more h = by_test (c == dollar) h
  where
    by_test : (b : Bool)
        → (if b && nat_lt 0 (word_length (own ++ more)) then 1 + word_length (own ++ more) else 0)
        ≤ length (c ∷ own)
        → (if b && nat_lt 0 (word_length own) then 1 + word_length own else 0)
        ≡ (if b && nat_lt 0 (word_length (own ++ more)) then 1 + word_length (own ++ more) else 0)
    by_test true h = ap behind_dollar
        (word_same own more (behind_dollar-le (word_length (own ++ more)) (length own) h))
    by_test false h = refl

-- a literal that goes on ends behind what is read, or doesn't
literal_none : (escaped : Bool) (before : ℕ) (rest : List ℕ)
    → literal_end escaped before rest ≤ before → literal_end escaped before rest ≡ 0
literal_none escaped before [] h = refl
literal_none true before (c ∷ rest) h =
    by_test (is_escape c) h (literal_none false (before + 1) rest)
  where
    by_test : (b : Bool)
        → (if b then literal_end false (before + 1) rest else 0) ≤ before
        → (literal_end false (before + 1) rest ≤ before + 1
        → literal_end false (before + 1) rest ≡ 0)
        → (if b then literal_end false (before + 1) rest else 0) ≡ 0
    by_test true h none = none (omega arith)
    by_test false h none = refl
literal_none false before (c ∷ rest) h =
    by_test (c == quote) (c == newline) h (literal_none (c == backslash) (before + 1) rest)
  where
    by_test : (a b : Bool)
        → (if a then before + 1
        else (if b then 0 else literal_end (c == backslash) (before + 1) rest)) ≤ before
        → (literal_end (c == backslash) (before + 1) rest ≤ before + 1
        → literal_end (c == backslash) (before + 1) rest ≡ 0)
        → (if a then before + 1
        else (if b then 0 else literal_end (c == backslash) (before + 1) rest)) ≡ 0
    by_test true b h none = absurd (omega arith)
    by_test false true h none = refl
    by_test false false h none = none (omega arith)

pub literal_end_same : (escaped : Bool) (before : ℕ) (own more : List ℕ)
    → literal_end escaped before (own ++ more) ≤ before + length own
    → literal_end escaped before own ≡ literal_end escaped before (own ++ more)
literal_end_same escaped before [] more h =
    sym (literal_none escaped before more (omega arith))
literal_end_same true before (c ∷ own) more h =
    by_test (is_escape c) h (literal_end_same false (before + 1) own more)
  where
    by_test : (b : Bool)
        → (if b then literal_end false (before + 1) (own ++ more) else 0)
        ≤ before + length (c ∷ own)
        → (literal_end false (before + 1) (own ++ more) ≤ before + 1 + length own
        → literal_end false (before + 1) own ≡ literal_end false (before + 1) (own ++ more))
        → (if b then literal_end false (before + 1) own else 0)
        ≡ (if b then literal_end false (before + 1) (own ++ more) else 0)
    by_test true h same = same (omega arith)
    by_test false h same = refl
literal_end_same false before (c ∷ own) more h =
    by_test (c == quote) (c == newline) h (literal_end_same (c == backslash) (before + 1) own more)
  where
    by_test : (a b : Bool)
        → (if a then before + 1
        else (if b then 0 else literal_end (c == backslash) (before + 1) (own ++ more)))
        ≤ before + length (c ∷ own)
        → (literal_end (c == backslash) (before + 1) (own ++ more) ≤ before + 1 + length own
        → literal_end (c == backslash) (before + 1) own
        ≡ literal_end (c == backslash) (before + 1) (own ++ more))
        → (if a then before + 1
        else (if b then 0 else literal_end (c == backslash) (before + 1) own))
        ≡ (if a then before + 1
        else (if b then 0 else literal_end (c == backslash) (before + 1) (own ++ more)))
    by_test true b h same = refl
    by_test false true h same = refl
    by_test false false h same = same (omega arith)

pub literal_same : (own more : List ℕ) → literal_length (own ++ more) ≤ length own
    → literal_length own ≡ literal_length (own ++ more)
literal_same [] more h = omega arith
literal_same (c ∷ own) more h = by_test (c == quote) h
  where
    by_test : (b : Bool)
        → (if b then literal_end false 1 (own ++ more) else 0) ≤ length (c ∷ own)
        → (if b then literal_end false 1 own else 0)
        ≡ (if b then literal_end false 1 (own ++ more) else 0)
    by_test true h = literal_end_same false 1 own more (omega arith)
    by_test false h = refl

-- a symbol that stands at the front of a text stands at the front of what is as long
front_same : (own more symbol : List ℕ)
    → (starts_with nat_eq (own ++ more) symbol ≡ true → length symbol ≤ length own)
    → starts_with nat_eq own symbol ≡ starts_with nat_eq (own ++ more) symbol
front_same own more [] h = refl
front_same [] more (x ∷ symbol) h = by_test (starts_with nat_eq more (x ∷ symbol)) h
  where
    by_test : (b : Bool) → (b ≡ true → length (x ∷ symbol) ≤ 0) → false ≡ b
    by_test true h = absurd (omega (arith, h refl))
    by_test false h = refl
front_same (c ∷ own) more (x ∷ symbol) h =
    by_test (nat_eq x c) h (front_same own more symbol)
  where
    by_test : (b : Bool)
        → (b && starts_with nat_eq (own ++ more) symbol ≡ true
        → length (x ∷ symbol) ≤ length (c ∷ own))
        → ((starts_with nat_eq (own ++ more) symbol ≡ true → length symbol ≤ length own)
        → starts_with nat_eq own symbol ≡ starts_with nat_eq (own ++ more) symbol)
        → b && starts_with nat_eq own symbol ≡ b && starts_with nat_eq (own ++ more) symbol
    by_test true h same = same (λ e. omega (arith, h e))
    by_test false h same = refl

length_same : (own more symbol : List ℕ)
    → length_at_front (own ++ more) symbol ≤ length own
    → length_at_front own symbol ≡ length_at_front (own ++ more) symbol
length_same own more symbol h =
    ap (λ b. if b then length symbol else 0) (front_same own more symbol
    (λ e. by_true (starts_with nat_eq (own ++ more) symbol) e h))
  where
    by_true : (b : Bool) → b ≡ true → (if b then length symbol else 0) ≤ length own
        → length symbol ≤ length own
    by_true true e h = h
    by_true false e h = absurd cc

pub longest_same : (all : List (List ℕ)) (own more : List ℕ)
    → longest_at_front all (own ++ more) ≤ length own
    → longest_at_front all own ≡ longest_at_front all (own ++ more)
longest_same [] own more h = refl
longest_same (symbol ∷ all) own more h =
    let here : length_at_front own symbol ≡ length_at_front (own ++ more) symbol =
    length_same own more symbol (omega arith) in
    let others : longest_at_front all own ≡ longest_at_front all (own ++ more) =
    longest_same all own more (omega arith) in
    λ i. max (here i) (others i)
