-- The longest symbol at the front of a text, by the character that begins it.
use Rattle.std.proofs.Common.{◌≡◌, ℕ, ◌<◌, max, List, map, length, arith, [], ◌∷◌, ◌==◌, nat_eq, Bool, true, false, not, ◌||◌, ◌&&◌, take, drop, get_or, codes, refl, sym, ap, ◌∙◌, eq-eqb}
use Rattle.std.specs.Prelude.{if◌then◌else◌}
use Rattle.std.specs.Cmp.Lexicographic.{pointwise}
use Rattle.std.proofs.lemmas.Bool.{and_parts, eqb-true}
use Rattle.std.specs.Char.{is_ascii_alphabetic}
use Rattle.std.specs.List.{filter, list_all}
use Rattle.text_tokens.specs.Symbols.{comes_next, is_among, is_lone}
use Rattle.model_text.specs.Tokens.{symbols, length_at_front, longest_at_front}

-- THE SYMBOLS THAT BEGIN WITH A CHARACTER
-- whether the symbol begins with the character
abbrev pub begins_with : ℕ → List ℕ → Bool
begins_with first [] = false
begins_with first (c ∷ symbol) = nat_eq c first

-- whether the symbol begins with a character that passes the test
abbrev pub begins_so : (ℕ → Bool) → List ℕ → Bool
begins_so test [] = true
begins_so test (c ∷ symbol) = test c

-- a symbol that begins with another character doesn't stand there
no_length : (first c : ℕ) (rest symbol : List ℕ) → nat_eq c first ≡ false
    → length_at_front (first ∷ rest) (c ∷ symbol) ≡ 0
no_length first c rest symbol e =
    ap (λ b. if b && pointwise nat_eq symbol (take (length symbol) rest)
    then length (c ∷ symbol) else 0) e

-- and so those that begin with the character decide
longest_from : (first : ℕ) (rest : List ℕ) (all : List (List ℕ))
    → longest_at_front (filter (begins_with first) all) (first ∷ rest)
    ≡ longest_at_front all (first ∷ rest)
longest_from first rest [] = refl
longest_from first rest ([] ∷ all) = longest_from first rest all ∙ omega arith
longest_from first rest ((c ∷ symbol) ∷ all) =
    by_test (nat_eq c first) refl (longest_from first rest all)
  where
    by_test : (b : Bool) → nat_eq c first ≡ b
        → longest_at_front (filter (begins_with first) all) (first ∷ rest)
        ≡ longest_at_front all (first ∷ rest)
        → longest_at_front (if b then (c ∷ symbol) ∷ filter (begins_with first) all
        else filter (begins_with first) all) (first ∷ rest)
        ≡ max (length_at_front (first ∷ rest) (c ∷ symbol))
        (longest_at_front all (first ∷ rest))
    by_test true e others = ap (max (length_at_front (first ∷ rest) (c ∷ symbol))) others
    by_test false e others = others ∙ omega (arith, no_length first c rest symbol e)

-- the symbols that begin with one of these characters, in their order
abbrev pub IsBegunBy : (ℕ → List (List ℕ)) → List ℕ → Type 0
IsBegunBy own heads = map (λ head. filter (begins_with head) symbols) heads ≡ map own heads

begun_by : (own : ℕ → List (List ℕ)) (heads : List ℕ) → IsBegunBy own heads → (first : ℕ)
    → is_among heads first ≡ true → filter (begins_with first) symbols ≡ own first
begun_by own [] all first among = cc
begun_by own (head ∷ heads) all first among =
    by_test (nat_eq head first) refl among (begun_by own heads (ap (drop 1) all) first)
  where
    by_test : (b : Bool) → nat_eq head first ≡ b → (b || is_among heads first) ≡ true
        → (is_among heads first ≡ true → filter (begins_with first) symbols ≡ own first)
        → filter (begins_with first) symbols ≡ own first
    by_test true e h others =
        ap (λ k. filter (begins_with k) symbols) (sym (eqb-true head first e))
        ∙ ap (λ found. get_or found 0 []) all ∙ ap own (eqb-true head first e)
    by_test false e h others = others h

-- decide for a text that one of these begins
decided_by : (own : ℕ → List (List ℕ)) (heads : List ℕ) → IsBegunBy own heads
    → (first : ℕ) → is_among heads first ≡ true → (rest : List ℕ)
    → longest_at_front (own first) (first ∷ rest) ≡ longest_at_front symbols (first ∷ rest)
decided_by own heads all first among rest =
    ap (λ own. longest_at_front own (first ∷ rest)) (sym (begun_by own heads all first among))
    ∙ longest_from first rest symbols

-- THEIR LENGTHS
same : (c : ℕ) → nat_eq c c ≡ true
same c = eq-eqb c c refl

-- the symbols of two characters, of which the second is one of the marks
abbrev pub pairs : List ℕ → ℕ → List (List ℕ)
pairs marks first = map (λ mark. first ∷ mark ∷ []) marks

abbrev pub one_and_pairs : List ℕ → ℕ → List (List ℕ)
one_and_pairs marks first = (first ∷ []) ∷ pairs marks first

-- the symbols of three characters, of which the second is a dash and the third one of the marks
abbrev pub arrows : List ℕ → ℕ → List (List ℕ)
arrows marks first = map (λ mark. first ∷ 45 ∷ mark ∷ []) marks

longer_of_two : (n : ℕ) (b others : Bool)
    → max (if b && true then n else 0) (if others then n else 0) ≡ (if b || others then n else 0)
longer_of_two n true true = omega arith
longer_of_two n true false = omega arith
longer_of_two n false others = omega arith

of_pairs : (marks : List ℕ) (first : ℕ) (rest : List ℕ)
    → longest_at_front (pairs marks first) (first ∷ rest)
    ≡ (if comes_next marks rest then 2 else 0)
of_pairs [] first [] = refl
of_pairs [] first (c ∷ rest) = refl
of_pairs (mark ∷ marks) first [] =
    ap (λ b. max (if b && false then 2 else 0) (longest_at_front (pairs marks first) (first ∷ [])))
    (same first) ∙ omega (arith, of_pairs marks first [])
of_pairs (mark ∷ marks) first (c ∷ rest) =
    ap (λ b. max (if b && (nat_eq mark c && true) then 2 else 0)
    (longest_at_front (pairs marks first) (first ∷ c ∷ rest))) (same first)
    ∙ ap (max (if nat_eq mark c && true then 2 else 0)) (of_pairs marks first (c ∷ rest))
    ∙ longer_of_two 2 (nat_eq mark c) (comes_next marks (c ∷ rest))

of_one_and_pairs : (marks : List ℕ) (first : ℕ) (rest : List ℕ)
    → longest_at_front (one_and_pairs marks first) (first ∷ rest)
    ≡ (if comes_next marks rest then 2 else 1)
of_one_and_pairs marks first rest =
    ap (λ b. max (if b && true then 1 else 0)
    (longest_at_front (pairs marks first) (first ∷ rest))) (same first)
    ∙ ap (max 1) (of_pairs marks first rest) ∙ by_test (comes_next marks rest)
  where
    by_test : (b : Bool) → max 1 (if b then 2 else 0) ≡ (if b then 2 else 1)
    by_test true = refl
    by_test false = refl

never : (n : ℕ) (b : Bool) → 0 ≡ (if b && false then n else 0)
never n true = refl
never n false = refl

longer_of_three : (b mark others : Bool)
    → max (if b && (mark && true) then 3 else 0) (if (b || false) && others then 3 else 0)
    ≡ (if (b || false) && (mark || others) then 3 else 0)
longer_of_three true mark others = longer_of_two 3 mark others
longer_of_three false mark others = refl

of_arrow : (marks : List ℕ) (first c : ℕ) (rest : List ℕ)
    → longest_at_front (arrows marks first) (first ∷ c ∷ rest)
    ≡ (if comes_next (45 ∷ []) (c ∷ rest) && comes_next marks rest then 3 else 0)
of_arrow [] first c [] = never 3 (nat_eq 45 c || false)
of_arrow [] first c (d ∷ rest) = never 3 (nat_eq 45 c || false)
of_arrow (mark ∷ marks) first c [] =
    ap (λ b. max (if b && (nat_eq 45 c && false) then 3 else 0)
    (longest_at_front (arrows marks first) (first ∷ c ∷ []))) (same first)
    ∙ omega (arith, never 3 (nat_eq 45 c), of_arrow marks first c [])
of_arrow (mark ∷ marks) first c (d ∷ rest) =
    ap (λ b. max (if b && (nat_eq 45 c && (nat_eq mark d && true)) then 3 else 0)
    (longest_at_front (arrows marks first) (first ∷ c ∷ d ∷ rest))) (same first)
    ∙ ap (max (if nat_eq 45 c && (nat_eq mark d && true) then 3 else 0))
    (of_arrow marks first c (d ∷ rest))
    ∙ longer_of_three (nat_eq 45 c) (nat_eq mark d) (comes_next marks (d ∷ rest))

no_arrow : (marks : List ℕ) (first : ℕ) → longest_at_front (arrows marks first) (first ∷ []) ≡ 0
no_arrow [] first = refl
no_arrow (mark ∷ marks) first =
    ap (λ b. max (if b && false then 3 else 0) (longest_at_front (arrows marks first) (first ∷ [])))
    (same first) ∙ omega (arith, no_arrow marks first)

of_arrows : (marks : List ℕ) (first : ℕ) (rest : List ℕ)
    → longest_at_front (arrows marks first) (first ∷ rest)
    ≡ (if comes_next (45 ∷ []) rest && comes_next marks (drop 1 rest) then 3 else 0)
of_arrows marks first [] = no_arrow marks first
of_arrows marks first (c ∷ rest) = of_arrow marks first c rest

-- WHAT STANDS AT THE FRONT
-- a symbol that one of these characters begins, with one of the marks behind it or alone
pub one_or_two : (marks heads : List ℕ) → IsBegunBy (one_and_pairs marks) heads → (first : ℕ)
    → is_among heads first ≡ true → (rest : List ℕ)
    → (if comes_next marks rest then 2 else 1) ≡ longest_at_front symbols (first ∷ rest)
one_or_two marks heads all first among rest = sym (of_one_and_pairs marks first rest)
    ∙ decided_by (one_and_pairs marks) heads all first among rest

-- alone
pub one : (first : ℕ) → is_lone first ≡ true → (rest : List ℕ)
    → 1 ≡ longest_at_front symbols (first ∷ rest)
unfolding symbols
one first lone rest =
    sym (by_rest rest) ∙ one_or_two [] (codes "()[]{}>,;=#%") refl first lone rest
  where
    by_rest : (rest : List ℕ) → ◌≡◌ {A = ℕ} (if comes_next [] rest then 2 else 1) 1
    by_rest [] = refl
    by_rest (c ∷ rest) = refl

-- with one of the marks behind it
pub none_or_two : (marks heads : List ℕ) → IsBegunBy (pairs marks) heads → (first : ℕ)
    → is_among heads first ≡ true → (rest : List ℕ)
    → (if comes_next marks rest then 2 else 0) ≡ longest_at_front symbols (first ∷ rest)
none_or_two marks heads all first among rest =
    sym (of_pairs marks first rest) ∙ decided_by (pairs marks) heads all first among rest

-- with a dash and one of the marks behind it
pub none_or_three : (marks heads : List ℕ) → IsBegunBy (arrows marks) heads → (first : ℕ)
    → is_among heads first ≡ true → (rest : List ℕ)
    → (if comes_next (45 ∷ []) rest && comes_next marks (drop 1 rest) then 3 else 0)
    ≡ longest_at_front symbols (first ∷ rest)
none_or_three marks heads all first among rest =
    sym (of_arrows marks first rest) ∙ decided_by (arrows marks) heads all first among rest

-- NO SYMBOL
differs : (test : ℕ → Bool) (c first : ℕ) → test first ≡ false → test c ≡ true
    → nat_eq c first ≡ false
differs test c first other so = by_test (nat_eq c first) refl
  where
    by_test : (b : Bool) → nat_eq c first ≡ b → nat_eq c first ≡ false
    by_test true e =
        let passes : test first ≡ true = ap test (sym (eqb-true c first e)) ∙ so in cc
    by_test false e = e

-- none begins with a character that fails a test which the first of each passes
pub none_from : (test : ℕ → Bool) (first : ℕ) → test first ≡ false → (all : List (List ℕ))
    → list_all (begins_so test) all ≡ true → (rest : List ℕ)
    → 0 ≡ longest_at_front all (first ∷ rest)
none_from test first other [] h rest = refl
none_from test first other ([] ∷ all) h rest =
    omega (arith, none_from test first other all h rest)
none_from test first other ((c ∷ symbol) ∷ all) h rest =
    let parts = and_parts (test c) (list_all (begins_so test) all) h in
    omega (
      arith,
      none_from test first other all parts.1 rest,
      no_length first c rest symbol (differs test c first other parts.0),
    )

-- such as a letter other than o
abbrev begins_no_word : ℕ → Bool
begins_no_word c = not (is_ascii_alphabetic c) || (c == 111)

not_o : (first : ℕ) (b : Bool) → (first == 111) ≡ b → (first ≡ 111 → ⊥) → (first == 111) ≡ false
not_o first true e other = absurd (other (eqb-true first 111 e))
not_o first false e other = e

pub letter_begins_none : (first : ℕ) → is_ascii_alphabetic first ≡ true → (first ≡ 111 → ⊥)
    → (rest : List ℕ) → 0 ≡ longest_at_front symbols (first ∷ rest)
unfolding symbols
letter_begins_none first letter other rest =
    none_from begins_no_word first (ap (λ b. not b || (first == 111)) letter
    ∙ not_o first (first == 111) refl other) symbols refl rest

-- or a character that is none of their first
abbrev begins_some : ℕ → Bool
begins_some c = is_lone c || is_among (codes "<:.+-*@?o") c

pub others_begin_none : (first : ℕ) → is_lone first ≡ false
    → is_among (codes "<:.+-*@?o") first ≡ false → (rest : List ℕ)
    → 0 ≡ longest_at_front symbols (first ∷ rest)
unfolding symbols
others_begin_none first lone other rest =
    none_from begins_some first (ap (λ b. b || is_among (codes "<:.+-*@?o") first) lone ∙ other)
    symbols refl rest

-- so that a character that begins no longer symbol is one or begins none
pub one_or_none : (first : ℕ) → is_among (codes "<:.+-*@?o") first ≡ false → (rest : List ℕ)
    → (if is_lone first then 1 else 0) ≡ longest_at_front symbols (first ∷ rest)
one_or_none first other rest = by_test (is_lone first) refl
  where
    by_test : (b : Bool) → is_lone first ≡ b
        → (if b then 1 else 0) ≡ longest_at_front symbols (first ∷ rest)
    by_test true lone = one first lone rest
    by_test false lone = others_begin_none first lone other rest

-- and none stands at the front of no text
pub none_in : {X : Type 0} (code : X → ℕ) (text : List X) → length text < 1
    → 0 ≡ longest_at_front symbols (map code text)
unfolding symbols
none_in code [] h = refl
none_in code (x ∷ text) h = omega (arith, h)
