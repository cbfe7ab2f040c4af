-- What the first character of a text says of the piece at its front.
use Rattle.std.proofs.Common.{◌≡◌, ◌⊎◌, ⊎_elim, ℕ, ◌+◌, ◌<◌, ◌==◌, ◌&&◌, Bool, true, false, not, nat_eq, nat_lt, List, [], ◌∷◌, map, length, take, drop, get_or, codes, refl, sym, ap, ◌∙◌, subst, arith}
use Rattle.std.specs.Prelude.{if◌then◌else◌}
use Rattle.std.specs.Cmp.Lexicographic.{pointwise}
use Rattle.std.specs.Char.{is_ascii_alphabetic, is_ascii_digit}
use Rattle.std.specs.List.{prefix_len, range_with_len, starts_with}
use Rattle.std.proofs.lemmas.Bool.{and_parts, eq-eqb, lt-ltb, ltb-true}
use Rattle.std.proofs.lemmas.Bool.Decides.{nat_tests}
use Rattle.std.proofs.lemmas.List.{length-map}
use Rattle.std.proofs.lemmas.List.FromFn.{get_or-map-range_with_len}
use Rattle.model_text.specs.Tokens.{TokenKind, Piece, gap_piece, token_piece, no_piece, piece_length, word_token, logic_token, literal_token, symbol_token, symbols, longest_at_front, is_blank, comment_length, digit_run, digits_piece, word_length, logic_length, literal_end, literal_length, longer_token, longest_token, piece_at}
use Rattle.text_tokens.specs.declared.pieces.TheConstants.{STARTS}
use Rattle.text_tokens.specs.declared.pieces.Start.{Start}
use Rattle.text_tokens.specs.declared.pieces.Start.TheVariants.{Blank, Opening, Closing, LoneSymbol, Symbol, Word, LogicName, Literal, Digit, Other}
use Rattle.text_tokens.specs.Pieces.{start_of}
use Rattle.text_tokens.specs.Symbols.{is_among, is_lone}
use Rattle.text_tokens.specs.Words.{begins_ascii_word}
use Rattle.unicode_ident.specs.Ident.{is_xid_continue}
use Rattle.text_tokens.proofs.LetterLemmas.{code_at, within_codes, begins_ascii}
use Rattle.text_tokens.proofs.SymbolLemmas.{letter_begins_none, others_begin_none, one}

-- as the table says
pub in_table : (c : ℕ) (d : Start) → c < 128 → get_or STARTS c d ≡ start_of c
in_table c d low = ap (λ table. get_or table c d) all
    ∙ get_or-map-range_with_len start_of 0 128 c c d low (omega arith)
  where
    all : STARTS ≡ map start_of (range_with_len 0 128)
    all = refl

-- THE TOKENS THAT MAY BEGIN WITH A CHARACTER
no_word : (c : ℕ) (rest : List ℕ) → c < 128 → begins_ascii_word c ≡ false
    → 0 ≡ word_length (c ∷ rest)
no_word c rest low other =
    sym (ap (λ b. if b then 1 + prefix_len is_xid_continue rest else 0)
    (begins_ascii c low ∙ other))

no_literal : (c : ℕ) (rest : List ℕ) → (c == 34) ≡ false → 0 ≡ literal_length (c ∷ rest)
no_literal c rest other = sym (ap (λ b. if b then literal_end false 1 rest else 0) other)

no_logic : (c : ℕ) (rest : List ℕ) → (c == 36) ≡ false → 0 ≡ logic_length (c ∷ rest)
no_logic c rest other =
    sym (ap (λ b. if b && nat_lt 0 (word_length rest) then 1 + word_length rest else 0) other)

-- the longest token is that of these lengths
longest_is : (text : List ℕ) (word logic literal symbol : ℕ) → word ≡ word_length text
    → logic ≡ logic_length text → literal ≡ literal_length text
    → symbol ≡ longest_at_front symbols text
    → longer_token word_token word (longer_token logic_token logic
    (longer_token literal_token literal (longer_token symbol_token symbol no_piece)))
    ≡ longest_token text
longest_is text word logic literal symbol a b c d = λ i. longer_token word_token (a i)
    (longer_token logic_token (b i)
    (longer_token literal_token (c i) (longer_token symbol_token (d i) no_piece)))

-- a token of no length is no longer than another piece
no_longer : (kind : TokenKind) (other : Piece) → longer_token kind 0 other ≡ other
no_longer kind other = by_test (nat_lt (piece_length other) 0) refl
  where
    by_test : (b : Bool) → nat_lt (piece_length other) 0 ≡ b
        → (if b then token_piece kind 0 else other) ≡ other
    by_test true e = absurd (omega (arith, ltb-true (piece_length other) 0 e))
    by_test false e = refl

-- and one that has a length is longer than none
pub some_longer : (kind : TokenKind) (n : ℕ) → 0 < n
    → token_piece kind n ≡ longer_token kind n no_piece
some_longer kind n some = sym (ap (λ b. if b then token_piece kind n else no_piece)
    (lt-ltb 0 n some))

not_same : (c k : ℕ) → not (c == k) ≡ true → c ≡ k → ⊥
not_same c k other same =
    let no : not true ≡ true = ap not (sym (eq-eqb c k same)) ∙ other in cc

word_only : (c : ℕ) (rest : List ℕ) → is_ascii_alphabetic c ≡ true → not (c == 111) ≡ true
    → longer_token word_token (word_length (c ∷ rest)) no_piece ≡ longest_token (c ∷ rest)
word_only c rest letter other =
    let quote : (c == 34) ≡ false = grind (arith, nat_tests) in
    let dollar : (c == 36) ≡ false = grind (arith, nat_tests) in
    longest_is (c ∷ rest) (word_length (c ∷ rest)) 0 0 0 refl (no_logic c rest dollar)
    (no_literal c rest quote) (letter_begins_none c letter (not_same c 111 other) rest)

logic_only : (c : ℕ) (rest : List ℕ) → (c == 36) ≡ true
    → longer_token logic_token (logic_length (c ∷ rest)) no_piece ≡ longest_token (c ∷ rest)
logic_only c rest is =
    let low : c < 128 = grind (arith, nat_tests) in
    let word : begins_ascii_word c ≡ false = grind (arith, nat_tests) in
    let quote : (c == 34) ≡ false = grind (arith, nat_tests) in
    let lone : is_lone c ≡ false = grind (arith, nat_tests) in
    let symbol : is_among (codes "<:.+-*@?o") c ≡ false = grind (arith, nat_tests) in
    sym (no_longer word_token _)
    ∙ longest_is (c ∷ rest) 0 (logic_length (c ∷ rest)) 0 0 (no_word c rest low word) refl
    (no_literal c rest quote) (others_begin_none c lone symbol rest)

literal_only : (c : ℕ) (rest : List ℕ) → (c == 34) ≡ true
    → longer_token literal_token (literal_length (c ∷ rest)) no_piece ≡ longest_token (c ∷ rest)
literal_only c rest is =
    let low : c < 128 = grind (arith, nat_tests) in
    let word : begins_ascii_word c ≡ false = grind (arith, nat_tests) in
    let dollar : (c == 36) ≡ false = grind (arith, nat_tests) in
    let lone : is_lone c ≡ false = grind (arith, nat_tests) in
    let symbol : is_among (codes "<:.+-*@?o") c ≡ false = grind (arith, nat_tests) in
    sym (no_longer word_token _ ∙ no_longer logic_token _)
    ∙ longest_is (c ∷ rest) 0 0 (literal_length (c ∷ rest)) 0 (no_word c rest low word)
    (no_logic c rest dollar) refl (others_begin_none c lone symbol rest)

symbol_only : (c : ℕ) (rest : List ℕ) → c < 128 → begins_ascii_word c ≡ false
    → (c == 34) ≡ false → (c == 36) ≡ false
    → longer_token symbol_token (longest_at_front symbols (c ∷ rest)) no_piece
    ≡ longest_token (c ∷ rest)
symbol_only c rest low word quote dollar =
    sym (no_longer word_token _ ∙ no_longer logic_token _ ∙ no_longer literal_token _)
    ∙ longest_is (c ∷ rest) 0 0 0 (longest_at_front symbols (c ∷ rest))
    (no_word c rest low word) (no_logic c rest dollar) (no_literal c rest quote) refl

-- THE PIECES
-- the piece at the front of the text, by what begins it
abbrev pub started : Start → List ℕ → Piece
started Blank text = gap_piece 1
started Opening text = token_piece symbol_token 1
started Closing text = token_piece symbol_token 1
started LoneSymbol text = token_piece symbol_token 1
started Symbol text = longer_token symbol_token (longest_at_front symbols text) no_piece
started Word text = token_piece word_token (1 + prefix_len is_xid_continue (drop 1 text))
started LogicName text = longer_token logic_token (logic_length text) no_piece
started Literal text = longer_token literal_token (literal_length text) no_piece
started Digit text = digits_piece (digit_run text)
started Other text = piece_at text

-- each of these says that a symbol of one character stands there
abbrev pub IsLone : Start → Type 0
IsLone start = (start ≡ Opening) ⊎ ((start ≡ Closing) ⊎ (start ≡ LoneSymbol))

pub one_character : (start : Start) (text : List ℕ) → IsLone start
    → token_piece symbol_token 1 ≡ started start text
one_character start text =
    ⊎_elim (by_one Opening refl) (⊎_elim (by_one Closing refl) (by_one LoneSymbol refl))
  where
    by_one : (one : Start) → token_piece symbol_token 1 ≡ started one text → start ≡ one
        → token_piece symbol_token 1 ≡ started start text
    by_one one e is = e ∙ ap (λ s. started s text) (sym is)

behind_gaps : (c : ℕ) (rest : List ℕ) → is_blank c ≡ false → nat_eq 47 c ≡ false
    → piece_at (c ∷ rest) ≡ (if is_ascii_digit c then digits_piece (digit_run (c ∷ rest))
    else longest_token (c ∷ rest))
unfolding piece_at
behind_gaps c rest blank slash =
    ap (λ b. if b then gap_piece 1
    else (if starts_with nat_eq (c ∷ rest) (codes "//") then gap_piece (comment_length (c ∷ rest))
    else (if is_ascii_digit c then digits_piece (digit_run (c ∷ rest))
    else longest_token (c ∷ rest)))) blank
    ∙ ap (λ b. if b && pointwise nat_eq (codes "/") (take 1 rest)
    then gap_piece (comment_length (c ∷ rest))
    else (if is_ascii_digit c then digits_piece (digit_run (c ∷ rest))
    else longest_token (c ∷ rest))) slash

no_gap : (c : ℕ) (rest : List ℕ) → is_blank c ≡ false → nat_eq 47 c ≡ false
    → is_ascii_digit c ≡ false → piece_at (c ∷ rest) ≡ longest_token (c ∷ rest)
no_gap c rest blank slash digit = behind_gaps c rest blank slash
    ∙ ap (λ b. if b then digits_piece (digit_run (c ∷ rest)) else longest_token (c ∷ rest)) digit

blank_piece : (c : ℕ) (rest : List ℕ) → is_blank c ≡ true → gap_piece 1 ≡ piece_at (c ∷ rest)
unfolding piece_at
blank_piece c rest blank = sym (ap (λ b. if b then gap_piece 1
    else (if starts_with nat_eq (c ∷ rest) (codes "//") then gap_piece (comment_length (c ∷ rest))
    else (if is_ascii_digit c then digits_piece (digit_run (c ∷ rest))
    else longest_token (c ∷ rest)))) blank)

digit_piece : (c : ℕ) (rest : List ℕ) → is_ascii_digit c ≡ true
    → digits_piece (digit_run (c ∷ rest)) ≡ piece_at (c ∷ rest)
digit_piece c rest digit =
    let blank : is_blank c ≡ false = grind (arith, nat_tests) in
    let slash : nat_eq 47 c ≡ false = grind (arith, nat_tests) in
    sym (behind_gaps c rest blank slash
    ∙ ap (λ b. if b then digits_piece (digit_run (c ∷ rest)) else longest_token (c ∷ rest)) digit)

symbol_piece : (c : ℕ) (rest : List ℕ) → is_among (codes "()[]{}>,;=#%<:.+-*@?") c ≡ true
    → longer_token symbol_token (longest_at_front symbols (c ∷ rest)) no_piece
    ≡ piece_at (c ∷ rest)
symbol_piece c rest begins =
    let low : c < 128 = grind (arith, nat_tests) in
    let word : begins_ascii_word c ≡ false = grind (arith, nat_tests) in
    let quote : (c == 34) ≡ false = grind (arith, nat_tests) in
    let dollar : (c == 36) ≡ false = grind (arith, nat_tests) in
    let blank : is_blank c ≡ false = grind (arith, nat_tests) in
    let slash : nat_eq 47 c ≡ false = grind (arith, nat_tests) in
    let digit : is_ascii_digit c ≡ false = grind (arith, nat_tests) in
    symbol_only c rest low word quote dollar ∙ sym (no_gap c rest blank slash digit)

-- no token begins with `!`
pub mark_piece : no_piece ≡ piece_at (33 ∷ [])
unfolding symbols
mark_piece = symbol_only 33 [] (omega arith) refl refl refl ∙ sym (no_gap 33 [] refl refl refl)

lone_piece : (c : ℕ) (rest : List ℕ) → is_lone c ≡ true
    → token_piece symbol_token 1 ≡ piece_at (c ∷ rest)
lone_piece c rest lone =
    let begins : is_among (codes "()[]{}>,;=#%<:.+-*@?") c ≡ true = grind (arith, nat_tests) in
    ap (λ n. longer_token symbol_token n no_piece) (one c lone rest) ∙ symbol_piece c rest begins

word_begun : (c : ℕ) (rest : List ℕ) → is_ascii_alphabetic c ≡ true
    → longer_token word_token (word_length (c ∷ rest)) no_piece
    ≡ token_piece word_token (1 + prefix_len is_xid_continue rest)
word_begun c rest letter =
    let low : c < 128 = grind (arith, nat_tests) in
    let begins : begins_ascii_word c ≡ true = grind (arith, nat_tests) in
    let count = prefix_len is_xid_continue rest in
    ap (λ b. longer_token word_token (if b then 1 + count else 0) no_piece)
    (begins_ascii c low ∙ begins) ∙ sym (some_longer word_token (1 + count) (omega arith))

word_piece : (c : ℕ) (rest : List ℕ) → is_ascii_alphabetic c ≡ true → not (c == 111) ≡ true
    → token_piece word_token (1 + prefix_len is_xid_continue rest) ≡ piece_at (c ∷ rest)
word_piece c rest letter other =
    let blank : is_blank c ≡ false = grind (arith, nat_tests) in
    let slash : nat_eq 47 c ≡ false = grind (arith, nat_tests) in
    let digit : is_ascii_digit c ≡ false = grind (arith, nat_tests) in
    sym (word_begun c rest letter) ∙ word_only c rest letter other
    ∙ sym (no_gap c rest blank slash digit)

logic_piece : (c : ℕ) (rest : List ℕ) → (c == 36) ≡ true
    → longer_token logic_token (logic_length (c ∷ rest)) no_piece ≡ piece_at (c ∷ rest)
logic_piece c rest is =
    let blank : is_blank c ≡ false = grind (arith, nat_tests) in
    let slash : nat_eq 47 c ≡ false = grind (arith, nat_tests) in
    let digit : is_ascii_digit c ≡ false = grind (arith, nat_tests) in
    logic_only c rest is ∙ sym (no_gap c rest blank slash digit)

literal_piece : (c : ℕ) (rest : List ℕ) → (c == 34) ≡ true
    → longer_token literal_token (literal_length (c ∷ rest)) no_piece ≡ piece_at (c ∷ rest)
literal_piece c rest is =
    let blank : is_blank c ≡ false = grind (arith, nat_tests) in
    let slash : nat_eq 47 c ≡ false = grind (arith, nat_tests) in
    let digit : is_ascii_digit c ≡ false = grind (arith, nat_tests) in
    literal_only c rest is ∙ sym (no_gap c rest blank slash digit)

-- what holds of what begins a text, where a test decides between two
pub by_test : (Holds : Start → Type 0) (b : Bool) (one two : Start)
    → (b ≡ true → Holds one) → Holds two → Holds (if b then one else two)
by_test Holds true one two here others = here refl
by_test Holds false one two here others = others

-- this is what the text begins with
abbrev pub Begins : List ℕ → Start → Type 0
Begins text start = started start text ≡ piece_at text

pub by_start : (c : ℕ) (rest : List ℕ) → Begins (c ∷ rest) (start_of c)
by_start c rest = by_test (Begins (c ∷ rest)) (is_blank c) Blank _ (blank_piece c rest)
    (by_test (Begins (c ∷ rest)) (is_among (codes "([{") c) Opening _
    (λ e. lone_piece c rest (grind (arith, nat_tests)))
    (by_test (Begins (c ∷ rest)) (is_among (codes ")]}>") c) Closing _
    (λ e. lone_piece c rest (grind (arith, nat_tests)))
    (by_test (Begins (c ∷ rest)) (is_among (codes ",;=#%") c) LoneSymbol _
    (λ e. lone_piece c rest (grind (arith, nat_tests)))
    (by_test (Begins (c ∷ rest)) (is_ascii_alphabetic c && not (c == 111)) Word _
    (λ e. let parts = and_parts (is_ascii_alphabetic c) (not (c == 111)) e in
    word_piece c rest parts.0 parts.1)
    (by_test (Begins (c ∷ rest)) (c == 36) LogicName _ (logic_piece c rest)
    (by_test (Begins (c ∷ rest)) (is_ascii_digit c) Digit _ (digit_piece c rest)
    (by_test (Begins (c ∷ rest)) (c == 34) Literal _ (literal_piece c rest)
    (by_test (Begins (c ∷ rest)) (is_among (codes "<:.+-*@?") c) Symbol Other
    (λ e. symbol_piece c rest (grind (arith, nat_tests))) refl))))))))

at_front : (text : List ℕ) (first d : ℕ) (start : Start) → 0 < length text
    → first ≡ get_or text 0 d → start ≡ start_of first → Begins text start
at_front [] first d start some is e = absurd (omega (arith, some))
at_front (c ∷ rest) first d start some is e =
    ap (λ s. started s (c ∷ rest)) (e ∙ ap start_of is) ∙ by_start c rest

-- which stands there
pub at_start : {X : Type 0} (code : X → ℕ) (text : List X) (letter : X) (first : ℕ)
    (start : Start) → 0 < length text → letter ≡ get_or text 0 letter → first ≡ code letter
    → start ≡ start_of first → Begins (map code text) start
at_start code text letter first start some at is e =
    at_front (map code text) first (code letter) start (within_codes code text 0 some)
    (is ∙ code_at code text 0 letter some at) e

-- and nothing at the front of no text
pub nothing_in : (text : List ℕ) → length text < 1 → no_piece ≡ piece_at text
unfolding piece_at
nothing_in [] h = refl
nothing_in (c ∷ text) h = absurd (omega (arith, h))

pub nothing_at : {X : Type 0} (code : X → ℕ) (text : List X) → length text < 1
    → no_piece ≡ piece_at (map code text)
nothing_at code text h =
    nothing_in (map code text) (subst (λ n. n < 1) (sym (length-map text code)) h)
