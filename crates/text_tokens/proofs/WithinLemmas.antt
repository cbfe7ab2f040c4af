-- The lexemes up to the first that passes a limit, and the tokens of ASCII bytes among them.
use Rattle.std.proofs.Common.{◌≡◌, ◌≢◌, ℕ, zero, suc, ◌+◌, ◌<◌, ◌≤◌, ◌==◌, Bool, true, false, List, [], ◌∷◌, length, take, drop, map, slice_index, refl, sym, ap, ◌∙◌, subst, arith, length-drop, codes, bytes_eq}
use Rattle.std.specs.Prelude.{Option, Some, None, slice_get, if◌then◌else◌, not, ◌&&◌, ◌||◌}
use Rattle.std.specs.Char.{is_ascii_alphabetic, is_ascii_digit}
use Rattle.std.specs.Str.{IsAscii}
use Rattle.std.proofs.lemmas.Bool.Decides.{nat_tests}
use Rattle.std.proofs.lemmas.Str.Ascii.{IsAscii-cons}
use Rattle.model_limits.specs.Limits.{LimitKind}
use Rattle.model_limits.specs.FirstOf.{or_else}
use Rattle.model_text.specs.Lexemes.{Lexeme, terminal, bad_lexeme, lexeme_of}
use Rattle.model_text.specs.Nesting.{lexeme_limit, open_behind, token_limit}
use Rattle.model_text.specs.Tokens as model
use Rattle.model_text.specs.Tokens.{token_piece, no_piece, piece_at, place_of, line_of, digits_piece, digit_run, is_number, is_blank, logic_length, longest_at_front, symbols}
use Rattle.text_tokens.specs.declared.pieces.Start.{Start}
use Rattle.text_tokens.specs.declared.pieces.Start.TheVariants as starts
use Rattle.text_tokens.specs.declared.tokens.TokenKind.{TokenKind}
use Rattle.text_tokens.specs.declared.tokens.TokenKind.TheVariants as kinds
use Rattle.text_tokens.specs.Ascii.{IsSettled, Passes, Stays, left_behind, own_lexeme}
use Rattle.text_tokens.specs.Pieces.{start_of}
use Rattle.text_tokens.specs.Symbols.{is_among}
use Rattle.text_tokens.specs.Tokens.{kind_of}
use Rattle.text_tokens.specs.Within.{unless_passing, within_limits, behind_first}
use Rattle.text_tokens.proofs.AsciiLemmas.{bad_left, byte_drop, token_in, token_first, lone_stands, symbol_stands, logic_stands, digits_stand, own_ascii}
use Rattle.text_tokens.proofs.BracketLemmas.{open_by, brackets_by}
use Rattle.text_tokens.proofs.LimitLemmas.{other_stays, symbol_stays}
use Rattle.text_tokens.proofs.ReadingLemmas.{left_none}
use Rattle.text_tokens.proofs.StartLemmas.{IsLone, by_test, some_longer, mark_piece}

-- OF LISTS
-- the first stays where it passes no limit, and a bad one stands in its place where it passes one
within_stays : (most before behind : ℕ) (x : Lexeme) (rest : List Lexeme)
    → Stays most before behind x
    → within_limits most before (x ∷ rest) ≡ behind_first most behind (x ∷ rest)
within_stays most before behind x rest is =
    ap (λ l. unless_passing l x (within_limits most (open_behind before x) rest)) is.no_limit
    ∙ ap (λ n. x ∷ within_limits most n rest) (sym is.behind_is)

within_passes : (most before : ℕ) (x : Lexeme) (rest : List Lexeme) (limit : LimitKind)
    → lexeme_limit most before x ≡ Some limit
    → within_limits most before (x ∷ rest) ≡ bad_lexeme ∷ []
within_passes most before x rest limit e =
    ap (λ l. unless_passing l x (within_limits most (open_behind before x) rest)) e

-- where none passes one, all stay
pub within_all : (most before : ℕ) (l : List Lexeme) → token_limit most before l ≡ None
    → within_limits most before l ≡ l
within_all most before [] e = refl
within_all most before (x ∷ rest) e =
    by_limit (lexeme_limit most before x) (within_all most (open_behind before x) rest) e
  where
    limit : Option LimitKind
    limit = token_limit most (open_behind before x) rest

    by_limit : (o : Option LimitKind)
        → (limit ≡ None → within_limits most (open_behind before x) rest ≡ rest)
        → or_else o limit ≡ None
        → unless_passing o x (within_limits most (open_behind before x) rest) ≡ x ∷ rest
    by_limit None same none = ap (λ l. x ∷ l) (same none)
    by_limit (Some l) same none = absurd (cc)

-- no bad one is among them
abbrev pub HasNoBad : List Lexeme → Type 0
HasNoBad l = (place : ℕ) → slice_get l place ≡ Some bad_lexeme → ⊥

-- so none has passed a limit
pub within_told : (most before : ℕ) (l : List Lexeme) → HasNoBad (within_limits most before l)
    → token_limit most before l ≡ None
within_told most before [] good = refl
within_told most before (x ∷ rest) good =
    by_limit (lexeme_limit most before x) (within_told most (open_behind before x) rest) good
  where
    limit : Option LimitKind
    limit = token_limit most (open_behind before x) rest

    by_limit : (o : Option LimitKind)
        → (HasNoBad (within_limits most (open_behind before x) rest) → limit ≡ None)
        → HasNoBad (unless_passing o x (within_limits most (open_behind before x) rest))
        → or_else o limit ≡ None
    by_limit None told good = told (λ place e. good (suc place) e)
    by_limit (Some l) told good = absurd (good 0 refl)

-- they are no more
no_more : (most before : ℕ) (l : List Lexeme) → length (within_limits most before l) ≤ length l
no_more most before [] = omega arith
no_more most before (x ∷ rest) =
    by_limit (lexeme_limit most before x) (no_more most (open_behind before x) rest)
  where
    by_limit : (o : Option LimitKind)
        → length (within_limits most (open_behind before x) rest) ≤ length rest
        → length (unless_passing o x (within_limits most (open_behind before x) rest))
        ≤ suc (length rest)
    by_limit None few = omega (arith, few)
    by_limit (Some l) few = omega arith

pub first_no_more : (most behind : ℕ) (l : List Lexeme)
    → length (behind_first most behind l) ≤ length l
first_no_more most behind [] = omega arith
first_no_more most behind (x ∷ rest) = omega (arith, no_more most behind rest)

-- the first is the same, and those behind it follow
pub first_same : (most behind : ℕ) (l : List Lexeme) (x : Lexeme) → l ≡ x ∷ drop 1 l
    → behind_first most behind l ≡ x ∷ drop 1 (behind_first most behind l)
first_same most behind [] x e = absurd (cc)
first_same most behind (y ∷ rest) x e =
    let same : y ≡ x = cc in ap (λ z. z ∷ within_limits most behind rest) same

pub rest_within : (most behind : ℕ) (l : List Lexeme)
    → within_limits most behind (drop 1 l) ≡ drop 1 (behind_first most behind l)
rest_within most behind [] = refl
rest_within most behind (x ∷ rest) = refl

-- a bad one alone stays
bad_within : (most before : ℕ) → within_limits most before (bad_lexeme ∷ []) ≡ bad_lexeme ∷ []
bad_within most before = by_limit (lexeme_limit most before bad_lexeme)
  where
    by_limit : (o : Option LimitKind) → unless_passing o bad_lexeme [] ≡ bad_lexeme ∷ []
    by_limit None = refl
    by_limit (Some l) = refl

-- AT A PLACE
-- where no token begins
pub end_within : (bytes : List ℕ) (place most before : ℕ) → no_piece ≡ piece_at (drop place bytes)
    → behind_first most before (left_behind bytes place)
    ≡ within_limits most before (left_behind bytes place)
end_within bytes place most before e = by_end (place_of bytes place == length bytes) refl
  where
    Same : List model.Token → Type 0
    Same l = behind_first most before (map lexeme_of l)
        ≡ within_limits most before (map lexeme_of l)

    by_end : (b : Bool) → (place_of bytes place == length bytes) ≡ b
        → behind_first most before (left_behind bytes place)
        ≡ within_limits most before (left_behind bytes place)
    by_end true test = subst Same (sym (left_none bytes bytes place true e test)) refl
    by_end false test = subst Same (sym (left_none bytes bytes place false e test))
        (sym (bad_within most before))

-- a token that passes none
pub token_within : (bytes own : List ℕ) (place n most before behind : ℕ) (kind : TokenKind)
    → place ≤ length bytes → token_piece (kind_of kind) n ≡ piece_at (drop place bytes)
    → own ≡ take n (drop place bytes) → behind ≤ most
    → ((line : ℕ) → Stays most before behind (own_lexeme kind own line))
    → Passes most before bytes place kind n behind
token_within bytes own place n most before behind kind within e own_is few each =
    let first = token_first bytes place n (kind_of kind) within e in
    let line = line_of bytes (place_of bytes place) in
    record {
      stands = e;
      few = few;
      same = ap (within_limits most before) first
          ∙ within_stays most before behind (own_lexeme kind (take n (drop place bytes)) line)
          (left_behind bytes (place + n))
          (subst (λ o. Stays most before behind (own_lexeme kind o line)) own_is (each line))
          ∙ ap (behind_first most behind) (sym first);
    }

-- and one that passes one
pub token_stops : (bytes own : List ℕ) (place n most before : ℕ) (kind : TokenKind)
    (limit : LimitKind)
    → place ≤ length bytes → token_piece (kind_of kind) n ≡ piece_at (drop place bytes)
    → own ≡ take n (drop place bytes)
    → ((line : ℕ) → lexeme_limit most before (own_lexeme kind own line) ≡ Some limit)
    → within_limits most before (left_behind bytes place) ≡ bad_lexeme ∷ []
token_stops bytes own place n most before kind limit within e own_is each =
    let line = line_of bytes (place_of bytes place) in
    ap (within_limits most before) (token_first bytes place n (kind_of kind) within e)
    ∙ within_passes most before (own_lexeme kind (take n (drop place bytes)) line)
    (left_behind bytes (place + n)) limit
    (subst (λ o. lexeme_limit most before (own_lexeme kind o line) ≡ Some limit) own_is (each line))

-- a token that is no symbol and no literal, such as a word
pub plain_within : (bytes : List ℕ) (place n most before : ℕ) (kind : TokenKind)
    → place ≤ length bytes → before ≤ most → kind ≢ kinds.Symbol → kind ≢ kinds.Literal
    → token_piece (kind_of kind) n ≡ piece_at (drop place bytes)
    → Passes most before bytes place kind n before
plain_within bytes place n most before kind within few symbol literal e =
    let own = take n (drop place bytes) in
    token_within bytes own place n most before before kind within e refl few
    (λ line. other_stays most before line kind own symbol (λ e. absurd (literal e)) few)

-- a symbol
pub symbol_within : (bytes : List ℕ) (place n most before behind : ℕ) → IsAscii bytes
    → place < length bytes → token_piece model.symbol_token n ≡ piece_at (drop place bytes)
    → behind ≡ open_behind before (terminal (take n (drop place bytes))) → behind ≤ most
    → Passes most before bytes place kinds.Symbol n behind
symbol_within bytes place n most before behind ascii within e open_is few =
    let own = take n (drop place bytes) in
    token_within bytes own place n most before behind kinds.Symbol (omega (arith, within)) e refl
    few (λ line. symbol_stays most before behind line own (own_ascii bytes place n ascii) open_is
    few)

-- one of one character, as far as it says it
lone_own : (bytes : List ℕ) (place before : ℕ) (start : Start) → place < length bytes
    → start ≡ start_of (slice_index bytes place)
    → open_by start (slice_index bytes place) before
    ≡ open_behind before (terminal (take 1 (drop place bytes)))
lone_own bytes place before start within e =
    let c = slice_index bytes place in
    ap (λ s. open_by s c before) e ∙ brackets_by c before
    ∙ sym (ap (λ l. open_behind before (terminal (take 1 l))) (byte_drop bytes place c within refl))

pub lone_within : (bytes : List ℕ) (place most before : ℕ) (start : Start) → IsAscii bytes
    → place < length bytes → start ≡ start_of (slice_index bytes place) → IsLone start
    → open_by start (slice_index bytes place) before ≤ most
    → Passes most before bytes place kinds.Symbol 1
    (open_by start (slice_index bytes place) before)
lone_within bytes place most before start ascii within e lone few =
    symbol_within bytes place 1 most before _ ascii within
    (lone_stands bytes place start within e lone) (lone_own bytes place before start within e) few

-- OTHER SYMBOLS
-- a character that is no bracket begins none
no_bracket : (before c : ℕ) (rest : List ℕ) → is_among (codes "([{<)]}>") c ≡ false
    → open_behind before (terminal (c ∷ rest)) ≡ before
no_bracket before c rest other = grind (arith, nat_tests)

-- and neither does a longer symbol
longer_open : (before c d : ℕ) (rest : List ℕ)
    → open_behind before (terminal (c ∷ d ∷ rest)) ≡ before
longer_open before c d rest = grind (arith, nat_tests)

-- what a character begins says that it is none
abbrev IsNone : ℕ → Start → Type 0
IsNone c start = (start ≡ starts.Digit → is_among (codes "([{<)]}>") c ≡ false)
    × (start ≡ starts.Symbol → c ≢ 60 → is_among (codes "([{<)]}>") c ≡ false)

other_none : (c : ℕ) (start : Start) → start ≢ starts.Digit → start ≢ starts.Symbol → IsNone c start
other_none c start digit symbol = (λ e. absurd (digit e), λ e. absurd (symbol e))

none_by : (c : ℕ) → IsNone c (start_of c)
none_by c =
    by_test (IsNone c) (is_blank c) starts.Blank _
    (λ e. other_none c starts.Blank (λ e. cc) (λ e. cc))
    (by_test (IsNone c) (is_among (codes "([{") c) starts.Opening _
    (λ e. other_none c starts.Opening (λ e. cc) (λ e. cc))
    (by_test (IsNone c) (is_among (codes ")]}>") c) starts.Closing _
    (λ e. other_none c starts.Closing (λ e. cc) (λ e. cc))
    (by_test (IsNone c) (is_among (codes ",;=#%") c) starts.LoneSymbol _
    (λ e. other_none c starts.LoneSymbol (λ e. cc) (λ e. cc))
    (by_test (IsNone c) (is_ascii_alphabetic c && not (c == 111)) starts.Word _
    (λ e. other_none c starts.Word (λ e. cc) (λ e. cc))
    (by_test (IsNone c) (c == 36) starts.LogicName _
    (λ e. other_none c starts.LogicName (λ e. cc) (λ e. cc))
    (by_test (IsNone c) (is_ascii_digit c) starts.Digit _
    (λ e. (λ _. digit_none c e, λ e. absurd (cc)))
    (by_test (IsNone c) (c == 34) starts.Literal _
    (λ e. other_none c starts.Literal (λ e. cc) (λ e. cc))
    (by_test (IsNone c) (is_among (codes "<:.+-*@?") c) starts.Symbol starts.Other
    (λ e. (λ e. absurd (cc), λ _. symbol_none c e))
    (other_none c starts.Other (λ e. cc) (λ e. cc))))))))))
  where
    digit_none : (c : ℕ) → is_ascii_digit c ≡ true → is_among (codes "([{<)]}>") c ≡ false
    digit_none c e = grind (arith, nat_tests)

    symbol_none : (c : ℕ) → is_among (codes "<:.+-*@?") c ≡ true → c ≢ 60
        → is_among (codes "([{<)]}>") c ≡ false
    symbol_none c e other = grind (arith, nat_tests)

-- a symbol at the place that is no bracket
symbol_own : (before c n : ℕ) (rest : List ℕ) → starts.Symbol ≡ start_of c → 0 < n
    → n ≤ suc (length rest) → (n ≡ 1 → c ≢ 60)
    → before ≡ open_behind before (terminal (take n (c ∷ rest)))
symbol_own before c zero rest e some within other = absurd (omega (arith, some))
symbol_own before c (suc zero) rest e some within other =
    sym (no_bracket before c [] ((none_by c).1 (sym e) (other refl)))
symbol_own before c (suc (suc n)) [] e some within other = absurd (omega (arith, within))
symbol_own before c (suc (suc n)) (d ∷ rest) e some within other =
    sym (longer_open before c d (take n rest))

pub symbol_near : (bytes : List ℕ) (place n most before : ℕ) → IsAscii bytes
    → place < length bytes → starts.Symbol ≡ start_of (slice_index bytes place)
    → token_piece model.symbol_token n ≡ piece_at (drop place bytes)
    → (n ≡ 1 → slice_index bytes place ≢ 60) → before ≤ most
    → Passes most before bytes place kinds.Symbol n before
symbol_near bytes place n most before ascii within begins e other few =
    let c = slice_index bytes place in
    let p = token_in bytes place n model.symbol_token (omega (arith, within)) e in
    symbol_within bytes place n most before before ascii within e
    (symbol_own before c n (drop (suc place) bytes) begins p.0
    (omega (arith, p.1, length-drop (suc place) bytes, within)) other
    ∙ sym (ap (λ l. open_behind before (terminal (take n l)))
    (byte_drop bytes place c within refl)))
    few

-- and `<`
pub angle_near : (bytes : List ℕ) (place most before behind : ℕ) → IsAscii bytes
    → place < length bytes → slice_index bytes place ≡ 60
    → token_piece model.symbol_token 1 ≡ piece_at (drop place bytes)
    → behind ≡ before + 1 → behind ≤ most
    → Passes most before bytes place kinds.Symbol 1 behind
angle_near bytes place most before behind ascii within is e open_is few =
    symbol_within bytes place 1 most before behind ascii within e
    (open_is ∙ sym (ap (λ l. open_behind before (terminal (take 1 l)))
    (byte_drop bytes place 60 within is)))
    few

-- which stand there
pub symbol_found : (bytes : List ℕ) (place n length_is : ℕ) → place < length bytes
    → starts.Symbol ≡ start_of (slice_index bytes place)
    → length_is ≡ longest_at_front symbols (drop place bytes) → n ≡ length_is → 0 < n
    → token_piece model.symbol_token n ≡ piece_at (drop place bytes)
symbol_found bytes place n length_is within begins is same some =
    some_longer model.symbol_token n some
    ∙ symbol_stands bytes place n within begins (same ∙ is)

-- a logic name
pub logic_near : (bytes : List ℕ) (place n length_is most before : ℕ) → place < length bytes
    → starts.LogicName ≡ start_of (slice_index bytes place)
    → length_is ≡ logic_length (drop place bytes) → n ≡ length_is → 0 < n → before ≤ most
    → Passes most before bytes place kinds.LogicName n before
logic_near bytes place n length_is most before within begins is same some few =
    plain_within bytes place n most before kinds.LogicName (omega (arith, within)) few
    (λ e. cc) (λ e. cc)
    (some_longer model.logic_token n some ∙ logic_stands bytes place n within begins (same ∙ is))

-- a number, or a symbol that a digit begins
digit_own : (before c n : ℕ) (rest : List ℕ) → starts.Digit ≡ start_of c → 0 < n
    → before ≡ open_behind before (terminal (take n (c ∷ rest)))
digit_own before c zero rest e some = absurd (omega (arith, some))
digit_own before c (suc n) rest e some =
    sym (no_bracket before c (take n rest) ((none_by c).0 (sym e)))

not_literal : (n : ℕ) (run : List ℕ) → token_piece model.literal_token n ≡ digits_piece run → ⊥
not_literal n run e =
    by_tests (bytes_eq run (codes "0f") || bytes_eq run (codes "0g")) (is_number run) e
  where
    by_tests : (shape number : Bool) → token_piece model.literal_token n
        ≡ (if shape then token_piece model.symbol_token (length run)
        else (if number then token_piece model.number_token (length run) else no_piece)) → ⊥
    by_tests true number e = cc
    by_tests false true e = cc
    by_tests false false e = cc

pub digits_near : (bytes : List ℕ) (place n most before : ℕ) (kind : TokenKind) → IsAscii bytes
    → place < length bytes → starts.Digit ≡ start_of (slice_index bytes place)
    → token_piece (kind_of kind) n ≡ digits_piece (digit_run (drop place bytes)) → before ≤ most
    → Passes most before bytes place kind n before
digits_near bytes place n most before kind ascii within begins e few =
    by_kind kind e (e ∙ digits_stand bytes place within begins)
  where
    here : place ≤ length bytes
    here = omega (arith, within)

    by_kind : (kind : TokenKind)
        → token_piece (kind_of kind) n ≡ digits_piece (digit_run (drop place bytes))
        → token_piece (kind_of kind) n ≡ piece_at (drop place bytes)
        → Passes most before bytes place kind n before
    by_kind kinds.Word e stands = plain_within bytes place n most before kinds.Word here few
        (λ e. cc) (λ e. cc) stands
    by_kind kinds.LogicName e stands = plain_within bytes place n most before kinds.LogicName here
        few (λ e. cc) (λ e. cc) stands
    by_kind kinds.Number e stands = plain_within bytes place n most before kinds.Number here few
        (λ e. cc) (λ e. cc) stands
    by_kind kinds.Literal e stands = absurd (not_literal n (digit_run (drop place bytes)) e)
    by_kind kinds.Bad e stands = plain_within bytes place n most before kinds.Bad here few
        (λ e. cc) (λ e. cc) stands
    by_kind kinds.Symbol e stands =
        let c = slice_index bytes place in
        let p = token_in bytes place n model.symbol_token here stands in
        symbol_within bytes place n most before before ascii within stands
        (digit_own before c n (drop (suc place) bytes) begins p.0
        ∙ sym (ap (λ l. open_behind before (terminal (take n l)))
        (byte_drop bytes place c within refl)))
        few

-- WHERE A TOKEN PASSES A LIMIT
-- a byte that begins none stands
pub stop_settled : IsSettled (33 ∷ []) 0 0 1 None
stop_settled = record {
  ascii = IsAscii-cons 33 [] (omega arith) (λ i. omega arith);
  bounded = omega arith;
  within = omega arith;
  line_is = refl;
  stands = mark_piece;
}

pub stop_left : (most before : ℕ)
    → behind_first most before (left_behind (33 ∷ []) 0) ≡ bad_lexeme ∷ []
stop_left most before = ap (behind_first most before)
    (bad_left (33 ∷ []) 0 0 1 stop_settled (λ e. omega arith))
