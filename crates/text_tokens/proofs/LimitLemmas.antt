-- The limits that a token passes, by its kind and its bytes.
use Rattle.std.proofs.Common.{◌≡◌, ◌≢◌, ℕ, suc, ◌+◌, ◌-◌, ◌<◌, ◌≤◌, ◌==◌, Bool, true, false, List, [], ◌∷◌, length, take, drop, map, nat_le, refl, sym, ap, ◌∙◌, subst, arith, length-drop, length-take}
use Rattle.std.specs.Prelude.{Some, None, if◌then◌else◌, encode_utf8_all}
use Rattle.std.specs.Str.{IsAscii}
use Rattle.std.specs.Str.Parse.{digits_value}
use Rattle.std.proofs.lemmas.Bool.{le-leb, lt-leb}
use Rattle.std.proofs.lemmas.Str.{IsAscii-take, IsAscii-drop, encodes-IsAscii}
use Rattle.std.proofs.lemmas.Str.Ascii.{IsAscii-cons}
use Rattle.model_limits.specs.Limits.{LimitKind, nesting_limit, text_limit, standard_limits}
use Rattle.model_limits.specs.FirstOf.{or_else, unless}
use Rattle.model_text.specs.Lexemes.{Lexeme, terminal, step_word, name_lexeme, number_lexeme, bad_lexeme, is_reserved, lexeme_of}
use Rattle.model_text.specs.Nesting.{lexeme_limit, open_behind, text_within, token_limit}
use Rattle.model_text.specs.Tokens.{backslash, letter_n, newline, unescaped, digits_fit, gap_piece, token_piece, no_piece, piece_at, place_of, line_of}
use Rattle.model_text.specs.Tokens as model
use Rattle.std.specs.Prelude.{bytes_eq, codes}
use Rattle.text_tokens.specs.declared.tokens.TokenKind.{TokenKind}
use Rattle.text_tokens.specs.declared.tokens.TokenKind.TheVariants.{Word, LogicName, Number, Literal, Symbol, Bad}
use Rattle.text_tokens.specs.Ascii.{Leads, Stays, left_behind, own_lexeme}
use Rattle.text_tokens.specs.Tokens.{kind_of}
use Rattle.text_tokens.proofs.AsciiLemmas.{gap_in, token_in, behind_gap, token_first}
use Rattle.text_tokens.proofs.BracketLemmas.{brackets}
use Rattle.text_tokens.proofs.ReadingLemmas.{left_none}

-- a token that passes none, or the limit of brackets, or that of its text
stays : (most before behind : ℕ) (x : Lexeme) → behind ≡ open_behind before x → behind ≤ most
    → text_within x ≡ true → Stays most before behind x
stays most before behind x e few within = record {
  behind_is = e;
  no_limit = ap (λ b. or_else (unless b nesting_limit) (unless (text_within x) text_limit))
      (ap (λ n. nat_le n most) (sym e) ∙ le-leb behind most few)
      ∙ ap (λ b. unless b text_limit) within;
}

nests : (most before behind : ℕ) (x : Lexeme) → behind ≡ open_behind before x → most < behind
    → lexeme_limit most before x ≡ Some nesting_limit
nests most before behind x e many =
    ap (λ b. or_else (unless b nesting_limit) (unless (text_within x) text_limit))
    (ap (λ n. nat_le n most) (sym e) ∙ lt-leb behind most many)

-- A SYMBOL
symbol_is : (own : List ℕ) (line : ℕ) → IsAscii own → own_lexeme Symbol own line ≡ terminal own
symbol_is own line ascii = ap terminal (encodes-IsAscii own ascii)

pub symbol_stays : (most before behind line : ℕ) (own : List ℕ) → IsAscii own
    → behind ≡ open_behind before (terminal own) → behind ≤ most
    → Stays most before behind (own_lexeme Symbol own line)
symbol_stays most before behind line own ascii e few =
    subst (Stays most before behind) (sym (symbol_is own line ascii))
    (stays most before behind (terminal own) e few refl)

pub symbol_nests : (most before behind line : ℕ) (own : List ℕ) → IsAscii own
    → behind ≡ open_behind before (terminal own) → most < behind
    → lexeme_limit most before (own_lexeme Symbol own line) ≡ Some nesting_limit
symbol_nests most before behind line own ascii e many =
    ap (lexeme_limit most before) (symbol_is own line ascii)
    ∙ nests most before behind (terminal own) e many

-- A LITERAL
abbrev short : List ℕ → Bool
short own = nat_le (length (encode_utf8_all
    (unescaped false (take (length own - 2) (drop 1 own))))) standard_limits.text_bytes

-- the text that ASCII bytes stand for is ASCII, and no longer
abbrev NoLonger : List ℕ → List ℕ → Type 0
NoLonger text meant = IsAscii meant × (length meant ≤ length text)

no_longer : (escaped : Bool) (text : List ℕ) → IsAscii text
    → NoLonger text (unescaped escaped text)
no_longer escaped [] ascii = (ascii, omega arith)
no_longer true (c ∷ text) ascii =
    let more = no_longer false text (λ i. ascii (suc i)) in
    (IsAscii-cons _ _ (by_letter (c == letter_n)) more.0, omega (arith, more.1))
  where
    by_letter : (b : Bool) → (if b then newline else c) < 128
    by_letter true = omega arith
    by_letter false = ascii 0
no_longer false (c ∷ text) ascii =
    by_test (c == backslash) (no_longer true text (λ i. ascii (suc i)))
    (no_longer false text (λ i. ascii (suc i)))
  where
    by_test : (b : Bool) → NoLonger text (unescaped true text)
        → NoLonger text (unescaped false text)
        → NoLonger (c ∷ text) (if b then unescaped true text else c ∷ unescaped false text)
    by_test true here others = (here.0, omega (arith, here.1))
    by_test false here others = (IsAscii-cons _ _ (ascii 0) others.0, omega (arith, others.1))

-- so few bytes pass no limit
pub few_short : (own : List ℕ) → IsAscii own → length own ≤ standard_limits.text_bytes
    → short own ≡ true
few_short own ascii few =
    let count = length own - 2 in
    let is = no_longer false (take count (drop 1 own))
    (IsAscii-take (drop 1 own) count (IsAscii-drop own 1 ascii)) in
    ap (λ l. nat_le (length l) standard_limits.text_bytes) (encodes-IsAscii _ is.0)
    ∙ le-leb _ standard_limits.text_bytes
    (omega (arith, is.1, few, length-take count (drop 1 own), length-drop 1 own))

pub literal_passes : (most before line : ℕ) (own : List ℕ) → before ≤ most → short own ≡ false
    → lexeme_limit most before (own_lexeme Literal own line) ≡ Some text_limit
literal_passes most before line own few long =
    ap (λ b. or_else (unless b nesting_limit)
    (unless (text_within (own_lexeme Literal own line)) text_limit)) (le-leb before most few)
    ∙ ap (λ b. unless b text_limit) long

-- ANY OTHER
within_word : (b c : Bool) (text : List ℕ) (line : ℕ) → text_within (if b then step_word line
    else (if c then terminal text else name_lexeme text)) ≡ true
within_word true c text line = refl
within_word false true text line = refl
within_word false false text line = refl

within_number : (b : Bool) (n : ℕ)
    → text_within (if b then number_lexeme n else bad_lexeme) ≡ true
within_number true n = refl
within_number false n = refl

within : (kind : TokenKind) (own : List ℕ) (line : ℕ) → (kind ≡ Literal → short own ≡ true)
    → text_within (own_lexeme kind own line) ≡ true
within Word own line test = within_word (bytes_eq (encode_utf8_all own) (codes "step"))
    (is_reserved (encode_utf8_all own)) (encode_utf8_all own) line
within LogicName own line test = refl
within Number own line test = within_number (digits_fit (encode_utf8_all own))
    (digits_value 10 (encode_utf8_all own))
within Literal own line test = test refl
within Symbol own line test = refl
within Bad own line test = refl

not_symbol : (kind : TokenKind) → kind ≢ Symbol → kind_of kind ≢ model.symbol_token
not_symbol Word n e = absurd (cc)
not_symbol LogicName n e = absurd (cc)
not_symbol Number n e = absurd (cc)
not_symbol Literal n e = absurd (cc)
not_symbol Symbol n e = n refl
not_symbol Bad n e = absurd (cc)

pub other_stays : (most before line : ℕ) (kind : TokenKind) (own : List ℕ) → kind ≢ Symbol
    → (kind ≡ Literal → short own ≡ true) → before ≤ most
    → Stays most before before (own_lexeme kind own line)
other_stays most before line kind own other test few =
    stays most before before (own_lexeme kind own line)
    (sym (brackets before (kind_of kind) (model.token_text (kind_of kind) own) line
    (not_symbol kind other)))
    few (within kind own line test)

-- THE LIST
-- what is found in the list, by its first token
pub rest_limit : (most before behind : ℕ) (x : Lexeme) (rest : List Lexeme)
    → Stays most before behind x
    → token_limit most before (x ∷ rest) ≡ token_limit most behind rest
rest_limit most before behind x rest is =
    ap (λ l. or_else l (token_limit most (open_behind before x) rest)) is.no_limit
    ∙ ap (λ n. token_limit most n rest) (sym is.behind_is)

pub first_limit : (most before : ℕ) (x : Lexeme) (rest : List Lexeme) (limit : LimitKind)
    → lexeme_limit most before x ≡ Some limit
    → token_limit most before (x ∷ rest) ≡ Some limit
first_limit most before x rest limit e =
    ap (λ l. or_else l (token_limit most (open_behind before x) rest)) e

-- a bad token passes none
pub bad_limit : (most before : ℕ) → before ≤ most
    → token_limit most before (bad_lexeme ∷ []) ≡ None
bad_limit most before few =
    rest_limit most before before bad_lexeme [] (stays most before before bad_lexeme refl few refl)

-- AT A PLACE
-- behind a gap
pub gap_leads : (bytes : List ℕ) (place n most before : ℕ) → place ≤ length bytes → before ≤ most
    → gap_piece n ≡ piece_at (drop place bytes) → Leads most before bytes place n before
gap_leads bytes place n most before within few e =
    let p = gap_in bytes place n within e in
    record {
      some = p.0;
      within = p.1;
      few = few;
      same = ap (token_limit most before) (sym (behind_gap bytes place n within e));
    }

-- behind a token that passes none
pub token_leads : (bytes own : List ℕ) (place n most before behind : ℕ) (kind : TokenKind)
    → place ≤ length bytes → token_piece (kind_of kind) n ≡ piece_at (drop place bytes)
    → own ≡ take n (drop place bytes) → behind ≤ most
    → ((line : ℕ) → Stays most before behind (own_lexeme kind own line))
    → Leads most before bytes place n behind
token_leads bytes own place n most before behind kind within e own_is few each =
    let p = token_in bytes place n (kind_of kind) within e in
    let line = line_of bytes (place_of bytes place) in
    record {
      some = p.0;
      within = p.1;
      few = few;
      same = ap (token_limit most before) (token_first bytes place n (kind_of kind) within e)
          ∙ rest_limit most before behind (own_lexeme kind (take n (drop place bytes)) line)
          (left_behind bytes (place + n))
          (subst (λ o. Stays most before behind (own_lexeme kind o line)) own_is (each line));
    }

-- at one that passes one
pub token_passes : (bytes own : List ℕ) (place n most before : ℕ) (kind : TokenKind)
    (limit : LimitKind)
    → place ≤ length bytes → token_piece (kind_of kind) n ≡ piece_at (drop place bytes)
    → own ≡ take n (drop place bytes)
    → ((line : ℕ) → lexeme_limit most before (own_lexeme kind own line) ≡ Some limit)
    → token_limit most before (left_behind bytes place) ≡ Some limit
token_passes bytes own place n most before kind limit within e own_is each =
    let line = line_of bytes (place_of bytes place) in
    ap (token_limit most before) (token_first bytes place n (kind_of kind) within e)
    ∙ first_limit most before (own_lexeme kind (take n (drop place bytes)) line)
    (left_behind bytes (place + n)) limit
    (subst (λ o. lexeme_limit most before (own_lexeme kind o line) ≡ Some limit) own_is (each line))

-- where no token begins
pub end_limit : (bytes : List ℕ) (place most before : ℕ) → before ≤ most
    → no_piece ≡ piece_at (drop place bytes)
    → token_limit most before (left_behind bytes place) ≡ None
end_limit bytes place most before few e = by_end (place_of bytes place == length bytes) refl
  where
    by_end : (b : Bool) → (place_of bytes place == length bytes) ≡ b
        → token_limit most before (left_behind bytes place) ≡ None
    by_end true test =
        ap (λ l. token_limit most before (map lexeme_of l))
        (left_none bytes bytes place true e test)
    by_end false test =
        ap (λ l. token_limit most before (map lexeme_of l))
        (left_none bytes bytes place false e test)
        ∙ bad_limit most before few
