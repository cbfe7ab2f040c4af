-- Each token but a bad one is seen by the grammar as something.
use Rattle.std.proofs.Common.{◌≡◌, ◌≢◌, ℕ, zero, suc, ◌+◌, ◌<◌, Bool, true, false, not, ◌&&◌, ◌||◌, ◌==◌, List, [], ◌∷◌, length, take, drop, nat_eq, nat_lt, ◌++◌, codes, bytes_eq, refl, sym, ◌∙◌, ap, subst, arith, encode_utf8_all}
use Rattle.std.specs.Prelude.{if◌then◌else◌, All}
use Rattle.std.proofs.lemmas.Bool.Decides.{nat_tests}
use Rattle.std.proofs.lemmas.List.Elements.{All-nil, All-cons}
use Rattle.std.proofs.lemmas.List.Folds.{length-prefix_len}
use Rattle.std.proofs.lemmas.Str.{encode_ascii}
use Rattle.std.specs.Char.{is_ascii_digit}
use Rattle.std.specs.List.{list_all, prefix_len, starts_with}
use Rattle.std.specs.Str.Parse.{digits_value}
use Rattle.unicode_ident.specs.Ident.{is_xid_continue}
use Rattle.model_text.specs.Lexemes.{terminal, step_word, name_lexeme, number_lexeme, bad_lexeme, is_reserved, digits_lexeme, lexeme_at, lexeme_of}
use Rattle.model_text.specs.Tokens.{Token, TokenKind, word_token, logic_token, number_token, literal_token, symbol_token, bad_token, word_length, logic_length, literal_length, symbols, longest_at_front, leading_zero, digits_fit, is_number, is_blank, Piece, gap_piece, token_piece, no_piece, piece_length, digits_piece, longer_token, longest_token, piece_at, token_text, characters, place_of, line_of, token_from, bad_token_at, tokens_with, tokens_from, tokens_of}

-- a token of the kind that has these characters is seen as something
abbrev SeenAs : TokenKind → List ℕ → Type 0
SeenAs kind own = (line : ℕ) → lexeme_at kind (token_text kind own) line ≢ bad_lexeme

-- the token that stands at the front of the text, if one does, is seen as something
abbrev Good : List ℕ → Piece → Type 0
Good text (gap_piece n) = Unit {0}
Good text (token_piece kind n) = SeenAs kind (take n text)
Good text no_piece = Unit {0}

word_seen : (own : List ℕ) → SeenAs word_token own
word_seen own line = let text : List ℕ = encode_utf8_all own in
    elim (bytes_eq text (codes "step")) as
    (λ b. (if b then step_word line
    else (if is_reserved text then terminal text else name_lexeme text)) ≢ bad_lexeme) [
      | true ↦ λ e. cc
      | false ↦ elim (is_reserved text) as
          (λ b. (if b then terminal text else name_lexeme text) ≢ bad_lexeme) [
            | true ↦
                λ e. cc
            | false ↦ λ e. cc
          ]
    ]

logic_seen : (own : List ℕ) → SeenAs logic_token own
logic_seen own line = λ e. cc

literal_seen : (own : List ℕ) → SeenAs literal_token own
literal_seen own line = λ e. cc

symbol_seen : (own : List ℕ) → SeenAs symbol_token own
symbol_seen own line = λ e. cc

both_true : (a b : Bool) → (a && b) ≡ true → (a ≡ true) × (b ≡ true)
both_true true b e = (refl, e)
both_true false b e = cc

-- digits are their own bytes
digit_bytes : (run : List ℕ) → list_all is_ascii_digit run ≡ true → encode_utf8_all run ≡ run
digit_bytes [] e = refl
digit_bytes (c ∷ run) e =
    let here : is_ascii_digit c ≡ true =
    (both_true (is_ascii_digit c) (list_all is_ascii_digit run) e).0 in
    let small : c < 128 = grind (arith, nat_tests) in
    ap (λ bs. bs ++ encode_utf8_all run) (encode_ascii c small)
    ∙ ap (λ bs. c ∷ bs) (digit_bytes run
    (both_true (is_ascii_digit c) (list_all is_ascii_digit run) e).1)

number_seen : (own : List ℕ) → digits_fit own ≡ true → SeenAs number_token own
number_seen own fits line =
    let bytes : encode_utf8_all own ≡ own =
    digit_bytes own (both_true (list_all is_ascii_digit own) _ fits).0 in
    let is : digits_lexeme (encode_utf8_all own) ≡ number_lexeme (digits_value 10 own) =
    ap digits_lexeme bytes
    ∙ ap (λ b. if b then number_lexeme (digits_value 10 own) else bad_lexeme) fits in
    λ e. let clash : number_lexeme (digits_value 10 own) ≡ bad_lexeme = sym is ∙ e in cc

longer_token-Good : (text : List ℕ) (kind : TokenKind) (n : ℕ) (other : Piece)
    → SeenAs kind (take n text) → Good text other → Good text (longer_token kind n other)
longer_token-Good text kind n other s g =
    elim (nat_lt (piece_length other) n) as
    (λ b. Good text (if b then token_piece kind n else other)) [ true ↦ s | false ↦ g ]

longest_token-Good : (text : List ℕ) → Good text (longest_token text)
longest_token-Good text =
    let symbol : Piece = longer_token symbol_token (longest_at_front symbols text) no_piece in
    let literal : Piece = longer_token literal_token (literal_length text) symbol in
    let logic : Piece = longer_token logic_token (logic_length text) literal in
    longer_token-Good text word_token (word_length text) logic
    (word_seen (take (word_length text) text))
    (longer_token-Good text logic_token (logic_length text) literal
    (logic_seen (take (logic_length text) text))
    (longer_token-Good text literal_token (literal_length text) symbol
    (literal_seen (take (literal_length text) text))
    (longer_token-Good text symbol_token (longest_at_front symbols text) no_piece
    (symbol_seen (take (longest_at_front symbols text) text)) tt)))

by_number : (text run : List ℕ) (b : Bool) → take (length run) text ≡ run → is_number run ≡ b
    → Good text (if b then token_piece number_token (length run) else no_piece)
by_number text run true cut e =
    subst (SeenAs number_token) (sym cut)
    (number_seen run (both_true (not (leading_zero run)) (digits_fit run) e).1)
by_number text run false cut e = tt

digits_piece-Good : (text run : List ℕ) → take (length run) text ≡ run
    → Good text (digits_piece run)
digits_piece-Good text run cut = elim (bytes_eq run (codes "0f") || bytes_eq run (codes "0g")) as
    (λ b. Good text (if b then token_piece symbol_token (length run)
    else (if is_number run then token_piece number_token (length run) else no_piece))) [
      | true ↦ symbol_seen (take (length run) text)
      | false ↦ by_number text run (is_number run) cut refl
    ]

choice-Good : (text : List ℕ) (b : Bool) (p q : Piece) → Good text p → Good text q
    → Good text (if b then p else q)
choice-Good text true p q g h = g
choice-Good text false p q g h = h

piece_at-Good : (text : List ℕ) → Good text (piece_at text)
unfolding piece_at
piece_at-Good [] = tt
piece_at-Good (c ∷ rest) = let p : ℕ → Bool = λ d. is_ascii_digit d || is_xid_continue d in
    choice-Good (c ∷ rest) (is_blank c) _ _ tt
    (choice-Good (c ∷ rest) (starts_with nat_eq (c ∷ rest) (codes "//")) _ _ tt
    (choice-Good (c ∷ rest) (is_ascii_digit c) _ _
    (digits_piece-Good (c ∷ rest) (take (prefix_len p (c ∷ rest)) (c ∷ rest))
    (ap (λ n. take n (c ∷ rest)) (length-prefix_len p (c ∷ rest))))
    (longest_token-Good (c ∷ rest))))

-- it is bad, or seen as something
abbrev pub Seen : Token → Type 0
Seen token = token.kind ≢ bad_token → lexeme_of token ≢ bad_lexeme

with_piece : (bytes text : List ℕ) (number : ℕ) (piece : Piece) (others : ℕ → List Token)
    → Good (drop number text) piece → ((n : ℕ) → All Seen (others n))
    → All Seen (tokens_with bytes text number piece others)
with_piece bytes text number (gap_piece n) others good all = all (number + n)
with_piece bytes text number (token_piece kind n) others good all =
    All-cons Seen (token_from bytes text number kind n) (others (number + n))
    (λ _. good (line_of bytes (place_of text number))) (all (number + n))
with_piece bytes text number no_piece others good all =
    elim (place_of text number == length bytes) as
    (λ b. All Seen (if b then [] else bad_token_at bytes text number ∷ [])) [
      | true ↦ All-nil Seen
      | false ↦ All-cons Seen (bad_token_at bytes text number) [] (λ other. absurd (other refl))
          (All-nil Seen)
    ]

all_seen : (bytes text : List ℕ) (steps number : ℕ) → All Seen (tokens_from bytes text steps number)
unfolding tokens_from
all_seen bytes text zero number = All-nil Seen
all_seen bytes text (suc steps) number =
    with_piece bytes text number (piece_at (drop number text)) (tokens_from bytes text steps)
    (piece_at-Good (drop number text)) (all_seen bytes text steps)

pub tokens_seen : (bytes : List ℕ) → All Seen (tokens_of bytes)
unfolding tokens_of
tokens_seen bytes = all_seen bytes (characters bytes) (suc (length (characters bytes))) 0
