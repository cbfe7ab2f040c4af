-- A text in quotes, each quote, backslash and newline of it escaped, is a token that stands for it.
use Rattle.std.proofs.Common.{◌≡◌, ℕ, suc, ◌+◌, ◌-◌, ◌≤◌, ◌<◌, ◌==◌, Bool, true, false, List, [], ◌∷◌, ◌++◌, length, take, encode_utf8_all, nat_lt, refl, sym, subst, ◌∙◌, ap, arith, append_assoc, length-append}
use Rattle.std.specs.Prelude.{if◌then◌else◌, cond}
use Rattle.std.proofs.Math.Utf8.{scalar, scalars, encode}
use Rattle.std.proofs.lemmas.Bool.{eqb-true, ne_eqb, ltb-true, ltb-false, lt-ltb, le-ltb, and_parts}
use Rattle.std.proofs.lemmas.List.{append-nil, take_at}
use Rattle.std.proofs.lemmas.Str.{encodes-append, encode_ascii}
use Rattle.model_text.specs.Tokens.{TokenKind, word_token, logic_token, literal_token, symbol_token, newline, quote, backslash, letter_n, literal_end, unescaped, Piece, token_piece, no_piece, piece_length, longer_token, longest_token, piece_at, token_text}
use Rattle.model_text.proofs.Computing.{lexing}
use Rattle.model_documents.specs.Printed.{escaped_byte, escaped, quoted}
use Rattle.model_printing.proofs.Alone.{IsToken, other_piece}
use Rattle.model_printing.proofs.Ended.{only_literal}
use Rattle.model_printing.proofs.Scalars.{both, scalars_both}

-- HOW A CHARACTER IS ESCAPED
-- it isn't
record IsUnescaped (c : ℕ) : Type 0 where
  no_quote : (c == quote) ≡ false
  no_backslash : (c == backslash) ≡ false
  no_newline : (c == newline) ≡ false

data Escape (c : ℕ) : Type 0 where
  of_quote : quote ≡ c → Escape c
  of_backslash : backslash ≡ c → Escape c
  of_newline : newline ≡ c → Escape c
  of_none : IsUnescaped c → Escape c

escape : (c : ℕ) → Escape c
escape c = by_test (c == quote) (c == backslash) (c == newline) refl refl refl
  where
    by_test : (a b d : Bool) → (c == quote) ≡ a → (c == backslash) ≡ b → (c == newline) ≡ d
        → Escape c
    by_test true b d is_quote is_backslash is_newline = of_quote (sym (eqb-true c quote is_quote))
    by_test false true d is_quote is_backslash is_newline =
        of_backslash (sym (eqb-true c backslash is_backslash))
    by_test false false true is_quote is_backslash is_newline =
        of_newline (sym (eqb-true c newline is_newline))
    by_test false false false is_quote is_backslash is_newline = of_none (record {
      no_quote = is_quote;
      no_backslash = is_backslash;
      no_newline = is_newline;
    })

escaped_none : (c : ℕ) → IsUnescaped c → escaped_byte c ≡ c ∷ []
escaped_none c none = rw (none.no_quote, none.no_backslash, none.no_newline)

-- a fact on the escape of a character, by cases
by_escape : (P : ℕ → List ℕ → Type 0) → P quote (backslash ∷ quote ∷ [])
    → P backslash (backslash ∷ backslash ∷ []) → P newline (backslash ∷ letter_n ∷ [])
    → (c : ℕ) → (IsUnescaped c → P c (c ∷ [])) → P c (escaped_byte c)
by_escape P at_quote at_backslash at_newline c at_other = by_case (escape c)
  where
    by_case : Escape c → P c (escaped_byte c)
    by_case (of_quote e) = subst (λ x. P x (escaped_byte x)) e at_quote
    by_case (of_backslash e) = subst (λ x. P x (escaped_byte x)) e at_backslash
    by_case (of_newline e) = subst (λ x. P x (escaped_byte x)) e at_newline
    by_case (of_none none) = subst (P c) (sym (escaped_none c none)) (at_other none)

-- THE CHARACTERS OF A LITERAL
pub unescaped_escaped : (text : List ℕ) → unescaped false (escaped text) ≡ text
unescaped_escaped [] = refl
unescaped_escaped (c ∷ text) =
    let rest : (x : ℕ) → x ∷ unescaped false (escaped text) ≡ x ∷ text =
    λ x. ap (λ cs. x ∷ cs) (unescaped_escaped text) in
    by_escape (λ x own. unescaped false (own ++ escaped text) ≡ x ∷ text) (rest quote)
    (rest backslash) (rest newline) c (λ none. rw none.no_backslash (rest c))

literal_ends : (text more : List ℕ) (before : ℕ)
    → literal_end false before (escaped text ++ quote ∷ more)
    ≡ before + length (escaped text) + 1
literal_ends [] more before = omega arith
literal_ends (c ∷ text) more before =
    let two : literal_end false (before + 1 + 1) (escaped text ++ quote ∷ more)
    ≡ before + suc (suc (length (escaped text))) + 1 =
    literal_ends text more (before + 1 + 1) ∙ omega arith in
    by_escape (λ x own. literal_end false before ((own ++ escaped text) ++ quote ∷ more)
    ≡ before + length (own ++ escaped text) + 1) two two two c
    (λ none. rw (none.no_quote, none.no_newline, none.no_backslash)
    (literal_ends text more (before + 1) ∙ omega arith))

scalars_escaped : (text : List ℕ) → scalars text ≡ true → scalars (escaped text) ≡ true
scalars_escaped [] e = refl
scalars_escaped (c ∷ text) e = let parts = and_parts (scalar c) (scalars text) e in
    scalars_both (escaped_byte c) (escaped text)
    (by_escape (λ x own. scalars own ≡ true) refl refl refl c
    (λ none. both (scalar c) true parts.0 refl)) (scalars_escaped text parts.1)

pub scalars_quoted : (text : List ℕ) → scalars text ≡ true → scalars (quoted text) ≡ true
scalars_quoted text e = scalars_both (escaped text) (quote ∷ []) (scalars_escaped text e) refl

-- ITS BYTES
escaped_both : (a b : List ℕ) → escaped (a ++ b) ≡ escaped a ++ escaped b
escaped_both [] b = refl
escaped_both (c ∷ a) b = ap (λ rest. escaped_byte c ++ rest) (escaped_both a b)
    ∙ sym (append_assoc (escaped_byte c) (escaped a) (escaped b))

-- no byte of a longer character is escaped
great_byte : (c : ℕ) → 128 ≤ c → escaped_byte c ≡ c ∷ []
great_byte c h = escaped_none c (record {
  no_quote = ne_eqb c quote (λ e. omega arith);
  no_backslash = ne_eqb c backslash (λ e. omega arith);
  no_newline = ne_eqb c newline (λ e. omega arith);
})

abbrev AreGreat : List ℕ → Type 0
AreGreat [] = Unit
AreGreat (byte ∷ rest) = (128 ≤ byte) × AreGreat rest

great_bytes : (bytes : List ℕ) → AreGreat bytes → escaped bytes ≡ bytes
great_bytes [] great = refl
great_bytes (byte ∷ rest) great =
    λ i. great_byte byte great.0 i ++ great_bytes rest great.1 i

by_length : (a b d : Bool) (one two three four : List ℕ) → a ≡ false → AreGreat two
    → AreGreat three → AreGreat four → AreGreat (cond a one (cond b two (cond d three four)))
by_length true b d one two three four small h k l = absurd cc
by_length false true d one two three four small h k l = h
by_length false false true one two three four small h k l = k
by_length false false false one two three four small h k l = l

encode_great : (c : ℕ) → 128 ≤ c → AreGreat (encode c)
unfolding encode
encode_great c h = by_length (nat_lt c 128) (nat_lt c 2048) (nat_lt c 65536) (c ∷ []) _ _ _
    (le-ltb c 128 h) (omega arith, (omega arith, tt))
    (omega arith, (omega arith, (omega arith, tt)))
    (omega arith, (omega arith, (omega arith, (omega arith, tt))))

character_bytes : (c : ℕ) → encode_utf8_all (escaped_byte c) ≡ escaped (encode c)
unfolding encode
character_bytes c = by_test (nat_lt c 128) refl
  where
    small : c < 128 → encode_utf8_all (escaped_byte c) ≡ escaped_byte c
    small h = by_escape (λ x own. encode_utf8_all own ≡ own) refl refl refl c
        (λ none. ap (λ cs. cs ++ []) (encode_ascii c h))

    by_test : (b : Bool) → nat_lt c 128 ≡ b → encode_utf8_all (escaped_byte c) ≡ escaped (encode c)
    by_test true e = let h : c < 128 = ltb-true c 128 e in
        small h ∙ sym (ap escaped (encode_ascii c h) ∙ append-nil (escaped_byte c))
    by_test false e = let h : 128 ≤ c = ltb-false c 128 e in
        ap encode_utf8_all (great_byte c h) ∙ append-nil (encode c)
        ∙ sym (great_bytes (encode c) (encode_great c h))

escaped_bytes : (text : List ℕ) → encode_utf8_all (escaped text) ≡ escaped (encode_utf8_all text)
escaped_bytes [] = refl
escaped_bytes (c ∷ text) = encodes-append (escaped_byte c) (escaped text)
    ∙ (λ i. character_bytes c i ++ escaped_bytes text i)
    ∙ sym (escaped_both (encode c) (encode_utf8_all text))

pub quoted_bytes : (text : List ℕ) → encode_utf8_all (quoted text) ≡ quoted (encode_utf8_all text)
unfolding encode
quoted_bytes text = ap (λ bytes. quote ∷ bytes) (encodes-append (escaped text) (quote ∷ [])
    ∙ ap (λ bytes. bytes ++ quote ∷ []) (escaped_bytes text))

-- ITS TOKEN
longer_none : (kind : TokenKind) (other : Piece) → longer_token kind 0 other ≡ other
longer_none kind other = ap (λ b. if b then token_piece kind 0 else other)
    (le-ltb (piece_length other) 0 (omega arith))

literal_longest : (rest : List ℕ) (n : ℕ) → literal_end false 1 rest ≡ suc n
    → longest_token (quote ∷ rest) ≡ token_piece literal_token (suc n)
literal_longest rest n e = let none = only_literal rest in
    (λ i. longer_token word_token (none.0 i) (longer_token logic_token (none.1 i)
    (longer_token literal_token (e i) (longer_token symbol_token (none.2 i) no_piece))))
    ∙ longer_none word_token _ ∙ longer_none logic_token _
    ∙ ap (λ b. if b then token_piece literal_token (suc n) else no_piece)
    (lt-ltb 0 (suc n) (omega arith))

-- whatever follows
pub literal_before : (text more : List ℕ)
    → piece_at (quoted text ++ more) ≡ token_piece literal_token (length (quoted text))
unfolding lexing
literal_before text more = let end : literal_end false 1 ((escaped text ++ quote ∷ []) ++ more)
    ≡ suc (length (escaped text ++ quote ∷ [])) =
    ap (literal_end false 1) (append_assoc (escaped text) (quote ∷ []) more)
    ∙ literal_ends text more 1
    ∙ omega (arith, length-append (escaped text) (quote ∷ [])) in
    other_piece quote ((escaped text ++ quote ∷ []) ++ more)
    (record { blank = refl; slash = refl; digit = refl })
    ∙ literal_longest ((escaped text ++ quote ∷ []) ++ more)
    (length (escaped text ++ quote ∷ [])) end

pub literal_is_token : (text : List ℕ) → IsToken literal_token (quoted text)
literal_is_token text = ap piece_at (sym (append-nil (quoted text))) ∙ literal_before text []

-- and it stands for the text
pub literal_text : (text : List ℕ)
    → token_text literal_token (quoted text) ≡ encode_utf8_all text
literal_text text = let inner : length (escaped text ++ quote ∷ []) ≡ length (escaped text) + 1 =
    length-append (escaped text) (quote ∷ []) in
    let count : length (quoted text) - 2 ≡ length (escaped text) = omega arith in
    ap (λ n. encode_utf8_all (unescaped false (take n (escaped text ++ quote ∷ [])))) count
    ∙ ap (λ cs. encode_utf8_all (unescaped false cs))
    (take_at (escaped text) (quote ∷ []) (length (escaped text)) refl)
    ∙ ap encode_utf8_all (unescaped_escaped text)
