-- Parts of valid characters are valid.
use Rattle.std.proofs.Common.{◌≡◌, ℕ, zero, suc, ◌==◌, Bool, true, false, ◌&&◌, List, [], ◌∷◌, ◌++◌, length, take, drop, refl, ap}
use Rattle.std.specs.Prelude.{if◌then◌else◌}
use Rattle.std.proofs.Math.Utf8.{scalar, scalars}
use Rattle.std.proofs.lemmas.Bool.{and_parts}
use Rattle.std.proofs.lemmas.Str.{IsUtf8-from_is_utf8, IsUtf8-nil, scalars-chars}
use Rattle.std.specs.Str.{IsUtf8, is_utf8}
use Rattle.std.specs.Str.Lossy.{valid_len_up_to, utf8_valid_len}
use Rattle.model_text.specs.Tokens.{newline, backslash, letter_n, unescaped, characters}

-- both parts of a conjunction
pub both : (a b : Bool) → a ≡ true → b ≡ true → (a && b) ≡ true
both a b e f = cc (ap (λ c. c && b) e)

pub scalars_both : (a b : List ℕ) → scalars a ≡ true → scalars b ≡ true → scalars (a ++ b) ≡ true
scalars_both [] b e f = f
scalars_both (c ∷ a) b e f = let parts = and_parts (scalar c) (scalars a) e in
    both (scalar c) (scalars (a ++ b)) parts.0 (scalars_both a b parts.1 f)

pub scalars_take : (n : ℕ) (text : List ℕ) → scalars text ≡ true → scalars (take n text) ≡ true
scalars_take zero text e = refl
scalars_take (suc n) [] e = refl
scalars_take (suc n) (c ∷ text) e = let parts = and_parts (scalar c) (scalars text) e in
    both (scalar c) (scalars (take n text)) parts.0 (scalars_take n text parts.1)

pub scalars_drop : (n : ℕ) (text : List ℕ) → scalars text ≡ true → scalars (drop n text) ≡ true
scalars_drop zero text e = e
scalars_drop (suc n) [] e = refl
scalars_drop (suc n) (c ∷ text) e = scalars_drop n text (and_parts (scalar c) (scalars text) e).1

by_newline : (b : Bool) (c : ℕ) → scalar c ≡ true → scalar (if b then newline else c) ≡ true
by_newline true c e = refl
by_newline false c e = e

pub scalars_unescaped : (after : Bool) (text : List ℕ) → scalars text ≡ true
    → scalars (unescaped after text) ≡ true
scalars_unescaped after [] e = refl
scalars_unescaped true (c ∷ text) e = let parts = and_parts (scalar c) (scalars text) e in
    both (scalar (if c == letter_n then newline else c)) (scalars (unescaped false text))
    (by_newline (c == letter_n) c parts.0) (scalars_unescaped false text parts.1)
scalars_unescaped false (c ∷ text) e = let parts = and_parts (scalar c) (scalars text) e in
    by_test (c == backslash) parts.0 (scalars_unescaped true text parts.1)
    (scalars_unescaped false text parts.1)
  where
    by_test : (b : Bool) → scalar c ≡ true → scalars (unescaped true text) ≡ true
        → scalars (unescaped false text) ≡ true
        → scalars (if b then unescaped true text else c ∷ unescaped false text) ≡ true
    by_test true here behind plain = behind
    by_test false here behind plain = both (scalar c) (scalars (unescaped false text)) here plain

-- the longest front that is UTF-8 is
by_validity : (bytes : List ℕ) (n m : ℕ) (b : Bool) → (b ≡ true → IsUtf8 (take n bytes))
    → IsUtf8 (take m bytes) → IsUtf8 (take (if b then n else m) bytes)
by_validity bytes n m true whole less = whole refl
by_validity bytes n m false whole less = less

valid_up_to : (bytes : List ℕ) (n : ℕ) → IsUtf8 (take (valid_len_up_to bytes n) bytes)
valid_up_to bytes zero = IsUtf8-nil
valid_up_to bytes (suc n) =
    by_validity bytes (suc n) (valid_len_up_to bytes n) (is_utf8 (take (suc n) bytes))
    (IsUtf8-from_is_utf8 (take (suc n) bytes)) (valid_up_to bytes n)

valid_front : (bytes : List ℕ) → IsUtf8 (take (utf8_valid_len bytes) bytes)
unfolding utf8_valid_len
valid_front bytes = valid_up_to bytes (length bytes)

-- so the characters of bytes are valid
pub scalars_characters : (bytes : List ℕ) → scalars (characters bytes) ≡ true
unfolding characters
scalars_characters bytes = scalars-chars (take (utf8_valid_len bytes) bytes) (valid_front bytes)
