-- Whether digits fit, one after the other.
use Rattle.std.proofs.Common.{◌≡◌, ℕ, ◌+◌, ◌-◌, ◌*◌, ◌<◌, ◌≤◌, Bool, true, false, ◌&&◌, List, [], ◌∷◌, length, drop, get_or, refl, suc, sym, ap, ◌∙◌, ◌⊎◌, inl, inr, Some, None, arith, drop-cons, nat_le}
use Rattle.std.proofs.lemmas.Bool.Decides.{nat_tests}
use Rattle.std.specs.Char.{is_ascii_digit, digit_value}
use Rattle.std.specs.List.{list_all}
use Rattle.std.specs.Prelude.{if◌then◌else◌}
use Rattle.std.specs.Str.Parse.{digits_value_after}
use Rattle.text_tokens.specs.Digits.{with_digit}

-- these are digits, and with those of the number before they write one that fits
abbrev pub fits_after : ℕ → List ℕ → Bool
fits_after value run =
    list_all is_ascii_digit run && nat_le (digits_value_after 10 value run) 9223372036854775807

-- more digits make a number no smaller
grows : (value : ℕ) (run : List ℕ) → value ≤ digits_value_after 10 value run
grows value [] = omega arith
grows value (c ∷ run) = omega (arith, grows (value * 10 + digit_value c) run)

value_of_digit : (c : ℕ) → is_ascii_digit c ≡ true → digit_value c ≡ c - 48
value_of_digit c h = grind (arith, nat_tests)

too_great_value : (most value : ℕ) → most < value → nat_le value most ≡ false
too_great_value most value h = grind (arith, nat_tests)

both_false : (a b : Bool) → b ≡ false → (a && b) ≡ false
both_false true b e = e
both_false false b e = refl

refused : (a b : Bool) (n : ℕ) → (if a && b then Some n else None) ≡ None
    → (a ≡ false) ⊎ (b ≡ false)
refused true true n e = cc
refused true false n e = inr refl
refused false b n e = inl refl

not_a_digit : (value c : ℕ) (run : List ℕ) → is_ascii_digit c ≡ false
    → fits_after value (c ∷ run) ≡ false
not_a_digit value c run e = rw e refl

above : (value : ℕ) → nat_le value 9223372036854775807 ≡ false → 9223372036854775807 < value
above value h = grind (arith, nat_tests)

too_great : (value c : ℕ) (run : List ℕ) → is_ascii_digit c ≡ true
    → nat_le (value * 10 + (c - 48)) 9223372036854775807 ≡ false
    → fits_after value (c ∷ run) ≡ false
too_great value c run e h = let v : digit_value c ≡ c - 48 = value_of_digit c e in
    let over : 9223372036854775807 < digits_value_after 10 (value * 10 + digit_value c) run =
    omega (arith, grows (value * 10 + digit_value c) run, above (value * 10 + (c - 48)) h) in
    both_false _ _ (too_great_value _ _ over)

no_more : (value c : ℕ) (run : List ℕ) → with_digit value c ≡ None
    → fits_after value (c ∷ run) ≡ false
no_more value c run e =
    elim (refused (is_ascii_digit c) (nat_le (value * 10 + (c - 48)) 9223372036854775807)
    (value * 10 + (c - 48)) e) [
      | inl other ↦ not_a_digit value c run other
      | inr over ↦ by_digit (is_ascii_digit c) refl over
    ]
  where
    by_digit : (b : Bool) → is_ascii_digit c ≡ b
        → nat_le (value * 10 + (c - 48)) 9223372036854775807 ≡ false
        → fits_after value (c ∷ run) ≡ false
    by_digit true d over = too_great value c run d over
    by_digit false d over = not_a_digit value c run d

-- where a character adds no digit, the rest doesn't fit
pub refused_at : (value c : ℕ) (run : List ℕ) (i d : ℕ) → i < length run → c ≡ get_or run i d
    → with_digit value c ≡ None → fits_after value (drop i run) ≡ false
refused_at value c run i d h e none = let cut : drop i run ≡ c ∷ drop (suc i) run =
    drop-cons run i d h ∙ ap (λ x. x ∷ drop (suc i) run) (sym e) in
    rw cut (no_more value c (drop (suc i) run) none)
