-- The escaped bytes of a character.
use Rattle.std.proofs.Common.{◌≡◌, ℕ, ◌+◌, ◌/◌, ◌<◌, ◌≤◌, Bool, true, false, cond, List, [], ◌∷◌, ◌++◌, refl, sym, ap, ◌∙◌, append_assoc, append-nil, length, arith, lit<, ◌⊎◌, inl, inr}
use Rattle.std.proofs.Math.Dec.{ltb}
use Rattle.std.proofs.Math.Utf8.{encode, next}
use Rattle.std.proofs.lemmas.Bool.{ne_eqb, le-ltb, ltb-true, ltb-false}
use Rattle.std.proofs.lemmas.Str.{encode_ascii}
use Rattle.model_text.specs.Tokens.{newline, quote, backslash}
use Rattle.model_documents.specs.Printed.{escaped_byte, escaped, quoted}

pub escaped-append : (a b : List ℕ) → escaped (a ++ b) ≡ escaped a ++ escaped b
escaped-append [] b = refl
escaped-append (x ∷ a) b = ap (λ (z : List ℕ). escaped_byte x ++ z) (escaped-append a b)
    ∙ sym (append_assoc (escaped_byte x) (escaped a) (escaped b))

-- a byte of a character beyond ASCII stands as it is
high_byte : (x : ℕ) → 128 ≤ x → escaped_byte x ≡ x ∷ []
high_byte x h =
    rw (
      ne_eqb x 34 (λ e. omega arith),
      ne_eqb x 92 (λ e. omega arith),
      ne_eqb x 10
          (λ e. omega arith),
    ) refl

high_step : (x : ℕ) (xs : List ℕ) → 128 ≤ x → escaped xs ≡ xs → escaped (x ∷ xs) ≡ x ∷ xs
high_step x xs h e = rw (high_byte x h, e) refl

escaped_high : (c : ℕ) → 128 ≤ c → escaped (encode c) ≡ encode c
unfolding encode
escaped_high c h = rw (le-ltb c 128 h) (by_test (ltb c 2048) (ltb c 65536))
  where
    by_test : (a b : Bool)
        → escaped (cond a ((192 + c / 64) ∷ next c ∷ [])
        (cond b ((224 + c / 4096) ∷ next (c / 64) ∷ next c ∷ [])
        ((240 + c / 262144) ∷ next (c / 4096) ∷ next (c / 64) ∷ next c ∷ [])))
        ≡ cond a ((192 + c / 64) ∷ next c ∷ [])
        (cond b ((224 + c / 4096) ∷ next (c / 64) ∷ next c ∷ [])
        ((240 + c / 262144) ∷ next (c / 4096) ∷ next (c / 64) ∷ next c ∷ []))
    by_test true b = high_step _ _ (omega arith) (high_step _ _ (omega arith) refl)
    by_test false true = high_step _ _ (omega arith)
        (high_step _ _ (omega arith) (high_step _ _ (omega arith) refl))
    by_test false false = high_step _ _ (omega arith)
        (high_step _ _ (omega arith) (high_step _ _ (omega arith)
        (high_step _ _ (omega arith) refl)))

escaped_ascii : (c : ℕ) → c < 128 → escaped (encode c) ≡ escaped_byte c
escaped_ascii c h = rw (encode_ascii c h) (append-nil (escaped_byte c))

-- a character that is none of the three stands as it is
pub escaped_plain : (c : ℕ) → (c ≡ quote → ⊥) → (c ≡ backslash → ⊥) → (c ≡ newline → ⊥)
    → escaped (encode c) ≡ encode c
escaped_plain c q b n =
    elim (dec_below c 128) [
      | inl low ↦ escaped_ascii c low
          ∙ rw (ne_eqb c 34 q, ne_eqb c 92 b, ne_eqb c 10 n) (sym (encode_ascii c low))
      | inr high ↦ escaped_high c high
    ]
  where
    dec_below : (a b : ℕ) → (a < b) ⊎ (b ≤ a)
    dec_below a b = by_test (ltb a b) refl
      where
        by_test : (x : Bool) → ltb a b ≡ x → (a < b) ⊎ (b ≤ a)
        by_test true e = inl (ltb-true a b e)
        by_test false e = inr (ltb-false a b e)

-- ---- a loop over the characters

pub goes_on : (text new left next whole : List ℕ) (c : ℕ) → new ≡ text ++ escaped (encode c)
    → left ≡ encode c ++ next → text ++ escaped left ≡ whole → new ++ escaped next ≡ whole
goes_on text new left next whole c n l so_far =
    ap (λ (z : List ℕ). z ++ escaped next) n ∙ append_assoc text (escaped (encode c)) (escaped next)
    ∙ ap (λ (z : List ℕ). text ++ z) (sym (escaped-append (encode c) next) ∙ ap escaped (sym l))
    ∙ so_far

pub ends : (text new left front other : List ℕ) → new ≡ text ++ encode quote → length left ≡ 0
    → text ++ escaped left ≡ front ++ (quote ∷ escaped other) → new ≡ front ++ quoted other
ends text new [] front other n l so_far =
    n ∙ ap (λ (z : List ℕ). text ++ z) (encode_ascii quote (lit< tt))
    ∙ ap (λ (z : List ℕ). z ++ (quote ∷ [])) (sym (append-nil text) ∙ so_far)
    ∙ append_assoc front (quote ∷ escaped other) (quote ∷ [])
ends text new (x ∷ left) front other n l so_far = absurd (omega arith)
