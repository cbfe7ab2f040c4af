-- Lists of formulas to which others are added, up to the first with no room.
use Rattle.std.proofs.Common.{◌≡◌, ℕ, zero, suc, ◌<◌, ◌≤◌, ◌⊎◌, Bool, true, false, ◌||◌, nat_lt, if◌then◌else◌, sym, refl, ap, ◌∙◌, subst, arith, inl, inr, List, [], ◌∷◌, ◌++◌, length, get_or, eq-or-lt_of_le}
use Rattle.std.proofs.lemmas.Bool.{lt-ltb, ltb-true}
use Rattle.model_formulas.specs.Formulas.{Formula, truth}
use Rattle.model_formulas.specs.SameFormulas.{same_formula}
use Rattle.model_formulas.proofs.SameFormulas.{same_formula-is, same_formula-refl}
use Rattle.formula_table.specs.Growing.{IsNew}
use Rattle.formula_table.specs.Sets.{Follows}
use Rattle.formula_table.specs.Interning.{filled, overfull, is_one_of}
use Rattle.formula_table.proofs.Growing.{one-more}

-- WHETHER A FORMULA IS THERE
or-right : (a b : Bool) → b ≡ true → (a || b) ≡ true
or-right true b e = refl
or-right false b e = e

or-none : (a b : Bool) → (a ≡ true → ⊥) → b ≡ false → (a || b) ≡ false
or-none true b n e = absurd (n refl)
or-none false b n e = e

is-there : (p : Formula) (have : List Formula) (i : ℕ) (d : Formula) → i < length have
    → get_or have i d ≡ p → is_one_of p have ≡ true
is-there p [] i d h e = absurd (omega (arith, h))
is-there p (q ∷ qs) zero d h e =
    let f : q ≡ p = e in
    let g : same_formula p q ≡ true =
    subst (λ z. same_formula p z ≡ true) (sym f) (same_formula-refl p) in
    let more : Bool → Bool = λ b. b || is_one_of p qs in ap more g
is-there p (q ∷ qs) (suc i) d h e = or-right (same_formula p q) (is_one_of p qs)
    (is-there p qs i d (omega (arith, h)) e)

is-new : (p : Formula) (have : List Formula) → IsNew p have → is_one_of p have ≡ false
is-new p [] n = refl
is-new p (q ∷ qs) n = or-none (same_formula p q) (is_one_of p qs)
    (λ e. n 0 p (omega arith) (sym (same_formula-is p q e)))
    (is-new p qs (λ i d h e. n (suc i) d (omega (arith, h)) e))

not-below : (m n : ℕ) → n ≤ m → nat_lt m n ≡ false
not-below m n h = by (nat_lt m n) refl
  where
    by : (b : Bool) → nat_lt m n ≡ b → nat_lt m n ≡ false
    by true e = let l : m < n = ltb-true m n e in absurd (omega (arith, h, l))
    by false e = e

at-most : (m n : ℕ) → m ≤ n → nat_lt m n ≡ false → m ≡ n
at-most m n h e = by (eq-or-lt_of_le h)
  where
    by : (m ≡ n) ⊎ (m < n) → m ≡ n
    by (inl q) = q
    by (inr l) = let t : nat_lt m n ≡ true = lt-ltb m n l in absurd cc

-- ONE FORMULA
-- there is room for it, or it is there
pub filled-one : (most : ℕ) (have now : List Formula) (p : Formula) → Follows p have now
    → length now ≤ most → (i : ℕ) → i < length now → get_or now i truth ≡ p
    → (now ≡ filled most have (p ∷ [])) × (overfull most have (p ∷ []) ≡ false)
unfolding filled overfull
filled-one most have now p (inl e) few i h q =
    let a : is_one_of p have ≡ true =
    is-there p have i truth (subst (λ l. i < length l) e h)
    (ap (λ l. get_or l i truth) (sym e) ∙ q) in (
      e ∙ sym (ap (λ b. if b then have else (if nat_lt (length have) most then have ++ p ∷ []
          else have)) a),
      ap (λ b. if b then false else (if nat_lt (length have) most then false else true)) a,
    )
filled-one most have now p (inr f) few i h q =
    let a : is_one_of p have ≡ false = is-new p have f.1 in
    let m : length (have ++ p ∷ []) ≡ suc (length have) = one-more have p in
    let k : length now ≡ length (have ++ p ∷ []) = ap length f.0 in
    let l : nat_lt (length have) most ≡ true =
    lt-ltb (length have) most (omega (arith, m, k, few)) in (
      f.0 ∙ sym (λ j. if a j then have else (if l j then have ++ p ∷ [] else have)),
      λ j. if a j then false else (if l j then false else true),
    )

-- there is no room for it
pub filled-none : (most : ℕ) (have : List Formula) (p : Formula) → IsNew p have
    → most ≤ length have
    → (filled most have (p ∷ []) ≡ have) × (overfull most have (p ∷ []) ≡ true)
unfolding filled overfull
filled-none most have p n few =
    let a : is_one_of p have ≡ false = is-new p have n in
    let l : nat_lt (length have) most ≡ false = not-below (length have) most few in (
      (λ j. if a j then have else (if l j then have ++ p ∷ [] else have)),
      (λ j. if a j then false else (if l j then false else true)),
    )

-- SEVERAL FORMULAS
-- the step of a list of formulas: one is there, or there is room for it, or there is none
module _ (most : ℕ) (have next ps : List Formula) where
  more-step : (qs : List Formula) → ((xs : List Formula) → overfull most xs ps ≡ false
      → (filled most xs (ps ++ qs) ≡ filled most (filled most xs ps) qs)
      × (overfull most xs (ps ++ qs) ≡ overfull most (filled most xs ps) qs)) → (b l : Bool)
      → (if b then overfull most have ps else (if l then overfull most next ps else true)) ≡ false
      → ((if b then filled most have (ps ++ qs) else
      (if l then filled most next (ps ++ qs) else have))
      ≡ filled most (if b then filled most have ps else (if l then filled most next ps else have))
      qs)
      × ((if b then overfull most have (ps ++ qs) else
      (if l then overfull most next (ps ++ qs) else true))
      ≡ overfull most (if b then filled most have ps else (if l then filled most next ps else have))
      qs)
  more-step qs h true l e = h have e
  more-step qs h false true e = h next e
  more-step qs h false false e = absurd cc

  stop-step : (qs : List Formula) → ((xs : List Formula) → overfull most xs ps ≡ true
      → (filled most xs (ps ++ qs) ≡ filled most xs ps) × (overfull most xs (ps ++ qs) ≡ true))
      → (b l : Bool)
      → (if b then overfull most have ps else (if l then overfull most next ps else true)) ≡ true
      → ((if b then filled most have (ps ++ qs) else
      (if l then filled most next (ps ++ qs) else have))
      ≡ (if b then filled most have ps else (if l then filled most next ps else have)))
      × ((if b then overfull most have (ps ++ qs) else
      (if l then overfull most next (ps ++ qs) else true)) ≡ true)
  stop-step qs h true l e = h have e
  stop-step qs h false true e = h next e
  stop-step qs h false false e = (refl, refl)

  length-step : length have ≤ most → length next ≡ suc (length have)
      → ((xs : List Formula) → length xs ≤ most → overfull most xs ps ≡ true
      → length (filled most xs ps) ≡ most) → (b l : Bool) → nat_lt (length have) most ≡ l
      → (if b then overfull most have ps else (if l then overfull most next ps else true)) ≡ true
      → length (if b then filled most have ps else (if l then filled most next ps else have))
      ≡ most
  length-step few n h true l m e = h have few e
  length-step few n h false true m e =
      let k : length have < most = ltb-true (length have) most m in
      h next (omega (arith, k, n)) e
  length-step few n h false false m e = at-most (length have) most few m

-- what is added behind those that there was room for
pub filled-more : (most : ℕ) (have ps qs : List Formula) → overfull most have ps ≡ false
    → (filled most have (ps ++ qs) ≡ filled most (filled most have ps) qs)
    × (overfull most have (ps ++ qs) ≡ overfull most (filled most have ps) qs)
unfolding filled overfull
filled-more most have [] qs e = (refl, refl)
filled-more most have (p ∷ ps) qs e = more-step most have (have ++ p ∷ []) ps qs
    (λ xs. filled-more most xs ps qs) (is_one_of p have) (nat_lt (length have) most) e

-- where there was no room nothing more is added
pub filled-stop : (most : ℕ) (have ps qs : List Formula) → overfull most have ps ≡ true
    → (filled most have (ps ++ qs) ≡ filled most have ps)
    × (overfull most have (ps ++ qs) ≡ true)
unfolding filled overfull
filled-stop most have [] qs e = absurd cc
filled-stop most have (p ∷ ps) qs e = stop-step most have (have ++ p ∷ []) ps qs
    (λ xs. filled-stop most xs ps qs) (is_one_of p have) (nat_lt (length have) most) e

-- and as many are there as there may be
pub full-length : (most : ℕ) (have ps : List Formula) → length have ≤ most
    → overfull most have ps ≡ true → length (filled most have ps) ≡ most
unfolding filled overfull
full-length most have [] few e = absurd cc
full-length most have (p ∷ ps) few e = length-step most have (have ++ p ∷ []) ps few
    (one-more have p) (λ xs. full-length most xs ps) (is_one_of p have)
    (nat_lt (length have) most) refl e
