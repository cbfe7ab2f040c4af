-- Names by their places in a list, and lists of names that differ.
use Rattle.std.proofs.Common.{◌≡◌, ℕ, zero, suc, ◌+◌, ◌<◌, ◌≤◌, List, [], ◌∷◌, Bool, true, ◌&&◌, nat_lt, length, drop, map, refl, sym, ap, ◌∙◌, arith, tests}
use Rattle.model_shapes.specs.Values.{Name}
use Rattle.model_shapes.proofs.Truth.{both_true}
use Rattle.model_weakest.specs.Written.{at}
use Rattle.weakest_laws.proofs.Apart.{IsNew, Differ}

-- no two of the names are equal
abbrev pub Distinct : List Name → Type 0
Distinct names = (i j : ℕ) → i < j → j < length names → at names i ≡ at names j → ⊥

-- a place behind those that are dropped
pub at-drop : (n : ℕ) (names : List Name) (i : ℕ) → at (drop n names) i ≡ at names (n + i)
at-drop zero names i = ap (at names) (omega arith)
at-drop (suc n) [] i = refl
at-drop (suc n) (name ∷ names) i =
    at-drop n names i ∙ sym (ap (at (name ∷ names)) e)
  where
    e : suc n + i ≡ suc (n + i)
    e = omega arith

pub length-dropped : (n : ℕ) (names : List Name) → n ≤ length names
    → n + length (drop n names) ≡ length names
length-dropped zero names low = omega arith
length-dropped (suc n) [] low = absurd (omega (arith, low))
length-dropped (suc n) (name ∷ names) low =
    omega (arith, length-dropped n names (omega (arith, low)))

pub distinct-drop : (n : ℕ) (names : List Name) → n ≤ length names → Distinct names
    → Distinct (drop n names)
distinct-drop n names low d i j less within e =
    d (n + i) (n + j) (omega (arith, less))
    (omega (arith, within, length-dropped n names low))
    (sym (at-drop n names i) ∙ e ∙ at-drop n names j)

-- A LIST OF PLACES, each below the one before it
abbrev pub falling : ℕ → List ℕ → Bool
falling n [] = true
falling n (k ∷ ks) = nat_lt k n && falling k ks

less_from : (a b : ℕ) → nat_lt a b ≡ true → a < b
less_from a b e = omega (arith, tests, e)

module _ (names : List Name) (d : Distinct names) where
  new-at : (k n : ℕ) (ks : List ℕ) → n ≤ k → k < length names → falling n ks ≡ true
      → IsNew (at names k) (map (at names) ks)
  new-at k n [] low high f = tt
  new-at k n (j ∷ js) low high f =
      let b = both_true (nat_lt j n) (falling j js) f in
      let less : j < n = less_from j n b.0 in (
        λ e. d j k (omega (arith, less, low)) high (sym e),
        new-at k j js (omega (arith, less, low)) high b.1,
      )

  -- the names at such places differ
  pub differ-at : (n : ℕ) (ks : List ℕ) → n ≤ length names → falling n ks ≡ true
      → Differ (map (at names) ks)
  differ-at n [] low f = tt
  differ-at n (k ∷ ks) low f =
      let b = both_true (nat_lt k n) (falling k ks) f in
      let less : k < n = less_from k n b.0 in (
        new-at k k ks (omega arith) (omega (arith, less, low)) b.1,
        differ-at k ks (omega (arith, less, low)) b.1,
      )

  -- a name at a later place is none of those before a number
  pub earlier-not : (n k : ℕ) → n ≤ k → k < length names → (i : ℕ) → nat_lt i n ≡ true
      → at names i ≡ at names k → ⊥
  earlier-not n k low high i less = d i k (omega (arith, less_from i n less, low)) high
