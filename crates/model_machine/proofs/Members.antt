-- Members of lists: the first and the later ones, and those of a `flat_map`.
use Rattle.std.proofs.Common.{◌≡◌, ℕ, zero, suc, ◌<◌, List, [], ◌∷◌, length, refl, sym, subst, arith, ◌⊎◌, inl, inr}
use Rattle.std.specs.Prelude.{Contains, flat_map, slice_index_or}
use Rattle.std.proofs.lemmas.List.Elements.{Contains-append_left, Contains-append_right, Contains-append_cases}

-- the first
pub first-member : {X : Type 0} (x : X) (xs : List X) → Contains (x ∷ xs) x
first-member x xs = (0, omega arith, refl)

-- a later one
pub later-member : {X : Type 0} (x : X) (xs : List X) (y : X) → Contains xs y → Contains (x ∷ xs) y
later-member x xs y h = Contains-append_right (x ∷ []) xs y h

-- none of none
pub no-member : {X : Type 0} (y : X) → Contains [] y → ⊥
no-member y h = let lt = h.1 in omega arith

-- the first, or one of the later ones
pub which-member : {X : Type 0} (x : X) (xs : List X) (y : X) → Contains (x ∷ xs) y
    → (x ≡ y) ⊎ Contains xs y
which-member {X} x xs y h = by_place h.0 h.1 h.2
  where
    by_place : (k : ℕ) → k < length (x ∷ xs) → slice_index_or (x ∷ xs) k y ≡ y
        → (x ≡ y) ⊎ Contains xs y
    by_place zero l e = inl e
    by_place (suc k) l e = inr (k, omega arith, e)

-- what stands in a `flat_map` comes from a member
pub some-source : {X Y : Type 0} (f : X → List Y) (xs : List X) (y : Y) → Contains (flat_map f xs) y
    → (x : X) × Contains xs x × Contains (f x) y
some-source {X} {Y} f [] y h = absurd (no-member y h)
some-source {X} {Y} f (x ∷ xs) y h =
    by_side (Contains-append_cases (f x) (flat_map f xs) y h) (some-source f xs y)
  where
    by_side : Contains (f x) y ⊎ Contains (flat_map f xs) y
        → (Contains (flat_map f xs) y → (z : X) × Contains xs z × Contains (f z) y)
        → (z : X) × Contains (x ∷ xs) z × Contains (f z) y
    by_side (inl a) rec = (x, first-member x xs, a)
    by_side (inr b) rec = let r = rec b in (r.0, later-member x xs r.0 r.1, r.2)

-- and what comes from a member stands in it
pub from-source : {X Y : Type 0} (f : X → List Y) (xs : List X) (x : X) (y : Y) → Contains xs x
    → Contains (f x) y → Contains (flat_map f xs) y
from-source {X} {Y} f [] x y h m = absurd (no-member x h)
from-source {X} {Y} f (z ∷ xs) x y h m =
    by_place (which-member z xs x h) (λ k. from-source f xs x y k m)
  where
    by_place : (z ≡ x) ⊎ Contains xs x → (Contains xs x → Contains (flat_map f xs) y)
        → Contains (flat_map f (z ∷ xs)) y
    by_place (inl e) rec =
        Contains-append_left (f z) (flat_map f xs) y (subst (λ w. Contains (f w) y) (sym e) m)
    by_place (inr k) rec = Contains-append_right (f z) (flat_map f xs) y (rec k)
