-- Keys of a set, put into another one after the other: each is new.
use Rattle.std.proofs.Common.{◌≡◌, ◌∙◌, ◌+◌, ◌<◌, ℕ, zero, suc, Bool, true, false, ◌||◌, if◌then◌else◌, refl, sym, ap, subst, arith, List, [], ◌∷◌, ◌++◌, map, length, take, get_or, bytes_eq}
use Rattle.std.proofs.lemmas.List.{take_more, take-map, get_or-map, length-map, map-append}
use Rattle.std.proofs.lemmas.Cmp.{nat_list_eq_equiv}
use Rattle.std.specs.String.{string_bytes}
use Rattle.std.specs.declared.string.String.{String}
use Rattle.std.specs.List.{list_any, AllByRecursion, IsDistinct}

-- none of those before a place is the one there
module _ {K : Type 0} (eq : K → K → Bool) where
  apart_later : (k : K) (xs : List K) → AllByRecursion (λ y. eq k y ≡ false) xs → (i : ℕ) (d : K)
      → i < length xs → eq k (get_or xs i d) ≡ false
  apart_later k [] h i d l = absurd (omega (arith, l))
  apart_later k (x ∷ xs) h zero d l = h.0
  apart_later k (x ∷ xs) h (suc i) d l =
      let m : i < length xs = omega (arith, l) in apart_later k xs h.1 i d m

  pub absent : ((x y : K) → eq x y ≡ eq y x) → (xs : List K) → IsDistinct eq xs → (i : ℕ) (d : K)
      → i < length xs → list_any (eq (get_or xs i d)) (take i xs) ≡ false
  unfolding IsDistinct
  absent o [] h i d l = absurd (omega (arith, l))
  absent o (x ∷ xs) h zero d l = refl
  absent o (x ∷ xs) h (suc i) d l =
      let m : i < length xs = omega (arith, l) in
      let here : eq (get_or xs i d) x ≡ false = o (get_or xs i d) x ∙ apart_later x xs h.0 i d m in
      ap (λ b. b || list_any (eq (get_or xs i d)) (take i xs)) here ∙ absent o xs h.1 i d m

  -- the next one is put behind those before it
  pub next : ((x y : K) → eq x y ≡ eq y x) → (items : List K) → IsDistinct eq items
      → (done after : List K) (i : ℕ) (x : K) → done ≡ take i items → i < length items
      → x ≡ get_or items i x
      → after ≡ (if list_any (eq x) done then done else done ++ x ∷ [])
      → after ≡ take (i + 1) items
  next o items h done after i x d l g e =
      let none : list_any (eq x) done ≡ false =
      (λ j. list_any (eq (g j)) (d j)) ∙ absent o items h i x l in
      let pushed : after ≡ done ++ x ∷ [] =
      e ∙ ap (λ b. if b then done else done ++ x ∷ []) none in
      pushed ∙ ((λ j. d j ++ g j ∷ []) ∙ sym (take_more items i x l))

-- NAMES, AS THE TEXTS THAT HOLD THEM
module _ {Z : Type 0} where
  abbrev pub same_text : String Z → String Z → Bool
  same_text a b = bytes_eq (string_bytes a) (string_bytes b)

  apart_names : (x : String Z) (xs : List (String Z))
      → AllByRecursion (λ y. same_text x y ≡ false) xs
      → AllByRecursion (λ y. bytes_eq (string_bytes x) y ≡ false) (map string_bytes xs)
  apart_names x [] h = tt
  apart_names x (y ∷ ys) h = (h.0, apart_names x ys h.1)

  distinct_names : (xs : List (String Z)) → IsDistinct same_text xs
      → IsDistinct bytes_eq (map string_bytes xs)
  unfolding IsDistinct
  distinct_names [] h = tt
  distinct_names (x ∷ xs) h = (apart_names x xs h.0, distinct_names xs h.1)

  any_name : (name : List ℕ) (xs : List (String Z))
      → list_any (λ y. bytes_eq name (string_bytes y)) xs
      ≡ list_any (bytes_eq name) (map string_bytes xs)
  any_name name [] = refl
  any_name name (x ∷ xs) = ap (λ b. bytes_eq name (string_bytes x) || b) (any_name name xs)

  -- the copy of the next name is put behind the copies of those before it
  pub next_name : (items : List (String Z)) → IsDistinct same_text items
      → (done after : List (String Z)) (i : ℕ) (x copy : String Z)
      → map string_bytes done ≡ map string_bytes (take i items) → i < length items
      → x ≡ get_or items i x → string_bytes copy ≡ string_bytes x
      → after ≡ (if list_any (same_text copy) done then done else done ++ copy ∷ [])
      → map string_bytes after ≡ map string_bytes (take (i + 1) items)
  next_name items h done after i x copy d l g c e =
      next bytes_eq nat_list_eq_equiv.symm (map string_bytes items) (distinct_names items h)
      (map string_bytes done) (map string_bytes after) i (string_bytes copy)
      (d ∙ sym (take-map string_bytes i items))
      (subst (λ n. i < n) (sym (length-map items string_bytes)) l)
      (c ∙ (ap string_bytes g ∙ sym (get_or-map string_bytes items i x (string_bytes copy) l)))
      (by (list_any (same_text copy) done) refl)
      ∙ take-map string_bytes (i + 1) items
    where
      either : (b : Bool) → list_any (same_text copy) done ≡ b → map string_bytes
          (if list_any (same_text copy) done then done else done ++ copy ∷ [])
          ≡ (if b then map string_bytes done else map string_bytes done ++ string_bytes copy ∷ [])
      either true q =
          ap (λ b. map string_bytes (if b then done else done ++ copy ∷ [])) q
      either false q =
          ap (λ b. map string_bytes (if b then done else done ++ copy ∷ [])) q
          ∙ map-append string_bytes done (copy ∷ [])

      by : (b : Bool) → list_any (same_text copy) done ≡ b → map string_bytes after
          ≡ (if list_any (bytes_eq (string_bytes copy)) (map string_bytes done)
          then map string_bytes done else map string_bytes done ++ string_bytes copy ∷ [])
      by b q = ap (map string_bytes) e ∙ (either b q ∙ sym (ap (λ b. if b
          then map string_bytes done else map string_bytes done ++ string_bytes copy ∷ [])
          (sym (any_name (string_bytes copy) done) ∙ q)))
