-- The cuts of siblings, and the roots beside the others, one after the other.
use Rattle.std.proofs.Common.{◌≡◌, ℕ, zero, suc, ◌+◌, ◌-◌, ◌≤◌, ◌<◌, Bool, true, false, ◌||◌, List, [], ◌∷◌, ◌++◌, length, take, drop, get_or, set, refl, ap, sym, subst, ◌∙◌, arith}
use Rattle.std.specs.List.{slice_range}
use Rattle.model_shapes.specs.Trees.{Trees, none, node, hole, width}
use Rattle.model_shapes.proofs.Truth.{false≢true}
use Rattle.model_watch.specs.Watching.{any_cut, any_root}
use Rattle.dom_watch.specs.declared.rows.Row.{Row}
use Rattle.dom_watch.specs.Rows.{Shows}

-- the first so many trees, and those after them
abbrev pub front : ℕ → Trees → Trees
front zero f = none
front (suc m) none = none
front (suc m) (node s i k l rest) = node s i k l (front m rest)
front (suc m) (hole rest) = hole (front m rest)

abbrev pub back : ℕ → Trees → Trees
back zero f = f
back (suc m) none = none
back (suc m) (node s i k l rest) = back m rest
back (suc m) (hole rest) = back m rest

-- the tree at a place, and the others
abbrev pub one_at : ℕ → Trees → Trees
one_at m none = none
one_at zero (node s i k l rest) = node s i k l none
one_at zero (hole rest) = hole none
one_at (suc m) (node s i k l rest) = one_at m rest
one_at (suc m) (hole rest) = one_at m rest

abbrev pub all_but : ℕ → Trees → Trees
all_but m none = none
all_but zero (node s i k l rest) = rest
all_but zero (hole rest) = rest
all_but (suc m) (node s i k l rest) = node s i k l (all_but m rest)
all_but (suc m) (hole rest) = hole (all_but m rest)

neither : (a b : Bool) → a ≡ false → b ≡ false → (a || b) ≡ false
neither true b h k = h
neither false b h k = k

second : (a b : Bool) → b ≡ true → (a || b) ≡ true
second true b h = refl
second false b h = h

first : (a b : Bool) → a ≡ true → (a || b) ≡ true
first true b h = refl
first false b h = absurd (false≢true {P = ⊥} h)

-- where no cut passes, and where one does
pub no_cut : (test : Trees → Trees → Bool) (f : Trees)
    → ((m : ℕ) → m ≤ width f → test (front m f) (back m f) ≡ false) → any_cut test f ≡ false
no_cut test none h = h 0 (omega arith)
no_cut test (node s i k l rest) h =
    neither (test none (node s i k l rest)) _ (h 0 (omega arith))
    (no_cut (λ a b. test (node s i k l a) b) rest (λ m le. h (suc m) (omega (arith, le))))
no_cut test (hole rest) h =
    neither (test none (hole rest)) _ (h 0 (omega arith))
    (no_cut (λ a b. test (hole a) b) rest (λ m le. h (suc m) (omega (arith, le))))

pub some_cut : (test : Trees → Trees → Bool) (f : Trees) (m : ℕ) → m ≤ width f
    → test (front m f) (back m f) ≡ true → any_cut test f ≡ true
some_cut test none zero le h = h
some_cut test none (suc m) le h = absurd (omega (arith, le))
some_cut test (node s i k l rest) zero le h = first (test none (node s i k l rest)) _ h
some_cut test (node s i k l rest) (suc m) le h =
    second (test none (node s i k l rest)) _
    (some_cut (λ a b. test (node s i k l a) b) rest m (omega (arith, le)) h)
some_cut test (hole rest) zero le h = first (test none (hole rest)) _ h
some_cut test (hole rest) (suc m) le h =
    second (test none (hole rest)) _
    (some_cut (λ a b. test (hole a) b) rest m (omega (arith, le)) h)

-- the same of roots
pub no_root : (test : Trees → Trees → Bool) (f : Trees)
    → ((m : ℕ) → m < width f → test (one_at m f) (all_but m f) ≡ false) → any_root test f ≡ false
no_root test none h = refl
no_root test (node s i k l rest) h =
    neither (test (node s i k l none) rest) _ (h 0 (omega arith))
    (no_root (λ t o. test t (node s i k l o)) rest (λ m le. h (suc m) (omega (arith, le))))
no_root test (hole rest) h =
    neither (test (hole none) rest) _ (h 0 (omega arith))
    (no_root (λ t o. test t (hole o)) rest (λ m le. h (suc m) (omega (arith, le))))

pub some_root : (test : Trees → Trees → Bool) (f : Trees) (m : ℕ) → m < width f
    → test (one_at m f) (all_but m f) ≡ true → any_root test f ≡ true
some_root test none m le h = absurd (omega (arith, le))
some_root test (node s i k l rest) zero le h = first (test (node s i k l none) rest) _ h
some_root test (node s i k l rest) (suc m) le h =
    second (test (node s i k l none) rest) _
    (some_root (λ t o. test t (node s i k l o)) rest m (omega (arith, le)) h)
some_root test (hole rest) zero le h = first (test (hole none) rest) _ h
some_root test (hole rest) (suc m) le h =
    second (test (hole none) rest) _
    (some_root (λ t o. test t (hole o)) rest m (omega (arith, le)) h)

-- the rows of such parts
module _ (all : List Row) where
  pub shown_width : (rows : List Row) (f : Trees) → Shows all rows f → width f ≡ length rows
  shown_width [] none h = refl
  shown_width [] (node s i k l rest) h = absurd h
  shown_width [] (hole rest) h = absurd h
  shown_width (x ∷ rows) none h = absurd h
  shown_width (x ∷ rows) (hole rest) h = absurd h
  shown_width (x ∷ rows) (node s i k l rest) h = omega (arith, shown_width rows rest h.6)

  pub shown_front : (rows : List Row) (f : Trees) (m : ℕ) → Shows all rows f
      → Shows all (take m rows) (front m f)
  shown_front rows f zero h = tt
  shown_front [] none (suc m) h = tt
  shown_front [] (node s i k l rest) (suc m) h = absurd h
  shown_front [] (hole rest) (suc m) h = absurd h
  shown_front (x ∷ rows) none (suc m) h = absurd h
  shown_front (x ∷ rows) (hole rest) (suc m) h = absurd h
  shown_front (x ∷ rows) (node s i k l rest) (suc m) h =
      (h.0, h.1, h.2, h.3, h.4, h.5, shown_front rows rest m h.6)

  pub shown_back : (rows : List Row) (f : Trees) (m : ℕ) → Shows all rows f
      → Shows all (drop m rows) (back m f)
  shown_back rows f zero h = h
  shown_back [] none (suc m) h = tt
  shown_back [] (node s i k l rest) (suc m) h = absurd h
  shown_back [] (hole rest) (suc m) h = absurd h
  shown_back (x ∷ rows) none (suc m) h = absurd h
  shown_back (x ∷ rows) (hole rest) (suc m) h = absurd h
  shown_back (x ∷ rows) (node s i k l rest) (suc m) h = shown_back rows rest m h.6

  one_shown : (rows : List Row) (f : Trees) (m : ℕ) → m < length rows → Shows all rows f
      → Shows all (take 1 (drop m rows)) (one_at m f)
  one_shown [] f m le h = absurd (omega (arith, le))
  one_shown (x ∷ rows) none m le h = absurd h
  one_shown (x ∷ rows) (hole rest) m le h = absurd h
  one_shown (x ∷ rows) (node s i k l rest) zero le h = (h.0, h.1, h.2, h.3, h.4, h.5, tt)
  one_shown (x ∷ rows) (node s i k l rest) (suc m) le h =
      one_shown rows rest m (omega (arith, le)) h.6

  pub shown_one : (rows : List Row) (f : Trees) (m : ℕ) → m < length rows → Shows all rows f
      → Shows all (slice_range rows m (m + 1)) (one_at m f)
  shown_one rows f m le h =
      let e : 1 ≡ m + 1 - m = omega arith in
      subst (λ n. Shows all (take n (drop m rows)) (one_at m f)) e (one_shown rows f m le h)

  others_shown : (rows : List Row) (f : Trees) (m : ℕ) → m < length rows → Shows all rows f
      → Shows all (take m rows ++ drop (suc m) rows) (all_but m f)
  others_shown [] f m le h = absurd (omega (arith, le))
  others_shown (x ∷ rows) none m le h = absurd h
  others_shown (x ∷ rows) (hole rest) m le h = absurd h
  others_shown (x ∷ rows) (node s i k l rest) zero le h = h.6
  others_shown (x ∷ rows) (node s i k l rest) (suc m) le h =
      (h.0, h.1, h.2, h.3, h.4, h.5, others_shown rows rest m (omega (arith, le)) h.6)

  pub shown_others : (rows : List Row) (f : Trees) (m : ℕ) → m < length rows → Shows all rows f
      → Shows all (take m rows ++ drop (m + 1) rows) (all_but m f)
  shown_others rows f m le h =
      let e : suc m ≡ m + 1 = omega arith in
      subst (λ n. Shows all (take m rows ++ drop n rows) (all_but m f)) e
      (others_shown rows f m le h)

-- the others of the next root
next_others : {A : Type 0} (xs : List A) (d : A) (m : ℕ) → suc m < length xs
    → set (take m xs ++ drop (suc m) xs) m (get_or xs m d)
    ≡ take (suc m) xs ++ drop (suc (suc m)) xs
next_others [] d m h = absurd (omega (arith, h))
next_others (x ∷ []) d m h = absurd (omega (arith, h))
next_others (x ∷ y ∷ xs) d zero h = refl
next_others (x ∷ y ∷ xs) d (suc m) h =
    ap (λ z. x ∷ z) (next_others (y ∷ xs) d m (omega (arith, h)))

pub others_on : {A : Type 0} (xs : List A) (d : A) (m : ℕ) → m + 1 < length xs
    → set (take m xs ++ drop (m + 1) xs) m (get_or xs m d)
    ≡ take (m + 1) xs ++ drop (m + 1 + 1) xs
others_on xs d m h =
    let e : suc m ≡ m + 1 = omega arith in
    let k : suc (suc m) ≡ m + 1 + 1 = omega arith in
    ap (λ n. set (take m xs ++ drop n xs) m (get_or xs m d)) (sym e)
    ∙ next_others xs d m (omega (arith, h)) ∙ (λ j. take (e j) xs ++ drop (k j) xs)
