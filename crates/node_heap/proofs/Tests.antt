-- What records say of the grove.
use Rattle.std.proofs.Common.{◌≡◌, ◌≢◌, ℕ, ◌≤◌, Bool, true, false, List, [], ◌∷◌, Option, Some, None, refl, sym, ap, ◌∙◌, inl, inr, arith, subst}
use Rattle.std.specs.Option.{option_map, IsSome, ForSome}
use Rattle.std.proofs.lemmas.Bool.{cases_eq}
use Rattle.model_shapes.specs.Trees.{Trees}
use Rattle.model_heap.specs.Lists.{count, holds, head_of, last_of, after, before}
use Rattle.model_heap.specs.Entries.{Entry, rows_of, uses, kids_of, parent_of}
use Rattle.model_heap.proofs.Moves.{test_yes, test_no, one_here, entry_absent}
use Rattle.model_heap.proofs.Kinship.{Kin-rows_of}
use Rattle.slab.specs.Slab.{Slab, get, ContainsKey}
use Rattle.node_heap.specs.declared.records.Record.{Record}
use Rattle.node_heap.specs.declared.index.Pair.{Pair}
use Rattle.node_heap.specs.Records.{Neighbours}
use Rattle.node_heap.specs.Links.{row}
use Rattle.node_heap.specs.Indexes.{key_in}
use Rattle.node_heap.specs.Heap.{Linking}
use Rattle.node_heap.proofs.Found.{Found, found_at}

pub before_count : (n x : ℕ) (xs : List ℕ) → before n xs ≡ Some x → 1 ≤ count x xs
before_count n x [] h = absurd (cc)
before_count n x (y ∷ ys) h = by_test (holds (head_of ys) n) refl (before_count n x ys)
  where
    by_test : (b : Bool) → holds (head_of ys) n ≡ b → (before n ys ≡ Some x → 1 ≤ count x ys)
        → 1 ≤ count x (y ∷ ys)
    by_test true e k = let w : y ≡ x = let z : Some y ≡ Some x = rw e at h in cc in
        omega (arith, one_here x y (sym w))
    by_test false e k = omega (arith, k (rw e at h))

pub head_counts : (x : ℕ) (xs : List ℕ) → head_of xs ≡ Some x → 1 ≤ count x xs
head_counts x [] h = absurd (cc)
head_counts x (y ∷ ys) h = let w : y ≡ x = cc in omega (arith, one_here x y (sym w))

pub last_counts : (x : ℕ) (xs : List ℕ) → last_of xs ≡ Some x → 1 ≤ count x xs
last_counts x [] h = absurd (cc)
last_counts x (y ∷ []) h = let w : y ≡ x = cc in omega (arith, one_here x y (sym w))
last_counts x (y ∷ z ∷ zs) h = omega (arith, last_counts x (z ∷ zs) h)

pub after_count : (n x : ℕ) (xs : List ℕ) → after n xs ≡ Some x → 1 ≤ count x xs
after_count n x [] h = absurd (cc)
after_count n x (y ∷ ys) h = elim (cases_eq n y) [
  | inl e ↦ omega (arith, head_counts x ys (rw (test_yes n y e) at h))
  | inr d ↦ omega (arith, after_count n x ys (rw (test_no n y d) at h))
]

some_of : (o : Option Entry) (p : ℕ) → parent_of o ≡ Some p → IsSome o
some_of None p h = absurd (cc)
some_of (Some e) p h = refl

module _ (s : Slab Record) (nodes lists : List Pair) (g : Trees) (l : Linking s nodes lists g) where
  pub contained : (x : ℕ) → IsSome (rows_of g x) → ContainsKey s (key_in nodes x)
  contained x h = by_entry (rows_of g x) refl h
    where
      by_entry : (o : Option Entry) → rows_of g x ≡ o → IsSome o → ContainsKey s (key_in nodes x)
      by_entry None e h = absurd (cc)
      by_entry (Some w) e h = subst IsSome (sym (found_at s nodes lists g l x (key_in nodes x) w e
          refl).at) refl

  pointer : (q o : Option ℕ) → q ≡ option_map (key_in nodes) o
      → ((x : ℕ) → o ≡ Some x → IsSome (rows_of g x)) → ForSome q (ContainsKey s)
  pointer q None e h = λ y z. absurd (cc)
  pointer q (Some x) e h = λ y z. let w : key_in nodes x ≡ y = cc in
      subst (ContainsKey s) w (contained x (h x refl))

  kid_stands : (p x : ℕ) → 1 ≤ count x (kids_of (rows_of g p)) → IsSome (rows_of g x)
  kid_stands p x h = some_of (rows_of g x) p ((Kin-rows_of g l.once).up p x h)

  pub in_row : (q : Option ℕ) (x : ℕ) → 1 ≤ count x (row (rows_of g) q) → IsSome (rows_of g x)
  in_row None x h = absurd (omega (arith, h))
  in_row (Some p) x h = kid_stands p x h

  parent_stands : (n p : ℕ) → parent_of (rows_of g n) ≡ Some p → IsSome (rows_of g p)
  parent_stands n p h = by_entry (rows_of g p) ((Kin-rows_of g l.once).down p n h)
    where
      by_entry : (o : Option Entry) → 1 ≤ count n (kids_of o) → IsSome o
      by_entry None h = absurd (omega (arith, h))
      by_entry (Some e) h = refl

  pub neighbours : (n k : ℕ) (f : Found s nodes g n k) (r : Record) → get s k ≡ Some r
      → Neighbours s r
  neighbours n k f r a =
      let same : f.it ≡ r = let x = f.at in cc in
      subst (Neighbours s) same (record {
        parent = pointer f.it.parent f.entry.parent f.fits.parent
            (λ x h. parent_stands n x (ap parent_of f.is ∙ h));
        previous = pointer f.it.previous (before n (row (rows_of g) f.entry.parent)) f.fits.previous
            (λ x h. in_row f.entry.parent x (before_count n x (row (rows_of g) f.entry.parent) h));
        next = pointer f.it.next (after n (row (rows_of g) f.entry.parent)) f.fits.next
            (λ x h. in_row f.entry.parent x (after_count n x (row (rows_of g) f.entry.parent) h));
        last = pointer f.it.last (last_of f.entry.kids) f.fits.last
            (λ x h. kid_stands n x (subst (λ o. 1 ≤ count x (kids_of o)) (sym f.is)
            (last_counts x f.entry.kids h)));
      })

  key_test : (o : Option ℕ) (n : ℕ) → ((x : ℕ) → o ≡ Some x → IsSome (rows_of g x))
      → IsSome (rows_of g n) → holds (option_map (key_in nodes) o) (key_in nodes n) ≡ holds o n
  key_test None n k h = refl
  key_test (Some x) n k h = elim (cases_eq x n) [
    | inl e ↦ test_yes (key_in nodes x) (key_in nodes n) (ap (key_in nodes) e)
        ∙ sym (test_yes x n e)
    | inr d ↦ test_no (key_in nodes x) (key_in nodes n) (λ e. d (l.stands.apart x n (k x refl) h e))
        ∙ sym (test_no x n d)
  ]

  -- the record's parent is at the key where the parent is that number
  pub child_test : (p c pk ck : ℕ) (fp : Found s nodes g p pk) (fc : Found s nodes g c ck)
      (r : Record) → get s ck ≡ Some r → holds r.parent pk ≡ holds (parent_of (rows_of g c)) p
  child_test p c pk ck fp fc r a =
      let same : fc.it ≡ r = let x = fc.at in cc in
      let parent : r.parent ≡ option_map (key_in nodes) fc.entry.parent =
      ap (λ (r : Record). r.parent) (sym same) ∙ fc.fits.parent in
      let there : IsSome (rows_of g p) = subst IsSome (sym fp.is) refl in
      rw (parent, fp.key, fc.is) (key_test fc.entry.parent p
      (λ x h. parent_stands c x (ap parent_of fc.is ∙ h)) there)

pub once_there : (s : Slab Record) (nodes : List Pair) (g : Trees) (n k : ℕ) → uses n g ≤ 1
    → Found s nodes g n k → uses n g ≡ 1
once_there s nodes g n k u f = elim (cases_eq (uses n g) 0) [
  | inl z ↦ absurd (let a = entry_absent None g n z in let b = f.is in cc)
  | inr z ↦ omega (arith, u, z)
]

pub held : (o : Option ℕ) (n : ℕ) → holds o n ≡ true → o ≡ Some n
held None n h = absurd (cc)
held (Some x) n h = elim (cases_eq x n) [
  | inl e ↦ ap Some e
  | inr d ↦
      absurd (let g = test_no x n d in cc)
]

pub not_held : (o : Option ℕ) (n : ℕ) → holds o n ≡ false → o ≢ Some n
not_held None n h e = cc
not_held (Some x) n h e = let d : x ≡ n = cc in absurd (let g = test_yes x n d in cc)
