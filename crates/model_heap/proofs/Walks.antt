-- The steps of a walk over a grove.
use Rattle.std.proofs.Common.{◌≡◌, ◌≢◌, ℕ, ◌≤◌, List, [], ◌∷◌, ◌++◌, Option, Some, None, refl, sym, ap, inl, inr, arith}
use Rattle.std.proofs.lemmas.Bool.{cases_eq}
use Rattle.model_shapes.specs.Trees.{Trees, none, node, hole}
use Rattle.model_shapes.specs.Shapes.{holes}
use Rattle.model_heap.specs.Lists.{count, head_of, after}
use Rattle.model_heap.specs.Entries.{roots, uses, entry, kids_of}
use Rattle.model_heap.specs.Marks.{opens, closes, walked, opening, closing}
use Rattle.model_heap.proofs.Moves.{test_yes, test_no, one_here, none_here, or_none, entry_absent}
use Rattle.model_heap.proofs.Neighbours.{after_absent}
use Rattle.model_heap.proofs.Kinship.{roots_use, kids_use}

-- the walk opens the first root first
first_root : (k : ℕ) (r : Trees) → holes r ≡ 0 → head_of (roots r) ≡ Some k
    → (opening k r ≡ walked r) × (1 ≤ uses k r)
first_root k none w h = absurd (cc)
first_root k (node s i kids l rest) w h = let e : k ≡ i = cc in
    (rw (test_yes k i e) refl, omega (arith, one_here k i e))
first_root k (hole rest) w h = absurd (omega (arith, w))

no_root : (r : Trees) → holes r ≡ 0 → head_of (roots r) ≡ None → walked r ≡ []
no_root none w h = refl
no_root (node s i kids l rest) w h = absurd (cc)
no_root (hole rest) w h = absurd (omega (arith, w))

module _ where
  pub open_kid : (q : Option ℕ) (r : Trees) (n k : ℕ) → holes r ≡ 0 → ((m : ℕ) → uses m r ≤ 1)
      → head_of (kids_of (entry q r n)) ≡ Some k → opening n r ≡ opens n ∷ opening k r
  open_kid q none n k w u h = absurd (cc)
  open_kid q (node s i kids l rest) n k w u h =
      let wk : holes kids ≡ 0 = omega (arith, w) in
      let wr : holes rest ≡ 0 = omega (arith, w) in
      elim (cases_eq n i) [
        | inl e ↦
            let h1 : head_of (roots kids) ≡ Some k = rw (test_yes n i e) at h in
            let f = first_root k kids wk h1 in
            let d : k ≢ i = λ z. absurd (omega (arith, u k, f.1, one_here k i z)) in
            let z : uses k kids ≢ 0 = λ z. absurd (omega (arith, z, f.1)) in
            rw (test_yes n i e, test_no k i d, test_no (uses k kids) 0 z, f.0)
            (ap (λ x. opens x ∷ walked kids ++ closes i ∷ walked rest) (sym e))
        | inr e ↦ elim (cases_eq (uses n kids) 0) [
          | inl y ↦
              let h1 : head_of (kids_of (entry q rest n)) ≡ Some k =
              rw (test_no n i e, entry_absent (Some i) kids n y) at h in
              let c : 1 ≤ uses k rest = use_of q rest n k h1 in
              let d : k ≢ i = λ z. absurd (omega (arith, u k, c, one_here k i z)) in
              let z : uses k kids ≡ 0 = omega (arith, u k, c) in
              rw (
                test_no n i e,
                test_yes (uses n kids) 0 y,
                test_no k i d,
                test_yes (uses k kids) 0 z,
              ) (open_kid q rest n k wr (λ m. omega (arith, u m)) h1)
          | inr y ↦
              let v : uses n rest ≡ 0 = omega (arith, u n, y) in
              let h1 : head_of (kids_of (entry (Some i) kids n)) ≡ Some k =
              rw (test_no n i e, entry_absent q rest n v, or_none) at h in
              let c : 1 ≤ uses k kids = use_of (Some i) kids n k h1 in
              let d : k ≢ i = λ z. absurd (omega (arith, u k, c, one_here k i z)) in
              let z : uses k kids ≢ 0 = λ z. absurd (omega (arith, z, c)) in
              rw (
                test_no n i e,
                test_no (uses n kids) 0 y,
                test_no k i d,
                test_no (uses k kids) 0 z,
                open_kid (Some i) kids n k wk (λ m. omega (arith, u m))
                    h1,
              ) refl
        ]
      ]
    where
      head_use : (xs : List ℕ) (k : ℕ) → head_of xs ≡ Some k → 1 ≤ count k xs
      head_use [] k h = absurd (cc)
      head_use (x ∷ xs) k h = let e : k ≡ x = cc in omega (arith, one_here k x e)

      use_of : (q : Option ℕ) (r : Trees) (n k : ℕ) → head_of (kids_of (entry q r n)) ≡ Some k
          → 1 ≤ uses k r
      use_of q r n k h = omega (arith, head_use (kids_of (entry q r n)) k h, kids_use q r n k)
  open_kid q (hole rest) n k w u h = absurd (omega (arith, w))

  pub open_leaf : (q : Option ℕ) (r : Trees) (n : ℕ) → holes r ≡ 0 → ((m : ℕ) → uses m r ≤ 1)
      → uses n r ≡ 1 → head_of (kids_of (entry q r n)) ≡ None → opening n r ≡ opens n ∷ closing n r
  open_leaf q none n w u t h = absurd (omega (arith, t))
  open_leaf q (node s i kids l rest) n w u t h =
      elim (cases_eq n i) [
        | inl e ↦
            let h1 : head_of (roots kids) ≡ None = rw (test_yes n i e) at h in
            rw (test_yes n i e, no_root kids (omega (arith, w)) h1)
            (ap (λ x. opens x ∷ closes i ∷ walked rest) (sym e))
        | inr e ↦ elim (cases_eq (uses n kids) 0) [
          | inl y ↦
              let h1 : head_of (kids_of (entry q rest n)) ≡ None =
              rw (test_no n i e, entry_absent (Some i) kids n y) at h in
              rw (test_no n i e, test_yes (uses n kids) 0 y)
              (open_leaf q rest n (omega (arith, w)) (λ m. omega (arith, u m))
              (omega (arith, t, y, none_here n i e)) h1)
          | inr y ↦
              let v : uses n rest ≡ 0 = omega (arith, u n, y) in
              let h1 : head_of (kids_of (entry (Some i) kids n)) ≡ None =
              rw (test_no n i e, entry_absent q rest n v, or_none) at h in
              rw (
                test_no n i e,
                test_no (uses n kids) 0 y,
                open_leaf (Some i) kids n
                    (omega (arith, w)) (λ m. omega (arith, u m)) (omega (arith, u n, y)) h1,
              ) refl
        ]
      ]
  open_leaf q (hole rest) n w u t h = absurd (omega (arith, w))

  -- a next root
  pub close_next_root : (r : Trees) (n m : ℕ) → holes r ≡ 0 → ((m : ℕ) → uses m r ≤ 1)
      → after n (roots r) ≡ Some m → closing n r ≡ closes n ∷ opening m r
  close_next_root none n m w u h = absurd (cc)
  close_next_root (node s i kids l rest) n m w u h =
      elim (cases_eq n i) [
        | inl e ↦
            let h1 : head_of (roots rest) ≡ Some m = rw (test_yes n i e) at h in
            let f = first_root m rest (omega (arith, w)) h1 in
            let d : m ≢ i = λ z. absurd (omega (arith, u m, f.1, one_here m i z)) in
            let k : uses m kids ≡ 0 = omega (arith, u m, f.1) in
            rw (test_yes n i e, test_no m i d, test_yes (uses m kids) 0 k, f.0)
            (ap (λ x. closes x ∷ walked rest) (sym e))
        | inr e ↦
            let h1 : after n (roots rest) ≡ Some m = rw (test_no n i e) at h in
            let cn : 1 ≤ uses n rest = after_use n m rest h1 in
            let cm : 1 ≤ uses m rest = after_use_next n m rest h1 in
            let kn : uses n kids ≡ 0 = omega (arith, u n, cn) in
            let km : uses m kids ≡ 0 = omega (arith, u m, cm) in
            let d : m ≢ i = λ z. absurd (omega (arith, u m, cm, one_here m i z)) in
            rw (
              test_no n i e,
              test_yes (uses n kids) 0 kn,
              test_no m i d,
              test_yes (uses m kids) 0 km,
            ) (close_next_root rest n m (omega (arith, w))
            (λ m. omega (arith, u m)) h1)
      ]
    where
      here : (n m : ℕ) (xs : List ℕ) → after n xs ≡ Some m → 1 ≤ count n xs
      here n m xs h = elim (cases_eq (count n xs) 0)
          [ inl z ↦ absurd (let x = after_absent n xs z in cc) | inr z ↦ omega (arith, z) ]

      head_use : (xs : List ℕ) (k : ℕ) → head_of xs ≡ Some k → 1 ≤ count k xs
      head_use [] k h = absurd (cc)
      head_use (x ∷ xs) k h = let e : k ≡ x = cc in omega (arith, one_here k x e)

      next : (n m : ℕ) (xs : List ℕ) → after n xs ≡ Some m → 1 ≤ count m xs
      next n m [] h = absurd (cc)
      next n m (x ∷ xs) h = elim (cases_eq n x) [
        | inl e ↦ omega (arith, head_use xs m (rw (test_yes n x e) at h))
        | inr d ↦
            omega (arith, next n m xs (rw (test_no n x d) at h))
      ]

      after_use : (n m : ℕ) (r : Trees) → after n (roots r) ≡ Some m → 1 ≤ uses n r
      after_use n m r h = omega (arith, here n m (roots r) h, roots_use n r)

      after_use_next : (n m : ℕ) (r : Trees) → after n (roots r) ≡ Some m → 1 ≤ uses m r
      after_use_next n m r h = omega (arith, next n m (roots r) h, roots_use m r)
  close_next_root (hole rest) n m w u h = absurd (omega (arith, w))

-- uses of what stands in a row
after_here_use : (n m : ℕ) (xs : List ℕ) → after n xs ≡ Some m → 1 ≤ count n xs
after_here_use n m xs h = elim (cases_eq (count n xs) 0)
    [ inl z ↦ absurd (let x = after_absent n xs z in cc) | inr z ↦ omega (arith, z) ]

head_use : (xs : List ℕ) (k : ℕ) → head_of xs ≡ Some k → 1 ≤ count k xs
head_use [] k h = absurd (cc)
head_use (x ∷ xs) k h = let e : k ≡ x = cc in omega (arith, one_here k x e)

after_next_use : (n m : ℕ) (xs : List ℕ) → after n xs ≡ Some m → 1 ≤ count m xs
after_next_use n m [] h = absurd (cc)
after_next_use n m (x ∷ xs) h = elim (cases_eq n x) [
  | inl e ↦ omega (arith, head_use xs m (rw (test_yes n x e) at h))
  | inr d ↦
      omega (arith, after_next_use n m xs (rw (test_no n x d) at h))
]

some_kids_use : (q : Option ℕ) (r : Trees) (p n : ℕ) → 1 ≤ count n (kids_of (entry q r p))
    → 1 ≤ uses p r
some_kids_use q r p n h = elim (cases_eq (uses p r) 0) [
  | inl z ↦ absurd (omega (arith, h, ap (λ o. count n (kids_of o)) (entry_absent q r p z)))
  | inr z ↦ omega (arith, z)
]

pub close_next : (q : Option ℕ) (r : Trees) (p n m : ℕ) → holes r ≡ 0 → ((m : ℕ) → uses m r ≤ 1)
    → after n (kids_of (entry q r p)) ≡ Some m → closing n r ≡ closes n ∷ opening m r
close_next q none p n m w u h = absurd (cc)
close_next q (node s i kids l rest) p n m w u h =
    let wk : holes kids ≡ 0 = omega (arith, w) in
    let wr : holes rest ≡ 0 = omega (arith, w) in
    elim (cases_eq p i) [
      | inl e ↦
          let h1 : after n (roots kids) ≡ Some m = rw (test_yes p i e) at h in
          let cn : 1 ≤ uses n kids = omega (
            arith,
            after_here_use n m (roots kids) h1,
            roots_use n kids,
          ) in
          let cm : 1 ≤ uses m kids = omega (
            arith,
            after_next_use n m (roots kids) h1,
            roots_use m kids,
          ) in
          let dn : n ≢ i = λ z. absurd (omega (arith, u n, cn, one_here n i z)) in
          let dm : m ≢ i = λ z. absurd (omega (arith, u m, cm, one_here m i z)) in
          let zn : uses n kids ≢ 0 = λ z. absurd (omega (arith, z, cn)) in
          let zm : uses m kids ≢ 0 = λ z. absurd (omega (arith, z, cm)) in
          rw (
            test_no n i dn,
            test_no (uses n kids) 0 zn,
            test_no m i dm,
            test_no (uses m kids) 0 zm,
            close_next_root kids n m wk (λ m. omega (arith, u m)) h1,
          )
          refl
      | inr e ↦ elim (cases_eq (uses p kids) 0) [
        | inl y ↦
            let h1 : after n (kids_of (entry q rest p)) ≡ Some m =
            rw (test_no p i e, entry_absent (Some i) kids p y) at h in
            let cn : 1 ≤ uses n rest = omega (
              arith,
              after_here_use n m (kids_of (entry q rest p))
                  h1,
              kids_use q rest p n,
            ) in
            let cm : 1 ≤ uses m rest = omega (
              arith,
              after_next_use n m (kids_of (entry q rest p))
                  h1,
              kids_use q rest p m,
            ) in
            let dn : n ≢ i = λ z. absurd (omega (arith, u n, cn, one_here n i z)) in
            let dm : m ≢ i = λ z. absurd (omega (arith, u m, cm, one_here m i z)) in
            let zn : uses n kids ≡ 0 = omega (arith, u n, cn) in
            let zm : uses m kids ≡ 0 = omega (arith, u m, cm) in
            rw (
              test_no n i dn,
              test_yes (uses n kids) 0 zn,
              test_no m i dm,
              test_yes (uses m kids) 0 zm,
            ) (close_next q rest p n m wr (λ m. omega (arith, u m))
            h1)
        | inr y ↦
            let v : uses p rest ≡ 0 = omega (arith, u p, y) in
            let h1 : after n (kids_of (entry (Some i) kids p)) ≡ Some m =
            rw (test_no p i e, entry_absent q rest p v, or_none) at h in
            let cn : 1 ≤ uses n kids = omega (
              arith,
              after_here_use n m
                  (kids_of (entry (Some i) kids p)) h1,
              kids_use (Some i) kids p n,
            ) in
            let cm : 1 ≤ uses m kids = omega (
              arith,
              after_next_use n m
                  (kids_of (entry (Some i) kids p)) h1,
              kids_use (Some i) kids p m,
            ) in
            let dn : n ≢ i = λ z. absurd (omega (arith, u n, cn, one_here n i z)) in
            let dm : m ≢ i = λ z. absurd (omega (arith, u m, cm, one_here m i z)) in
            let zn : uses n kids ≢ 0 = λ z. absurd (omega (arith, z, cn)) in
            let zm : uses m kids ≢ 0 = λ z. absurd (omega (arith, z, cm)) in
            rw (
              test_no n i dn,
              test_no (uses n kids) 0 zn,
              test_no m i dm,
              test_no (uses m kids) 0 zm,
              close_next (Some i) kids p n m wk
                  (λ m. omega (arith, u m)) h1,
            ) refl
      ]
    ]
close_next q (hole rest) p n m w u h = absurd (omega (arith, w))

-- the last root
pub close_last : (r : Trees) (n : ℕ) → holes r ≡ 0 → ((m : ℕ) → uses m r ≤ 1)
    → 1 ≤ count n (roots r) → after n (roots r) ≡ None → closing n r ≡ closes n ∷ []
close_last none n w u t h = absurd (omega (arith, t))
close_last (node s i kids l rest) n w u t h =
    elim (cases_eq n i) [
      | inl e ↦
          let h1 : head_of (roots rest) ≡ None = rw (test_yes n i e) at h in
          rw (test_yes n i e, no_root rest (omega (arith, w)) h1) (ap (λ x. closes x ∷ []) (sym e))
      | inr e ↦
          let h1 : after n (roots rest) ≡ None = rw (test_no n i e) at h in
          let t1 : 1 ≤ count n (roots rest) = omega (arith, t, none_here n i e) in
          let z : uses n kids ≡ 0 = omega (arith, u n, t1, roots_use n rest) in
          rw (test_no n i e, test_yes (uses n kids) 0 z)
          (close_last rest n (omega (arith, w)) (λ m. omega (arith, u m)) t1 h1)
    ]
close_last (hole rest) n w u t h = absurd (omega (arith, w))

-- the last child: the walk goes up
pub close_up : (q : Option ℕ) (r : Trees) (p n : ℕ) → holes r ≡ 0 → ((m : ℕ) → uses m r ≤ 1)
    → 1 ≤ count n (kids_of (entry q r p)) → after n (kids_of (entry q r p)) ≡ None → closing n r
    ≡ closes n ∷ closing p r
close_up q none p n w u t h = absurd (omega (arith, t))
close_up q (node s i kids l rest) p n w u t h =
    let wk : holes kids ≡ 0 = omega (arith, w) in
    let wr : holes rest ≡ 0 = omega (arith, w) in
    elim (cases_eq p i) [
      | inl e ↦
          let h1 : after n (roots kids) ≡ None = rw (test_yes p i e) at h in
          let t1 : 1 ≤ count n (roots kids) = rw (test_yes p i e) at t in
          let cn : 1 ≤ uses n kids = omega (arith, t1, roots_use n kids) in
          let dn : n ≢ i = λ z. absurd (omega (arith, u n, cn, one_here n i z)) in
          let zn : uses n kids ≢ 0 = λ z. absurd (omega (arith, z, cn)) in
          rw (
            test_no n i dn,
            test_no (uses n kids) 0 zn,
            test_yes p i e,
            close_last kids n wk (λ m. omega (arith, u m)) t1 h1,
          ) refl
      | inr e ↦ elim (cases_eq (uses p kids) 0) [
        | inl y ↦
            let h1 : after n (kids_of (entry q rest p)) ≡ None =
            rw (test_no p i e, entry_absent (Some i) kids p y) at h in
            let t1 : 1 ≤ count n (kids_of (entry q rest p)) = rw
            (test_no p i e, entry_absent (Some i) kids p y) at t in
            let cn : 1 ≤ uses n rest = omega (arith, t1, kids_use q rest p n) in
            let dn : n ≢ i = λ z. absurd (omega (arith, u n, cn, one_here n i z)) in
            let zn : uses n kids ≡ 0 = omega (arith, u n, cn) in
            rw (
              test_no n i dn,
              test_yes (uses n kids) 0 zn,
              test_no p i e,
              test_yes (uses p kids) 0 y,
            ) (close_up q rest p n wr (λ m. omega (arith, u m)) t1 h1)
        | inr y ↦
            let v : uses p rest ≡ 0 = omega (arith, u p, y) in
            let h1 : after n (kids_of (entry (Some i) kids p)) ≡ None =
            rw (test_no p i e, entry_absent q rest p v, or_none) at h in
            let t1 : 1 ≤ count n (kids_of (entry (Some i) kids p)) =
            rw (test_no p i e, entry_absent q rest p v, or_none) at t in
            let cn : 1 ≤ uses n kids = omega (arith, t1, kids_use (Some i) kids p n) in
            let dn : n ≢ i = λ z. absurd (omega (arith, u n, cn, one_here n i z)) in
            let zn : uses n kids ≢ 0 = λ z. absurd (omega (arith, z, cn)) in
            rw (
              test_no n i dn,
              test_no (uses n kids) 0 zn,
              test_no p i e,
              test_no (uses p kids) 0 y,
              close_up (Some i) kids p n wk (λ m. omega (arith, u m))
                  t1 h1,
            ) refl
      ]
    ]
close_up q (hole rest) p n w u t h = absurd (omega (arith, w))
