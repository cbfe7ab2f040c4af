-- What the moves of trees do to what stands at each number.
use Rattle.std.proofs.Common.{◌≡◌, ◌≢◌, ℕ, ◌+◌, ◌≤◌, true, false, cond, eqb, List, [], ◌∷◌, ◌++◌, Option, Some, None, refl, sym, ap, ◌∙◌, inl, inr, arith, subst, append-nil}
use Rattle.std.specs.Option.{option_or, option_map}
use Rattle.std.proofs.lemmas.Bool.{cases_eq}
use Rattle.std.proofs.lemmas.Bool.Decides.{nat_tests}
use Rattle.model_shapes.specs.Trees.{Trees, none, node, hole, beside}
use Rattle.model_heap.specs.Entries.{Entry, roots, uses, entry, tree_at, all_but, adopt, removed, appended, drop_from, less_kid, below, more_kids, detached, attached, rows_of}

-- tests of numbers
pub test_yes : (a b : ℕ) → a ≡ b → eqb a b ≡ true
test_yes a b e = grind (arith, nat_tests)

pub test_no : (a b : ℕ) → a ≢ b → eqb a b ≡ false
test_no a b e = grind (arith, nat_tests)

pub one_here : (a b : ℕ) → a ≡ b → ◌≡◌ {A = ℕ} (cond (eqb a b) 1 0) 1
one_here a b e = rw (test_yes a b e) refl

pub none_here : (a b : ℕ) → a ≢ b → ◌≡◌ {A = ℕ} (cond (eqb a b) 1 0) 0
none_here a b e = rw (test_no a b e) refl

pub or_none : {A : Type 0} (x : Option A) → option_or x None ≡ x
or_none None = refl
or_none (Some x) = refl

pub or_assoc : {A : Type 0} (x y z : Option A) → option_or (option_or x y) z
    ≡ option_or x (option_or y z)
or_assoc None y z = refl
or_assoc (Some x) y z = refl

pub map_or : {A B : Type 0} (f : A → B) (x y : Option A) → option_map f (option_or x y)
    ≡ option_or (option_map f x) (option_map f y)
map_or f None y = refl
map_or f (Some x) y = refl

pub uses-beside : (n : ℕ) (a b : Trees) → uses n (beside a b) ≡ uses n a + uses n b
uses-beside n none b = omega arith
uses-beside n (node s i kids l rest) b = omega (arith, uses-beside n rest b)
uses-beside n (hole rest) b = uses-beside n rest b

pub roots-beside : (a b : Trees) → roots (beside a b) ≡ roots a ++ roots b
roots-beside none b = refl
roots-beside (node s i kids l rest) b = ap (λ x. i ∷ x) (roots-beside rest b)
roots-beside (hole rest) b = roots-beside rest b

pub entry-beside : (p : Option ℕ) (a b : Trees) (n : ℕ) → entry p (beside a b) n
    ≡ option_or (entry p a n) (entry p b n)
entry-beside p none b n = refl
entry-beside p (node s i kids l rest) b n =
    elim (cases_eq n i) [
      | inl e ↦ rw (test_yes n i e) refl
      | inr h ↦ rw (test_no n i h, entry-beside p rest b n, or_assoc) refl
    ]
entry-beside p (hole rest) b n = entry-beside p rest b n

-- a number that stands nowhere
pub entry_absent : (p : Option ℕ) (r : Trees) (n : ℕ) → uses n r ≡ 0 → entry p r n ≡ None
entry_absent p none n h = refl
entry_absent p (node s i kids l rest) n h =
    elim (cases_eq n i) [
      | inl e ↦ absurd (omega (arith, h, one_here n i e))
      | inr d ↦
          let hk : uses n kids ≡ 0 = omega (arith, h) in
          let hr : uses n rest ≡ 0 = omega (arith, h) in
          rw (test_no n i d, entry_absent (Some i) kids n hk, entry_absent p rest n hr) refl
    ]
entry_absent p (hole rest) n h = entry_absent p rest n h

pub tree_absent : (c : ℕ) (r : Trees) → uses c r ≡ 0 → tree_at c r ≡ none
tree_absent c none h = refl
tree_absent c (node s i kids l rest) h =
    elim (cases_eq c i) [
      | inl e ↦ absurd (omega (arith, h, one_here c i e))
      | inr d ↦
          let hk : uses c kids ≡ 0 = omega (arith, h) in
          let hr : uses c rest ≡ 0 = omega (arith, h) in
          rw (test_no c i d, tree_absent c kids hk, tree_absent c rest hr) refl
    ]
tree_absent c (hole rest) h = tree_absent c rest h

pub drop_absent : (c : ℕ) (r : Trees) → uses c r ≡ 0 → drop_from c (roots r) ≡ roots r
drop_absent c none h = refl
drop_absent c (node s i kids l rest) h =
    elim (cases_eq c i) [
      | inl e ↦ absurd (omega (arith, h, one_here c i e))
      | inr d ↦
          let hr : uses c rest ≡ 0 = omega (arith, h) in
          rw (test_no c i d, drop_absent c rest hr) refl
    ]
drop_absent c (hole rest) h = drop_absent c rest h

pub roots-all_but : (c : ℕ) (r : Trees) → roots (all_but c r) ≡ drop_from c (roots r)
roots-all_but c none = refl
roots-all_but c (node s i kids l rest) =
    elim (cases_eq c i) [
      | inl e ↦ rw (test_yes c i e) refl
      | inr d ↦ rw (test_no c i d, roots-all_but c rest) refl
    ]
roots-all_but c (hole rest) = roots-all_but c rest

-- what has no such child is as before
pub less_absent : (c : ℕ) (p : Option ℕ) (r : Trees) (n : ℕ) → uses c r ≡ 0
    → option_map (less_kid c) (entry p r n) ≡ entry p r n
less_absent c p none n h = refl
less_absent c p (node s i kids l rest) n h =
    let hk : uses c kids ≡ 0 = omega (arith, h) in
    let hr : uses c rest ≡ 0 = omega (arith, h) in
    elim (cases_eq n i) [
      | inl e ↦ rw (test_yes n i e, drop_absent c kids hk) refl
      | inr d ↦ rw (
        test_no n i d,
        map_or,
        less_absent c (Some i) kids n hk,
        less_absent c p rest n hr,
      ) refl
    ]
less_absent c p (hole rest) n h = less_absent c p rest n h

-- at a number outside the tree that goes, only the children change
pub entry-all_but : (c : ℕ) (p : Option ℕ) (r : Trees) (n : ℕ) → uses c r ≤ 1 → uses n (tree_at c r)
    ≡ 0 → entry p (all_but c r) n ≡ option_map (less_kid c) (entry p r n)
entry-all_but c p none n u h = refl
entry-all_but c p (node s i kids l rest) n u h =
    elim (cases_eq c i) [
      | inl e ↦
          let x : uses c rest ≡ 0 = omega (arith, u, one_here c i e) in
          let g : uses n (node s i kids l none) ≡ 0 = rw (test_yes c i e) at h in
          let k : uses n kids ≡ 0 = omega (arith, g) in
          elim (cases_eq n i) [
            | inl f ↦ absurd (omega (arith, g, one_here n i f))
            | inr f ↦ rw (
              test_yes c i e,
              test_no n i f,
              entry_absent (Some i) kids n k,
              less_absent c p rest n x,
            ) refl
          ]
      | inr e ↦
          let g : uses n (beside (tree_at c kids) (tree_at c rest)) ≡ 0 = rw (test_no c i e) at h in
          let uk : uses c kids ≤ 1 = omega (arith, u) in
          let ur : uses c rest ≤ 1 = omega (arith, u) in
          let gk : uses n (tree_at c kids) ≡ 0 = omega
          (arith, g, uses-beside n (tree_at c kids) (tree_at c rest)) in
          let gr : uses n (tree_at c rest) ≡ 0 = omega
          (arith, g, uses-beside n (tree_at c kids) (tree_at c rest)) in
          elim (cases_eq n i) [
            | inl f ↦ rw (test_no c i e, test_yes n i f, roots-all_but c kids) refl
            | inr f ↦ rw (
              test_no c i e,
              test_no n i f,
              map_or,
              entry-all_but c (Some i) kids n uk gk,
              entry-all_but c p rest n ur gr,
            ) refl
          ]
    ]
entry-all_but c p (hole rest) n u h = entry-all_but c p rest n u h

-- the tree of a number holds what the grove holds
pub uses-split : (c : ℕ) (r : Trees) (n : ℕ) → uses c r ≤ 1
    → uses n (all_but c r) + uses n (tree_at c r) ≡ uses n r
uses-split c none n u = refl
uses-split c (node s i kids l rest) n u =
    elim (cases_eq c i) [
      | inl e ↦ rw (test_yes c i e) (omega arith)
      | inr e ↦ rw (test_no c i e) (omega (
        arith,
        u,
        uses-split c kids n (omega (arith, u)),
        uses-split c rest n (omega (arith, u)),
        uses-beside n (tree_at c kids) (tree_at c rest),
      ))
    ]
uses-split c (hole rest) n u = uses-split c rest n u

-- the number itself, in its tree
pub entry-tree_root : (c : ℕ) (p q : Option ℕ) (r : Trees) → uses c r ≤ 1 → entry q (tree_at c r) c
    ≡ option_map (below q) (entry p r c)
entry-tree_root c p q none u = refl
entry-tree_root c p q (node s i kids l rest) u =
    elim (cases_eq c i) [
      | inl e ↦ rw (test_yes c i e) (rw (test_yes c i e) refl)
      | inr e ↦ rw (
        test_no c i e,
        entry-beside q (tree_at c kids) (tree_at c rest) c,
        map_or,
        entry-tree_root c (Some i) q kids (omega (arith, u)),
        entry-tree_root c p q rest (omega (arith, u)),
      ) refl
    ]
entry-tree_root c p q (hole rest) u = entry-tree_root c p q rest u

-- and the numbers below it
pub entry-tree_below : (c : ℕ) (p q : Option ℕ) (r : Trees) (n : ℕ) → n ≢ c → uses c r ≤ 1
    → uses n r ≤ 1 → 1 ≤ uses n (tree_at c r) → entry q (tree_at c r) n
    ≡ option_map (less_kid c) (entry p r n)
entry-tree_below c p q none n d u v h = absurd (omega (arith, h))
entry-tree_below c p q (node s i kids l rest) n d u v h =
    elim (cases_eq c i) [
      | inl e ↦
          let f : n ≢ i = λ x. d (x ∙ sym e) in
          let g : 1 ≤ uses n (node s i kids l none) = rw (test_yes c i e) at h in
          let x : uses c kids ≡ 0 = omega (arith, u, one_here c i e) in
          let y : uses n rest ≡ 0 = omega (arith, g, v, none_here n i f) in
          rw (
            test_yes c i e,
            test_no n i f,
            map_or,
            entry_absent p rest n y,
            less_absent c (Some i) kids n x,
          ) refl
      | inr e ↦
          let g : 1 ≤ uses n (beside (tree_at c kids) (tree_at c rest)) = rw (test_no c i e) at h in
          let b = uses-beside n (tree_at c kids) (tree_at c rest) in
          let uk : uses c kids ≤ 1 = omega (arith, u) in
          let ur : uses c rest ≤ 1 = omega (arith, u) in
          let vk : uses n kids ≤ 1 = omega (arith, v) in
          let vr : uses n rest ≤ 1 = omega (arith, v) in
          let sk = uses-split c kids n uk in
          let sr = uses-split c rest n ur in
          let f : n ≢ i = λ x. absurd (omega (arith, v, g, b, sk, sr, one_here n i x)) in
          elim (cases_eq (uses n (tree_at c kids)) 0) [
            | inl z ↦
                let w : 1 ≤ uses n (tree_at c rest) = omega (arith, g, b, z) in
                let k : uses n kids ≡ 0 = omega (arith, v, w, sr) in
                rw (
                  test_no c i e,
                  test_no n i f,
                  entry-beside q (tree_at c kids) (tree_at c rest)
                      n,
                  entry_absent q (tree_at c kids) n z,
                  entry_absent (Some i) kids n k,
                )
                (entry-tree_below c p q rest n d ur vr w)
            | inr z ↦
                let w : 1 ≤ uses n (tree_at c kids) = omega arith in
                let k : uses n rest ≡ 0 = omega (arith, v, w, sk) in
                let t : uses n (tree_at c rest) ≡ 0 = omega (arith, k, sr) in
                rw (
                  test_no c i e,
                  test_no n i f,
                  entry-beside q (tree_at c kids) (tree_at c rest)
                      n,
                  entry_absent q (tree_at c rest) n t,
                  entry_absent p rest n k,
                  or_none,
                  or_none,
                ) (entry-tree_below c (Some i) q kids n d uk vk w)
          ]
    ]
entry-tree_below c p q (hole rest) n d u v h = entry-tree_below c p q rest n d u v h

pub uses-all_but : (c : ℕ) (r : Trees) → uses c r ≤ 1 → uses c (all_but c r) ≡ 0
uses-all_but c none u = refl
uses-all_but c (node s i kids l rest) u =
    elim (cases_eq c i) [
      | inl e ↦ rw (test_yes c i e) (omega (arith, u, one_here c i e))
      | inr e ↦ rw (test_no c i e) (omega (
        arith,
        none_here c i e,
        uses-all_but c kids (omega (arith, u)),
        uses-all_but c rest (omega (arith, u)),
      ))
    ]
uses-all_but c (hole rest) u = uses-all_but c rest u

pub roots-tree : (c : ℕ) (r : Trees) → uses c r ≡ 1 → roots (tree_at c r) ≡ c ∷ []
roots-tree c none u = absurd (omega (arith, u))
roots-tree c (node s i kids l rest) u =
    elim (cases_eq c i) [
      | inl e ↦ rw (test_yes c i e) (ap (λ x. x ∷ []) (sym e))
      | inr e ↦
          let z = none_here c i e in
          elim (cases_eq (uses c kids) 0) [
            | inl k ↦
                let r : uses c rest ≡ 1 = omega (arith, u, z, k) in
                rw (test_no c i e, tree_absent c kids k) (roots-tree c rest r)
            | inr k ↦
                let k1 : uses c kids ≡ 1 = omega (arith, u, z, k) in
                let r0 : uses c rest ≡ 0 = omega (arith, u, z, k) in
                rw (test_no c i e, tree_absent c rest r0, roots-beside (tree_at c kids) none)
                (rw (append-nil (roots (tree_at c kids))) (roots-tree c kids k1))
          ]
    ]
roots-tree c (hole rest) u = roots-tree c rest u

-- THE GROVE AFTER A REMOVAL
pub rows-removed : (c : ℕ) (g : Trees) → ((n : ℕ) → uses n g ≤ 1) → (n : ℕ)
    → rows_of (removed c g) n ≡ detached c (rows_of g) n
rows-removed c g once n =
    elim (cases_eq n c) [
      | inl e ↦
          let w : uses n (all_but c g) ≡ 0 = subst (λ m. uses m (all_but c g) ≡ 0) (sym e)
          (uses-all_but c g (once c)) in
          let t : entry None (tree_at c g) n ≡ option_map (below None) (entry None g n) =
          subst (λ m. entry None (tree_at c g) m ≡ option_map (below None) (entry None g m))
          (sym e) (entry-tree_root c None None g (once c)) in
          rw (
            test_yes n c e,
            entry-beside None (all_but c g) (tree_at c g) n,
            entry_absent None (all_but c g) n w,
          ) t
      | inr e ↦ elim (cases_eq (uses n (tree_at c g)) 0) [
        | inl z ↦ rw (
          test_no n c e,
          entry-beside None (all_but c g) (tree_at c g) n,
          entry_absent None (tree_at c g) n z,
          or_none,
        ) (entry-all_but c None g n (once c) z)
        | inr z ↦
            let w : uses n (all_but c g) ≡ 0 = omega
            (arith, z, once n, uses-split c g n (once c)) in
            rw (
              test_no n c e,
              entry-beside None (all_but c g) (tree_at c g) n,
              entry_absent None (all_but c g) n w,
            ) (entry-tree_below c None None g n e (once c)
            (once n) (omega (arith, z)))
      ]
    ]

-- the children of one number grow
pub more_absent : (p : ℕ) (cs : List ℕ) (q : Option ℕ) (r : Trees) (n : ℕ) → uses p r ≡ 0
    → option_map (more_kids (eqb n p) cs) (entry q r n) ≡ entry q r n
more_absent p cs q r n h =
    elim (cases_eq n p) [
      | inl e ↦ rw (entry_absent q r n (subst (λ m. uses m r ≡ 0) (sym e) h)) refl
      | inr e ↦ rw (test_no n p e) (kept (entry q r n))
    ]
  where
    kept : (x : Option Entry) → option_map (more_kids false cs) x ≡ x
    kept None = refl
    kept (Some x) = refl

pub roots-adopt : (p : ℕ) (t r : Trees) → roots (adopt p t r) ≡ roots r
roots-adopt p t none = refl
roots-adopt p t (node s i kids l rest) =
    elim (cases_eq p i) [
      | inl e ↦ rw (test_yes p i e) refl
      | inr e ↦ rw (test_no p i e, roots-adopt p t rest) refl
    ]
roots-adopt p t (hole rest) = roots-adopt p t rest

pub entry-adopt : (p : ℕ) (t : Trees) (q : Option ℕ) (r : Trees) (n : ℕ) → uses p r ≤ 1 → uses n t
    ≡ 0 → entry q (adopt p t r) n ≡ option_map (more_kids (eqb n p) (roots t)) (entry q r n)
entry-adopt p t q none n u h = refl
entry-adopt p t q (node s i kids l rest) n u h =
    elim (cases_eq p i) [
      | inl e ↦
          let one = one_here p i e in
          let hk : uses p kids ≡ 0 = omega (arith, u, one) in
          let hr : uses p rest ≡ 0 = omega (arith, u, one) in
          elim (cases_eq n i) [
            | inl f ↦ rw (
              test_yes p i e,
              test_yes n i f,
              test_yes n p (f ∙ sym e),
              roots-beside kids t,
            ) refl
            | inr f ↦ rw (
              test_yes p i e,
              test_no n i f,
              entry-beside (Some i) kids t n,
              entry_absent (Some i) t n h,
              or_none,
              map_or,
              more_absent p (roots t) (Some i) kids
                  n hk,
              more_absent p (roots t) q rest n hr,
            ) refl
          ]
      | inr e ↦
          let uk : uses p kids ≤ 1 = omega (arith, u) in
          let ur : uses p rest ≤ 1 = omega (arith, u) in
          elim (cases_eq n i) [
            | inl f ↦ rw (
              test_no p i e,
              test_yes n i f,
              test_no n p (λ x. e (sym x ∙ f)),
              roots-adopt p t kids,
            ) refl
            | inr f ↦ rw (
              test_no p i e,
              test_no n i f,
              map_or,
              entry-adopt p t (Some i) kids n uk h,
              entry-adopt p t q rest n ur h,
            ) refl
          ]
    ]
entry-adopt p t q (hole rest) n u h = entry-adopt p t q rest n u h

pub adopt_absent : (p : ℕ) (t r : Trees) → uses p r ≡ 0 → adopt p t r ≡ r
adopt_absent p t none h = refl
adopt_absent p t (node s i kids l rest) h =
    elim (cases_eq p i) [
      | inl e ↦ absurd (omega (arith, h, one_here p i e))
      | inr e ↦
          let hk : uses p kids ≡ 0 = omega (arith, h) in
          let hr : uses p rest ≡ 0 = omega (arith, h) in
          rw (test_no p i e, adopt_absent p t kids hk, adopt_absent p t rest hr) refl
    ]
adopt_absent p t (hole rest) h = ap hole (adopt_absent p t rest h)

pub entry-adopted : (p : ℕ) (t : Trees) (q : Option ℕ) (r : Trees) (n : ℕ) → uses p r ≡ 1 → uses n r
    ≡ 0 → entry q (adopt p t r) n ≡ entry (Some p) t n
entry-adopted p t q none n u h = absurd (omega (arith, u))
entry-adopted p t q (node s i kids l rest) n u h =
    elim (cases_eq n i) [
      | inl f ↦ absurd (omega (arith, h, one_here n i f))
      | inr f ↦
          let nk : uses n kids ≡ 0 = omega (arith, h) in
          let nr : uses n rest ≡ 0 = omega (arith, h) in
          elim (cases_eq p i) [
            | inl e ↦ rw (
              test_yes p i e,
              test_no n i f,
              entry-beside (Some i) kids t n,
              entry_absent (Some i) kids n nk,
              entry_absent q rest n nr,
              or_none,
            )
                (ap (λ j. entry (Some j) t n) (sym e))
            | inr e ↦ elim (cases_eq (uses p kids) 0) [
              | inl z ↦
                  let ur : uses p rest ≡ 1 = omega (arith, u, z, none_here p i e) in
                  rw (
                    test_no p i e,
                    test_no n i f,
                    adopt_absent p t kids z,
                    entry_absent (Some i) kids n nk,
                  ) (entry-adopted p t q rest n ur nr)
              | inr z ↦
                  let uk : uses p kids ≡ 1 = omega (arith, u, z, none_here p i e) in
                  let ur : uses p rest ≡ 0 = omega (arith, u, z, none_here p i e) in
                  rw (
                    test_no p i e,
                    test_no n i f,
                    adopt_absent p t rest ur,
                    entry_absent q rest n nr,
                    or_none,
                  ) (entry-adopted p t (Some i) kids n uk nk)
            ]
          ]
    ]
entry-adopted p t q (hole rest) n u h = entry-adopted p t q rest n u h

pub adopted_uses : (p : ℕ) (t r : Trees) (n : ℕ) → uses p r ≡ 1 → uses n (adopt p t r)
    ≡ uses n r + uses n t
adopted_uses p t none n u = absurd (omega (arith, u))
adopted_uses p t (node s i kids l rest) n u =
    elim (cases_eq p i) [
      | inl e ↦ rw (test_yes p i e) (omega (arith, uses-beside n kids t))
      | inr e ↦ elim (cases_eq (uses p kids) 0) [
        | inl z ↦ rw (test_no p i e, adopt_absent p t kids z)
            (omega (arith, adopted_uses p t rest n (omega (arith, u, z, none_here p i e))))
        | inr z ↦ rw (test_no p i e, adopt_absent p t rest (omega (arith, u, z, none_here p i e)))
            (omega (arith, adopted_uses p t kids n (omega (arith, u, z, none_here p i e))))
      ]
    ]
adopted_uses p t (hole rest) n u = adopted_uses p t rest n u

-- THE GROVE AFTER AN APPEND
pub rows-appended : (p c : ℕ) (g : Trees) → ((n : ℕ) → uses n g ≤ 1) → uses c g ≡ 1 → uses p g ≡ 1
    → uses p (tree_at c g) ≡ 0 → (n : ℕ) → rows_of (appended p c g) n
    ≡ attached p c (detached c (rows_of g)) n
rows-appended p c g once cin pin apart n =
    let pw : uses p (all_but c g) ≡ 1 = omega (arith, uses-split c g p (once c), pin, apart) in
    let rt = roots-tree c g cin in
    elim (cases_eq n c) [
      | inl e ↦
          let w : uses n (all_but c g) ≡ 0 = subst (λ m. uses m (all_but c g) ≡ 0) (sym e)
          (uses-all_but c g (once c)) in
          let t : entry (Some p) (tree_at c g) n ≡ option_map (below (Some p)) (entry None g n) =
          subst (λ m. entry (Some p) (tree_at c g) m ≡ option_map (below (Some p))
          (entry None g m)) (sym e) (entry-tree_root c None (Some p) g (once c)) in
          rw (test_yes n c e, entry-adopted p (tree_at c g) None (all_but c g) n pw w, t)
          (both (entry None g n))
      | inr e ↦ elim (cases_eq (uses n (tree_at c g)) 0) [
        | inl z ↦ rw (
          test_no n c e,
          entry-adopt p (tree_at c g) None (all_but c g) n
              (omega (arith, pw)) z,
          rt,
          entry-all_but c None g n (once c) z,
        ) refl
        | inr z ↦
            let w : uses n (all_but c g) ≡ 0 = omega
            (arith, z, once n, uses-split c g n (once c)) in
            let d : n ≢ p = λ x. absurd (omega (
              arith,
              w,
              subst (λ m. uses m (all_but c g) ≡ 1)
                  (sym x) pw,
            )) in
            rw (
              test_no n c e,
              entry-adopted p (tree_at c g) None (all_but c g) n pw w,
              test_no n p d,
              entry-tree_below c None (Some p) g n e (once c) (once n)
                  (omega (arith, z)),
            ) (kept (option_map (less_kid c) (entry None g n)))
      ]
    ]
  where
    both : (x : Option Entry) → option_map (below (Some p)) x
        ≡ option_map (below (Some p)) (option_map (below None) x)
    both None = refl
    both (Some x) = refl

    kept : (x : Option Entry) → x ≡ option_map (more_kids false (c ∷ [])) x
    kept None = refl
    kept (Some x) = refl
