-- Parents and children in a grove.
use Rattle.std.proofs.Common.{◌≡◌, ◌≢◌, ◌⊎◌, ℕ, ◌+◌, ◌≤◌, true, cond, eqb, Option, Some, None, refl, sym, ap, ◌∙◌, inl, inr, arith}
use Rattle.std.specs.Option.{option_or, is_some}
use Rattle.std.proofs.lemmas.Bool.{cases_eq}
use Rattle.model_shapes.specs.Trees.{Trees, none, node, hole}
use Rattle.model_heap.specs.Lists.{count}
use Rattle.model_heap.specs.Entries.{Entry, roots, uses, entry, tree_at, all_but, removed, appended, rows_of, kids_of, parent_of, Kin, depth}
use Rattle.model_heap.proofs.Moves.{test_yes, test_no, one_here, none_here, or_none, entry_absent, uses-split, uses-beside, adopted_uses, tree_absent}

pub roots_use : (x : ℕ) (r : Trees) → count x (roots r) ≤ uses x r
roots_use x none = omega arith
roots_use x (node s i kids l rest) = omega (arith, roots_use x rest)
roots_use x (hole rest) = roots_use x rest

pub kids_use : (q : Option ℕ) (r : Trees) (p x : ℕ) → count x (kids_of (entry q r p)) ≤ uses x r
kids_use q none p x = omega arith
kids_use q (node s i kids l rest) p x =
    elim (cases_eq p i) [
      | inl e ↦ rw (test_yes p i e) (omega (arith, roots_use x kids))
      | inr d ↦ rw (test_no p i d) (either (entry (Some i) kids p) (entry q rest p)
          (kids_use (Some i) kids p x) (kids_use q rest p x))
    ]
  where
    either : (a b : Option Entry) → count x (kids_of a) ≤ uses x kids
        → count x (kids_of b) ≤ uses x rest → count x (kids_of (option_or a b)) ≤ cond (eqb x i) 1 0
        + (uses x kids + uses x rest)
    either None b h k = omega arith
    either (Some a) b h k = omega arith
kids_use q (hole rest) p x = kids_use q rest p x

pub root_parent : (q : Option ℕ) (r : Trees) (x : ℕ) → uses x r ≤ 1 → 1 ≤ count x (roots r)
    → parent_of (entry q r x) ≡ q
root_parent q none x u h = absurd (omega (arith, h))
root_parent q (node s i kids l rest) x u h =
    elim (cases_eq x i) [
      | inl e ↦ rw (test_yes x i e) refl
      | inr d ↦
          let c : 1 ≤ count x (roots rest) = omega (arith, h, none_here x i d) in
          let k : uses x kids ≡ 0 = omega (arith, u, c, roots_use x rest) in
          let v : uses x rest ≤ 1 = omega (arith, u) in
          rw (test_no x i d, entry_absent (Some i) kids x k) (root_parent q rest x v c)
    ]
root_parent q (hole rest) x u h = root_parent q rest x u h

pub kid_up : (q : Option ℕ) (r : Trees) (p x : ℕ) → uses p r ≤ 1 → uses x r ≤ 1
    → 1 ≤ count x (kids_of (entry q r p)) → parent_of (entry q r x) ≡ Some p
kid_up q none p x v u h = absurd (omega (arith, h))
kid_up q (node s i kids l rest) p x v u h =
    let uk : uses x kids ≤ 1 = omega (arith, u) in
    let ur : uses x rest ≤ 1 = omega (arith, u) in
    let vk : uses p kids ≤ 1 = omega (arith, v) in
    let vr : uses p rest ≤ 1 = omega (arith, v) in
    elim (cases_eq p i) [
      | inl e ↦
          let c : 1 ≤ count x (roots kids) = rw (test_yes p i e) at h in
          let k : 1 ≤ uses x kids = omega (arith, c, roots_use x kids) in
          let d : x ≢ i = λ f. absurd (omega (arith, u, k, one_here x i f)) in
          let z : uses x rest ≡ 0 = omega (arith, u, k) in
          rw (test_no x i d, entry_absent q rest x z, or_none, root_parent (Some i) kids x uk c)
          (ap Some (sym e))
      | inr f ↦ elim (cases_eq (uses p kids) 0) [
        | inl y ↦
            let c : 1 ≤ count x (kids_of (entry q rest p)) = rw
            (test_no p i f, entry_absent (Some i) kids p y) at h in
            let k : 1 ≤ uses x rest = omega (arith, c, kids_use q rest p x) in
            let d : x ≢ i = λ e. absurd (omega (arith, u, k, one_here x i e)) in
            let z : uses x kids ≡ 0 = omega (arith, u, k) in
            rw (test_no x i d, entry_absent (Some i) kids x z) (kid_up q rest p x vr ur c)
        | inr y ↦
            let w : uses p rest ≡ 0 = omega (arith, v, y) in
            let c : 1 ≤ count x (kids_of (entry (Some i) kids p)) =
            rw (test_no p i f, entry_absent q rest p w, or_none) at h in
            let k : 1 ≤ uses x kids = omega (arith, c, kids_use (Some i) kids p x) in
            let d : x ≢ i = λ e. absurd (omega (arith, u, k, one_here x i e)) in
            let z : uses x rest ≡ 0 = omega (arith, u, k) in
            rw (test_no x i d, entry_absent q rest x z, or_none) (kid_up (Some i) kids p x vk uk c)
      ]
    ]
kid_up q (hole rest) p x v u h = kid_up q rest p x v u h

-- what stands somewhere has an entry
pub present : (q : Option ℕ) (r : Trees) (n : ℕ) → 1 ≤ uses n r → is_some (entry q r n) ≡ true
present q none n h = absurd (omega (arith, h))
present q (node s i kids l rest) n h =
    elim (cases_eq n i) [
      | inl e ↦ rw (test_yes n i e) refl
      | inr d ↦ elim (cases_eq (uses n kids) 0) [
        | inl z ↦ rw (test_no n i d, entry_absent (Some i) kids n z)
            (present q rest n (omega (arith, h, z, none_here n i d)))
        | inr z ↦ rw (test_no n i d) (front (entry (Some i) kids n) (entry q rest n)
            (present (Some i) kids n (omega (arith, z))))
      ]
    ]
  where
    front : (a b : Option Entry) → is_some a ≡ true → is_some (option_or a b) ≡ true
    front None b e = absurd (cc)
    front (Some a) b e = refl
present q (hole rest) n h = present q rest n h

-- a parent inside, or the one above the roots
pub kid_down : (q : Option ℕ) (r : Trees) (p x : ℕ) → uses p r ≤ 1 → uses x r ≤ 1
    → parent_of (entry q r x) ≡ Some p → ((q ≡ Some p) × (1 ≤ count x (roots r)))
    ⊎ (1 ≤ count x (kids_of (entry q r p)))
kid_down q none p x v u h = absurd (cc)
kid_down q (node s i kids l rest) p x v u h =
    let uk : uses x kids ≤ 1 = omega (arith, u) in
    let ur : uses x rest ≤ 1 = omega (arith, u) in
    let vk : uses p kids ≤ 1 = omega (arith, v) in
    let vr : uses p rest ≤ 1 = omega (arith, v) in
    elim (cases_eq x i) [
      | inl e ↦ let g : q ≡ Some p = rw (test_yes x i e) at h in
          inl (g, omega (arith, one_here x i e))
      | inr d ↦ elim (cases_eq (uses x kids) 0) [
        | inl z ↦
            let g : parent_of (entry q rest x) ≡ Some p = rw
            (test_no x i d, entry_absent (Some i) kids x z) at h in
            elim (kid_down q rest p x vr ur g) [
              | inl w ↦ inl (w.0, omega (arith, w.1, none_here x i d))
              | inr w ↦
                  let k : 1 ≤ uses p rest = some_kids q rest p x w in
                  let f : p ≢ i = λ e. absurd (omega (arith, v, k, one_here p i e)) in
                  let y : uses p kids ≡ 0 = omega (arith, v, k) in
                  inr (rw (test_no p i f, entry_absent (Some i) kids p y) w)
            ]
        | inr z ↦
            let t : uses x rest ≡ 0 = omega (arith, u, z) in
            let g : parent_of (entry (Some i) kids x) ≡ Some p =
            rw (test_no x i d, entry_absent q rest x t, or_none) at h in
            elim (kid_down (Some i) kids p x vk uk g) [
              | inl w ↦ let e : p ≡ i = cc in inr (rw (test_yes p i e) w.1)
              | inr w ↦
                  let k : 1 ≤ uses p kids = some_kids (Some i) kids p x w in
                  let f : p ≢ i = λ e. absurd (omega (arith, v, k, one_here p i e)) in
                  let y : uses p rest ≡ 0 = omega (arith, v, k) in
                  inr (rw (test_no p i f, entry_absent q rest p y, or_none) w)
            ]
      ]
    ]
  where
    some_kids : (q : Option ℕ) (r : Trees) (p x : ℕ) → 1 ≤ count x (kids_of (entry q r p))
        → 1 ≤ uses p r
    some_kids q r p x h = elim (cases_eq (uses p r) 0) [
      | inl z ↦ let b : ◌≤◌ 1 0 = rw (entry_absent q r p z) at h in absurd (omega (arith, b))
      | inr z ↦ omega arith
    ]
kid_down q (hole rest) p x v u h = kid_down q rest p x v u h

pub Kin-rows_of : (g : Trees) → ((n : ℕ) → uses n g ≤ 1) → Kin (rows_of g)
Kin-rows_of g once =
    record {
      up = λ p x h. kid_up None g p x (once p) (once x) h;
      down = λ p x h. elim (kid_down None g p x (once p) (once x) h)
          [ inl w ↦ absurd (let e = w.0 in cc) | inr w ↦ w ];
      once = λ p x. omega (arith, once x, kids_use None g p x);
    }

pub removed_once : (c : ℕ) (g : Trees) → ((n : ℕ) → uses n g ≤ 1) → (n : ℕ) → uses n (removed c g)
    ≡ uses n g
removed_once c g once n = omega (
  arith,
  uses-beside n (all_but c g) (tree_at c g),
  uses-split c g n (once c),
)

pub appended_once : (p c : ℕ) (g : Trees) → ((n : ℕ) → uses n g ≤ 1) → uses p g ≡ 1
    → uses p (tree_at c g) ≡ 0 → (n : ℕ) → uses n (appended p c g) ≡ uses n g
appended_once p c g once pin apart n =
    let pw : uses p (all_but c g) ≡ 1 = omega (arith, uses-split c g p (once c), pin, apart) in
    omega (arith, adopted_uses p (tree_at c g) (all_but c g) n pw, uses-split c g n (once c))

-- the parent is nearer to a root
pub depth_root : (n : ℕ) (r : Trees) → 1 ≤ count n (roots r) → uses n r ≤ 1 → depth n r ≡ 0
depth_root n none h u = refl
depth_root n (node s i kids l rest) h u =
    elim (cases_eq n i) [
      | inl e ↦ rw (test_yes n i e) refl
      | inr d ↦
          let c : 1 ≤ count n (roots rest) = omega (arith, h, none_here n i d) in
          let k : uses n kids ≡ 0 = omega (arith, u, c, roots_use n rest) in
          rw (test_no n i d, test_yes (uses n kids) 0 k) (depth_root n rest c (omega (arith, u)))
    ]
depth_root n (hole rest) h u = depth_root n rest h u

pub depth_kid : (q : Option ℕ) (r : Trees) (p x : ℕ) → uses p r ≤ 1 → uses x r ≤ 1
    → 1 ≤ count x (kids_of (entry q r p)) → depth x r ≡ 1 + depth p r
depth_kid q none p x v u h = absurd (omega (arith, h))
depth_kid q (node s i kids l rest) p x v u h =
    let uk : uses x kids ≤ 1 = omega (arith, u) in
    let ur : uses x rest ≤ 1 = omega (arith, u) in
    let vk : uses p kids ≤ 1 = omega (arith, v) in
    let vr : uses p rest ≤ 1 = omega (arith, v) in
    elim (cases_eq p i) [
      | inl e ↦
          let c : 1 ≤ count x (roots kids) = rw (test_yes p i e) at h in
          let k : uses x kids ≢ 0 = λ z. absurd (omega (arith, c, z, roots_use x kids)) in
          let d : x ≢ i = λ f. absurd (omega (arith, u, k, one_here x i f)) in
          rw (test_no x i d, test_no (uses x kids) 0 k, test_yes p i e, depth_root x kids c uk) refl
      | inr f ↦ elim (cases_eq (uses p kids) 0) [
        | inl y ↦
            let c : 1 ≤ count x (kids_of (entry q rest p)) = rw
            (test_no p i f, entry_absent (Some i) kids p y) at h in
            let k : 1 ≤ uses x rest = omega (arith, c, kids_use q rest p x) in
            let d : x ≢ i = λ e. absurd (omega (arith, u, k, one_here x i e)) in
            let z : uses x kids ≡ 0 = omega (arith, u, k) in
            rw (
              test_no x i d,
              test_yes (uses x kids) 0 z,
              test_no p i f,
              test_yes (uses p kids) 0 y,
            ) (depth_kid q rest p x vr ur c)
        | inr y ↦
            let w : uses p rest ≡ 0 = omega (arith, v, y) in
            let c : 1 ≤ count x (kids_of (entry (Some i) kids p)) =
            rw (test_no p i f, entry_absent q rest p w, or_none) at h in
            let k : uses x kids ≢ 0 = λ z. absurd (omega
            (arith, c, z, kids_use (Some i) kids p x)) in
            let d : x ≢ i = λ e. absurd (omega (arith, u, k, one_here x i e)) in
            rw (test_no x i d, test_no (uses x kids) 0 k, test_no p i f, test_no (uses p kids) 0 y)
            (ap (λ z. 1 + z) (depth_kid (Some i) kids p x vk uk c))
      ]
    ]
depth_kid q (hole rest) p x v u h = depth_kid q rest p x v u h

-- a root other than the number stands outside its tree
pub root_outside : (c x : ℕ) (r : Trees) → x ≢ c → uses c r ≤ 1 → uses x r ≤ 1
    → 1 ≤ count x (roots r) → uses x (tree_at c r) ≡ 0
root_outside c x none d w u h = refl
root_outside c x (node s i kids l rest) d w u h =
    let wk : uses c kids ≤ 1 = omega (arith, w) in
    let wr : uses c rest ≤ 1 = omega (arith, w) in
    let sk = uses-split c kids x wk in
    let sr = uses-split c rest x wr in
    elim (cases_eq x i) [
      | inl e ↦
          let f : c ≢ i = λ z. d (e ∙ sym z) in
          rw (test_no c i f) (omega (
            arith,
            u,
            one_here x i e,
            sk,
            sr,
            uses-beside x (tree_at c kids) (tree_at c rest),
          ))
      | inr e ↦
          let t : 1 ≤ count x (roots rest) = omega (arith, h, none_here x i e) in
          let k : uses x kids ≡ 0 = omega (arith, u, t, roots_use x rest) in
          elim (cases_eq c i) [
            | inl f ↦ rw (test_yes c i f) (omega (arith, none_here x i e, k))
            | inr f ↦
                let ih : uses x (tree_at c rest) ≡ 0 = root_outside c x rest d wr (omega (arith, u))
                t in
                rw (test_no c i f) (omega (
                  arith,
                  k,
                  sk,
                  ih,
                  uses-beside x (tree_at c kids)
                      (tree_at c rest),
                ))
          ]
    ]
root_outside c x (hole rest) d w u h = root_outside c x rest d w u h

-- any other number stands in the tree where its parent does
pub tree_step : (c : ℕ) (q : Option ℕ) (r : Trees) (p x : ℕ) → x ≢ c → uses c r ≤ 1 → uses p r ≤ 1
    → uses x r ≤ 1 → 1 ≤ count x (kids_of (entry q r p)) → uses x (tree_at c r)
    ≡ uses p (tree_at c r)
tree_step c q none p x d w v u h = absurd (omega (arith, h))
tree_step c q (node s i kids l rest) p x d w v u h =
    let wk : uses c kids ≤ 1 = omega (arith, w) in
    let wr : uses c rest ≤ 1 = omega (arith, w) in
    let uk : uses x kids ≤ 1 = omega (arith, u) in
    let ur : uses x rest ≤ 1 = omega (arith, u) in
    let vk : uses p kids ≤ 1 = omega (arith, v) in
    let vr : uses p rest ≤ 1 = omega (arith, v) in
    let sxk = uses-split c kids x wk in
    let sxr = uses-split c rest x wr in
    let spk = uses-split c kids p wk in
    let spr = uses-split c rest p wr in
    let bx = uses-beside x (tree_at c kids) (tree_at c rest) in
    let bp = uses-beside p (tree_at c kids) (tree_at c rest) in
    elim (cases_eq p i) [
      | inl e ↦
          let t : 1 ≤ count x (roots kids) = rw (test_yes p i e) at h in
          let k : 1 ≤ uses x kids = omega (arith, t, roots_use x kids) in
          let f : x ≢ i = λ z. absurd (omega (arith, u, k, one_here x i z)) in
          elim (cases_eq c i) [
            | inl a ↦ rw (test_yes c i a) (omega (arith, u, v, k, one_here p i e, none_here x i f))
            | inr a ↦
                let o : uses x (tree_at c kids) ≡ 0 = root_outside c x kids d wk uk t in
                rw (test_no c i a) (omega (
                  arith,
                  u,
                  v,
                  k,
                  o,
                  one_here p i e,
                  sxr,
                  spk,
                  spr,
                  bx,
                  bp,
                ))
          ]
      | inr f ↦ elim (cases_eq (uses p kids) 0) [
        | inl y ↦
            let t : 1 ≤ count x (kids_of (entry q rest p)) = rw
            (test_no p i f, entry_absent (Some i) kids p y) at h in
            let k : 1 ≤ uses x rest = omega (arith, t, kids_use q rest p x) in
            let g : x ≢ i = λ z. absurd (omega (arith, u, k, one_here x i z)) in
            elim (cases_eq c i) [
              | inl a ↦ rw (test_yes c i a) (omega (
                arith,
                u,
                k,
                y,
                none_here p i f,
                none_here x i g,
              ))
              | inr a ↦
                  let ih = tree_step c q rest p x d wr vr ur t in
                  rw (test_no c i a) (omega (arith, u, k, y, ih, sxk, spk, bx, bp))
            ]
        | inr y ↦
            let z : uses p rest ≡ 0 = omega (arith, v, y) in
            let t : 1 ≤ count x (kids_of (entry (Some i) kids p)) =
            rw (test_no p i f, entry_absent q rest p z, or_none) at h in
            let k : 1 ≤ uses x kids = omega (arith, t, kids_use (Some i) kids p x) in
            let g : x ≢ i = λ z. absurd (omega (arith, u, k, one_here x i z)) in
            elim (cases_eq c i) [
              | inl a ↦ rw (test_yes c i a) (omega (
                arith,
                u,
                v,
                k,
                y,
                none_here p i f,
                none_here x i g,
              ))
              | inr a ↦
                  let ih = tree_step c (Some i) kids p x d wk vk uk t in
                  rw (test_no c i a) (omega (arith, u, v, k, y, ih, sxr, spr, bx, bp))
            ]
      ]
    ]
tree_step c q (hole rest) p x d w v u h = tree_step c q rest p x d w v u h

-- below a parent each number has a parent
pub never_root : (i : ℕ) (r : Trees) (x : ℕ) → 1 ≤ uses x r → parent_of (entry (Some i) r x) ≡ None
    → ⊥
never_root i none x h e = omega (arith, h)
never_root i (node s j kids l rest) x h e =
    elim (cases_eq x j) [
      | inl f ↦ let g : Some i ≡ None = rw (test_yes x j f) at e in cc
      | inr f ↦ elim (cases_eq (uses x kids) 0) [
        | inl z ↦ never_root i rest x (omega (arith, h, z, none_here x j f))
            (rw (test_no x j f, entry_absent (Some j) kids x z) at e)
        | inr z ↦ front (entry (Some j) kids x) (entry (Some i) rest x)
            (present (Some j) kids x (omega (arith, z))) (never_root j kids x (omega (arith, z)))
            (rw (test_no x j f) at e)
      ]
    ]
  where
    front : (a b : Option Entry) → is_some a ≡ true → (parent_of a ≡ None → ⊥)
        → parent_of (option_or a b) ≡ None → ⊥
    front None b s h e = cc
    front (Some a) b s h e = h e
never_root i (hole rest) x h e = never_root i rest x h e

-- a number with no parent is a root
pub root_of : (q : Option ℕ) (r : Trees) (x : ℕ) → uses x r ≡ 1 → parent_of (entry q r x) ≡ None
    → 1 ≤ count x (roots r)
root_of q none x h e = absurd (omega (arith, h))
root_of q (node s j kids l rest) x h e =
    elim (cases_eq x j) [
      | inl f ↦ omega (arith, one_here x j f)
      | inr f ↦ elim (cases_eq (uses x kids) 0) [
        | inl z ↦
            let g : parent_of (entry q rest x) ≡ None = rw
            (test_no x j f, entry_absent (Some j) kids x z) at e in
            omega (
              arith,
              none_here x j f,
              root_of q rest x (omega (arith, h, z, none_here x j f))
                  g,
            )
        | inr z ↦
            let t : uses x rest ≡ 0 = omega (arith, h, z) in
            let g : parent_of (entry (Some j) kids x) ≡ None =
            rw (test_no x j f, entry_absent q rest x t, or_none) at e in
            absurd (never_root j kids x (omega (arith, z)) g)
      ]
    ]
root_of q (hole rest) x h e = root_of q rest x h e

-- the tree of a number has it
pub tree_holds : (c : ℕ) (r : Trees) → uses c r ≡ 1 → uses c (tree_at c r) ≡ 1
tree_holds c none h = absurd (omega (arith, h))
tree_holds c (node s i kids l rest) h =
    elim (cases_eq c i) [
      | inl e ↦ rw (test_yes c i e) (omega (arith, h, one_here c i e))
      | inr e ↦ elim (cases_eq (uses c kids) 0) [
        | inl z ↦ rw (test_no c i e, tree_absent c kids z)
            (tree_holds c rest (omega (arith, h, z, none_here c i e)))
        | inr z ↦
            let t : uses c rest ≡ 0 = omega (arith, h, z) in
            rw (test_no c i e, tree_absent c rest t)
            (omega (
              arith,
              uses-beside c (tree_at c kids) none,
              tree_holds c kids (omega (arith, h, z, t, none_here c i e)),
            ))
      ]
    ]
tree_holds c (hole rest) h = tree_holds c rest h
