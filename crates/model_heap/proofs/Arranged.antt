-- A grove with its roots in another order.
use Rattle.std.proofs.Common.{◌≡◌, ◌⊎◌, ℕ, ◌+◌, ◌≤◌, Bool, true, false, cond, eqb, List, [], ◌∷◌, Option, Some, None, refl, sym, ap, ◌∙◌, inl, inr, arith, subst}
use Rattle.std.specs.Option.{option_or}
use Rattle.std.proofs.lemmas.Bool.{cases_eq}
use Rattle.model_groves.specs.Sizes.{size}
use Rattle.model_shapes.specs.Trees.{Trees, none, node, hole, beside, root_uses}
use Rattle.model_shapes.specs.Shapes.{holes}
use Rattle.model_heap.specs.Lists.{count}
use Rattle.model_heap.specs.Entries.{Entry, roots, uses, entry, tree_at, all_but, adopt}
use Rattle.model_heap.specs.Roots.{root_at, arranged}
use Rattle.model_heap.proofs.Moves.{test_yes, test_no, one_here, none_here, entry_absent, uses-beside, entry-beside, adopt_absent}

pub root_absent : (n : ℕ) (r : Trees) → uses n r ≡ 0 → root_at n r ≡ none
root_absent n none h = refl
root_absent n (node s i kids l rest) h = elim (cases_eq n i) [
  | inl e ↦ absurd (omega (arith, h, one_here n i e))
  | inr d ↦
      rw (test_no n i d) (root_absent n rest (omega (arith, h)))
]
root_absent n (hole rest) h = root_absent n rest h

pub root_use : (m n : ℕ) (r : Trees) → uses m (root_at n r) ≤ uses m r
root_use m n none = omega arith
root_use m n (node s i kids l rest) = elim (cases_eq n i) [
  | inl e ↦ rw (test_yes n i e) (omega arith)
  | inr d ↦
      rw (test_no n i d) (omega (arith, root_use m n rest))
]
root_use m n (hole rest) = root_use m n rest

pub arranged_past : (s : List ℕ) (i : ℕ) (kids : Trees) (l : ℕ) (rest : Trees) (ns : List ℕ)
    → count i ns ≡ 0 → arranged (node s i kids l rest) ns ≡ arranged rest ns
arranged_past s i kids l rest [] h = refl
arranged_past s i kids l rest (m ∷ ms) h = elim (cases_eq m i) [
  | inl e ↦ absurd (omega (arith, h, one_here i m (sym e)))
  | inr d ↦ rw (test_no m i d, arranged_past s i kids l rest ms (omega (arith, h))) refl
]

pub uses-arranged_more : (n : ℕ) (s : List ℕ) (i : ℕ) (kids : Trees) (l : ℕ) (rest : Trees)
    (ns : List ℕ) → count i ns ≡ 1 → uses i rest ≡ 0 → uses n (arranged (node s i kids l rest) ns)
    ≡ uses n (node s i kids l none) + uses n (arranged rest ns)
uses-arranged_more n s i kids l rest [] h k = absurd (omega (arith, h))
uses-arranged_more n s i kids l rest (m ∷ ms) h k = elim (cases_eq m i) [
  | inl e ↦
      let z : count i ms ≡ 0 = omega (arith, h, one_here i m (sym e)) in
      let a : root_at m rest ≡ none = root_absent m rest (subst (λ m. uses m rest ≡ 0) (sym e) k) in
      rw (test_yes m i e, a, arranged_past s i kids l rest ms z)
      (uses-beside n (node s i kids l none) (arranged rest ms))
  | inr d ↦
      let z : count i ms ≡ 1 = omega (arith, h, none_here i m (λ e. d (sym e))) in
      rw (test_no m i d) (omega (
        arith,
        uses-arranged_more n s i kids l rest ms z k,
        uses-beside n (root_at m rest) (arranged (node s i kids l rest) ms),
        uses-beside n (root_at m rest) (arranged rest ms),
      ))
]

pub root_uses-beside : (t a b : Trees) → root_uses t (beside a b) ≡ root_uses t a + root_uses t b
root_uses-beside t none b = omega arith
root_uses-beside t (node s i kids l rest) b = omega (arith, root_uses-beside t rest b)
root_uses-beside t (hole rest) b = omega (arith, root_uses-beside t rest b)

pub root_uses-arranged_more : (t : Trees) (s : List ℕ) (i : ℕ) (kids : Trees) (l : ℕ) (rest : Trees)
    (ns : List ℕ) → count i ns ≡ 1 → uses i rest ≡ 0 → root_uses t
    (arranged (node s i kids l rest) ns) ≡ root_uses t (node s i kids l none) + root_uses t
    (arranged rest ns)
root_uses-arranged_more t s i kids l rest [] h k = absurd (omega (arith, h))
root_uses-arranged_more t s i kids l rest (m ∷ ms) h k = elim (cases_eq m i) [
  | inl e ↦
      let z : count i ms ≡ 0 = omega (arith, h, one_here i m (sym e)) in
      let a : root_at m rest ≡ none = root_absent m rest (subst (λ m. uses m rest ≡ 0) (sym e) k) in
      rw (test_yes m i e, a, arranged_past s i kids l rest ms z)
      (root_uses-beside t (node s i kids l none) (arranged rest ms))
  | inr d ↦
      let z : count i ms ≡ 1 = omega (arith, h, none_here i m (λ e. d (sym e))) in
      rw (test_no m i d) (omega (
        arith,
        root_uses-arranged_more t s i kids l rest ms z k,
        root_uses-beside t (root_at m rest) (arranged (node s i kids l rest) ms),
        root_uses-beside t (root_at m rest) (arranged rest ms),
      ))
]

-- of two entries of a number one is nothing
or_swap : {A : Type 0} (x y z : Option A) → (x ≡ None) ⊎ (y ≡ None) → option_or x (option_or y z)
    ≡ option_or y (option_or x z)
or_swap x y z (inl e) = rw e refl
or_swap x y z (inr e) = rw e refl

pub entry-arranged_more : (n : ℕ) (s : List ℕ) (i : ℕ) (kids : Trees) (l : ℕ) (rest : Trees)
    (ns : List ℕ) → count i ns ≡ 1 → uses i rest ≡ 0 → uses n (node s i kids l none) + uses n rest ≤
    1 → entry None (arranged (node s i kids l rest) ns) n
    ≡ option_or (entry None (node s i kids l none) n) (entry None (arranged rest ns) n)
entry-arranged_more n s i kids l rest [] h k u = absurd (omega (arith, h))
entry-arranged_more n s i kids l rest (m ∷ ms) h k u = elim (cases_eq m i) [
  | inl e ↦
      let z : count i ms ≡ 0 = omega (arith, h, one_here i m (sym e)) in
      let a : root_at m rest ≡ none = root_absent m rest (subst (λ m. uses m rest ≡ 0) (sym e) k) in
      rw (test_yes m i e, a, arranged_past s i kids l rest ms z)
      (entry-beside None (node s i kids l none) (arranged rest ms) n)
  | inr d ↦
      let z : count i ms ≡ 1 = omega (arith, h, none_here i m (λ e. d (sym e))) in
      let x = entry-beside None (root_at m rest) (arranged (node s i kids l rest) ms) n in
      let y = entry-beside None (root_at m rest) (arranged rest ms) n in
      let ih = entry-arranged_more n s i kids l rest ms z k u in
      rw (test_no m i d) (x ∙ ap (λ o. option_or (entry None (root_at m rest) n) o) ih
      ∙ or_swap (entry None (root_at m rest) n) (entry None (node s i kids l none) n)
      (entry None (arranged rest ms) n) (apart m (uses n (node s i kids l none)) refl
      (root_use n m rest)) ∙ ap (λ o. option_or (entry None (node s i kids l none) n) o)
      (sym y))
]
  where
    apart : (m a : ℕ) → a ≡ uses n (node s i kids l none) → uses n (root_at m rest) ≤ uses n rest
        → (entry None (root_at m rest) n ≡ None) ⊎ (entry None (node s i kids l none) n ≡ None)
    apart m a e w = elim (cases_eq a 0) [
      | inl z ↦ inr (entry_absent None (node s i kids l none) n (sym e ∙ z))
      | inr z ↦ inl (entry_absent None (root_at m rest) n (omega (arith, z, e, w, u)))
    ]

-- THE SAME GROVE, where each root's number stands once in the order
pub record Orders (ns : List ℕ) (g : Trees) : Type 0 where
  pub each : (n : ℕ) → 1 ≤ count n (roots g) → count n ns ≡ 1
  pub once : (n : ℕ) → uses n g ≤ 1
  pub whole : holes g ≡ 0

orders_rest : (ns : List ℕ) (s : List ℕ) (i : ℕ) (kids : Trees) (l : ℕ) (rest : Trees)
    → Orders ns (node s i kids l rest) → Orders ns rest
orders_rest ns s i kids l rest o = record {
  each = λ n h. o.each n (omega (arith, h));
  once =
      λ n. omega (arith, o.once n);
  whole = omega (arith, o.whole);
}

pub uses-arranged : (ns : List ℕ) (g : Trees) (n : ℕ) → Orders ns g → uses n (arranged g ns)
    ≡ uses n g
uses-arranged ns none n o = nothing ns
  where
    nothing : (ns : List ℕ) → uses n (arranged none ns) ≡ 0
    nothing [] = refl
    nothing (m ∷ ms) = nothing ms
uses-arranged ns (node s i kids l rest) n o =
    let one : uses i rest ≡ 0 = omega (arith, o.once i, one_here i i refl) in
    let c : count i ns ≡ 1 = o.each i (omega (arith, one_here i i refl)) in
    omega (
      arith,
      uses-arranged_more n s i kids l rest ns c one,
      uses-arranged ns rest n (orders_rest ns s i kids l rest o),
    )
uses-arranged ns (hole rest) n o = absurd (omega (arith, o.whole))

pub root_uses-arranged : (ns : List ℕ) (g : Trees) (t : Trees) → Orders ns g
    → root_uses t (arranged g ns) ≡ root_uses t g
root_uses-arranged ns none t o = nothing ns
  where
    nothing : (ns : List ℕ) → root_uses t (arranged none ns) ≡ 0
    nothing [] = refl
    nothing (m ∷ ms) = nothing ms
root_uses-arranged ns (node s i kids l rest) t o =
    let one : uses i rest ≡ 0 = omega (arith, o.once i, one_here i i refl) in
    let c : count i ns ≡ 1 = o.each i (omega (arith, one_here i i refl)) in
    omega (
      arith,
      root_uses-arranged_more t s i kids l rest ns c one,
      root_uses-arranged ns rest t (orders_rest ns s i kids l rest o),
    )
root_uses-arranged ns (hole rest) t o = absurd (omega (arith, o.whole))

pub entry-arranged : (ns : List ℕ) (g : Trees) (n : ℕ) → Orders ns g → entry None (arranged g ns) n
    ≡ entry None g n
entry-arranged ns none n o = nothing ns
  where
    nothing : (ns : List ℕ) → entry None (arranged none ns) n ≡ None
    nothing [] = refl
    nothing (m ∷ ms) = nothing ms
entry-arranged ns (node s i kids l rest) n o =
    let one : uses i rest ≡ 0 = omega (arith, o.once i, one_here i i refl) in
    let c : count i ns ≡ 1 = o.each i (omega (arith, one_here i i refl)) in
    rw (
      entry-arranged_more n s i kids l rest ns c one (omega (arith, o.once n)),
      entry-arranged ns rest n (orders_rest ns s i kids l rest o),
    )
    (join (eqb n i) (entry (Some i) kids n) (entry None rest n))
  where
    join : (b : Bool) (x y : Option Entry) → option_or
        (cond b (Some (record { name = s; list = l; parent = None; kids = roots kids }))
        (option_or x None)) y ≡ cond b (Some (record {
          name = s;
          list = l;
          parent = None;
          kids =
              roots kids;
        })) (option_or x y)
    join true x y = refl
    join false None y = refl
    join false (Some x) y = refl
entry-arranged ns (hole rest) n o = absurd (omega (arith, o.whole))

-- any count of what stands in a grove
module _ (x : Trees → ℕ) (zero_none : x none ≡ 0)
    (adds : (a b : Trees) → x (beside a b) ≡ x a + x b) where
  pub sum-arranged_more : (s : List ℕ) (i : ℕ) (kids : Trees) (l : ℕ) (rest : Trees) (ns : List ℕ)
      → count i ns ≡ 1 → uses i rest ≡ 0 → x (arranged (node s i kids l rest) ns)
      ≡ x (node s i kids l none) + x (arranged rest ns)
  sum-arranged_more s i kids l rest [] h k = absurd (omega (arith, h))
  sum-arranged_more s i kids l rest (m ∷ ms) h k = elim (cases_eq m i) [
    | inl e ↦
        let z : count i ms ≡ 0 = omega (arith, h, one_here i m (sym e)) in
        let a : root_at m rest ≡ none = root_absent m rest
        (subst (λ m. uses m rest ≡ 0) (sym e) k) in
        rw (test_yes m i e, a, arranged_past s i kids l rest ms z)
        (adds (node s i kids l none) (arranged rest ms))
    | inr d ↦
        let z : count i ms ≡ 1 = omega (arith, h, none_here i m (λ e. d (sym e))) in
        rw (test_no m i d) (omega (
          arith,
          sum-arranged_more s i kids l rest ms z k,
          adds (root_at m rest) (arranged (node s i kids l rest) ms),
          adds (root_at m rest) (arranged rest ms),
        ))
  ]

  pub sum-arranged : (ns : List ℕ) (g : Trees) → Orders ns g → x (arranged g ns) ≡ x g
  sum-arranged ns none o = nothing ns
    where
      nothing : (ns : List ℕ) → x (arranged none ns) ≡ x none
      nothing [] = refl
      nothing (m ∷ ms) = nothing ms
  sum-arranged ns (node s i kids l rest) o =
      let one : uses i rest ≡ 0 = omega (arith, o.once i, one_here i i refl) in
      let c : count i ns ≡ 1 = o.each i (omega (arith, one_here i i refl)) in
      omega (
        arith,
        sum-arranged_more s i kids l rest ns c one,
        sum-arranged ns rest (orders_rest ns s i kids l rest o),
        adds (node s i kids l none) rest,
      )
  sum-arranged ns (hole rest) o = absurd (omega (arith, o.whole))

pub size-beside : (a b : Trees) → size (beside a b) ≡ size a + size b
size-beside none b = omega arith
size-beside (node s i kids l rest) b = omega (arith, size-beside rest b)
size-beside (hole rest) b = size-beside rest b

pub holes-beside : (a b : Trees) → holes (beside a b) ≡ holes a + holes b
holes-beside none b = omega arith
holes-beside (node s i kids l rest) b = omega (arith, holes-beside rest b)
holes-beside (hole rest) b = omega (arith, holes-beside rest b)

-- the moves keep the size, and make no hole
pub size-split : (c : ℕ) (r : Trees) → uses c r ≤ 1 → size (all_but c r) + size (tree_at c r)
    ≡ size r
size-split c none u = refl
size-split c (node s i kids l rest) u =
    elim (cases_eq c i) [
      | inl e ↦ rw (test_yes c i e) (omega arith)
      | inr e ↦ rw (test_no c i e) (omega (
        arith,
        u,
        size-split c kids (omega (arith, u)),
        size-split c rest (omega (arith, u)),
        size-beside (tree_at c kids) (tree_at c rest),
      ))
    ]
size-split c (hole rest) u = size-split c rest u

pub holes-tree : (c : ℕ) (r : Trees) → holes r ≡ 0 → holes (tree_at c r) ≡ 0
holes-tree c none h = refl
holes-tree c (node s i kids l rest) h =
    elim (cases_eq c i) [
      | inl e ↦ rw (test_yes c i e) (omega (arith, h))
      | inr e ↦ rw (test_no c i e) (omega (
        arith,
        h,
        holes-tree c kids (omega (arith, h)),
        holes-tree c rest (omega (arith, h)),
        holes-beside (tree_at c kids) (tree_at c rest),
      ))
    ]
holes-tree c (hole rest) h = absurd (omega (arith, h))

pub holes-all_but : (c : ℕ) (r : Trees) → holes r ≡ 0 → holes (all_but c r) ≡ 0
holes-all_but c none h = refl
holes-all_but c (node s i kids l rest) h =
    elim (cases_eq c i) [
      | inl e ↦ rw (test_yes c i e) (omega (arith, h))
      | inr e ↦ rw (test_no c i e) (omega (
        arith,
        h,
        holes-all_but c kids (omega (arith, h)),
        holes-all_but c rest (omega (arith, h)),
      ))
    ]
holes-all_but c (hole rest) h = absurd (omega (arith, h))

pub holes-adopt : (p : ℕ) (t r : Trees) → holes t ≡ 0 → holes r ≡ 0 → holes (adopt p t r) ≡ 0
holes-adopt p t none k h = refl
holes-adopt p t (node s i kids l rest) k h =
    elim (cases_eq p i) [
      | inl e ↦ rw (test_yes p i e) (omega (arith, h, k, holes-beside kids t))
      | inr e ↦ rw (test_no p i e) (omega (
        arith,
        h,
        holes-adopt p t kids k (omega (arith, h)),
        holes-adopt p t rest k (omega (arith, h)),
      ))
    ]
holes-adopt p t (hole rest) k h = absurd (omega (arith, h))

pub size-adopt : (p : ℕ) (t r : Trees) → uses p r ≡ 1 → size (adopt p t r) ≡ size r + size t
size-adopt p t none u = absurd (omega (arith, u))
size-adopt p t (node s i kids l rest) u =
    elim (cases_eq p i) [
      | inl e ↦ rw (test_yes p i e) (omega (arith, size-beside kids t))
      | inr e ↦ elim (cases_eq (uses p kids) 0) [
        | inl z ↦ rw (test_no p i e, adopt_absent p t kids z)
            (omega (arith, size-adopt p t rest (omega (arith, u, z, none_here p i e))))
        | inr z ↦ rw (test_no p i e, adopt_absent p t rest (omega (arith, u, z, none_here p i e)))
            (omega (arith, size-adopt p t kids (omega (arith, u, z, none_here p i e))))
      ]
    ]
size-adopt p t (hole rest) u = size-adopt p t rest u
