-- The sibling after a child, as it is read off the node of its parent.
use Rattle.std.proofs.Common.{◌≡◌, ◌≢◌, ℕ, ◌≤◌, Option, Some, refl, sym, ◌∙◌, inl, inr, arith}
use Rattle.std.proofs.lemmas.Bool.{cases_eq}
use Rattle.model_shapes.specs.Values.{node_number}
use Rattle.model_shapes.specs.Trees.{Trees, none, node, hole, beside}
use Rattle.model_shapes.specs.Shapes.{holes}
use Rattle.model_shapes.proofs.Narrow.{no_roots}
use Rattle.model_groves.specs.Groves.{nodes_where, parental, first_number}
use Rattle.model_groves.proofs.Groves.{width-parental}
use Rattle.grove_data.specs.Finding.{number_or_null}
use Rattle.model_heap.specs.Lists.{count, after}
use Rattle.model_heap.specs.Entries.{entry, roots, uses, kids_of}
use Rattle.model_heap.proofs.Moves.{test_yes, test_no, or_none, entry_absent}
use Rattle.model_heap.proofs.Kinship.{roots_use, kids_use, root_parent, kid_up}
use Rattle.model_heap.proofs.Words.{uses-are, root_yes, root_no, parent_is, decided_yes, decided_no}
use Rattle.node_heap.specs.Visiting.{number_after, sibling_number}
use Rattle.node_heap.proofs.Siblings.{first_is}

-- the number after one of these trees
after_is : (n : ℕ) (kids : Trees) → holes kids ≡ 0
    → number_or_null (after n (roots kids)) ≡ number_after n kids
after_is n none h = refl
after_is n (node s i k l rest) h = elim (cases_eq n i) [
  | inl e ↦ rw (test_yes n i e, decided_yes n i e) (first_is rest (omega (arith, h)))
  | inr d ↦ rw (test_no n i d, decided_no n i d) (after_is n rest (omega (arith, h)))
]
after_is n (hole rest) h = absurd (omega (arith, h))

-- only the first of the nodes counts
first_alone : (n p : ℕ) (a b : Trees) → first_number a ≡ node_number p
    → sibling_number n (beside a b) ≡ sibling_number n a
first_alone n p none b h = absurd (cc)
first_alone n p (node s i k l rest) b h = refl
first_alone n p (hole rest) b h = absurd (cc)

-- a number that stands nowhere has no parent
parental_none : (n : ℕ) (r : Trees) → uses n r ≡ 0 → nodes_where (parental n) r ≡ none
parental_none n r h =
    no_roots (nodes_where (parental n) r) (omega (arith, width-parental n r, uses-are n r, h))

-- THE SIBLING of a child
pub sibling_is : (q : Option ℕ) (r : Trees) (p n : ℕ) → holes r ≡ 0 → ((m : ℕ) → uses m r ≤ 1)
    → 1 ≤ count n (kids_of (entry q r p))
    → number_or_null (after n (kids_of (entry q r p)))
    ≡ sibling_number n (nodes_where (parental n) r)
sibling_is q none p n w u h = absurd (omega (arith, h))
sibling_is q (node s i kids l rest) p n w u h =
    elim (cases_eq p i) [
      | inl e ↦
          let k : 1 ≤ count n (roots kids) = rw (test_yes p i e) at h in
          rw (test_yes p i e, root_yes n kids k) (after_is n kids (omega (arith, w)))
      | inr d ↦ elim (cases_eq (uses p kids) 0) [
        | inl y ↦
            let k : 1 ≤ count n (kids_of (entry q rest p)) =
            rw (test_no p i d, entry_absent (Some i) kids p y) at h in
            let z : uses n kids ≡ 0 = omega (arith, u n, k, kids_use q rest p n) in
            let x : count n (roots kids) ≡ 0 = omega (arith, z, roots_use n kids) in
            rw (
              test_no p i d,
              entry_absent (Some i) kids p y,
              root_no n kids x,
              parental_none n kids z,
            )
            (sibling_is q rest p n (omega (arith, w)) (λ m. omega (arith, u m)) k)
        | inr y ↦
            let v : uses p rest ≡ 0 = omega (arith, u p, y) in
            let k : 1 ≤ count n (kids_of (entry (Some i) kids p)) =
            rw (test_no p i d, entry_absent q rest p v, or_none) at h in
            rw (
              test_no p i d,
              entry_absent q rest p v,
              or_none,
              root_no n kids (below p d k),
              first_alone n p (nodes_where (parental n) kids) (nodes_where (parental n) rest)
                  (parent_is (Some i) kids p n (λ m. omega (arith, u m)) k),
            )
            (sibling_is (Some i) kids p n (omega (arith, w)) (λ m. omega (arith, u m)) k)
      ]
    ]
  where
    below : (p : ℕ) → p ≢ i → 1 ≤ count n (kids_of (entry (Some i) kids p))
        → count n (roots kids) ≡ 0
    below p d k =
        elim (cases_eq (count n (roots kids)) 0) [
          | inl z ↦ z
          | inr z ↦
              let a = root_parent (Some i) kids n (omega (arith, u n)) (omega (arith, z)) in
              let b = kid_up (Some i) kids p n (omega (arith, u p)) (omega (arith, u n)) k in
              absurd (d (let c : Some p ≡ Some i = sym b ∙ a in cc))
        ]
sibling_is q (hole rest) p n w u h = absurd (omega (arith, w))
