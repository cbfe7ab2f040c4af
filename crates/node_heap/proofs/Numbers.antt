-- The numbers of the roots, and of all nodes, by rising number.
use Rattle.std.proofs.Common.{◌≡◌, ℕ, zero, suc, ◌+◌, ◌<◌, ◌≤◌, List, [], ◌∷◌, ◌++◌, None, length, get_or, drop, add-one, drop-cons, refl, sym, ap, ◌∙◌, inl, inr, arith, subst, append_assoc, append-nil}
use Rattle.std.proofs.lemmas.Bool.{cases_eq}
use Rattle.model_shapes.specs.Trees.{Trees, none, node, hole, beside}
use Rattle.model_heap.specs.Lists.{count}
use Rattle.model_heap.specs.Entries.{rows_of, roots, uses}
use Rattle.model_heap.specs.Roots.{root_at, arranged}
use Rattle.model_heap.proofs.Moves.{test_yes, test_no, none_here, roots-beside, entry_absent}
use Rattle.model_heap.proofs.Kinship.{present}
use Rattle.slab.specs.Slab.{Slab}
use Rattle.node_heap.specs.declared.records.Record.{Record}
use Rattle.node_heap.specs.declared.index.Pair.{Pair}
use Rattle.node_heap.specs.Indexes.{lookup, numbers, Rising}
use Rattle.node_heap.specs.Heap.{grove_of, Linked}
use Rattle.node_heap.specs.Visiting.{IsBelow, AreRising}
use Rattle.node_heap.proofs.Whole.{rising_rest, rising_once, lookup_count, count_lookup, read_back}

-- numbers of an index rise
below_all : (n : ℕ) (q : Pair) (qs : List Pair) → n < q.number → Rising (q ∷ qs)
    → IsBelow n (numbers (q ∷ qs))
below_all n q [] h r = (h, tt)
below_all n q (p ∷ qs) h r = (h, below_all n p qs (omega (arith, h, r.0)) r.1)

pub numbers_rise : (qs : List Pair) → Rising qs → AreRising (numbers qs)
numbers_rise [] r = tt
numbers_rise (q ∷ []) r = (tt, tt)
numbers_rise (q ∷ p ∷ qs) r = (below_all q.number p qs r.0 r.1, numbers_rise (p ∷ qs) r.1)

-- the roots among them
root_number : (n : ℕ) (g : Trees) → 1 ≤ count n (roots g) → roots (root_at n g) ≡ n ∷ []
root_number n none h = absurd (omega (arith, h))
root_number n (node s i k l rest) h = elim (cases_eq n i) [
  | inl e ↦ rw (test_yes n i e) (ap (λ m. m ∷ []) (sym e))
  | inr d ↦ rw (test_no n i d) (root_number n rest (omega (arith, h, none_here n i d)))
]
root_number n (hole rest) h = root_number n rest h

below_root : (m n : ℕ) (g : Trees) (xs : List ℕ) → m < n → IsBelow m xs
    → IsBelow m (roots (root_at n g) ++ xs)
below_root m n none xs h b = b
below_root m n (node s i k l rest) xs h b = elim (cases_eq n i) [
  | inl e ↦ rw (test_yes n i e) (subst (λ n. m < n) e h, b)
  | inr d ↦ rw (test_no n i d) (below_root m n rest xs h b)
]
below_root m n (hole rest) xs h b = below_root m n rest xs h b

rise_root : (n : ℕ) (g : Trees) (xs : List ℕ) → IsBelow n xs → AreRising xs
    → AreRising (roots (root_at n g) ++ xs)
rise_root n none xs b r = r
rise_root n (node s i k l rest) xs b r = elim (cases_eq n i) [
  | inl e ↦ rw (test_yes n i e) (subst (λ n. IsBelow n xs) e b, r)
  | inr d ↦ rw (test_no n i d) (rise_root n rest xs b r)
]
rise_root n (hole rest) xs b r = rise_root n rest xs b r

below_roots : (g : Trees) (m : ℕ) (q : Pair) (qs : List Pair) → m < q.number → Rising (q ∷ qs)
    → IsBelow m (roots (arranged g (numbers (q ∷ qs))))
below_roots g m q [] h r =
    rw (roots-beside (root_at q.number g) none) (below_root m q.number g [] h tt)
below_roots g m q (p ∷ qs) h r =
    rw (roots-beside (root_at q.number g) (arranged g (numbers (p ∷ qs))))
    (below_root m q.number g (roots (arranged g (numbers (p ∷ qs)))) h
    (below_roots g m p qs (omega (arith, h, r.0)) r.1))

roots_rise : (g : Trees) (qs : List Pair) → Rising qs → AreRising (roots (arranged g (numbers qs)))
roots_rise g [] r = tt
roots_rise g (q ∷ []) r =
    rw (roots-beside (root_at q.number g) none) (rise_root q.number g [] tt tt)
roots_rise g (q ∷ p ∷ qs) r =
    rw (roots-beside (root_at q.number g) (arranged g (numbers (p ∷ qs))))
    (rise_root q.number g (roots (arranged g (numbers (p ∷ qs)))) (below_roots g q.number p qs r.0
    r.1) (roots_rise g (p ∷ qs) r.1))

module _ (s : Slab Record) (nodes lists : List Pair) (g : Trees) (l : Linked s nodes lists g) where
  -- the roots of the grove that is read back rise
  pub grove_roots_rise : AreRising (roots (grove_of s nodes))
  grove_roots_rise = rw (read_back s nodes lists g l) (roots_rise g nodes l.rising)

  -- each number of a node is in the index, once
  pub index_counts : (n : ℕ) → count n (numbers nodes) ≡ uses n g
  index_counts n = elim (cases_eq (uses n g) 0) [
    | inl z ↦ elim (cases_eq (count n (numbers nodes)) 0) [
      | inl y ↦ y ∙ sym z
      | inr y ↦
          let a = count_lookup nodes n (omega (arith, y)) in
          let b = l.links.indexed n in
          let c = entry_absent None g n z in
          absurd (cc)
    ]
    | inr z ↦
        let there = present None g n (omega (arith, z)) in
        omega (
          arith,
          lookup_count nodes n (l.links.indexed n ∙ there),
          rising_once nodes n l.rising,
          l.links.once n,
          z,
        )
  ]

-- one pair more
module _ (g : Trees) (nodes : List Pair) (i : ℕ) (pair : Pair)
    (low : i < length nodes) (is : pair ≡ get_or nodes i pair)
  where
    at : drop i nodes ≡ pair ∷ drop (i + 1) nodes
    at = rw (add-one, drop-cons nodes i pair) (ap (λ q. q ∷ drop (suc i) nodes) (sym is))

    pub numbers_on : (before all : List ℕ) → before ++ numbers (drop i nodes) ≡ all
        → (before ++ pair.number ∷ []) ++ numbers (drop (i + 1) nodes) ≡ all
    numbers_on before all h =
        append_assoc before (pair.number ∷ []) (numbers (drop (i + 1) nodes))
        ∙ ap (λ qs. before ++ numbers qs) (sym at) ∙ h

    split_here : roots (arranged g (numbers (drop i nodes)))
        ≡ roots (root_at pair.number g) ++ roots (arranged g (numbers (drop (i + 1) nodes)))
    split_here =
        ap (λ qs. roots (arranged g (numbers qs))) at
        ∙ roots-beside (root_at pair.number g) (arranged g (numbers (drop (i + 1) nodes)))

    pub roots_on : (before all : List ℕ) → 1 ≤ count pair.number (roots g)
        → before ++ roots (arranged g (numbers (drop i nodes))) ≡ all
        → (before ++ pair.number ∷ []) ++ roots (arranged g (numbers (drop (i + 1) nodes))) ≡ all
    roots_on before all root h =
        append_assoc before (pair.number ∷ []) (roots (arranged g (numbers (drop (i + 1) nodes))))
        ∙ ap (λ xs. before ++ (xs ++ roots (arranged g (numbers (drop (i + 1) nodes)))))
        (sym (root_number pair.number g root))
        ∙ ap (λ xs. before ++ xs) (sym split_here) ∙ h

    pub roots_past : (before all : List ℕ) → root_at pair.number g ≡ none
        → before ++ roots (arranged g (numbers (drop i nodes))) ≡ all
        → before ++ roots (arranged g (numbers (drop (i + 1) nodes))) ≡ all
    roots_past before all gone h =
        ap (λ xs. before ++ xs) (sym (split_here
        ∙ ap (λ t. roots t ++ roots (arranged g (numbers (drop (i + 1) nodes)))) gone)) ∙ h

-- no pair is left
past_all : (qs : List Pair) (n : ℕ) → length qs ≤ n → drop n qs ≡ []
past_all [] zero h = refl
past_all [] (suc n) h = refl
past_all (q ∷ qs) zero h = absurd (omega (arith, h))
past_all (q ∷ qs) (suc n) h = past_all qs n (omega (arith, h))

pub numbers_done : (nodes : List Pair) (i : ℕ) (xs all : List ℕ) → length nodes ≤ i
    → xs ++ numbers (drop i nodes) ≡ all → xs ≡ all
numbers_done nodes i xs all le h =
    sym (append-nil xs) ∙ ap (λ qs. xs ++ numbers qs) (sym (past_all nodes i le)) ∙ h

pub roots_done : (g : Trees) (nodes : List Pair) (i : ℕ) (xs all : List ℕ) → length nodes ≤ i
    → xs ++ roots (arranged g (numbers (drop i nodes))) ≡ all → xs ≡ all
roots_done g nodes i xs all le h =
    sym (append-nil xs) ∙ ap (λ qs. xs ++ roots (arranged g (numbers qs)))
    (sym (past_all nodes i le)) ∙ h
