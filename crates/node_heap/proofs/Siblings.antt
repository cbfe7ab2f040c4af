-- The first child of a node, and its next sibling.
use Rattle.std.proofs.Common.{◌≡◌, ◌≢◌, ℕ, ◌≤◌, true, List, [], ◌∷◌, Option, Some, None, Ok, refl, sym, ap, ◌∙◌, inl, inr, arith, subst}
use Rattle.std.specs.List.{slice_get}
use Rattle.std.specs.Option.{option_map, IsSome}
use Rattle.std.proofs.lemmas.Bool.{cases_eq}
use Rattle.model_shapes.specs.Values.{node_number}
use Rattle.model_shapes.specs.Trees.{Trees, none, node, hole, beside}
use Rattle.model_shapes.specs.Shapes.{holes}
use Rattle.model_shapes.proofs.Narrow.{no_roots}
use Rattle.model_groves.proofs.Groves.{width-parental}
use Rattle.model_groves.specs.Groves.{nodes_where, numbered, parental, first_number, node_at}
use Rattle.model_machine.specs.Machine.{no_node}
use Rattle.grove_data.specs.Finding.{number_or_null}
use Rattle.model_heap.specs.Lists.{count, head_of, after}
use Rattle.model_heap.specs.Entries.{Entry, rows_of, entry, roots, uses, kids_of, parent_of}
use Rattle.model_heap.proofs.Moves.{test_yes, test_no, none_here, or_none, entry_absent}
use Rattle.model_heap.proofs.Kinship.{Kin-rows_of, roots_use, kids_use, root_parent, kid_up, root_of}
use Rattle.model_heap.proofs.Words.{NodeOf, decided_yes, decided_no, uses-are, root_yes, root_no, no_parent, parent_is}
use Rattle.slab.specs.Slab.{Slab, get}
use Rattle.node_heap.specs.declared.records.Record.{Record}
use Rattle.node_heap.specs.declared.index.Pair.{Pair}
use Rattle.node_heap.specs.Links.{row}
use Rattle.node_heap.specs.Indexes.{key_in}
use Rattle.node_heap.specs.Heap.{Linking}
use Rattle.node_heap.specs.Answers.{Reads}
use Rattle.node_heap.specs.Visiting.{number_after, sibling_number}
use Rattle.node_heap.proofs.Found.{Found, Points, found_at}
use Rattle.node_heap.proofs.Tests.{in_row, head_counts, after_count, once_there}
use Rattle.node_heap.proofs.Told.{here, reads, item_at}

first_of : (xs : List ℕ) → slice_get xs 0 ≡ head_of xs
first_of [] = refl
first_of (x ∷ xs) = refl

-- the first of these trees
pub first_is : (kids : Trees) → holes kids ≡ 0
    → number_or_null (head_of (roots kids)) ≡ first_number kids
first_is kids h = ap number_or_null (sym (first_of (roots kids))) ∙ item_at kids 0 h

-- and the one after a number
after_is : (n : ℕ) (kids : Trees) → holes kids ≡ 0
    → number_or_null (after n (roots kids)) ≡ number_after n kids
after_is n none h = refl
after_is n (node s i k l rest) h = elim (cases_eq n i) [
  | inl e ↦ rw (test_yes n i e, decided_yes n i e) (first_is rest (omega (arith, h)))
  | inr d ↦ rw (test_no n i d, decided_no n i d) (after_is n rest (omega (arith, h)))
]
after_is n (hole rest) h = absurd (omega (arith, h))

-- only the first of the nodes counts
first_alone : (n p : ℕ) (a b : Trees) → first_number a ≡ node_number p
    → sibling_number n (beside a b) ≡ sibling_number n a
first_alone n p none b h = absurd (cc)
first_alone n p (node s i k l rest) b h = refl
first_alone n p (hole rest) b h = absurd (cc)

-- a number that stands nowhere has no parent
parental_none : (n : ℕ) (r : Trees) → uses n r ≡ 0 → nodes_where (parental n) r ≡ none
parental_none n r h =
    no_roots (nodes_where (parental n) r) (omega (arith, width-parental n r, uses-are n r, h))

-- THE SIBLING of a child
sibling_is : (q : Option ℕ) (r : Trees) (p n : ℕ) → holes r ≡ 0 → ((m : ℕ) → uses m r ≤ 1)
    → 1 ≤ count n (kids_of (entry q r p))
    → number_or_null (after n (kids_of (entry q r p)))
    ≡ sibling_number n (nodes_where (parental n) r)
sibling_is q none p n w u h = absurd (omega (arith, h))
sibling_is q (node s i kids l rest) p n w u h =
    elim (cases_eq p i) [
      | inl e ↦
          let k : 1 ≤ count n (roots kids) = rw (test_yes p i e) at h in
          rw (test_yes p i e, root_yes n kids k) (after_is n kids (omega (arith, w)))
      | inr d ↦ elim (cases_eq (uses p kids) 0) [
        | inl y ↦
            let k : 1 ≤ count n (kids_of (entry q rest p)) =
            rw (test_no p i d, entry_absent (Some i) kids p y) at h in
            let z : uses n kids ≡ 0 = omega (arith, u n, k, kids_use q rest p n) in
            let x : count n (roots kids) ≡ 0 = omega (arith, z, roots_use n kids) in
            rw (
              test_no p i d,
              entry_absent (Some i) kids p y,
              root_no n kids x,
              parental_none n kids z,
            )
            (sibling_is q rest p n (omega (arith, w)) (λ m. omega (arith, u m)) k)
        | inr y ↦
            let v : uses p rest ≡ 0 = omega (arith, u p, y) in
            let k : 1 ≤ count n (kids_of (entry (Some i) kids p)) =
            rw (test_no p i d, entry_absent q rest p v, or_none) at h in
            rw (
              test_no p i d,
              entry_absent q rest p v,
              or_none,
              root_no n kids (below p d k),
              first_alone n p (nodes_where (parental n) kids) (nodes_where (parental n) rest)
                  (parent_is (Some i) kids p n (λ m. omega (arith, u m)) k),
            )
            (sibling_is (Some i) kids p n (omega (arith, w)) (λ m. omega (arith, u m)) k)
      ]
    ]
  where
    below : (p : ℕ) → p ≢ i → 1 ≤ count n (kids_of (entry (Some i) kids p))
        → count n (roots kids) ≡ 0
    below p d k =
        elim (cases_eq (count n (roots kids)) 0) [
          | inl z ↦ z
          | inr z ↦
              let a = root_parent (Some i) kids n (omega (arith, u n)) (omega (arith, z)) in
              let b = kid_up (Some i) kids p n (omega (arith, u p)) (omega (arith, u n)) k in
              absurd (d (let c : Some p ≡ Some i = sym b ∙ a in cc))
        ]
sibling_is q (hole rest) p n w u h = absurd (omega (arith, w))

module _ (s : Slab Record) (nodes lists : List Pair) (g : Trees) (l : Linking s nodes lists g) where
  -- what a key in a record points to
  pointed : (o r : Option ℕ) (k : ℕ) → r ≡ option_map (key_in nodes) o
      → ((x : ℕ) → o ≡ Some x → IsSome (rows_of g x)) → r ≡ Some k → Points s nodes g o k
  pointed None r k e h is = absurd (let a = sym e ∙ is in cc)
  pointed (Some x) r k e h is =
      let z : Some (key_in nodes x) ≡ Some k = sym e ∙ is in
      record {
        number = x;
        is = refl;
        there = stand (rows_of g x) refl (h x refl) (let y : k ≡ key_in nodes x = cc in y);
      }
    where
      stand : (o : Option Entry) → rows_of g x ≡ o → IsSome o → k ≡ key_in nodes x
          → Found s nodes g x k
      stand None a i q = absurd (cc)
      stand (Some w) a i q = found_at s nodes lists g l x k w a q

  pub first_found : (n k fk : ℕ) (f : Found s nodes g n k) → f.it.first ≡ Some fk
      → Points s nodes g (head_of f.entry.kids) fk
  first_found n k fk f is =
      pointed (head_of f.entry.kids) f.it.first fk f.fits.first
      (λ x h. in_row s nodes lists g l (Some n) x
      (subst (λ o. 1 ≤ count x (kids_of o)) (sym f.is) (head_counts x f.entry.kids h))) is

  pub next_found : (n k nk : ℕ) (f : Found s nodes g n k) → f.it.next ≡ Some nk
      → Points s nodes g (after n (row (rows_of g) f.entry.parent)) nk
  next_found n k nk f is =
      pointed (after n (row (rows_of g) f.entry.parent)) f.it.next nk f.fits.next
      (λ x h. in_row s nodes lists g l f.entry.parent x
      (after_count n x (row (rows_of g) f.entry.parent) h)) is

  -- the first child as the machine tells it
  pub first_told : (answer : Option ℕ) (n key : ℕ) (f : Found s nodes g n key) (h : Trees)
      → g ≡ h → answer ≡ head_of f.entry.kids
      → Reads number_or_null (node_at (node_number n) h) no_node
      (λ name number kids list. first_number kids) (Ok answer)
  first_told answer n key f h same is =
      let w = here s nodes lists g l n key f in
      rw (← same) (reads number_or_null no_node (λ name number kids list. first_number kids)
      answer (nodes_where (numbered n) g) n f.entry w
      (ap number_or_null (is ∙ ap head_of (sym w.are_kids)) ∙ first_is w.kids w.whole))

  -- the next sibling
  sibling_told : (n k : ℕ) (f : Found s nodes g n k) (o : Option ℕ) → f.entry.parent ≡ o
      → number_or_null (after n (row (rows_of g) o)) ≡ sibling_number n (nodes_where (parental n) g)
  sibling_told n k f None e =
      let top : parent_of (rows_of g n) ≡ None = ap parent_of f.is ∙ e in
      let one = once_there s nodes g n k (l.once n) f in
      rw (no_parent g n (l.once n) (root_of None g n one top)) refl
  sibling_told n k f (Some p) e =
      let up : parent_of (rows_of g n) ≡ Some p = ap parent_of f.is ∙ e in
      sibling_is None g p n l.whole l.once ((Kin-rows_of g l.once).down p n up)

  pub next_told : (answer : Option ℕ) (n key : ℕ) (f : Found s nodes g n key) (h : Trees)
      → g ≡ h → answer ≡ after n (row (rows_of g) f.entry.parent)
      → Reads number_or_null (node_at (node_number n) h) no_node
      (λ name number kids list. sibling_number number (nodes_where (parental number) h))
      (Ok answer)
  next_told answer n key f h same is =
      let w = here s nodes lists g l n key f in
      rw (← same) (reads number_or_null no_node
      (λ name number kids list. sibling_number number (nodes_where (parental number) g))
      answer (nodes_where (numbered n) g) n f.entry w
      (ap number_or_null is ∙ sibling_told n key f f.entry.parent refl))
