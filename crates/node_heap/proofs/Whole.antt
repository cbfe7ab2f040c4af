-- The invariant and the grove that is read back.
use Rattle.std.proofs.Common.{◌≡◌, ℕ, ◌≤◌, true, List, [], ◌∷◌, Some, None, refl, sym, ◌∙◌, inl, inr, arith, subst, length}
use Rattle.std.specs.Option.{is_some}
use Rattle.std.proofs.lemmas.Bool.{cases_eq}
use Rattle.model_groves.specs.Sizes.{size}
use Rattle.model_shapes.specs.Trees.{Trees, WellFormed}
use Rattle.model_shapes.specs.Shapes.{holes, SameAt}
use Rattle.model_shapes.specs.Sorts.{grove}
use Rattle.model_shapes.proofs.Shapes.{same-WellFormed}
use Rattle.model_heap.specs.Lists.{count}
use Rattle.model_heap.specs.Entries.{Entry, Rows, rows_of, uses}
use Rattle.model_heap.specs.Roots.{arranged}
use Rattle.model_heap.proofs.Moves.{test_yes, test_no, one_here, none_here}
use Rattle.model_heap.proofs.Kinship.{roots_use, present}
use Rattle.model_heap.proofs.Arranged.{Orders, uses-arranged, root_uses-arranged, entry-arranged, sum-arranged, size-beside, holes-beside}
use Rattle.slab.specs.Slab.{Slab}
use Rattle.node_heap.specs.declared.records.Record.{Record}
use Rattle.node_heap.specs.declared.index.Pair.{Pair}
use Rattle.node_heap.specs.Links.{Stands}
use Rattle.node_heap.specs.Indexes.{lookup, key_in, numbers, Rising}
use Rattle.node_heap.specs.Heap.{grove_of, Linking, Linked}
use Rattle.node_heap.proofs.ReadBack.{all_roots}

pub rising_absent : (q : Pair) (qs : List Pair) (n : ℕ) → Rising (q ∷ qs) → n ≤ q.number
    → count n (numbers qs) ≡ 0
rising_absent q [] n r h = refl
rising_absent q (p ∷ qs) n r h = omega (
  arith,
  r.0,
  rising_absent p qs n r.1 (omega (arith, r.0, h)),
  none_here n p.number
      (λ e. absurd (omega (arith, e, r.0, h))),
)

pub rising_rest : (q : Pair) (qs : List Pair) → Rising (q ∷ qs) → Rising qs
rising_rest q [] r = tt
rising_rest q (p ∷ qs) r = r.1

pub rising_once : (qs : List Pair) (n : ℕ) → Rising qs → count n (numbers qs) ≤ 1
rising_once [] n r = omega arith
rising_once (q ∷ qs) n r = elim (cases_eq n q.number) [
  | inl e ↦ omega (arith, one_here n q.number e, rising_absent q qs n r (omega (arith, e)))
  | inr d ↦ omega (arith, none_here n q.number d, rising_once qs n (rising_rest q qs r))
]

pub lookup_count : (qs : List Pair) (n : ℕ) → is_some (lookup n qs) ≡ true
    → 1 ≤ count n (numbers qs)
lookup_count [] n h = absurd (cc)
lookup_count (q ∷ qs) n h = elim (cases_eq n q.number) [
  | inl e ↦ omega (arith, one_here n q.number e)
  | inr d ↦ let k : is_some (lookup n qs) ≡ true = rw (test_no n q.number d) at h in
      omega (arith, lookup_count qs n k)
]

pub count_lookup : (qs : List Pair) (n : ℕ) → 1 ≤ count n (numbers qs) → is_some (lookup n qs)
    ≡ true
count_lookup [] n h = absurd (omega (arith, h))
count_lookup (q ∷ qs) n h = elim (cases_eq n q.number) [
  | inl e ↦ rw (test_yes n q.number e) refl
  | inr d ↦ rw (test_no n q.number d) (count_lookup qs n (omega (arith, h, none_here n q.number d)))
]

pub pointwise : (a b : Rows) → ((n : ℕ) → a n ≡ b n) → a ≡ b
pointwise a b h = λ i. λ n. h n i

-- the invariant sees a grove only up to the order of its roots
pub linked_same : (s : Slab Record) (nodes lists : List Pair) (g h : Trees)
    → ((n : ℕ) → uses n h ≡ uses n g) → holes h ≡ 0 → size h ≡ size g
    → ((n : ℕ) → rows_of h n ≡ rows_of g n) → WellFormed h → Linking s nodes lists g
    → Linking s nodes lists h
linked_same s nodes lists g h same_uses same_holes same_size same_rows well l =
    let e : rows_of g ≡ rows_of h = sym (pointwise (rows_of h) (rows_of g) same_rows) in
    record {
      well_formed = well;
      once = λ n. omega (arith, same_uses n, l.once n);
      whole = same_holes;
      sized = same_size ∙ l.sized;
      stands = subst (λ r. Stands (key_in nodes) r s) e l.stands;
      indexed = subst (λ (r : Rows). (n : ℕ) → is_some (lookup n nodes) ≡ is_some (r n)) e
          l.indexed;
      listed = subst (λ (r : Rows). (n : ℕ) (x : Entry) → r n ≡ Some x → lookup x.list lists
          ≡ Some (key_in nodes n)) e l.listed;
      listed_only = subst (λ (r : Rows). (a k : ℕ) → lookup a lists ≡ Some k → (n : ℕ) × (x : Entry)
          × (r n ≡ Some x) × (x.list ≡ a) × (key_in nodes n ≡ k)) e l.listed_only;
      records_len = l.records_len;
      lists_len = l.lists_len;
    }

module _ (s : Slab Record) (nodes lists : List Pair) (g : Trees) (l : Linked s nodes lists g) where
  orders : Orders (numbers nodes) g
  orders = record {
    each = λ n h.
        let there : is_some (rows_of g n) ≡ true = present None g n
        (omega (arith, h, roots_use n g)) in
        omega (
          arith,
          lookup_count nodes n (l.links.indexed n ∙ there),
          rising_once nodes n l.rising,
        );
    once = l.links.once;
    whole = l.links.whole;
  }

  pub read_back : grove_of s nodes ≡ arranged g (numbers nodes)
  unfolding grove_of
  read_back = all_roots (length nodes) (key_in nodes) s g (omega (arith, l.links.sized))
      l.links.whole l.links.once l.links.stands (numbers nodes)
      (λ n h. sym (l.links.indexed n) ∙ count_lookup nodes n h)

  -- THE GROVE READ BACK is the grove, up to the order of roots
  pub same_grove : SameAt grove (grove_of s nodes) g
  same_grove = λ t. rw read_back (root_uses-arranged (numbers nodes) g t orders)

  pub linked_back : Linked s nodes lists (grove_of s nodes)
  linked_back = record {
    links = rw read_back links;
    rising = l.rising;
    rising_lists =
        l.rising_lists;
  }
    where
      same : SameAt grove g (arranged g (numbers nodes))
      same = λ t. sym (root_uses-arranged (numbers nodes) g t orders)

      links : Linking s nodes lists (arranged g (numbers nodes))
      links =
          linked_same s nodes lists g (arranged g (numbers nodes))
          (λ n. uses-arranged (numbers nodes) g n orders)
          (sum-arranged holes refl holes-beside (numbers nodes) g orders ∙ l.links.whole)
          (sum-arranged size refl size-beside (numbers nodes) g orders)
          (λ n. entry-arranged (numbers nodes) g n orders)
          (same-WellFormed grove g (arranged g (numbers nodes)) same l.links.well_formed)
          l.links
