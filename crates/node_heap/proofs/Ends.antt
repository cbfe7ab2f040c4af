-- The last pair of an index, and room that is made.
use Rattle.std.proofs.Common.{◌≡◌, ◌⊎◌, ℕ, zero, suc, ◌-◌, ◌<◌, ◌≤◌, true, List, [], ◌∷◌, Option, Some, None, refl, sym, ap, ◌∙◌, inl, inr, arith, subst, length, get_or}
use Rattle.std.specs.Option.{is_some, IsSome}
use Rattle.std.proofs.lemmas.Bool.{cases_eq}
use Rattle.model_groves.specs.Sizes.{greatest_list, greatest_node}
use Rattle.model_shapes.specs.Trees.{Trees, none, node}
use Rattle.model_heap.specs.Entries.{rows_of, uses}
use Rattle.model_heap.proofs.Moves.{test_yes, test_no, entry_absent}
use Rattle.model_heap.proofs.Kinship.{present}
use Rattle.model_heap.proofs.Greatest.{node_bound, node_there, list_bound, list_there}
use Rattle.slab.specs.Slab.{Slab, get}
use Rattle.node_heap.specs.declared.records.Record.{Record}
use Rattle.node_heap.specs.declared.index.Pair.{Pair}
use Rattle.node_heap.specs.Indexes.{lookup, key_in, numbers, Rising, greatest_of}
use Rattle.node_heap.specs.Heap.{on_record, if_root, read, root_of, roots_of, grove_of, Linking, Linked}

pub last_number : (xs : List Pair) (d : Pair) → 0 < length xs → (get_or xs (length xs - 1) d).number
    ≡ greatest_of xs
last_number [] d h = absurd (omega (arith, h))
last_number (q ∷ []) d h = refl
last_number (q ∷ r ∷ qs) d h =
    let e : length (q ∷ r ∷ qs) - 1 ≡ suc (length (r ∷ qs) - 1) = omega arith in
    rw e (last_number (r ∷ qs) d (omega arith))

greatest_bound : (qs : List Pair) (m : ℕ) → Rising qs → IsSome (lookup m qs) → m ≤ greatest_of qs
greatest_bound [] m r h = absurd (cc)
greatest_bound (q ∷ []) m r h = elim (cases_eq m q.number) [
  | inl e ↦ omega (arith, e)
  | inr d ↦ absurd
      (let z : is_some {T = ℕ} None ≡ true = rw (test_no m q.number d) at h in cc)
]
greatest_bound (q ∷ p ∷ qs) m r h = elim (cases_eq m q.number) [
  | inl e ↦ omega (
    arith,
    e,
    r.0,
    greatest_bound (p ∷ qs) p.number r.1
        (rw (test_yes p.number p.number refl) refl),
  )
  | inr d ↦ greatest_bound (p ∷ qs) m r.1 (rw (test_no m q.number d) at h)
]

greatest_there : (qs : List Pair) → (greatest_of qs ≡ 0) ⊎ IsSome (lookup (greatest_of qs) qs)
greatest_there [] = inl refl
greatest_there (q ∷ []) = inr (rw (test_yes q.number q.number refl) refl)
greatest_there (q ∷ p ∷ qs) = elim (greatest_there (p ∷ qs)) [
  | inl z ↦ inl z
  | inr h ↦ elim (cases_eq (greatest_of (p ∷ qs)) q.number) [
    | inl e ↦ inr (rw (test_yes (greatest_of (p ∷ qs)) q.number e) refl)
    | inr d ↦ inr (rw (test_no (greatest_of (p ∷ qs)) q.number d) h)
  ]
]

module _ (s : Slab Record) (nodes lists : List Pair) (g : Trees) (l : Linked s nodes lists g) where
  pub node_greatest : greatest_of nodes ≡ greatest_node g
  node_greatest =
      let up : greatest_node g ≤ greatest_of nodes = elim (node_there g) [
        | inl z ↦ omega (arith, z)
        | inr h ↦ greatest_bound nodes (greatest_node g) l.rising
            (l.links.indexed (greatest_node g) ∙ present None g (greatest_node g) h)
      ] in
      let down : greatest_of nodes ≤ greatest_node g = elim (greatest_there nodes) [
        | inl z ↦ omega (arith, z)
        | inr h ↦ node_bound g (greatest_of nodes)
            (used (greatest_of nodes) (sym (l.links.indexed (greatest_of nodes)) ∙ h))
      ] in
      omega (arith, up, down)
    where
      used : (m : ℕ) → IsSome (rows_of g m) → 1 ≤ uses m g
      used m h = elim (cases_eq (uses m g) 0) [
        | inl z ↦ absurd (let w = entry_absent None g m z in cc)
        | inr z ↦ omega (arith, z)
      ]

  pub list_greatest : greatest_of lists ≡ greatest_list g
  list_greatest =
      let up : greatest_list g ≤ greatest_of lists = elim (list_there None g l.links.once) [
        | inl z ↦ omega (arith, z)
        | inr h ↦ greatest_bound lists (greatest_list g) l.rising_lists
            (subst (λ a. IsSome (lookup a lists)) h.list
            (rw (l.links.listed h.number h.entry_of h.is) refl))
      ] in
      let down : greatest_of lists ≤ greatest_list g = elim (greatest_there lists) [
        | inl z ↦ omega (arith, z)
        | inr h ↦ by_place (lookup (greatest_of lists) lists) refl h
      ] in
      omega (arith, up, down)
    where
      by_place : (o : Option ℕ) → lookup (greatest_of lists) lists ≡ o → IsSome o
          → greatest_of lists ≤ greatest_list g
      by_place None e h = absurd (cc)
      by_place (Some x) e h = let w = l.links.listed_only (greatest_of lists) x e in
          omega (arith, list_bound None g w.0 w.1 w.2, w.3)

-- room changes no record
read_room : (s : Slab Record) (c f : ℕ) (k : Option ℕ) → read f (record s { capacity = c }) k
    ≡ read f s k
unfolding read
read_room s c zero k = refl
read_room s c (suc f) None = refl
read_room s c (suc f) (Some k) = by_record (get s k)
    (λ o. read_room s c f o)
  where
    by_record : (o : Option Record)
        → ((o : Option ℕ) → read f (record s { capacity = c }) o ≡ read f s o)
        → on_record o (λ r. node r.name r.number (read f (record s { capacity = c }) r.first) r.list
        (read f (record s { capacity = c }) r.next)) ≡ on_record o
        (λ r. node r.name r.number (read f s r.first) r.list (read f s r.next))
    by_record None h = refl
    by_record (Some r) h = rw (h r.first, h r.next) refl

root_room : (s : Slab Record) (c f k : ℕ) → root_of f (record s { capacity = c }) k ≡ root_of f s k
unfolding root_of
root_room s c f k = by_record (get s k)
  where
    by_record : (o : Option Record) → on_record o (λ r. if_root r.parent
        (node r.name r.number (read f (record s { capacity = c }) r.first) r.list none))
        ≡ on_record o (λ r. if_root r.parent (node r.name r.number (read f s r.first) r.list none))
    by_record None = refl
    by_record (Some r) = rw (read_room s c f r.first) refl

roots_room : (s : Slab Record) (c f : ℕ) (key : ℕ → ℕ) (ns : List ℕ)
    → roots_of f (record s { capacity = c }) key ns ≡ roots_of f s key ns
unfolding roots_of
roots_room s c f key [] = refl
roots_room s c f key (n ∷ ns) = rw (root_room s c f (key n), roots_room s c f key ns) refl

pub grove_room : (s s' : Slab Record) (nodes : List Pair) → s' ≡ record s { capacity = s'.capacity }
    → grove_of s' nodes ≡ grove_of s nodes
unfolding grove_of
grove_room s s' nodes e = ap (λ s. grove_of s nodes) e
    ∙ roots_room s s'.capacity (length nodes) (key_in nodes) (numbers nodes)

pub linked_room : (s s' : Slab Record) (nodes lists : List Pair) (g : Trees) → s'
    ≡ record s { capacity = s'.capacity } → Linking s nodes lists g → Linking s' nodes lists g
linked_room s s' nodes lists g e l = subst (λ s. Linking s nodes lists g) (sym e) (record {
  well_formed = l.well_formed;
  once = l.once;
  whole = l.whole;
  sized = l.sized;
  stands = record { apart = l.stands.apart; fits = l.stands.fits };
  indexed = l.indexed;
  listed = l.listed;
  listed_only = l.listed_only;
  records_len = l.records_len;
  lists_len = l.lists_len;
})

pub still_linked : (s s' : Slab Record) (nodes lists : List Pair) (g : Trees)
    → s' ≡ record s { capacity = s'.capacity } → Linked s nodes lists g → Linked s' nodes lists g
still_linked s s' nodes lists g e l = record {
  links = linked_room s s' nodes lists g e l.links;
  rising = l.rising;
  rising_lists = l.rising_lists;
}
