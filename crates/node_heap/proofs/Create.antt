-- One more root.
use Rattle.std.proofs.Common.{◌≡◌, ◌≢◌, ℕ, ◌+◌, ◌<◌, ◌≤◌, cond, eqb, List, [], ◌∷◌, ◌++◌, Option, Some, None, refl, sym, ap, ◌∙◌, inl, inr, arith, subst, length-append}
use Rattle.std.specs.Option.{option_or, option_map, is_some, IsSome, IsSomeAnd, unwrap_or}
use Rattle.std.proofs.lemmas.Bool.{cases_eq}
use Rattle.model_shapes.specs.Trees.{Trees, none, node, WellFormed}
use Rattle.model_heap.specs.Lists.{count, head_of, last_of, after, before}
use Rattle.model_heap.specs.Entries.{Entry, rows_of, uses, kids_of, parent_of, Kin, created}
use Rattle.model_heap.proofs.Moves.{test_yes, test_no, one_here, none_here, entry_absent, entry-beside, uses-beside, or_none}
use Rattle.model_heap.proofs.Kinship.{Kin-rows_of}
use Rattle.model_heap.proofs.Arranged.{size-beside, holes-beside}
use Rattle.slab.specs.Slab.{Slab, get, slab_len, Updates}
use Rattle.node_heap.specs.declared.records.Record.{Record}
use Rattle.node_heap.specs.declared.index.Pair.{Pair}
use Rattle.node_heap.specs.Records.{IsNew}
use Rattle.node_heap.specs.Links.{row, Fits}
use Rattle.node_heap.specs.Indexes.{lookup, key_in, Rising}
use Rattle.node_heap.specs.Heap.{Linking, Linked}
use Rattle.node_heap.proofs.Tests.{before_count, after_count}
use Rattle.node_heap.proofs.Found.{found_at}

pub lookup-append : (qs : List Pair) (q : Pair) (m : ℕ) → lookup m (qs ++ q ∷ [])
    ≡ option_or (lookup m qs) (cond (eqb m q.number) (Some q.key) None)
lookup-append [] q m = refl
lookup-append (p ∷ qs) q m = elim (cases_eq m p.number) [
  | inl e ↦ rw (test_yes m p.number e) refl
  | inr d ↦ rw (test_no m p.number d) (lookup-append qs q m)
]

rising-append : (qs : List Pair) (q : Pair) → Rising qs
    → ((m : ℕ) → IsSome (lookup m qs) → m < q.number) → Rising (qs ++ q ∷ [])
rising-append [] q r h = tt
rising-append (p ∷ []) q r h = (h p.number (rw (test_yes p.number p.number refl) refl), tt)
rising-append (p ∷ x ∷ qs) q r h = (
  r.0,
  rising-append (x ∷ qs) q r.1 (λ m k. elim (cases_eq m p.number) [
    | inl e ↦ h m (rw (test_yes m p.number e) refl)
    | inr d ↦ h m (rw (test_no m p.number d) k)
  ]),
)

map_same : (f g : ℕ → ℕ) (o : Option ℕ) → ((x : ℕ) → o ≡ Some x → f x ≡ g x) → option_map f o
    ≡ option_map g o
map_same f g None h = refl
map_same f g (Some x) h = ap Some (h x refl)

some_kid : (o : Option Entry) (x : ℕ) → 1 ≤ count x (kids_of o) → IsSome o
some_kid None x h = absurd (omega (arith, h))
some_kid (Some e) x h = refl

some_up : (o : Option Entry) (p : ℕ) → parent_of o ≡ Some p → IsSome o
some_up None p h = absurd (cc)
some_up (Some e) p h = refl

none_of : {A : Type 0} (o : Option A) → (IsSome o → ⊥) → o ≡ None
none_of None h = refl
none_of (Some x) h = absurd (h refl)

module _ (s s' : Slab Record) (nodes lists : List Pair) (g : Trees) (l : Linking s nodes lists g)
    (n a k : ℕ) (t : List ℕ) (r : Record) (fresh : uses n g ≡ 0)
    (other_list : (m : ℕ) (e : Entry) → rows_of g m ≡ Some e → e.list ≢ a) (vacant : get s k ≡ None)
    (updates : Updates s s' k (Some r)) where
  there : (m : ℕ) → IsSome (rows_of g m) → m ≢ n
  there m h e = by_entry (rows_of g m) refl h
    where
      by_entry : (o : Option Entry) → rows_of g m ≡ o → IsSome o → ⊥
      by_entry None x i = cc
      by_entry (Some w) x i = let z : rows_of g m ≡ None = entry_absent None g m
          (subst (λ m. uses m g ≡ 0) (sym e) fresh) in cc

  rows_old : (m : ℕ) → m ≢ n → rows_of (created t n a g) m ≡ rows_of g m
  rows_old m d = entry-beside None g (node t n none a none) m
      ∙ rw (test_no m n d) (or_none (rows_of g m))

  rows_new : rows_of (created t n a g) n ≡ Some
      (record { name = t; list = a; parent = None; kids = [] })
  rows_new = entry-beside None g (node t n none a none) n
      ∙ rw (entry_absent None g n fresh, test_yes n n refl) refl

  index : List Pair
  index = nodes ++ record { number = n; key = k } ∷ []

  key_old : (m : ℕ) → m ≢ n → key_in (nodes ++ record { number = n; key = k } ∷ []) m
      ≡ key_in nodes m
  key_old m d = rw (lookup-append nodes (record { number = n; key = k }) m, test_no m n d)
      (ap (λ o. unwrap_or o 0) (or_none (lookup m nodes)))

  not_listed : lookup n nodes ≡ None
  not_listed = none_of (lookup n nodes) (λ h. there n (sym (l.indexed n) ∙ h) refl)

  key_new : key_in (nodes ++ record { number = n; key = k } ∷ []) n ≡ k
  key_new = rw (
    lookup-append nodes (record { number = n; key = k }) n,
    not_listed,
    test_yes n n refl,
  ) refl

  key_apart : (m : ℕ) → IsSome (rows_of g m) → key_in nodes m ≢ k
  key_apart m h e = by_entry (rows_of g m) refl h
    where
      by_entry : (o : Option Entry) → rows_of g m ≡ o → IsSome o → ⊥
      by_entry None x i = cc
      by_entry (Some w) x i =
          let f = found_at s nodes lists g l m k w x (sym e) in
          let z : Some f.it ≡ None = sym f.at ∙ vacant in
          cc

  old_fits : (m : ℕ) (e : Entry) (q : Record) → rows_of g m ≡ Some e
      → Fits (key_in nodes) (rows_of g) m e q → Fits
      (key_in (nodes ++ record { number = n; key = k } ∷ [])) (rows_of (created t n a g)) m e q
  old_fits m e q is f = record {
    number = f.number;
    name = f.name;
    list = f.list;
    parent = f.parent ∙ keys e.parent (λ x h. parent_there x h);
    previous = f.previous ∙ keys (before m (row (rows_of g) e.parent))
        (λ x h. row_there e.parent x (before_count m x (row (rows_of g) e.parent) h))
        ∙ ap (λ xs. option_map (key_in (nodes ++ record { number = n; key = k } ∷ []))
        (before m xs)) (sym (row_same e.parent (λ x h. parent_there x h)));
    next = f.next ∙ keys (after m (row (rows_of g) e.parent))
        (λ x h. row_there e.parent x (after_count m x (row (rows_of g) e.parent) h))
        ∙ ap (λ xs. option_map (key_in (nodes ++ record { number = n; key = k } ∷ [])) (after m xs))
        (sym (row_same e.parent (λ x h. parent_there x h)));
    first = f.first ∙ keys (head_of e.kids) (λ x h. kid_there x (head_counts x e.kids h));
    last = f.last ∙ keys (last_of e.kids) (λ x h. kid_there x (last_counts x e.kids h));
  }
    where
      keys : (o : Option ℕ) → ((x : ℕ) → o ≡ Some x → IsSome (rows_of g x))
          → option_map (key_in nodes) o ≡ option_map
          (key_in (nodes ++ record { number = n; key = k } ∷ [])) o
      keys o h = map_same (key_in nodes) (key_in (nodes ++ record { number = n; key = k } ∷ [])) o
          (λ x y. sym (key_old x (there x (h x y))))

      kin : Kin (rows_of g)
      kin = Kin-rows_of g l.once

      parent_there : (x : ℕ) → e.parent ≡ Some x → IsSome (rows_of g x)
      parent_there x h = some_kid (rows_of g x) m (kin.down x m (ap parent_of is ∙ h))

      row_there : (o : Option ℕ) (x : ℕ) → 1 ≤ count x (row (rows_of g) o) → IsSome (rows_of g x)
      row_there None x h = absurd (omega (arith, h))
      row_there (Some p) x h = some_up (rows_of g x) p (kin.up p x h)

      row_same : (o : Option ℕ) → ((x : ℕ) → o ≡ Some x → IsSome (rows_of g x))
          → row (rows_of (created t n a g)) o ≡ row (rows_of g) o
      row_same None h = refl
      row_same (Some p) h = ap kids_of (rows_old p (there p (h p refl)))

      kid_there : (x : ℕ) → 1 ≤ count x e.kids → IsSome (rows_of g x)
      kid_there x h = some_up (rows_of g x) m (kin.up m x
          (subst (λ o. 1 ≤ count x (kids_of o)) (sym is) h))

      head_counts : (x : ℕ) (xs : List ℕ) → head_of xs ≡ Some x → 1 ≤ count x xs
      head_counts x [] h = absurd (cc)
      head_counts x (y ∷ ys) h = let w : y ≡ x = cc in omega (arith, one_here x y (sym w))

      last_counts : (x : ℕ) (xs : List ℕ) → last_of xs ≡ Some x → 1 ≤ count x xs
      last_counts x [] h = absurd (cc)
      last_counts x (y ∷ []) h = let w : y ≡ x = cc in omega (arith, one_here x y (sym w))
      last_counts x (y ∷ z ∷ zs) h = omega (arith, last_counts x (z ∷ zs) h)

  old_stands : (m : ℕ) (e : Entry) → m ≢ n → rows_of g m ≡ Some e
      → IsSomeAnd (get s' (key_in (nodes ++ record { number = n; key = k } ∷ []) m))
      (Fits (key_in (nodes ++ record { number = n; key = k } ∷ [])) (rows_of (created t n a g)) m e)
  old_stands m e d is =
      let f = found_at s nodes lists g l m (key_in nodes m) e is refl in
      let same : f.entry ≡ e = let z = f.is in let y : Some f.entry ≡ Some e = sym z ∙ is in
      ap some_entry y in
      let at : get s' (key_in nodes m) ≡ Some f.it = updates.others (key_in nodes m)
      (key_apart m (subst IsSome (sym is) refl)) ∙ f.at in
      rw (key_old m d, at) (old_fits m e f.it is
      (subst (λ e. Fits (key_in nodes) (rows_of g) m e f.it) same f.fits))
    where
      some_entry : Option Entry → Entry
      some_entry None = e
      some_entry (Some x) = x

  new_stands : IsNew n a t r → (e : Entry) → rows_of (created t n a g) n ≡ Some e
      → IsSomeAnd (get s' (key_in (nodes ++ record { number = n; key = k } ∷ []) n))
      (Fits (key_in (nodes ++ record { number = n; key = k } ∷ [])) (rows_of (created t n a g)) n e)
  new_stands new e is =
      rw (key_new, updates.changed) (subst (λ e. Fits
      (key_in (nodes ++ record { number = n; key = k } ∷ [])) (rows_of (created t n a g)) n e r)
      (ap some_entry (sym rows_new ∙ is)) (record {
        number = new.number;
        name = new.name;
        list = new.list;
        parent = new.parent;
        previous = new.previous;
        next = new.next;
        first = new.first;
        last = new.last;
      }))
    where
      some_entry : Option Entry → Entry
      some_entry None = e
      some_entry (Some x) = x

  was : (m : ℕ) → m ≢ n → IsSome (rows_of (created t n a g) m) → IsSome (rows_of g m)
  was m d h = subst IsSome (rows_old m d) h

  no_list : lookup a lists ≡ None
  no_list = none_of (lookup a lists) (λ h. by_place (lookup a lists) refl h)
    where
      by_place : (o : Option ℕ) → lookup a lists ≡ o → IsSome o → ⊥
      by_place None e h = cc
      by_place (Some x) e h = let w = l.listed_only a x e in other_list w.0 w.1 w.2 w.3

  keys_apart : (m p : ℕ) → IsSome (rows_of (created t n a g) m)
      → IsSome (rows_of (created t n a g) p) → key_in (nodes ++ record { number = n; key = k } ∷ [])
      m ≡ key_in (nodes ++ record { number = n; key = k } ∷ []) p → m ≡ p
  keys_apart m p hm hp e = elim (cases_eq m n) [
    | inl x ↦ elim (cases_eq p n) [
      | inl y ↦ x ∙ sym y
      | inr y ↦ absurd (key_apart p (was p y hp)
          (sym (key_old p y) ∙ sym e ∙ ap (key_in (nodes ++ record { number = n; key = k } ∷ [])) x
          ∙ key_new))
    ]
    | inr x ↦ elim (cases_eq p n) [
      | inl y ↦ absurd (key_apart m (was m x hm)
          (sym (key_old m x) ∙ e ∙ ap (key_in (nodes ++ record { number = n; key = k } ∷ [])) y
          ∙ key_new))
      | inr y ↦ l.stands.apart m p (was m x hm) (was p y hp) (sym (key_old m x) ∙ e ∙ key_old p y)
    ]
  ]

  pub linking_created : WellFormed (created t n a g) → IsNew n a t r → slab_len s' ≡ slab_len s + 1
      → Linking s' (nodes ++ record { number = n; key = k } ∷ [])
      (lists ++ record { number = a; key = k } ∷ []) (created t n a g)
  linking_created well new len = record {
    well_formed = well;
    once = λ m. omega (arith, uses-beside m g (node t n none a none), l.once m, one_use m);
    whole = omega (arith, holes-beside g (node t n none a none), l.whole);
    sized = omega (
      arith,
      size-beside g (node t n none a none),
      l.sized,
      length-append nodes (record { number = n; key = k } ∷ []),
    );
    stands = record {
      apart = keys_apart;
      fits = λ m e h. elim (cases_eq m n) [
        | inl x ↦ subst (λ m. IsSomeAnd (get s' (key_in
            (nodes ++ record { number = n; key = k } ∷ []) m))
            (Fits (key_in (nodes ++ record { number = n; key = k } ∷ []))
            (rows_of (created t n a g)) m e)) (sym x)
            (new_stands new e (subst (λ m. rows_of (created t n a g) m ≡ Some e) x h))
        | inr x ↦ old_stands m e x (sym (rows_old m x) ∙ h)
      ];
    };
    indexed = λ m. elim (cases_eq m n) [
      | inl x ↦ subst (λ m. is_some (lookup m (nodes ++ record { number = n; key = k } ∷ []))
          ≡ is_some (rows_of (created t n a g) m)) (sym x)
          (rw (
            lookup-append nodes (record { number = n; key = k }) n,
            not_listed,
            test_yes n n refl,
            rows_new,
          ) refl)
      | inr x ↦ rw (
        lookup-append nodes (record { number = n; key = k }) m,
        test_no m n x,
        or_none (lookup m nodes),
        rows_old m x,
      ) (l.indexed m)
    ];
    listed = λ m e h. elim (cases_eq m n) [
      | inl x ↦
          let y : rows_of (created t n a g) n ≡ Some e = subst
          (λ m. rows_of (created t n a g) m ≡ Some e) x h in
          let z : e.list ≡ a = list_of e (sym y ∙ rows_new) in
          rw (z, lookup-append lists (record { number = a; key = k }) a, no_list, test_yes a a refl)
          (ap Some (sym (ap (key_in (nodes ++ record { number = n; key = k } ∷ [])) x
          ∙ key_new)))
      | inr x ↦ rw (
        lookup-append lists (record { number = a; key = k }) e.list,
        l.listed m e (sym (rows_old m x) ∙ h),
      ) (ap Some (sym (key_old m x)))
    ];
    listed_only = λ b k' h. only b k' (lookup b lists) refl
        (sym (lookup-append lists (record { number = a; key = k }) b) ∙ h);
    records_len = omega (
      arith,
      len,
      l.records_len,
      length-append nodes
          (record { number = n; key = k } ∷ []),
    );
    lists_len = omega (
      arith,
      l.lists_len,
      length-append nodes
          (record { number = n; key = k } ∷ []),
      length-append lists
          (record { number = a; key = k } ∷ []),
    );
  }
    where
      one_use : (m : ℕ) → uses m g + uses m (node t n none a none) ≤ 1
      one_use m = elim (cases_eq m n) [
        | inl x ↦ omega (arith, one_here m n x, subst (λ m. uses m g ≡ 0) (sym x) fresh)
        | inr x ↦ omega (arith, none_here m n x, l.once m)
      ]

      list_of : (e : Entry) → Some e ≡ Some (record {
        name = t;
        list = a;
        parent = None;
        kids =
            [];
      }) → e.list ≡ a
      list_of e h = ap pick h
        where
          pick : Option Entry → ℕ
          pick None = 0
          pick (Some x) = x.list

      only : (b k' : ℕ) (o : Option ℕ) → lookup b lists ≡ o
          → option_or (lookup b lists) (cond (eqb b a) (Some k) None) ≡ Some k' → (m : ℕ)
          × (e : Entry) × (rows_of (created t n a g) m ≡ Some e) × (e.list ≡ b)
          × (key_in (nodes ++ record { number = n; key = k } ∷ []) m ≡ k')
      only b k' (Some x) e h =
          let w = l.listed_only b x e in
          let y : x ≡ k' = let z : option_or (Some x) (cond (eqb b a) (Some k) None) ≡ Some k' =
          rw e at h in cc in
          let d : w.0 ≢ n = there w.0 (subst IsSome (sym w.2) refl) in
          (w.0, w.1, rows_old w.0 d ∙ w.2, w.3, key_old w.0 d ∙ w.4 ∙ y)
      only b k' None e h = elim (cases_eq b a) [
        | inl x ↦
            let z : Some k ≡ Some k' = rw (e, test_yes b a x) at h in (
              n,
              record { name = t; list = a; parent = None; kids = [] },
              rows_new,
              sym x,
              key_new
                  ∙ (let y : k ≡ k' = cc in y),
            )
        | inr x ↦ absurd (let z : None ≡ Some k' = rw (e, test_no b a x) at h in cc)
      ]

used : (g : Trees) (m : ℕ) → IsSome (rows_of g m) → 1 ≤ uses m g
used g m h = elim (cases_eq (uses m g) 0) [
  | inl z ↦ absurd (let w = entry_absent None g m z in cc)
  | inr z ↦ omega (arith, z)
]

-- with both numbers above all others the indexes rise
pub linked_created : (s s' : Slab Record) (nodes lists : List Pair) (g : Trees)
    → Linked s nodes lists g → (n a k : ℕ) (t : List ℕ) (r : Record)
    → ((m : ℕ) → 1 ≤ uses m g → m < n)
    → ((m : ℕ) (e : Entry) → rows_of g m ≡ Some e → e.list < a)
    → get s k ≡ None → Updates s s' k (Some r) → WellFormed (created t n a g) → IsNew n a t r
    → slab_len s' ≡ slab_len s + 1
    → Linked s' (nodes ++ record { number = n; key = k } ∷ [])
    (lists ++ record { number = a; key = k } ∷ []) (created t n a g)
linked_created s s' nodes lists g l n a k t r above above_list vacant updates well new len =
    record {
      links =
          linking_created s s' nodes lists g l.links n a k t r fresh
          (λ m e h x. absurd (omega (arith, above_list m e h, x))) vacant updates well new len;
      rising =
          rising-append nodes (record { number = n; key = k }) l.rising
          (λ m h. above m (used g m (sym (l.links.indexed m) ∙ h)));
      rising_lists =
          rising-append lists (record { number = a; key = k }) l.rising_lists below_list;
    }
  where
    fresh : uses n g ≡ 0
    fresh = elim (cases_eq (uses n g) 0) [
      | inl z ↦ z
      | inr z ↦ absurd (omega (arith, z, above n (omega (arith, z))))
    ]

    below_list : (m : ℕ) → IsSome (lookup m lists) → m < a
    below_list m h = by_place (lookup m lists) refl h
      where
        by_place : (o : Option ℕ) → lookup m lists ≡ o → IsSome o → m < a
        by_place None e h = absurd (cc)
        by_place (Some x) e h =
            let w = l.links.listed_only m x e in
            omega (arith, above_list w.0 w.1 w.2, w.3)
