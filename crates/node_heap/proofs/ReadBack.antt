-- The grove is read back from its links.
use Rattle.std.proofs.Common.{◌≡◌, ◌≢◌, ℕ, zero, suc, ◌≤◌, List, [], ◌∷◌, ◌++◌, Option, Some, None, refl, sym, ap, ◌∙◌, inl, inr, arith, subst, append_assoc}
use Rattle.std.specs.Option.{option_map, IsSome, IsSomeAnd}
use Rattle.std.proofs.lemmas.Bool.{cases_eq}
use Rattle.model_groves.specs.Sizes.{size}
use Rattle.model_shapes.specs.Trees.{Trees, none, node, hole}
use Rattle.model_shapes.specs.Shapes.{holes}
use Rattle.model_heap.specs.Lists.{count, head_of, after}
use Rattle.model_heap.specs.Entries.{Entry, Rows, rows_of, roots, uses, entry, kids_of, parent_of, Kin}
use Rattle.model_heap.specs.Roots.{root_at, arranged}
use Rattle.model_heap.proofs.Moves.{test_yes, test_no, one_here, none_here, entry_absent}
use Rattle.model_heap.proofs.Neighbours.{after-here, count-append}
use Rattle.model_heap.proofs.Kinship.{Kin-rows_of, roots_use, present}
use Rattle.model_heap.proofs.Kinship as kinship
use Rattle.slab.specs.Slab.{Slab, get}
use Rattle.node_heap.specs.declared.records.Record.{Record}
use Rattle.node_heap.specs.Links.{Fits, Stands}
use Rattle.node_heap.specs.Heap.{on_record, if_root, read, root_of, roots_of}

on_some : (o : Option Record) (P : Record → Type 0) (f : Record → Trees) (t : Trees) → IsSomeAnd o P
    → ((r : Record) → P r → f r ≡ t) → on_record o f ≡ t
on_some None P f t h k = absurd (h)
on_some (Some r) P f t h k = k r h

read_none : (f : ℕ) (s : Slab Record) → read f s None ≡ none
unfolding read
read_none zero s = refl
read_none (suc f) s = refl

-- the entries of a part are those of the whole
abbrev pub Agrees : Option ℕ → Trees → Rows → Type 0
Agrees q r rows = (m : ℕ) (e : Entry) → entry q r m ≡ Some e → rows m ≡ Some e

module _ (rows : Rows) where
  pub part_kids : (q : Option ℕ) (t : List ℕ) (i : ℕ) (kids : Trees) (l : ℕ) (rest : Trees)
      → ((m : ℕ) → uses m (node t i kids l rest) ≤ 1) → Agrees q (node t i kids l rest) rows
      → Agrees (Some i) kids rows
  part_kids q t i kids l rest u g m e h = elim (cases_eq m i) [
    | inl f ↦ absurd (let z = entry_absent (Some i) kids m (omega (arith, u m, one_here m i f)) in
        cc)
    | inr f ↦ g m e (rw (test_no m i f, h) refl)
  ]

  pub part_rest : (q : Option ℕ) (t : List ℕ) (i : ℕ) (kids : Trees) (l : ℕ) (rest : Trees)
      → ((m : ℕ) → uses m (node t i kids l rest) ≤ 1) → Agrees q (node t i kids l rest) rows
      → Agrees q rest rows
  part_rest q t i kids l rest u g m e h = elim (cases_eq (uses m rest) 0) [
    | inl z ↦ absurd (let x = entry_absent q rest m z in cc)
    | inr z ↦
        let f : m ≢ i = λ w. absurd (omega (arith, u m, z, one_here m i w)) in
        let k : uses m kids ≡ 0 = omega (arith, u m, z) in
        g m e (rw (test_no m i f, entry_absent (Some i) kids m k) h)
  ]

  pub part_here : (q : Option ℕ) (t : List ℕ) (i : ℕ) (kids : Trees) (l : ℕ) (rest : Trees)
      → Agrees q (node t i kids l rest) rows → rows i ≡ Some
      (record { name = t; list = l; parent = q; kids = roots kids })
  part_here q t i kids l rest g = g i (record { name = t; list = l; parent = q; kids = roots kids })
      (rw (test_yes i i refl) refl)

module _ (key : ℕ → ℕ) (rows : Rows) (s : Slab Record) (stands : Stands key rows s)
    (kin : Kin rows) where
  pub read_row : (f : ℕ) (p : ℕ) (pre : List ℕ) (r : Trees) → size r ≤ f → holes r ≡ 0
      → ((m : ℕ) → uses m r ≤ 1) → Agrees (Some p) r rows → kids_of (rows p) ≡ pre ++ roots r
      → read f s (option_map key (head_of (roots r))) ≡ r
  unfolding read
  read_row f p pre none z w u g k = read_none f s
  read_row zero p pre (node t i kids l rest) z w u g k = absurd (omega (arith, z))
  read_row (suc f) p pre (node t i kids l rest) z w u g k =
      let here = part_here rows (Some p) t i kids l rest g in
      let e : Entry = record { name = t; list = l; parent = Some p; kids = roots kids } in
      let fewer : count i pre ≡ 0 = omega (
        arith,
        kin.once p i,
        ap (count i) k,
        count-append i pre (i ∷ roots rest),
        one_here i i refl,
      ) in
      let next : after i (kids_of (rows p)) ≡ head_of (roots rest) = ap (after i) k
      ∙ after-here i pre (roots rest) fewer in
      let deep = read_row f i [] kids (omega (arith, z)) (omega (arith, w))
      (λ m. omega (arith, u m)) (part_kids rows (Some p) t i kids l rest u g)
      (ap kids_of here) in
      let wide = read_row f p (pre ++ i ∷ []) rest (omega (arith, z)) (omega (arith, w))
      (λ m. omega (arith, u m)) (part_rest rows (Some p) t i kids l rest u g)
      (k ∙ sym (append_assoc pre (i ∷ []) (roots rest))) in
      on_some (get s (key i)) (Fits key rows i e)
      (λ r. node r.name r.number (read f s r.first) r.list (read f s r.next))
      (node t i kids l rest) (stands.fits i e here)
      (λ r x. rw (x.name, x.number, x.list, x.first, x.next, next, deep, wide) refl)
  read_row f p pre (hole rest) z w u g k = absurd (omega (arith, w))

  pub root_here : (f n : ℕ) (r : Trees) → size r ≤ f → holes r ≡ 0 → ((m : ℕ) → uses m r ≤ 1)
      → Agrees None r rows → 1 ≤ count n (roots r) → root_of f s (key n) ≡ root_at n r
  unfolding root_of
  root_here f n none z w u g h = absurd (omega (arith, h))
  root_here f n (node t i kids l rest) z w u g h =
      let here = part_here rows None t i kids l rest g in
      let e : Entry = record { name = t; list = l; parent = None; kids = roots kids } in
      let deep = read_row f i [] kids (omega (arith, z)) (omega (arith, w))
      (λ m. omega (arith, u m)) (part_kids rows None t i kids l rest u g) (ap kids_of here) in
      let at_i = on_some (get s (key i)) (Fits key rows i e)
      (λ r. if_root r.parent (node r.name r.number (read f s r.first) r.list none))
      (node t i kids l none) (stands.fits i e here)
      (λ r x. rw (x.parent, x.name, x.number, x.list, x.first, deep) refl) in
      elim (cases_eq n i) [
        | inl a ↦ rw (test_yes n i a) (subst (λ n. on_record (get s (key n))
            (λ r. if_root r.parent (node r.name r.number (read f s r.first) r.list none))
            ≡ node t i kids l none) (sym a) at_i)
        | inr a ↦ rw (test_no n i a) (root_here f n rest (omega (arith, z)) (omega (arith, w))
            (λ m. omega (arith, u m)) (part_rest rows None t i kids l rest u g)
            (omega (arith, h, none_here n i a)))
      ]
  root_here f n (hole rest) z w u g h = absurd (omega (arith, w))

  pub not_root : (f n : ℕ) (e : Entry) (p : ℕ) → rows n ≡ Some e → e.parent ≡ Some p
      → root_of f s (key n) ≡ none
  unfolding root_of
  not_root f n e p h k = on_some (get s (key n)) (Fits key rows n e)
      (λ r. if_root r.parent (node r.name r.number (read f s r.first) r.list none)) none
      (stands.fits n e h) (λ r x. rw (x.parent, k) refl)

pub no_root_at : (n : ℕ) (r : Trees) → count n (roots r) ≡ 0 → root_at n r ≡ none
no_root_at n none h = refl
no_root_at n (node t i kids l rest) h = elim (cases_eq n i) [
  | inl e ↦ absurd (omega (arith, h, one_here n i e))
  | inr d ↦
      rw (test_no n i d) (no_root_at n rest (omega (arith, h)))
]
no_root_at n (hole rest) h = no_root_at n rest h

pub one_root : (f : ℕ) (key : ℕ → ℕ) (s : Slab Record) (g : Trees) → size g ≤ f → holes g ≡ 0
    → ((m : ℕ) → uses m g ≤ 1) → Stands key (rows_of g) s → (n : ℕ) → IsSome (rows_of g n)
    → root_of f s (key n) ≡ root_at n g
one_root f key s g z w u st n h = elim (cases_eq (count n (roots g)) 0) [
  | inr c ↦ root_here key (rows_of g) s st (Kin-rows_of g u) f n g z w u (λ m e x. x)
      (omega (arith, c))
  | inl c ↦ rw (no_root_at n g c) (inner (rows_of g n) refl h c)
]
  where
    there : (o : Option Entry) → rows_of g n ≡ o → IsSome o → uses n g ≡ 1
    there None e i = absurd (cc)
    there (Some x) e i = elim (cases_eq (uses n g) 0)
        [ inl y ↦ absurd (let a = entry_absent None g n y in cc) | inr y ↦ omega (arith, u n, y) ]

    inner : (o : Option Entry) → rows_of g n ≡ o → IsSome o → count n (roots g) ≡ 0
        → root_of f s (key n) ≡ none
    inner None e i c = absurd (cc)
    inner (Some x) e i c = above x.parent x e refl c
      where
        above : (q : Option ℕ) (x : Entry) → rows_of g n ≡ Some x → x.parent ≡ q → count n (roots g)
            ≡ 0 → root_of f s (key n) ≡ none
        above None x e p c =
            let r : parent_of (rows_of g n) ≡ None = ap parent_of e ∙ p in
            absurd (omega (arith, c, kinship.root_of None g n (there (Some x) e refl) r))
        above (Some q) x e p c = not_root key (rows_of g) s st (Kin-rows_of g u) f n x q e p

pub all_roots : (f : ℕ) (key : ℕ → ℕ) (s : Slab Record) (g : Trees) → size g ≤ f → holes g ≡ 0
    → ((m : ℕ) → uses m g ≤ 1) → Stands key (rows_of g) s → (ns : List ℕ)
    → ((n : ℕ) → 1 ≤ count n ns → IsSome (rows_of g n)) → roots_of f s key ns ≡ arranged g ns
unfolding roots_of
all_roots f key s g z w u st [] h = refl
all_roots f key s g z w u st (n ∷ ns) h =
    rw (
      one_root f key s g z w u st n (h n (omega (arith, one_here n n refl))),
      all_roots f key s g z w u st ns (λ m k. h m (omega (arith, k))),
    ) refl
