-- What the moves of records do to the grove.
use Rattle.std.proofs.Common.{◌≡◌, ◌≢◌, ℕ, ◌+◌, ◌≤◌, Bool, true, cond, eqb, List, [], ◌∷◌, ◌++◌, Option, Some, None, refl, sym, ap, ◌∙◌, inl, inr, arith, subst, append-nil}
use Rattle.std.specs.Option.{option_map, is_some, IsSome, MatchOption}
use Rattle.std.proofs.lemmas.Bool.{cases_eq}
use Rattle.model_groves.specs.Sizes.{size}
use Rattle.model_shapes.specs.Trees.{Trees, WellFormed}
use Rattle.model_shapes.specs.Shapes.{holes}
use Rattle.model_heap.specs.Lists.{count, head_of, last_of, after, before}
use Rattle.model_heap.specs.Entries.{Entry, Rows, rows_of, uses, tree_at, all_but, removed, appended, inserted, insert_in, kids_of, parent_of, Kin, depth, detached, attached_by, below, less_kid, kids_by}
use Rattle.model_heap.proofs.Moves.{test_yes, test_no, one_here, rows-removed, rows-appended, uses-split}
use Rattle.model_heap.proofs.Neighbours.{split, after-here, before-here, count-append, Split}
use Rattle.model_heap.proofs.Kinship.{Kin-rows_of, removed_once, appended_once, depth_kid}
use Rattle.model_heap.proofs.Arranged.{size-split, size-beside, holes-tree, holes-all_but, holes-beside, holes-adopt, size-adopt}
use Rattle.model_heap.proofs.Kinship.{kids_use, tree_step}
use Rattle.model_heap.proofs.Inserts.{rows-inserted, inserted_uses, size-insert, holes-insert, insert_split}
use Rattle.slab.specs.Slab.{Slab, slab_len}
use Rattle.node_heap.specs.declared.records.Record.{Record}
use Rattle.node_heap.specs.declared.index.Pair.{Pair}
use Rattle.node_heap.specs.Records.{Becomes, linked, TakesOut, PutsLast, PutsBefore}
use Rattle.node_heap.specs.Links.{row, Stands}
use Rattle.node_heap.specs.Indexes.{lookup, key_in}
use Rattle.node_heap.specs.Heap.{Linking}
use Rattle.node_heap.proofs.Moved.{stands_moved}
use Rattle.node_heap.proofs.Moves.{detach_moved, attach_moved, drop_none}
use Rattle.node_heap.proofs.Whole.{pointwise, linked_same}
use Rattle.node_heap.proofs.Found.{Found}
use Rattle.node_heap.proofs.WellFormed.{removed_well}

stands_along : (key : ℕ → ℕ) (a b : Rows) (s : Slab Record) → ((n : ℕ) → b n ≡ a n) → Stands key a s
    → Stands key b s
stands_along key a b s h x = subst (λ r. Stands key r s) (sym (pointwise b a h)) x

-- the invariant after the records moved: what the indexes say stays
pub linked_moved : (s s' : Slab Record) (nodes lists : List Pair) (g h : Trees)
    → Linking s nodes lists g → ((n : ℕ) → uses n h ≡ uses n g) → holes h ≡ 0 → size h ≡ size g
    → ((n : ℕ) → option_map (λ e. e.list) (rows_of h n) ≡ option_map (λ e. e.list) (rows_of g n))
    → Stands (key_in nodes) (rows_of h) s' → slab_len s' ≡ slab_len s → WellFormed h
    → Linking s' nodes lists h
linked_moved s s' nodes lists g h l same_uses same_holes same_size same_lists stands len well =
    record {
      well_formed = well;
      once = λ n. omega (arith, same_uses n, l.once n);
      whole = same_holes;
      sized = same_size ∙ l.sized;
      stands = stands;
      indexed = λ n. l.indexed n ∙ both (rows_of g n) (rows_of h n) (same_lists n);
      listed = λ n e x. over n e (rows_of g n) refl
          (sym (same_lists n) ∙ ap (option_map (λ e. e.list)) x);
      listed_only = λ a k x. let w = l.listed_only a k x in
          back a k w.0 w.1 w.2 w.3 w.4 (rows_of h w.0) refl;
      records_len = len ∙ l.records_len;
      lists_len = l.lists_len;
    }
  where
    both : (a b : Option Entry) → option_map (λ e. e.list) b ≡ option_map (λ e. e.list) a
        → is_some a ≡ is_some b
    both None None e = refl
    both None (Some y) e = absurd (cc)
    both (Some x) None e = absurd (cc)
    both (Some x) (Some y) e = refl

    over : (n : ℕ) (e : Entry) (o : Option Entry) → rows_of g n ≡ o
        → option_map (λ e. e.list) (rows_of g n) ≡ Some e.list → lookup e.list lists
        ≡ Some (key_in nodes n)
    over n e None x y = absurd (let z = ap (option_map (λ e. e.list)) x in cc)
    over n e (Some w) x y =
        let z : w.list ≡ e.list = let z0 = ap (option_map (λ e. e.list)) x in cc in
        subst (λ a. lookup a lists ≡ Some (key_in nodes n)) z (l.listed n w x)

    back : (a k n : ℕ) (e : Entry) → rows_of g n ≡ Some e → e.list ≡ a → key_in nodes n ≡ k
        → (o : Option Entry) → rows_of h n ≡ o → (n : ℕ) × (e : Entry) × (rows_of h n ≡ Some e)
        × (e.list ≡ a) × (key_in nodes n ≡ k)
    back a k n e x y z None w = absurd (let q = same_lists n in let q1 =
        ap (option_map (λ e. e.list)) x in let q2 = ap (option_map (λ e. e.list)) w in cc)
    back a k n e x y z (Some v) w =
        let q : v.list ≡ e.list = let q0 = same_lists n in let q1 =
        ap (option_map (λ e. e.list)) x in let q2 = ap (option_map (λ e. e.list)) w in cc in
        (n, v, w, q ∙ y, z)

detached_lists : (c : ℕ) (rows : Rows) (n : ℕ) → option_map (λ e. e.list) (detached c rows n)
    ≡ option_map (λ e. e.list) (rows n)
detached_lists c rows n = elim (cases_eq n c) [
  | inl e ↦ rw (test_yes n c e) (down (rows n))
  | inr d ↦ rw (test_no n c d) (less (rows n))
]
  where
    down : (o : Option Entry) → option_map (λ e. e.list) (option_map (below None) o)
        ≡ option_map (λ e. e.list) o
    down None = refl
    down (Some e) = refl

    less : (o : Option Entry) → option_map (λ e. e.list) (option_map (less_kid c) o)
        ≡ option_map (λ e. e.list) o
    less None = refl
    less (Some e) = refl

attached_lists : (f : List ℕ → List ℕ) (p c : ℕ) (rows : Rows) (n : ℕ)
    → option_map (λ e. e.list) (attached_by f p c rows n) ≡ option_map (λ e. e.list) (rows n)
attached_lists f p c rows n = elim (cases_eq n c) [
  | inl e ↦ rw (test_yes n c e) (down (rows n))
  | inr d ↦ rw (test_no n c d) (more (eqb n p) (rows n))
]
  where
    down : (o : Option Entry) → option_map (λ e. e.list) (option_map (below (Some p)) o)
        ≡ option_map (λ e. e.list) o
    down None = refl
    down (Some e) = refl

    more : (b : Bool) (o : Option Entry) → option_map (λ e. e.list) (option_map (kids_by b f) o)
        ≡ option_map (λ e. e.list) o
    more b None = refl
    more b (Some e) = refl

pub removed_size : (c : ℕ) (g : Trees) → uses c g ≤ 1 → size (removed c g) ≡ size g
removed_size c g u = omega (arith, size-beside (all_but c g) (tree_at c g), size-split c g u)

pub removed_holes : (c : ℕ) (g : Trees) → holes g ≡ 0 → holes (removed c g) ≡ 0
removed_holes c g h = omega (
  arith,
  holes-beside (all_but c g) (tree_at c g),
  holes-tree c g h,
  holes-all_but c g h,
)

-- no number is its own parent
pub not_own : (g : Trees) (p c : ℕ) → ((n : ℕ) → uses n g ≤ 1) → parent_of (rows_of g c) ≡ Some p
    → p ≢ c
not_own g p c once up e =
    let kin = Kin-rows_of g once in
    let d = depth_kid None g p c (once p) (once c) (kin.down p c up) in
    let f : depth p g ≡ depth c g = ap (λ n. depth n g) e in
    omega (arith, d, f)

-- a root that is taken out stays
detached_root : (c : ℕ) (rows : Rows) → Kin rows → parent_of (rows c) ≡ None → (n : ℕ)
    → detached c rows n ≡ rows n
detached_root c rows kin up n = elim (cases_eq n c) [
  | inl e ↦ rw (test_yes n c e) (down (rows n) (ap (λ n. parent_of (rows n)) e ∙ up))
  | inr d ↦ rw (test_no n c d) (less (rows n) none_of)
]
  where
    down : (o : Option Entry) → parent_of o ≡ None → option_map (below None) o ≡ o
    down None h = refl
    down (Some e) h = ap (λ q. Some (record e { parent = q })) (sym h)

    less : (o : Option Entry) → count c (kids_of o) ≡ 0 → option_map (less_kid c) o ≡ o
    less None h = refl
    less (Some e) h = ap (λ k. Some (record e { kids = k })) (drop_none c e.kids h)

    none_of : count c (kids_of (rows n)) ≡ 0
    none_of = elim (cases_eq (count c (kids_of (rows n))) 0) [
      | inl z ↦ z
      | inr z ↦ absurd (let u = kin.up n c (omega (arith, z)) in cc)
    ]

-- AFTER A REMOVAL the heap stands for the grove with the tree among the roots
pub takes_out : (s s' : Slab Record) (nodes lists : List Pair) (g : Trees) (c k : ℕ)
    → Linking s nodes lists g → (f : Found s nodes g c k) → TakesOut s s' k f.it → slab_len s'
    ≡ slab_len s → Linking s' nodes lists (removed c g)
takes_out s s' nodes lists g c k l f t len = by_parent f.entry.parent refl
  where
    kin : Kin (rows_of g)
    kin = Kin-rows_of g l.once

    at_parent : (q : Option ℕ) → f.it.parent ≡ q → MatchOption q (s' ≡ s)
        (λ parent. Becomes s s' (linked f.it.previous parent f.it.next f.it.next f.it.previous k
        None None None))
    at_parent q e = subst (λ q. MatchOption q (s' ≡ s)
        (λ parent. Becomes s s' (linked f.it.previous parent f.it.next f.it.next f.it.previous k
        None None None))) e t

    by_parent : (q : Option ℕ) → f.entry.parent ≡ q → Linking s' nodes lists (removed c g)
    by_parent None e =
        let same : s' ≡ s = at_parent None (f.fits.parent ∙ ap (option_map (key_in nodes)) e) in
        let root : parent_of (rows_of g c) ≡ None = ap parent_of f.is ∙ e in
        rw same (linked_same s nodes lists g (removed c g) (removed_once c g l.once)
        (removed_holes c g l.whole) (removed_size c g (l.once c))
        (λ n. rows-removed c g l.once n ∙ detached_root c (rows_of g) kin root n)
        (removed_well c g (l.once c) l.whole l.well_formed) l)
    by_parent (Some p) e =
        let up : parent_of (rows_of g c) ≡ Some p = ap parent_of f.is ∙ e in
        let w = split c (kids_of (rows_of g p)) (kin.down p c up) in
        let m = detach_moved (rows_of g) p c kin up (not_own g p c l.once up) w in
        let becomes = at_parent (Some (key_in nodes p))
        (f.fits.parent ∙ ap (option_map (key_in nodes)) e) in
        let gone : count c w.back ≡ 0 = omega (
          arith,
          kin.once p c,
          ap (count c) w.whole,
          count-append c w.front (c ∷ w.back),
          one_here c c refl,
        ) in
        let previous : f.it.previous ≡ option_map (key_in nodes) (last_of w.front) = f.fits.previous
        ∙ ap (λ q. option_map (key_in nodes) (before c (row (rows_of g) q))) e
        ∙ ap (λ xs. option_map (key_in nodes) (before c xs)) w.whole
        ∙ ap (option_map (key_in nodes)) (before-here c w.front w.back w.first gone) in
        let next : f.it.next ≡ option_map (key_in nodes) (head_of w.back) = f.fits.next
        ∙ ap (λ q. option_map (key_in nodes) (after c (row (rows_of g) q))) e
        ∙ ap (λ xs. option_map (key_in nodes) (after c xs)) w.whole
        ∙ ap (option_map (key_in nodes)) (after-here c w.front w.back w.first) in
        let moved : Becomes s s' (linked (option_map (key_in nodes) (last_of w.front))
        (key_in nodes p) (option_map (key_in nodes) (head_of w.back))
        (option_map (key_in nodes) (head_of w.back))
        (option_map (key_in nodes) (last_of w.front)) (key_in nodes c) None None None) =
        rw (← previous, ← next, ← f.key) becomes in
        let there : IsSome (rows_of g c) = subst IsSome (sym f.is) refl in
        linked_moved s s' nodes lists g (removed c g) l (removed_once c g l.once)
        (removed_holes c g l.whole) (removed_size c g (l.once c))
        (λ n. ap (option_map (λ e. e.list)) (rows-removed c g l.once n)
        ∙ detached_lists c (rows_of g) n)
        (stands_along (key_in nodes) (detached c (rows_of g)) (rows_of (removed c g)) s'
        (rows-removed c g l.once) (stands_moved (key_in nodes) (rows_of g)
        (detached c (rows_of g)) p c w.front w.back (head_of w.back) (last_of w.front) None m
        kin s l.stands None None s' refl refl there moved))
        len (removed_well c g (l.once c) l.whole l.well_formed)

attached_along : (f : List ℕ → List ℕ) (p c : ℕ) (a b : Rows) (n : ℕ) → a n ≡ b n
    → attached_by f p c a n ≡ attached_by f p c b n
attached_along f p c a b n e = ap (λ o. cond (eqb n c) (option_map (below (Some p)) o)
    (option_map (kids_by (eqb n p) f) o)) e

end_kids : (f : List ℕ → List ℕ) (p c : ℕ) (rows : Rows) → p ≢ c → IsSome (rows p)
    → kids_of (attached_by f p c rows p) ≡ f (kids_of (rows p))
end_kids f p c rows d h = rw (test_no p c d, test_yes p p refl) (by_entry (rows p) h)
  where
    by_entry : (o : Option Entry) → IsSome o
        → kids_of (option_map (kids_by true f) o) ≡ f (kids_of o)
    by_entry None h = absurd (cc)
    by_entry (Some e) h = refl

-- AFTER AN APPEND, whose first part took the tree out
pub puts_last : (s s' : Slab Record) (nodes lists : List Pair) (g : Trees) (p c pk ck : ℕ)
    → ((n : ℕ) → uses n g ≤ 1) → uses c g ≡ 1 → uses p g ≡ 1 → uses p (tree_at c g) ≡ 0 → p ≢ c
    → Linking s nodes lists (removed c g) → (fp : Found s nodes (removed c g) p pk)
    → (fc : Found s nodes (removed c g) c ck) → PutsLast s s' pk ck fp.it → slab_len s' ≡ slab_len s
    → WellFormed (appended p c g) → Linking s' nodes lists (appended p c g)
puts_last s s' nodes lists g p c pk ck once cin pin apart d l fp fc t len well =
    let h : Trees = removed c g in
    let kin : Kin (rows_of h) = Kin-rows_of h l.once in
    let f : List ℕ → List ℕ = λ xs. xs ++ c ∷ [] in
    let xs : List ℕ = kids_of (rows_of h p) in
    let pthere : IsSome (rows_of h p) = subst IsSome (sym fp.is) refl in
    let cthere : IsSome (rows_of h c) = subst IsSome (sym fc.is) refl in
    let root : parent_of (rows_of h c) ≡ None = ap parent_of (rows-removed c g once c)
    ∙ rooted (rows_of g c) in
    let fresh : count c xs ≡ 0 = none_of kin root in
    let m = attach_moved f (rows_of h) p c xs [] kin pthere root d (sym (append-nil xs)) refl in
    let last : fp.it.last ≡ option_map (key_in nodes) (last_of xs) = fp.fits.last
    ∙ ap (λ o. option_map (key_in nodes) (last_of (kids_of o))) (sym fp.is) in
    let kids : kids_of (attached_by f p c (rows_of h) p) ≡ xs ++ c ∷ [] =
    end_kids f p c (rows_of h) d pthere in
    let left : option_map (key_in nodes) (last_of xs) ≡ option_map (key_in nodes)
    (before c (row (attached_by f p c (rows_of h)) (Some p))) =
    rw kids (ap (option_map (key_in nodes)) (sym (before-here c xs [] fresh refl))) in
    let right : None ≡ option_map (key_in nodes)
    (after c (row (attached_by f p c (rows_of h)) (Some p))) =
    rw kids (ap (option_map (key_in nodes)) (sym (after-here c xs [] fresh))) in
    let moved : Becomes s s' (linked (option_map (key_in nodes) (last_of xs)) (key_in nodes p)
    (option_map (key_in nodes) (Some c)) (option_map (key_in nodes) (head_of []))
    (option_map (key_in nodes) (Some c)) (key_in nodes c) (option_map (key_in nodes) (Some p))
    (option_map (key_in nodes) (last_of xs)) None) = rw (← last, ← fp.key, ← fc.key) t in
    let rows : (n : ℕ) → rows_of (appended p c g) n ≡ attached_by f p c (rows_of h) n =
    λ n. rows-appended p c g once cin pin apart n ∙ sym
    (attached_along f p c (rows_of h) (detached c (rows_of g)) n (rows-removed c g once n)) in
    linked_moved s s' nodes lists h (appended p c g) l
    (λ n. appended_once p c g once pin apart n ∙ sym (removed_once c g once n))
    (appended_holes (holes_of l.whole))
    (appended_size ∙ sym (removed_size c g (once c)))
    (λ n. ap (option_map (λ e. e.list)) (rows n) ∙ attached_lists f p c (rows_of h) n)
    (stands_along (key_in nodes) (attached_by f p c (rows_of h)) (rows_of (appended p c g)) s' rows
    (stands_moved (key_in nodes) (rows_of h) (attached_by f p c (rows_of h)) p c xs [] (Some c)
    (Some c) (Some p) m kin s l.stands (option_map (key_in nodes) (last_of xs)) None s' left
    right cthere moved))
    len well
  where
    rooted : (o : Option Entry) → parent_of (cond (eqb c c) (option_map (below None) o)
        (option_map (less_kid c) o)) ≡ None
    rooted None = rw (test_yes c c refl) refl
    rooted (Some e) = rw (test_yes c c refl) refl

    none_of : Kin (rows_of (removed c g)) → parent_of (rows_of (removed c g) c) ≡ None
        → count c (kids_of (rows_of (removed c g) p)) ≡ 0
    none_of kin root = elim (cases_eq (count c (kids_of (rows_of (removed c g) p))) 0) [
      | inl z ↦ z
      | inr z ↦ absurd (let u = kin.up p c (omega (arith, z)) in cc)
    ]

    holes_of : holes (removed c g) ≡ 0 → (holes (all_but c g) ≡ 0) × (holes (tree_at c g) ≡ 0)
    holes_of h = (
      omega (arith, h, holes-beside (all_but c g) (tree_at c g)),
      omega (arith, h, holes-beside (all_but c g) (tree_at c g)),
    )

    appended_holes : (holes (all_but c g) ≡ 0) × (holes (tree_at c g) ≡ 0) → holes (appended p c g)
        ≡ 0
    appended_holes h = holes-adopt p (tree_at c g) (all_but c g) h.1 h.0

    appended_size : size (appended p c g) ≡ size g
    appended_size = omega (
      arith,
      size-adopt p (tree_at c g) (all_but c g)
          (omega (arith, pin, apart, uses-split c g p (once c))),
      size-split c g (once c),
    )

-- AFTER AN INSERTION before `w`, a child of `p`, whose first part took the tree out
pub puts_before : (s s' : Slab Record) (nodes lists : List Pair) (g : Trees) (p w c pk wk ck : ℕ) →
    ((n : ℕ) → uses n g ≤ 1) → uses c g ≡ 1 → uses p (tree_at c g) ≡ 0 → p ≢ c → w ≢ c → parent_of
    (rows_of g w) ≡ Some p → Linking s nodes lists (removed c g) → (fp : Found s nodes
    (removed c g) p pk) → (fw : Found s nodes (removed c g) w wk) → (fc : Found s nodes
    (removed c g) c ck) → PutsBefore s s' pk wk ck fw.it → slab_len s' ≡ slab_len s → WellFormed
    (inserted w c g) → Linking s' nodes lists (inserted w c g)
puts_before s s' nodes lists g p w c pk wk ck once cin apart d dw up l fp fw fc t len well =
    let h : Trees = removed c g in
    let kin : Kin (rows_of h) = Kin-rows_of h l.once in
    let upper : parent_of (rows_of h w) ≡ Some p = ap parent_of (rows-removed c g once w) ∙ stays
    (rows_of g w) ∙ up in
    finish kin upper (split w (kids_of (rows_of h p)) (kin.down p w upper))
  where
    rooted : (o : Option Entry) → parent_of (cond (eqb c c) (option_map (below None) o) (option_map
        (less_kid c) o)) ≡ None
    rooted None = rw (test_yes c c refl) refl
    rooted (Some e) = rw (test_yes c c refl) refl

    stays : (o : Option Entry) → parent_of (cond (eqb w c) (option_map (below None) o) (option_map
        (less_kid c) o)) ≡ parent_of o
    stays None = rw (test_no w c dw) refl
    stays (Some e) = rw (test_no w c dw) refl

    none_of : Kin (rows_of (removed c g)) → parent_of (rows_of (removed c g) c) ≡ None → count c
        (kids_of (rows_of (removed c g) p)) ≡ 0
    none_of kin root = elim (cases_eq (count c (kids_of (rows_of (removed c g) p))) 0) [
      | inl z ↦ z
      | inr z ↦ absurd (let u = kin.up p c (omega (arith, z)) in cc)
    ]

    finish : Kin (rows_of (removed c g)) → parent_of (rows_of (removed c g) w) ≡ Some p → Split w
        (kids_of (rows_of (removed c g) p)) → Linking s' nodes lists (inserted w c g)
    finish kin upper x =
        let h : Trees = removed c g in
        let f : List ℕ → List ℕ = insert_in w (c ∷ []) in
        let pthere : IsSome (rows_of h p) = subst IsSome (sym fp.is) refl in
        let cthere : IsSome (rows_of h c) = subst IsSome (sym fc.is) refl in
        let root : parent_of (rows_of h c) ≡ None = ap parent_of (rows-removed c g once c) ∙ rooted
        (rows_of g c) in
        let parts : count c (kids_of (rows_of h p)) ≡ count c x.front + count c (w ∷ x.back) = ap
        (count c) x.whole ∙ count-append c x.front (w ∷ x.back) in
        let fresh = none_of kin root in
        let front : count c x.front ≡ 0 = omega (arith, fresh, parts) in
        let back : count c (w ∷ x.back) ≡ 0 = omega (arith, fresh, parts) in
        let wparts : count w (kids_of (rows_of h p)) ≡ count w x.front + count w (w ∷ x.back) = ap
        (count w) x.whole ∙ count-append w x.front (w ∷ x.back) in
        let gone : count w x.back ≡ 0 = omega (arith, kin.once p w, wparts, one_here w w refl) in
        let new : f (kids_of (rows_of h p)) ≡ x.front ++ c ∷ w ∷ x.back = ap f x.whole
        ∙ insert_split w (c ∷ []) x.front x.back x.first in
        let m = attach_moved f (rows_of h) p c x.front (w ∷ x.back) kin pthere root d x.whole new in
        let previous : fw.it.previous ≡ option_map (key_in nodes)
        (last_of x.front) = fw.fits.previous ∙ ap (λ q. option_map (key_in nodes) (before w (row
        (rows_of h) q))) (sym (ap parent_of fw.is) ∙ upper) ∙ ap (λ xs. option_map
        (key_in nodes) (before w xs)) x.whole ∙ ap (option_map (key_in nodes))
        (before-here w x.front x.back x.first gone) in
        let kids : kids_of (attached_by f p c
        (rows_of h) p) ≡ x.front ++ c ∷ w ∷ x.back = end_kids f p c (rows_of h) d pthere
        ∙ new in
        let left : option_map (key_in nodes) (last_of x.front) ≡ option_map (key_in nodes) (before c
        (row (attached_by f p c (rows_of h)) (Some p))) = rw kids (ap (option_map
        (key_in nodes)) (sym (before-here c x.front (w ∷ x.back) front back))) in
        let right : Some (key_in nodes w) ≡ option_map (key_in nodes) (after c (row
        (attached_by f p c (rows_of h)) (Some p))) = rw kids (ap (option_map (key_in nodes))
        (sym (after-here c x.front (w ∷ x.back) front))) in
        let moved : Becomes s s' (linked (option_map (key_in nodes) (last_of x.front))
        (key_in nodes p) (option_map (key_in nodes) (Some c)) (option_map (key_in nodes)
        (head_of (w ∷ x.back))) (option_map (key_in nodes) (Some c)) (key_in nodes c)
        (option_map (key_in nodes) (Some p)) (option_map (key_in nodes) (last_of x.front)) (Some
        (key_in nodes w))) = rw (← previous, ← fp.key, ← fw.key, ← fc.key) t in
        let rows : (n : ℕ) → rows_of (inserted w c g) n ≡ attached_by f p c
        (rows_of h) n = λ n. rows-inserted p w c g once cin dw up apart n ∙ sym
        (attached_along f p c (rows_of h) (detached c (rows_of g)) n
        (rows-removed c g once n)) in
        let ww : uses w (all_but c g) ≡ 1 = w_there in
        linked_moved s s' nodes lists h (inserted w c g) l
        (λ n. omega (
          arith,
          inserted_uses w (tree_at c g) (all_but c g) n ww,
          uses-split c g n
              (once c),
          removed_once c g once n,
        ))
        (holes-insert w (tree_at c g) (all_but c g) (omega (
          arith,
          l.whole,
          holes-beside
              (all_but c g) (tree_at c g),
        )) (omega (
          arith,
          l.whole,
          holes-beside (all_but c g)
              (tree_at c g),
        )))
        (omega (
          arith,
          size-insert w (tree_at c g) (all_but c g) ww,
          size-split c g (once c),
          removed_size c g (once c),
        ))
        (λ n. ap (option_map (λ e. e.list)) (rows n) ∙ attached_lists f p c (rows_of h) n)
        (stands_along (key_in nodes) (attached_by f p c (rows_of h)) (rows_of
        (inserted w c g)) s' rows (stands_moved (key_in nodes) (rows_of h) (attached_by f p c
        (rows_of h)) p c x.front (w ∷ x.back) (Some c) (Some c) (Some p) m kin s l.stands
        (option_map (key_in nodes) (last_of x.front)) (Some
        (key_in nodes w)) s' left right cthere moved))
        len well
      where
        w_there : uses w (all_but c g) ≡ 1
        w_there =
            let k = Kin-rows_of g once in
            let has : 1 ≤ count w (kids_of (rows_of g p)) = k.down p w up in
            omega (
              arith,
              uses-split c g w (once c),
              once w,
              has,
              kids_use None g p w,
              tree_step c None g p w dw (once c) (once p) (once w) has,
              apart,
            )
