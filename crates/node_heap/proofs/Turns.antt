-- A heap that is built from a grove, tree by tree.
use Rattle.std.proofs.Common.{◌≡◌, ◌≢◌, ◌⊎◌, ℕ, ◌+◌, ◌≤◌, true, cond, eqb, List, [], ◌∷◌, ◌++◌, length, map, get_or, drop, take, ◌<◌, ◌-◌, Option, Some, None, refl, sym, ap, ◌∙◌, inl, inr, arith, subst}
use Rattle.std.proofs.Math.Decide.{ℕ_discrete}
use Rattle.std.specs.Option.{option_map, is_some, IsSome, unwrap_or, MatchOption, ForSome}
use Rattle.std.proofs.lemmas.Bool.{cases_eq}
use Rattle.model_shapes.specs.Trees.{Trees, none, node, hole, beside, node_uses, list_uses, one_if, WellFormed}
use Rattle.model_shapes.specs.Shapes.{holes}
use Rattle.model_shapes.proofs.Basics.{beside-none, node_uses-beside, list_uses-beside}
use Rattle.model_groves.specs.Groves.{nodes_where, numbered, without, adding}
use Rattle.model_groves.proofs.Groves.{those-beside, without-beside}
use Rattle.model_groves.proofs.InContext.{without-none}
use Rattle.model_machine.proofs.Fine.{less-WellFormed}
use Rattle.model_heap.specs.Lists.{count}
use Rattle.model_heap.specs.Entries.{Entry, rows_of, uses, tree_at, removed, appended, created}
use Rattle.model_heap.specs.Growing.{Frame, putting, completing, Present, weight, weights}
use Rattle.model_heap.proofs.Moves.{test_yes, one_here, none_here, entry_absent}
use Rattle.model_heap.proofs.Words.{decided_yes, uses-are, where_absent, tree_is, list_used}
use Rattle.model_heap.proofs.Growing.{adding_nothing, completing-last, weights-last, node_fits, list_fits, node_put, list_put, turned}
use Rattle.slab.specs.Slab.{Slab, get, slab_len, Updates, ContainsKey}
use Rattle.grove_data.specs.Trees.{forest_of}
use Rattle.grove_data.specs.declared.trees.Tree.{Tree, out-Tree}
use Rattle.grove_data.proofs.Bare.{forest-bare}
use Rattle.grove_data.proofs.Walks.{tree_is as by_fields, forest_at}
use Rattle.node_heap.specs.declared.records.Record.{Record}
use Rattle.node_heap.specs.declared.index.Pair.{Pair}
use Rattle.node_heap.specs.declared.building.Siblings.{Siblings}
use Rattle.node_heap.specs.Records.{IsNew, PutsLast, Neighbours}
use Rattle.node_heap.specs.Links.{Stands}
use Rattle.node_heap.specs.Indexes.{lookup, key_in, numbers}
use Rattle.node_heap.specs.Heap.{Linking, Linked}
use Rattle.node_heap.specs.Drafts.{IsOnce, IsSorted, IsDraft, Knows, KnowsAll, Part, frame_of}
use Rattle.node_heap.proofs.Found.{Found, found}
use Rattle.node_heap.proofs.Whole.{count_lookup}
use Rattle.node_heap.proofs.Tests.{once_there, neighbours}
use Rattle.node_heap.proofs.Create.{lookup-append, linking_created}
use Rattle.node_heap.proofs.Changes.{puts_last}
use Rattle.node_heap.proofs.WellFormed.{removed_is, appended_is}

-- SORTED INDEXES say the same
pub sorted_links : (s : Slab Record) (nodes lists nodes' lists' : List Pair) (g : Trees)
    → IsDraft s nodes lists g → IsSorted nodes nodes' → IsSorted lists lists'
    → Linked s nodes' lists' g
sorted_links s nodes lists nodes' lists' g d n l = record {
  links = record {
    well_formed = d.links.well_formed;
    once = d.links.once;
    whole = d.links.whole;
    sized = d.links.sized ∙ sym n.len;
    stands = subst (λ key. Stands key (rows_of g) s) keys d.links.stands;
    indexed = λ m. ap is_some (n.same m) ∙ d.links.indexed m;
    listed = λ m e h. l.same e.list ∙ d.links.listed m e h ∙ ap Some (key m);
    listed_only = λ a k h. let w = d.links.listed_only a k (sym (l.same a) ∙ h) in
        (w.0, w.1, w.2, w.3, sym (key w.0) ∙ w.4);
    records_len = d.links.records_len ∙ sym n.len;
    lists_len = l.len ∙ d.links.lists_len ∙ sym n.len;
  };
  rising = n.rising;
  rising_lists = l.rising;
}
  where
    key : (m : ℕ) → key_in nodes m ≡ key_in nodes' m
    key m = ap (λ o. unwrap_or o 0) (sym (n.same m))

    keys : key_in nodes ≡ key_in nodes'
    keys = λ i. λ m. key m i

-- what is said of the pairs that are there
numbers-append : (qs : List Pair) (q : Pair) (n : ℕ)
    → count n (numbers (qs ++ q ∷ [])) ≡ count n (numbers qs) + cond (eqb n q.number) 1 0
numbers-append [] q n = omega arith
numbers-append (p ∷ qs) q n = omega (arith, numbers-append qs q n)

once-append : (qs : List Pair) (n k : ℕ) → IsOnce qs → lookup n qs ≡ None
    → IsOnce (qs ++ record { number = n; key = k } ∷ [])
once-append qs n k u h m =
    elim (cases_eq m n) [
      | inl e ↦ omega (
        arith,
        numbers-append qs (record { number = n; key = k }) m,
        one_here m n e,
        subst (λ m. count m (numbers qs) ≡ 0) (sym e)
            (none_counted (cases_eq (count n (numbers qs)) 0)),
      )
      | inr d ↦ omega (
        arith,
        numbers-append qs (record { number = n; key = k }) m,
        none_here m n d,
        u m,
      )
    ]
  where
    none_counted : (count n (numbers qs) ≡ 0) ⊎ (count n (numbers qs) ≢ 0) → count n (numbers qs)
        ≡ 0
    none_counted (inl z) = z
    none_counted (inr z) = absurd (let x = count_lookup qs n (omega (arith, z)) in cc)

lookup-stays : (qs : List Pair) (q p : Pair) → lookup p.number qs ≡ Some p.key
    → lookup p.number (qs ++ q ∷ []) ≡ Some p.key
lookup-stays qs q p h = rw (lookup-append qs q p.number, h) refl

lookup-last : (qs : List Pair) (n k : ℕ) → lookup n qs ≡ None
    → lookup n (qs ++ record { number = n; key = k } ∷ []) ≡ Some k
lookup-last qs n k h =
    rw (lookup-append qs (record { number = n; key = k }) n, h, test_yes n n refl) refl

knows-stays : (qs : List Pair) (q : Pair) (o : Option Pair) → Knows qs o → Knows (qs ++ q ∷ []) o
knows-stays qs q None h = tt
knows-stays qs q (Some p) h = lookup-stays qs q p h

all-stay : (qs : List Pair) (q : Pair) (fs : List Siblings) → KnowsAll qs fs
    → KnowsAll (qs ++ q ∷ []) fs
all-stay qs q [] h = tt
all-stay qs q (f ∷ fs) h = (knows-stays qs q f.parent h.0, all-stay qs q fs h.1)

pub all-last : (qs : List Pair) (fs : List Siblings) (f : Siblings) → KnowsAll qs fs
    → Knows qs f.parent → KnowsAll qs (fs ++ f ∷ [])
all-last qs [] f h k = (k, tt)
all-last qs (x ∷ fs) f h k = (h.0, all-last qs fs f h.1 k)

pub all-but_last : (qs : List Pair) (fs : List Siblings) (f : Siblings)
    → KnowsAll qs (fs ++ f ∷ []) → KnowsAll qs fs × Knows qs f.parent
all-but_last qs [] f h = (tt, h.0)
all-but_last qs (x ∷ fs) f h = let r = all-but_last qs fs f h.1 in ((h.0, r.0), r.1)

pub frames-last : (fs : List Siblings) (f : Siblings)
    → map frame_of (fs ++ f ∷ []) ≡ map frame_of fs ++ frame_of f ∷ []
frames-last [] f = refl
frames-last (x ∷ fs) f = ap (λ z. frame_of x ∷ z) (frames-last fs f)

-- a root that was put last
module _ (name : List ℕ) (i a : ℕ) (g : Trees) (fresh : uses i g ≡ 0) where
  new_node : Trees
  new_node = node name i none a none

  found_last : nodes_where (numbered i) (created name i a g) ≡ node name i none a none
  found_last =
      those-beside (numbered i) g (node name i none a none)
      ∙ rw (where_absent i g fresh, decided_yes i i refl) refl

  left_last : without i (created name i a g) ≡ g
  left_last =
      without-beside i g (node name i none a none)
      ∙ rw (without-none i g (uses-are i g ∙ fresh), decided_yes i i refl) (beside-none g)

  removed_last : uses i (created name i a g) ≤ 1 → removed i (created name i a g)
      ≡ created name i a g
  removed_last u =
      sym (removed_is i (created name i a g) u) ∙ rw (left_last, found_last) refl

  appended_last : (p : ℕ) → uses i (created name i a g) ≤ 1 → uses p (created name i a g) ≤ 1
      → appended p i (created name i a g) ≡ adding p (node name i none a none) g
  appended_last p u v =
      sym (appended_is p i (created name i a g) u v) ∙ rw (left_last, found_last) refl

  tree_last : uses i (created name i a g) ≤ 1 → tree_at i (created name i a g)
      ≡ node name i none a none
  tree_last u = sym (tree_is i (created name i a g) u) ∙ found_last

-- ONE TURN of the reading
module _ (s : Slab Record) (nodes lists : List Pair) (g : Trees) (d : IsDraft s nodes lists g)
    (whole : Trees) (wf : WellFormed whole) (fs : List Frame) (q : Option Pair) (name : List ℕ)
    (i : ℕ) (kids : Trees) (a : ℕ) (others : Trees) (known : Knows nodes q)
    (completes : completing fs (putting (option_map (λ (p : Pair). p.number) q)
    (node name i kids a others) g) ≡ whole)
  where
    l : Linking s nodes lists g
    l = d.links

    abbrev parent : Option Pair → Option ℕ
    parent o = option_map (λ (p : Pair). p.number) o

    present_in : (o : Option Pair) → Knows nodes o → Present (parent o) g
    present_in None h = tt
    present_in (Some p) h =
        let is : is_some (rows_of g p.number) ≡ true = sym (l.indexed p.number) ∙ ap is_some h in
        uses-are p.number g ∙ once_used p.number is
      where
        once_used : (n : ℕ) → is_some (rows_of g n) ≡ true → uses n g ≡ 1
        once_used n is =
            elim (cases_eq (uses n g) 0) [
              | inl z ↦ absurd (let x = entry_absent None g n z in cc)
              | inr z ↦ omega (arith, z, l.once n)
            ]

    there : Present (parent q) g
    there = present_in q known

    node_fit : (n : ℕ) → node_uses n g + node_uses n (node name i kids a others) ≤ node_uses n whole
    node_fit n =
        subst (λ w. node_uses n g + node_uses n (node name i kids a others) ≤ node_uses n w)
        completes (node_fits n fs (parent q) (node name i kids a others) g there)

    list_fit : (n : ℕ) → list_uses n g + list_uses n (node name i kids a others) ≤ list_uses n whole
    list_fit n =
        subst (λ w. list_uses n g + list_uses n (node name i kids a others) ≤ list_uses n w)
        completes (list_fits n fs (parent q) (node name i kids a others) g there)

    one_itself : (n : ℕ) → one_if (ℕ_discrete n n) ≡ 1
    one_itself n = by_decision (ℕ_discrete n n)
      where
        by_decision : (d : Dec (n ≡ n)) → one_if d ≡ 1
        by_decision (yes e) = refl
        by_decision (no e) = absurd (e refl)

    pub fresh : uses i g ≡ 0
    fresh = omega (arith, node_fit i, wf.nodes_once i, one_itself i, uses-are i g)

    unused : list_uses a g ≡ 0
    unused = omega (arith, list_fit a, wf.lists_once a, one_itself a)

    other_list : (m : ℕ) (e : Entry) → rows_of g m ≡ Some e → e.list ≢ a
    other_list m e h same =
        let x : 1 ≤ list_uses a g = subst (λ b. 1 ≤ list_uses b g) same (list_used None g m e h) in
        omega (arith, x, unused)

    unknown : lookup i nodes ≡ None
    unknown = by_place (lookup i nodes) refl
      where
        by_place : (o : Option ℕ) → lookup i nodes ≡ o → lookup i nodes ≡ None
        by_place None e = e
        by_place (Some k) e =
            absurd (let x = entry_absent None g i fresh in let y = l.indexed i in cc)

    unlisted : lookup a lists ≡ None
    unlisted = by_place (lookup a lists) refl
      where
        by_place : (o : Option ℕ) → lookup a lists ≡ o → lookup a lists ≡ None
        by_place None e = e
        by_place (Some k) e = let w = l.listed_only a k e in absurd (other_list w.0 w.1 w.2 w.3)

    -- the parent doesn't stand in the tree
    apart : (p : ℕ) → parent q ≡ Some p → uses p (node name i kids a none) ≡ 0
    apart p e =
        let one : node_uses p g ≡ 1 = subst (λ o. Present o g) e there in
        omega (
          arith,
          node_fit p,
          wf.nodes_once p,
          one,
          uses-are p (node name i kids a none),
        )

    created_well : WellFormed (created name i a g)
    created_well =
        less-WellFormed (created name i a g) whole
        (λ n. omega (arith, node_uses-beside n g (node name i none a none), node_fit n))
        (λ n. omega (arith, list_uses-beside n g (node name i none a none), list_fit n)) wf

    put_well : WellFormed (putting (parent q) (node name i none a none) g)
    put_well =
        less-WellFormed (putting (parent q) (node name i none a none) g) whole
        (λ n. omega (arith, node_put n (parent q) (node name i none a none) g there, node_fit n))
        (λ n. omega (arith, list_put n (parent q) (node name i none a none) g there, list_fit n)) wf

    module _ (s' : Slab Record) (k : ℕ) (r : Record) (vacant : get s k ≡ None)
        (updates : Updates s s' k (Some r)) (new : IsNew i a name r)
        (len : slab_len s' ≡ slab_len s + 1)
      where
        abbrev nodes' : List Pair
        nodes' = nodes ++ record { number = i; key = k } ∷ []

        abbrev lists' : List Pair
        lists' = lists ++ record { number = a; key = k } ∷ []

        -- with the new root
        pub inserted : Linking s' nodes' lists' (created name i a g)
        inserted =
            linking_created s s' nodes lists g l i a k name r fresh other_list vacant updates
            created_well new len

        pub here : Found s' nodes' (created name i a g) i k
        here =
            found s' nodes' lists' (created name i a g) inserted i k
            (sym (lookup-last nodes i k unknown))

        pub above : (p : Pair) → q ≡ Some p → Found s' nodes' (created name i a g) p.number p.key
        above p e =
            found s' nodes' lists' (created name i a g) inserted p.number p.key
            (sym (lookup-stays nodes (record { number = i; key = k }) p
            (subst (Knows nodes) e known)))

        pub key_there : ContainsKey s' k
        key_there = subst IsSome (sym here.at) refl

        pub parent_there : ForSome q (λ (p : Pair). ContainsKey s' p.key)
        parent_there = λ p e. subst IsSome (sym (above p e).at) refl

        pub parent_near : ForSome q (λ (p : Pair). (r : Record) → get s' p.key ≡ Some r
            → Neighbours s' r)
        parent_near = λ p e r at.
            neighbours s' nodes' lists' (created name i a g) inserted p.number p.key (above p e) r
            at

        module _ (s'' : Slab Record)
            (puts : MatchOption q (s'' ≡ s') (λ (p : Pair). (r : Record) → get s' p.key ≡ Some r
            → PutsLast s' s'' p.key k r))
            (len' : slab_len s'' ≡ slab_len s')
          where
            placed : (o : Option Pair) → q ≡ o
                → MatchOption o (s'' ≡ s') (λ (p : Pair). (r : Record) → get s' p.key ≡ Some r
                → PutsLast s' s'' p.key k r)
                → WellFormed (putting (parent o) (node name i none a none) g)
                → Linking s'' nodes' lists' (putting (parent o) (node name i none a none) g)
            placed None e same well = rw same inserted
            placed (Some p) e put well =
                let c : Trees = created name i a g in
                let u = inserted.once i in
                let v = inserted.once p.number in
                let is = removed_last name i a g fresh u in
                let is_put = appended_last name i a g fresh p.number u v in
                let back : Linking s' nodes' lists' (removed i c) =
                subst (Linking s' nodes' lists') (sym is) inserted in
                let fp : Found s' nodes' (removed i c) p.number p.key =
                subst (λ g. Found s' nodes' g p.number p.key) (sym is) (above p e) in
                let fc : Found s' nodes' (removed i c) i k =
                subst (λ g. Found s' nodes' g i k) (sym is) here in
                let far = apart p.number (ap parent e) in
                let other : p.number ≢ i =
                λ x. absurd (omega (arith, far, one_here p.number i x)) in
                let outside : uses p.number (tree_at i c) ≡ 0 =
                rw (tree_last name i a g fresh u) (omega (arith, none_here p.number i other)) in
                let well' : WellFormed (appended p.number i c) = subst WellFormed (sym is_put)
                well in
                subst (Linking s'' nodes' lists') is_put
                (puts_last s' s'' nodes' lists' c p.number i p.key k inserted.once
                (once_there s' nodes' c i k u here)
                (once_there s' nodes' c p.number p.key v (above p e)) outside other back fp fc
                (put fp.it fp.at) len' well')

            pub draft_put : IsDraft s'' nodes' lists'
                (putting (parent q) (node name i none a none) g)
            draft_put = record {
              links = placed q refl puts put_well;
              nodes_once = once-append nodes i k d.nodes_once unknown;
              lists_once = once-append lists a k d.lists_once unlisted;
            }

            pub completes_then : completing
                ((fs ++ record { parent = parent q; trees = others } ∷ [])
                ++ record { parent = Some i; trees = kids } ∷ [])
                (putting (parent q) (node name i none a none) g) ≡ whole
            completes_then =
                completing-last (fs ++ record { parent = parent q; trees = others } ∷ [])
                (record { parent = Some i; trees = kids })
                (putting (parent q) (node name i none a none) g)
                ∙ completing-last fs (record { parent = parent q; trees = others })
                (adding i kids (putting (parent q) (node name i none a none) g))
                ∙ ap (completing fs) (turned (parent q) name i kids a others g fresh apart)
                ∙ completes

            pub knows_then : (rest : List Siblings) → KnowsAll nodes rest → KnowsAll nodes' rest
            knows_then rest h = all-stay nodes (record { number = i; key = k }) rest h

            pub knows_parent : Knows nodes' q
            knows_parent = knows-stays nodes (record { number = i; key = k }) q known

            pub knows_own : Knows nodes' (Some (record { number = i; key = k }))
            knows_own = lookup-last nodes i k unknown

abbrev pub frame : Option Pair → Trees → Frame
frame parent trees = record { parent = option_map (λ (p : Pair). p.number) parent; trees = trees }

-- the first of the trees that are still to be read
module _ (trees : List Tree) (t : Tree) (some : 0 < length trees) (is : t ≡ get_or trees 0 t) where
  first_read : forest_of trees ≡ node (out-Tree t).name (out-Tree t).id
      (forest_of (out-Tree t).kids)
      (out-Tree t).list (forest_of (drop 1 trees))
  first_read =
      forest_at trees 0 t some is ∙ ap (λ u. beside u (forest_of (drop 1 trees))) (by_fields t)

  module _ (s : Slab Record) (nodes lists : List Pair) (g : Trees) (d : IsDraft s nodes lists g)
      (whole : Trees) (wf : WellFormed whole) (left : List Siblings) (q : Option Pair)
      (known : Knows nodes q) (knows : KnowsAll nodes left)
      (completes : completing (map frame_of left ++ frame q (forest_of trees) ∷ []) g ≡ whole)
    where
      abbrev name : List ℕ
      name = (out-Tree t).name

      abbrev number : ℕ
      number = (out-Tree t).id

      abbrev kids : Trees
      kids = forest_of (out-Tree t).kids

      abbrev list : ℕ
      list = (out-Tree t).list

      abbrev others : Trees
      others = forest_of (drop 1 trees)

      begins : completing (map frame_of left) (putting (option_map (λ (p : Pair). p.number) q)
          (node (out-Tree t).name (out-Tree t).id (forest_of (out-Tree t).kids) (out-Tree t).list
          (forest_of (drop 1 trees))) g) ≡ whole
      begins =
          subst (λ u. completing (map frame_of left)
          (putting (option_map (λ (p : Pair). p.number) q) u g) ≡ whole) first_read
          (sym (completing-last (map frame_of left) (frame q (forest_of trees)) g) ∙ completes)

      module _ (s' : Slab Record) (k : ℕ) (r : Record) (vacant : get s k ≡ None)
          (updates : Updates s s' k (Some r))
          (new : IsNew (out-Tree t).id (out-Tree t).list (out-Tree t).name r)
          (len : slab_len s' ≡ slab_len s + 1)
        where
          pub read_key : ContainsKey s' k
          read_key =
              key_there s nodes lists g d whole wf (map frame_of left) q name number kids list
              others known begins s' k r vacant updates new len

          pub read_parent : ForSome q (λ (p : Pair). ContainsKey s' p.key)
          read_parent =
              parent_there s nodes lists g d whole wf (map frame_of left) q name number kids list
              others known begins s' k r vacant updates new len

          pub read_near : ForSome q (λ (p : Pair). (r : Record) → get s' p.key ≡ Some r
              → Neighbours s' r)
          read_near =
              parent_near s nodes lists g d whole wf (map frame_of left) q name number kids list
              others known begins s' k r vacant updates new len

          pub next_part : (s'' : Slab Record)
              → MatchOption q (s'' ≡ s') (λ (p : Pair). (r : Record) → get s' p.key ≡ Some r
              → PutsLast s' s'' p.key k r)
              → slab_len s'' ≡ slab_len s' → (nodes' lists' : List Pair)
              → nodes' ≡ nodes ++ record { number = (out-Tree t).id; key = k } ∷ []
              → lists' ≡ lists ++ record { number = (out-Tree t).list; key = k } ∷ []
              → (rest : List Siblings)
              → map frame_of rest ≡ (map frame_of left ++ frame q (forest_of (drop 1 trees)) ∷ [])
              ++ frame (Some (record { number = (out-Tree t).id; key = k }))
              (forest_of (out-Tree t).kids) ∷ []
              → ((nodes : List Pair) → KnowsAll nodes left → Knows nodes q
              → Knows nodes (Some (record { number = (out-Tree t).id; key = k }))
              → KnowsAll nodes rest)
              → Part s'' nodes' lists' rest whole
          next_part s'' puts len' nodes' lists' is_nodes is_lists rest frames all =
              rw (is_nodes, is_lists) (record {
                grove = putting (option_map (λ (p : Pair). p.number) q)
                    (node name number none list none) g;
                draft =
                    draft_put s nodes lists g d whole wf (map frame_of left) q name number kids
                    list others known begins s' k r vacant updates new len s'' puts len';
                completes =
                    ap (λ fs. completing fs (putting (option_map (λ (p : Pair). p.number) q)
                    (node name number none list none) g)) frames
                    ∙ completes_then s nodes lists g d whole wf (map frame_of left) q name number
                    kids list others known begins s' k r vacant updates new len s'' puts len';
                knows =
                    all (nodes ++ record { number = (out-Tree t).id; key = k } ∷ [])
                    (knows_then s nodes lists g d whole wf (map frame_of left) q name number kids
                    list others known begins s' k r vacant updates new len s'' puts len' left knows)
                    (knows_parent s nodes lists g d whole wf (map frame_of left) q name number kids
                    list others known begins s' k r vacant updates new len s'' puts len')
                    (knows_own s nodes lists g d whole wf (map frame_of left) q name number kids
                    list others known begins s' k r vacant updates new len s'' puts len');
              })

pub popped : (s : Slab Record) (nodes lists : List Pair) (items left : List Siblings)
    (last : Siblings) (whole : Trees) → items ≡ left ++ last ∷ []
    → Part s nodes lists items whole → Part s nodes lists (left ++ last ∷ []) whole
popped s nodes lists items left last whole e p =
    subst (λ rest. Part s nodes lists rest whole) e p

-- where nothing is left to read
pub none_left : (s : Slab Record) (nodes lists : List Pair) (left : List Siblings)
    (last : Siblings) (whole : Trees) → Part s nodes lists (left ++ last ∷ []) whole
    → length last.trees.now < 1 → Part s nodes lists left whole
none_left s nodes lists left last whole p short = record {
  grove = p.grove;
  draft = p.draft;
  completes =
      ap (completing (map frame_of left))
      (sym (nothing last.parent last.trees.now short p.grove))
      ∙ sym (completing-last (map frame_of left) (frame_of last) p.grove)
      ∙ ap (λ fs. completing fs p.grove) (sym (frames-last left last)) ∙ p.completes;
  knows = (all-but_last nodes left last p.knows).0;
}
  where
    nothing : (q : Option Pair) (trees : List Tree) → length trees < 1 → (g : Trees)
        → putting (option_map (λ (p : Pair). p.number) q) (forest_of trees) g ≡ g
    nothing None [] h g = beside-none g
    nothing (Some p) [] h g = adding_nothing p.number g
    nothing q (t ∷ trees) h g = absurd (omega (arith, h))

-- the trees behind the first
take_all : {A : Type 0} (xs : List A) → take (length xs) xs ≡ xs
take_all [] = refl
take_all (x ∷ xs) = ap (λ ys. x ∷ ys) (take_all xs)

pub behind : (trees : List Tree) → take (length trees - 1) (drop 1 trees) ≡ drop 1 trees
behind [] = refl
behind (t ∷ trees) =
    let len : length (t ∷ trees) - 1 ≡ length trees = omega arith in
    ap (λ n. take n trees) len ∙ take_all trees

-- fewer turns are left
some_weight : (g : Trees) → holes g ≡ 0 → 1 ≤ weight g
some_weight none h = omega arith
some_weight (node name number kids list rest) h = omega arith
some_weight (hole rest) h = absurd (omega (arith, h))

pub fewer_left : (items left : List Siblings) (last : Siblings) → items ≡ left ++ last ∷ []
    → weights (map frame_of left) < weights (map frame_of items)
fewer_left items left last e =
    let all : weights (map frame_of items) ≡ weights (map frame_of left) + weight
    (forest_of last.trees.now) =
    ap (λ fs. weights (map frame_of fs)) e ∙ ap weights (frames-last left last)
    ∙ weights-last (map frame_of left) (frame_of last) in
    omega (arith, all, some_weight (forest_of last.trees.now) (forest-bare last.trees.now))

pub fewer_then : (items left rest : List Siblings) (last : Siblings) (t : Tree) (pair : Pair)
    → items ≡ left ++ last ∷ [] → 0 < length last.trees.now → t ≡ get_or last.trees.now 0 t
    → map frame_of rest ≡ (map frame_of left
    ++ frame last.parent (forest_of (drop 1 last.trees.now)) ∷ [])
    ++ frame (Some pair) (forest_of (out-Tree t).kids) ∷ []
    → weights (map frame_of rest) < weights (map frame_of items)
fewer_then items left rest last t pair e some is frames =
    let all : weights (map frame_of items) ≡ weights (map frame_of left) + weight
    (forest_of last.trees.now) =
    ap (λ fs. weights (map frame_of fs)) e ∙ ap weights (frames-last left last)
    ∙ weights-last (map frame_of left) (frame_of last) in
    let first : weight (forest_of last.trees.now)
    ≡ 1 + (weight (forest_of (out-Tree t).kids) + weight (forest_of (drop 1 last.trees.now))) =
    ap weight (first_read last.trees.now t some is) in
    let now : weights (map frame_of rest) ≡ weights (map frame_of left
    ++ frame last.parent (forest_of (drop 1 last.trees.now)) ∷ [])
    + weight (forest_of (out-Tree t).kids) =
    ap weights frames ∙ weights-last (map frame_of left
    ++ frame last.parent (forest_of (drop 1 last.trees.now)) ∷ [])
    (frame (Some pair) (forest_of (out-Tree t).kids)) in
    omega (
      arith,
      all,
      first,
      now,
      weights-last (map frame_of left)
          (frame last.parent (forest_of (drop 1 last.trees.now))),
    )
