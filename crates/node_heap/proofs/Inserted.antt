-- What an insertion tells, in the words of the machine.
use Rattle.std.proofs.Common.{◌≡◌, ◌≢◌, ℕ, ◌≤◌, true, false, List, [], Option, Some, None, Ok, Err, refl, sym, ap, ◌∙◌, inl, inr, subst}
use Rattle.std.proofs.Math.Decide.{ℕ_discrete}
use Rattle.model_shapes.specs.Sorts.{grove}
use Rattle.model_shapes.specs.Values.{node_number}
use Rattle.model_shapes.specs.Trees.{Trees, none, node, node_uses}
use Rattle.model_shapes.specs.Shapes.{SameAt}
use Rattle.model_terms.specs.Stores.{Store}
use Rattle.model_groves.specs.Groves.{is_yes, nodes_where, numbered, has_root, without, adding_before, node_at}
use Rattle.model_machine.specs.Machine.{Move, becomes, faults, inserting, no_node, self_ref, cycle, not_child}
use Rattle.dom_meaning.specs.declared.faults.FaultKind.TheVariants as k
use Rattle.model_heap.specs.Lists.{count, holds}
use Rattle.model_heap.specs.Entries.{Entry, rows_of, uses, tree_at, inserted, parent_of}
use Rattle.model_heap.proofs.Words.{NodeOf, decided_yes, decided_no, root_yes, root_no}
use Rattle.slab.specs.Slab.{Slab}
use Rattle.node_heap.specs.declared.records.Record.{Record}
use Rattle.node_heap.specs.declared.index.Pair.{Pair}
use Rattle.node_heap.specs.Indexes.{lookup}
use Rattle.node_heap.specs.Heap.{Linking}
use Rattle.node_heap.specs.HeapView.{HeapView}
use Rattle.node_heap.specs.Answers.{Did}
use Rattle.node_heap.specs.Ends.{LacksOne}
use Rattle.node_heap.proofs.Found.{Found, found}
use Rattle.node_heap.proofs.Tests.{held, not_held}
use Rattle.node_heap.proofs.WellFormed.{inserted_is}
use Rattle.node_heap.proofs.Told.{did, did_not, here, nowhere, uses_below, child_count, no_child_count}

-- the moves of the machine
module _ (a b d g : Trees) (p c w : ℕ) (above below next : Entry) (wp : NodeOf a p above)
    (wc : NodeOf b c below) (ww : NodeOf d w next) (store : Store)
  where
    move_self : c ≡ w → inserting a b d store g ≡ faults self_ref
    move_self e =
        let x : is_yes (ℕ_discrete c w) ≡ true = decided_yes c w e in
        rw (wp.is, wc.is, ww.is, x) refl

    move_cycles : c ≢ w → node_uses p b ≡ 1 → inserting a b d store g ≡ faults cycle
    move_cycles e z =
        let x : is_yes (ℕ_discrete c w) ≡ false = decided_no c w e in
        let y : node_uses p (node below.name c wc.kids below.list none) ≡ 1 =
        ap (node_uses p) (sym wc.is) ∙ z in
        rw (wp.is, wc.is, ww.is, x, y) refl

    move_no_child : c ≢ w → node_uses p b ≡ 0 → count w above.kids ≡ 0
        → inserting a b d store g ≡ faults not_child
    move_no_child e z h =
        let x : is_yes (ℕ_discrete c w) ≡ false = decided_no c w e in
        let y : node_uses p (node below.name c wc.kids below.list none) ≡ 0 =
        ap (node_uses p) (sym wc.is) ∙ z in
        let k : has_root w wp.kids ≡ false = root_no w wp.kids (ap (count w) wp.are_kids ∙ h) in
        rw (wp.is, wc.is, ww.is, x, y, k) refl

    move_inserts : c ≢ w → node_uses p b ≡ 0 → 1 ≤ count w above.kids
        → inserting a b d store g ≡ becomes [] store (adding_before w b (without c g))
    move_inserts e z h =
        let x : is_yes (ℕ_discrete c w) ≡ false = decided_no c w e in
        let y : node_uses p (node below.name c wc.kids below.list none) ≡ 0 =
        ap (node_uses p) (sym wc.is) ∙ z in
        let k : has_root w wp.kids ≡ true =
        root_yes w wp.kids (subst (λ ks. 1 ≤ count w ks) (sym wp.are_kids) h) in
        rw (wp.is, wc.is, ww.is, x, y, k) refl

insert_misses : (a b d g : Trees) (store : Store) → a ≡ none
    → inserting a b d store g ≡ faults no_node
insert_misses a b d g store e = rw e refl

insert_lacks : (a b d g : Trees) (p : ℕ) (above : Entry) (store : Store) → NodeOf a p above
    → b ≡ none → inserting a b d store g ≡ faults no_node
insert_lacks a b d g p above store w e = rw (w.is, e) refl

insert_wants : (a b d g : Trees) (p c : ℕ) (above below : Entry) (store : Store)
    → NodeOf a p above → NodeOf b c below → d ≡ none → inserting a b d store g ≡ faults no_node
insert_wants a b d g p c above below store x y e = rw (x.is, y.is, e) refl

-- what the records and the indexes say
module _ (s : Slab Record) (nodes lists : List Pair) (g : Trees) (l : Linking s nodes lists g)
    (v new : HeapView) (is : g ≡ v.grove) (store : Store) (p c w : ℕ)
  where
    abbrev pub insert_move : Move
    insert_move =
        inserting (node_at (node_number p) v.grove) (node_at (node_number c) v.grove)
        (node_at (node_number w) v.grove) store v.grove

    none_in : (n : ℕ) → None ≡ lookup n nodes → nodes_where (numbered n) v.grove ≡ none
    none_in n h = rw (← is) (nowhere s nodes lists g l n h)

    node_in : (n key : ℕ) (f : Found s nodes g n key)
        → NodeOf (nodes_where (numbered n) v.grove) n f.entry
    node_in n key f =
        subst (λ g. NodeOf (nodes_where (numbered n) g) n f.entry) is
        (here s nodes lists g l n key f)

    pub no_parent_in : None ≡ lookup p nodes → Did {A = Unit {0}} insert_move (Err k.NoNode) v v
    no_parent_in h =
        did_not insert_move no_node k.NoNode v (insert_misses _ _ _ v.grove store (none_in p h))
        refl

    module _ (pk : ℕ) (fp : Found s nodes g p pk) where
      pub no_child_in : None ≡ lookup c nodes → Did {A = Unit {0}} insert_move (Err k.NoNode) v v
      no_child_in h =
          did_not insert_move no_node k.NoNode v
          (insert_lacks _ _ _ v.grove p fp.entry store (node_in p pk fp) (none_in c h)) refl

      module _ (ck : ℕ) (fc : Found s nodes g c ck) where
        pub no_next_in : None ≡ lookup w nodes
            → Did {A = Unit {0}} insert_move (Err k.NoNode) v v
        no_next_in h =
            did_not insert_move no_node k.NoNode v
            (insert_wants _ _ _ v.grove p c fp.entry fc.entry store (node_in p pk fp)
            (node_in c ck fc) (none_in w h)) refl

        module _ (wk : ℕ) (fw : Found s nodes g w wk) where
          uses_in : node_uses p (nodes_where (numbered c) v.grove) ≡ uses p (tree_at c g)
          uses_in = rw (← is) (uses_below s nodes lists g l p c)

          pub self_in : c ≡ w → Did {A = Unit {0}} insert_move (Err k.SelfRef) v v
          self_in e =
              did_not insert_move self_ref k.SelfRef v
              (move_self _ _ _ v.grove p c w fp.entry fc.entry fw.entry (node_in p pk fp)
              (node_in c ck fc) (node_in w wk fw) store e) refl

          pub cycle_in : c ≢ w → uses p (tree_at c g) ≡ 1
              → Did {A = Unit {0}} insert_move (Err k.Cycle) v v
          cycle_in e u =
              did_not insert_move cycle k.Cycle v
              (move_cycles _ _ _ v.grove p c w fp.entry fc.entry fw.entry (node_in p pk fp)
              (node_in c ck fc) (node_in w wk fw) store e (uses_in ∙ u)) refl

          pub not_child_in : c ≢ w → uses p (tree_at c g) ≡ 0
              → holds (parent_of (rows_of g w)) p ≡ false
              → Did {A = Unit {0}} insert_move (Err k.NotChild) v v
          not_child_in e u h =
              let none : count w fp.entry.kids ≡ 0 =
              no_child_count s nodes lists g l p pk w wk fp fw
              (λ up. not_held (parent_of (rows_of g w)) p h (ap parent_of fw.is ∙ up)) in
              did_not insert_move not_child k.NotChild v
              (move_no_child _ _ _ v.grove p c w fp.entry fc.entry fw.entry (node_in p pk fp)
              (node_in c ck fc) (node_in w wk fw) store e (uses_in ∙ u) none) refl

          pub insert_in : c ≢ w → uses p (tree_at c g) ≡ 0
              → holds (parent_of (rows_of g w)) p ≡ true → SameAt grove new.grove (inserted w c g)
              → new.spare ≡ v.spare → Did {A = Unit {0}} insert_move (Ok tt) v new
          insert_in e u h same spare =
              let some : 1 ≤ count w fp.entry.kids =
              child_count s nodes lists g l p pk w wk fp fw
              (sym (ap parent_of fw.is) ∙ held (parent_of (rows_of g w)) p h) in
              let after : inserted w c g
              ≡ adding_before w (nodes_where (numbered c) v.grove) (without c v.grove) =
              sym (inserted_is w c g (l.once c) (l.once w))
              ∙ ap (λ g. adding_before w (nodes_where (numbered c) g) (without c g)) is in
              did insert_move [] store (adding_before w (nodes_where (numbered c) v.grove)
              (without c v.grove)) v new
              (move_inserts _ _ _ v.grove p c w fp.entry fc.entry fw.entry (node_in p pk fp)
              (node_in c ck fc) (node_in w wk fw) store e (uses_in ∙ u) some)
              (subst (SameAt grove new.grove) after same) spare

    -- a number that the index doesn't have, of the parent's and the child's
    pub no_node_in : LacksOne nodes p c → Did {A = Unit {0}} insert_move (Err k.NoNode) v v
    no_node_in (inl e) = no_parent_in e
    no_node_in (inr e) = by_parent (lookup p nodes) refl
      where
        by_parent : (o : Option ℕ) → lookup p nodes ≡ o
            → Did {A = Unit {0}} insert_move (Err k.NoNode) v v
        by_parent None a = no_parent_in (sym a)
        by_parent (Some pk) a = no_child_in pk (found s nodes lists g l p pk (sym a)) e
