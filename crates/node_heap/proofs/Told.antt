-- What calls tell, in the words of the machine.
use Rattle.std.proofs.Common.{◌≡◌, ◌≢◌, ℕ, zero, suc, ℤ, pos, negsuc, ◌<ℤ◌, ◌≤◌, true, false, List, [], Option, Some, None, Ok, Err, refl, sym, ap, ◌∙◌, inl, inr, arith, subst}
use lib.Dec.{ltb→lt}
use Rattle.std.specs.List.{slice_get}
use Rattle.std.proofs.lemmas.Bool.{cases_eq}
use Rattle.model_shapes.specs.Sorts.{grove}
use Rattle.model_shapes.specs.Values.{Name, Value, node_number, list_number, int}
use Rattle.model_shapes.specs.Trees.{Trees, none, node, hole, beside, node_uses, list_uses}
use Rattle.model_shapes.specs.Shapes.{holes, SameAt}
use Rattle.model_terms.specs.Stores.{Store}
use Rattle.model_groves.specs.Groves.{nodes_where, numbered, listed, parental, has_root, without, adding, first_number, number_at, item_of, node_at, list_at}
use Rattle.model_machine.specs.Machine as machine
use Rattle.model_machine.specs.Machine.{Move, Piece, becomes, faults, appending, removing, no_node, no_list, cycle, not_child}
use Rattle.dom_meaning.specs.declared.faults.FaultKind.{FaultKind}
use Rattle.dom_meaning.specs.declared.faults.FaultKind.TheVariants as k
use Rattle.dom_meaning.specs.Faults.{fault_kind_of}
use Rattle.grove_data.specs.Finding.{number_or_null}
use Rattle.model_heap.specs.Lists.{count}
use Rattle.model_heap.specs.Entries.{Entry, rows_of, roots, uses, tree_at, removed, appended, kids_of, parent_of}
use Rattle.model_heap.proofs.Kinship.{Kin-rows_of, present, root_of}
use Rattle.model_heap.proofs.Words.{NodeOf, node_of, where_absent, listed_absent, listed_is, owner_of, tree_is, uses-are, root_yes, root_no, no_parent, parent_is}
use Rattle.slab.specs.Slab.{Slab}
use Rattle.node_heap.specs.declared.records.Record.{Record}
use Rattle.node_heap.specs.declared.index.Pair.{Pair}
use Rattle.node_heap.specs.Indexes.{lookup, key_in}
use Rattle.node_heap.specs.Heap.{Linking}
use Rattle.node_heap.specs.HeapView.{HeapView}
use Rattle.node_heap.specs.Answers.{Did, Reads}
use Rattle.node_heap.specs.Ends.{LacksOne}
use Rattle.node_heap.proofs.Found.{Found, found}
use Rattle.node_heap.proofs.Tests.{once_there}
use Rattle.node_heap.proofs.WellFormed.{removed_is, appended_is}

-- an answer that is read off a node
pub reads : {A : Type 0} (seen : A → Value) (kind : machine.FaultKind)
    (read : Name → ℕ → Trees → ℕ → Value) (answer : A) (found : Trees) (n : ℕ) (e : Entry)
    (w : NodeOf found n e) → seen answer ≡ read e.name n w.kids e.list
    → Reads seen found kind read (Ok answer)
reads seen kind read answer found n e w same = rw w.is same

-- a fault where nothing is found
pub reads_nothing : {A : Type 0} (seen : A → Value) (kind : machine.FaultKind)
    (read : Name → ℕ → Trees → ℕ → Value) (fault : FaultKind) (found : Trees) → found ≡ none
    → fault_kind_of fault ≡ kind → Reads seen found kind read (Err fault)
reads_nothing seen kind read fault found e same = rw e same

-- a call that did a move, or faulted
pub did : (m : Move) (pieces : List Piece) (store : Store) (after : Trees) (old new : HeapView)
    → m ≡ becomes pieces store after → SameAt grove new.grove after → new.spare ≡ old.spare
    → Did {A = Unit {0}} m (Ok tt) old new
did m pieces store after old new e x y = rw e (x, y)

pub did_not : (m : Move) (kind : machine.FaultKind) (fault : FaultKind) (view : HeapView)
    → m ≡ faults kind → fault_kind_of fault ≡ kind → Did {A = Unit {0}} m (Err fault) view view
did_not m kind fault view e same = rw e (same, refl)

-- the moves of the machine
module _ (a b g : Trees) (p c : ℕ) (above below : Entry) (wp : NodeOf a p above)
    (wc : NodeOf b c below) (store : Store)
  where
    pub move_appends : node_uses p b ≡ 0
        → appending a b store g ≡ becomes [] store (adding p b (without c g))
    move_appends z =
        let y : node_uses p (node below.name c wc.kids below.list none) ≡ 0 =
        ap (node_uses p) (sym wc.is) ∙ z in
        rw (wp.is, wc.is, y) refl

    pub move_cycles : node_uses p b ≡ 1 → appending a b store g ≡ faults cycle
    move_cycles z =
        let y : node_uses p (node below.name c wc.kids below.list none) ≡ 1 =
        ap (node_uses p) (sym wc.is) ∙ z in
        rw (wp.is, wc.is, y) refl

    pub move_removes : 1 ≤ count c above.kids
        → removing a b store g ≡ becomes [] store (beside (without c g) b)
    move_removes h =
        let y : has_root c wp.kids ≡ true =
        root_yes c wp.kids (subst (λ ks. 1 ≤ count c ks) (sym wp.are_kids) h) in
        rw (wp.is, wc.is, y) refl

    pub move_no_child : count c above.kids ≡ 0 → removing a b store g ≡ faults not_child
    move_no_child h =
        let y : has_root c wp.kids ≡ false =
        root_no c wp.kids (ap (count c) wp.are_kids ∙ h) in
        rw (wp.is, wc.is, y) refl

pub append_misses : (a b g : Trees) (store : Store) → a ≡ none
    → appending a b store g ≡ faults no_node
append_misses a b g store e = rw e refl

pub append_lacks : (a b g : Trees) (p : ℕ) (above : Entry) (store : Store) → NodeOf a p above
    → b ≡ none → appending a b store g ≡ faults no_node
append_lacks a b g p above store w e = rw (w.is, e) refl

pub remove_misses : (a b g : Trees) (store : Store) → a ≡ none
    → removing a b store g ≡ faults no_node
remove_misses a b g store e = rw e refl

pub remove_lacks : (a b g : Trees) (p : ℕ) (above : Entry) (store : Store) → NodeOf a p above
    → b ≡ none → removing a b store g ≡ faults no_node
remove_lacks a b g p above store w e = rw (w.is, e) refl

pub item_at : (kids : Trees) (n : ℕ) → holes kids ≡ 0
    → number_or_null (slice_get (roots kids) n) ≡ number_at n kids
item_at none n h = refl
item_at (node name number kids list rest) zero h = refl
item_at (node name number kids list rest) (suc n) h = item_at rest n (omega (arith, h))
item_at (hole rest) n h = absurd (omega (arith, h))

-- what the records and the indexes say
module _ (s : Slab Record) (nodes lists : List Pair) (g : Trees) (l : Linking s nodes lists g) where
  -- the node at a key
  pub here : (n k : ℕ) (f : Found s nodes g n k) → NodeOf (nodes_where (numbered n) g) n f.entry
  here n k f = node_of g n f.entry l.whole (l.once n) f.is

  -- a number that the index doesn't have
  pub nowhere : (n : ℕ) → None ≡ lookup n nodes → nodes_where (numbered n) g ≡ none
  nowhere n h =
      elim (cases_eq (uses n g) 0) [
        | inl z ↦ where_absent n g z
        | inr z ↦ absurd (let a = present None g n (omega (arith, z)) in let b = l.indexed n in cc)
      ]

  -- a list number that the index doesn't have
  pub unlisted : (a : ℕ) → None ≡ lookup a lists → nodes_where (listed a) g ≡ none
  unlisted a h =
      elim (cases_eq (list_uses a g) 0) [
        | inl z ↦ listed_absent a g z
        | inr z ↦
            let o = owner_of None g a l.once (omega (arith, z)) in
            let e : lookup a lists ≡ Some (key_in nodes o.number) =
            subst (λ a. lookup a lists ≡ Some (key_in nodes o.number)) o.list
            (l.listed o.number o.owner o.is) in
            absurd (cc)
      ]

  -- the owner of a list number
  pub owner_node : (a n : ℕ) (e : Entry) → rows_of g n ≡ Some e → e.list ≡ a
      → NodeOf (nodes_where (listed a) g) n e
  owner_node a n e is list =
      let same : nodes_where (listed e.list) g ≡ nodes_where (numbered n) g =
      listed_is None g n e (l.once n) (l.well_formed.lists_once e.list) is in
      subst (λ a. NodeOf (nodes_where (listed a) g) n e) list
      (rw same (node_of g n e l.whole (l.once n) is))

  -- the child at a place
  pub item_told : (a n : ℕ) (e : Entry) (is : rows_of g n ≡ Some e) (list : e.list ≡ a)
      (answer : Option ℕ) (m : ℕ) (place : ℤ) → slice_get e.kids m ≡ answer → place ≡ pos m
      → (h : Trees) → g ≡ h
      → Reads number_or_null (list_at (list_number a) h) no_list
      (λ name number kids list. item_of (int place) kids) (Ok answer)
  item_told a n e is list answer m place at where_it h same =
      let w = owner_node a n e is list in
      let kids : number_or_null answer ≡ number_at m w.kids =
      ap number_or_null (sym at ∙ ap (λ ks. slice_get ks m) (sym w.are_kids))
      ∙ item_at w.kids m w.whole in
      rw (← same, where_it) (reads number_or_null no_list
      (λ name number kids list. item_of (int (pos m)) kids) answer (nodes_where (listed a) g) n e w
      kids)

  pub item_before : (a k : ℕ) → Some k ≡ lookup a lists → (place : ℤ) → place <ℤ pos 0
      → (h : Trees) → g ≡ h
      → Reads number_or_null (list_at (list_number a) h) no_list
      (λ name number kids list. item_of (int place) kids) (Ok None)
  item_before a k found (pos m) low h same = absurd (omega (arith, ltb→lt m 0 low.lt))
  item_before a k found (negsuc m) low h same =
      let o = l.listed_only a k (sym found) in
      let w = owner_node a o.0 o.1 o.2 o.3 in
      rw (← same) (reads number_or_null no_list
      (λ name number kids list. item_of (int (negsuc m)) kids) None (nodes_where (listed a) g) o.0
      o.1 w refl)

  pub item_unlisted : (a : ℕ) (place : ℤ) → None ≡ lookup a lists → (h : Trees) → g ≡ h
      → Reads number_or_null (list_at (list_number a) h) no_list
      (λ name number kids list. item_of (int place) kids) (Err k.NoList)
  item_unlisted a place found h same =
      rw (← same) (reads_nothing number_or_null no_list
      (λ name number kids list. item_of (int place) kids) k.NoList (nodes_where (listed a) g)
      (unlisted a found) refl)

  -- what is read off a node
  pub node_told : {A : Type 0} (seen : A → Value) (read : Name → ℕ → Trees → ℕ → Value)
      (answer : A) (n key : ℕ) (f : Found s nodes g n key) (h : Trees) → g ≡ h
      → ((kids : Trees) → seen answer ≡ read f.entry.name n kids f.entry.list)
      → Reads seen (node_at (node_number n) h) no_node read (Ok answer)
  node_told seen read answer n key f h same told =
      rw (← same) (reads seen no_node read answer (nodes_where (numbered n) g) n f.entry
      (here n key f) (told (here n key f).kids))

  pub node_missed : {A : Type 0} (seen : A → Value) (read : Name → ℕ → Trees → ℕ → Value)
      (n : ℕ) → None ≡ lookup n nodes → (h : Trees) → g ≡ h
      → Reads seen (node_at (node_number n) h) no_node read (Err k.NoNode)
  node_missed seen read n found h same =
      rw (← same) (reads_nothing seen no_node read k.NoNode (nodes_where (numbered n) g)
      (nowhere n found) refl)

  -- the parent of a node
  pub parent_told : (n k : ℕ) (f : Found s nodes g n k) (o : Option ℕ) → f.entry.parent ≡ o
      → number_or_null o ≡ first_number (nodes_where (parental n) g)
  parent_told n k f None e =
      let top : parent_of (rows_of g n) ≡ None = ap parent_of f.is ∙ e in
      let one = once_there s nodes g n k (l.once n) f in
      rw (no_parent g n (l.once n) (root_of None g n one top)) refl
  parent_told n k f (Some p) e =
      let up : parent_of (rows_of g n) ≡ Some p = ap parent_of f.is ∙ e in
      let down = (Kin-rows_of g l.once).down p n up in
      sym (parent_is None g p n l.once down)

  -- how often the number of a node stands in the tree of another
  pub uses_below : (p c : ℕ) → node_uses p (nodes_where (numbered c) g) ≡ uses p (tree_at c g)
  uses_below p c = uses-are p (nodes_where (numbered c) g) ∙ ap (uses p) (tree_is c g (l.once c))

  -- a child of a parent
  pub child_count : (p pk c ck : ℕ) (fp : Found s nodes g p pk) (fc : Found s nodes g c ck)
      → fc.entry.parent ≡ Some p → 1 ≤ count c fp.entry.kids
  child_count p pk c ck fp fc e =
      let up : parent_of (rows_of g c) ≡ Some p = ap parent_of fc.is ∙ e in
      subst (λ o. 1 ≤ count c (kids_of o)) fp.is ((Kin-rows_of g l.once).down p c up)

  pub no_child_count : (p pk c ck : ℕ) (fp : Found s nodes g p pk) (fc : Found s nodes g c ck)
      → fc.entry.parent ≢ Some p → count c fp.entry.kids ≡ 0
  no_child_count p pk c ck fp fc d =
      elim (cases_eq (count c fp.entry.kids) 0) [
        | inl z ↦ z
        | inr z ↦
            let below : 1 ≤ count c (kids_of (rows_of g p)) =
            subst (λ o. 1 ≤ count c (kids_of o)) (sym fp.is) (omega (arith, z)) in
            let up = (Kin-rows_of g l.once).up p c below in
            absurd (d (ap parent_of (sym fc.is) ∙ up))
      ]

  module _ (v new : HeapView) (is : g ≡ v.grove) (store : Store) (p pk c ck : ℕ) where
    -- what the machine does with a parent and a child
    abbrev pub append_move : Move
    append_move =
        appending (node_at (node_number p) v.grove) (node_at (node_number c) v.grove) store v.grove

    abbrev pub remove_move : Move
    remove_move =
        removing (node_at (node_number p) v.grove) (node_at (node_number c) v.grove) store v.grove

    pub no_parent_told : None ≡ lookup p nodes
        → Did {A = Unit {0}} append_move (Err k.NoNode) v v
        × Did {A = Unit {0}} remove_move (Err k.NoNode) v v
    no_parent_told h =
        let e : nodes_where (numbered p) v.grove ≡ none = rw (← is) (nowhere p h) in (
          did_not append_move no_node k.NoNode v (append_misses _ _ v.grove store e) refl,
          did_not remove_move no_node k.NoNode v (remove_misses _ _ v.grove store e) refl,
        )

    module _ (fp : Found s nodes g p pk) where
      above_in : NodeOf (nodes_where (numbered p) v.grove) p fp.entry
      above_in = subst (λ g. NodeOf (nodes_where (numbered p) g) p fp.entry) is (here p pk fp)

      pub no_child_told : None ≡ lookup c nodes
          → Did {A = Unit {0}} append_move (Err k.NoNode) v v
          × Did {A = Unit {0}} remove_move (Err k.NoNode) v v
      no_child_told h =
          let e : nodes_where (numbered c) v.grove ≡ none = rw (← is) (nowhere c h) in
          let a = append_lacks (nodes_where (numbered p) v.grove) _ v.grove p fp.entry store
          above_in e in
          let b = remove_lacks (nodes_where (numbered p) v.grove) _ v.grove p fp.entry store
          above_in e in (
            did_not append_move no_node k.NoNode v a refl,
            did_not remove_move no_node k.NoNode v b refl,
          )

      module _ (fc : Found s nodes g c ck) where
        below_in : NodeOf (nodes_where (numbered c) v.grove) c fc.entry
        below_in = subst (λ g. NodeOf (nodes_where (numbered c) g) c fc.entry) is (here c ck fc)

        uses_in : node_uses p (nodes_where (numbered c) v.grove) ≡ uses p (tree_at c g)
        uses_in = rw (← is) (uses_below p c)

        pub cycle_told : uses p (tree_at c g) ≡ 1
            → Did {A = Unit {0}} append_move (Err k.Cycle) v v
        cycle_told u =
            did_not append_move cycle k.Cycle v
            (move_cycles _ _ v.grove p c fp.entry fc.entry above_in below_in store (uses_in ∙ u))
            refl

        pub append_told : uses p (tree_at c g) ≡ 0 → SameAt grove new.grove (appended p c g)
            → new.spare ≡ v.spare → Did {A = Unit {0}} append_move (Ok tt) v new
        append_told u same spare =
            let after : appended p c g ≡ adding p (nodes_where (numbered c) v.grove)
            (without c v.grove) =
            sym (appended_is p c g (l.once c) (l.once p))
            ∙ ap (λ g. adding p (nodes_where (numbered c) g) (without c g)) is in
            did append_move [] store (adding p (nodes_where (numbered c) v.grove)
            (without c v.grove)) v new
            (move_appends _ _ v.grove p c fp.entry fc.entry above_in below_in store (uses_in ∙ u))
            (subst (SameAt grove new.grove) after same) spare

        pub not_child_told : fc.entry.parent ≢ Some p
            → Did {A = Unit {0}} remove_move (Err k.NotChild) v v
        not_child_told d =
            did_not remove_move not_child k.NotChild v
            (move_no_child _ _ v.grove p c fp.entry fc.entry above_in below_in store
            (no_child_count p pk c ck fp fc d)) refl

        pub remove_told : fc.entry.parent ≡ Some p → SameAt grove new.grove (removed c g)
            → new.spare ≡ v.spare → Did {A = Unit {0}} remove_move (Ok tt) v new
        remove_told up same spare =
            let after : removed c g ≡ beside (without c v.grove)
            (nodes_where (numbered c) v.grove) =
            sym (removed_is c g (l.once c))
            ∙ ap (λ g. beside (without c g) (nodes_where (numbered c) g)) is in
            did remove_move [] store (beside (without c v.grove) (nodes_where (numbered c) v.grove))
            v new
            (move_removes _ _ v.grove p c fp.entry fc.entry above_in below_in store
            (child_count p pk c ck fp fc up))
            (subst (SameAt grove new.grove) after same) spare

  -- a number that the index doesn't have, of the two that a move is about
  pub no_node_told : (v : HeapView) (is : g ≡ v.grove) (store : Store) (p c : ℕ)
      → LacksOne nodes p c
      → Did {A = Unit {0}} (append_move v v is store p 0 c 0) (Err k.NoNode) v v
      × Did {A = Unit {0}} (remove_move v v is store p 0 c 0) (Err k.NoNode) v v
  no_node_told v is store p c (inl e) = no_parent_told v v is store p 0 c 0 e
  no_node_told v is store p c (inr e) = by_parent (lookup p nodes) refl
    where
      by_parent : (o : Option ℕ) → lookup p nodes ≡ o
          → Did {A = Unit {0}} (append_move v v is store p 0 c 0) (Err k.NoNode) v v
          × Did {A = Unit {0}} (remove_move v v is store p 0 c 0) (Err k.NoNode) v v
      by_parent None a = no_parent_told v v is store p 0 c 0 (sym a)
      by_parent (Some pk) a =
          no_child_told v v is store p pk c 0 (found s nodes lists g l p pk (sym a)) e
