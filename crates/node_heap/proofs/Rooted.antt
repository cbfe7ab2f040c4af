-- The child of a move: taken out of its row it is a root, and then it is put where it belongs.
use Rattle.std.proofs.Common.{◌≡◌, ◌≢◌, ℕ, true, List, Some, refl, sym, subst}
use Rattle.std.specs.Option.{IsSome}
use Rattle.model_shapes.specs.Trees.{Trees}
use Rattle.model_heap.specs.Lists.{holds}
use Rattle.model_heap.specs.Entries.{removed, appended, inserted, uses, tree_at, rows_of, parent_of}
use Rattle.slab.specs.Slab.{Slab, get, slab_len, ContainsKey}
use Rattle.node_heap.specs.declared.records.Record.{Record}
use Rattle.node_heap.specs.declared.index.Pair.{Pair}
use Rattle.node_heap.specs.Records.{TakesOut, PutsLast, PutsBefore, Neighbours}
use Rattle.node_heap.specs.Indexes.{lookup}
use Rattle.node_heap.specs.Heap.{Linking}
use Rattle.node_heap.proofs.Found.{Found, found}
use Rattle.node_heap.proofs.Changes.{takes_out, puts_last, puts_before}
use Rattle.node_heap.proofs.Walk.{apart_from}
use Rattle.node_heap.proofs.Tests.{neighbours, once_there, held}
use Rattle.node_heap.proofs.WellFormed.{appended_well, inserted_well}

module _ (s : Slab Record) (nodes lists : List Pair) (g : Trees) (l : Linking s nodes lists g) where
  -- what a move asks of the key of a number
  pub there : (n k : ℕ) → Some k ≡ lookup n nodes → ContainsKey s k
  there n k h = subst IsSome (sym (found s nodes lists g l n k h).at) refl

  pub beside_it : (n k : ℕ) → Some k ≡ lookup n nodes → (r : Record) → get s k ≡ Some r
      → Neighbours s r
  beside_it n k h = neighbours s nodes lists g l n k (found s nodes lists g l n k h)

module _ (s s' : Slab Record) (nodes lists : List Pair) (g : Trees) (l : Linking s nodes lists g)
    (c ck : ℕ) (below : Some ck ≡ lookup c nodes)
    (taken : (r : Record) → get s ck ≡ Some r → TakesOut s s' ck r)
    (size : slab_len s' ≡ slab_len s)
  where
    -- it is a root
    pub parted : Linking s' nodes lists (removed c g)
    parted =
        let f = found s nodes lists g l c ck below in
        takes_out s s' nodes lists g c ck l f (taken f.it f.at) size

    found_then : (n k : ℕ) → Some k ≡ lookup n nodes → Found s' nodes (removed c g) n k
    found_then n k h = found s' nodes lists (removed c g) parted n k h

    child_once : uses c g ≡ 1
    child_once = once_there s nodes g c ck (l.once c) (found s nodes lists g l c ck below)

    module _ (p pk : ℕ) (above : Some pk ≡ lookup p nodes) (outside : uses p (tree_at c g) ≡ 0)
        (s'' : Slab Record) (size' : slab_len s'' ≡ slab_len s')
      where
        -- it is the last child of the parent
        pub moved_last : ((r : Record) → get s' pk ≡ Some r → PutsLast s' s'' pk ck r)
            → Linking s'' nodes lists (appended p c g)
        moved_last puts =
            let fp = found_then p pk above in
            let once = once_there s nodes g p pk (l.once p) (found s nodes lists g l p pk above) in
            puts_last s' s'' nodes lists g p c pk ck l.once child_once once outside
            (apart_from p c g child_once outside) parted fp (found_then c ck below)
            (puts fp.it fp.at) size'
            (appended_well p c g (l.once c) (l.once p) l.whole l.well_formed)

        -- it stands just before another child of the parent
        pub moved_before : (w wk : ℕ) → Some wk ≡ lookup w nodes → c ≢ w
            → holds (parent_of (rows_of g w)) p ≡ true
            → ((r : Record) → get s' wk ≡ Some r → PutsBefore s' s'' pk wk ck r)
            → Linking s'' nodes lists (inserted w c g)
        moved_before w wk before differ under puts =
            let fw = found_then w wk before in
            puts_before s' s'' nodes lists g p w c pk wk ck l.once child_once outside
            (apart_from p c g child_once outside) (λ e. differ (sym e))
            (held (parent_of (rows_of g w)) p under) parted (found_then p pk above) fw
            (found_then c ck below) (puts fw.it fw.at) size'
            (inserted_well w c g (l.once c) (l.once w) l.whole l.well_formed)
