use Rattle.std.proofs.Common.{◌≡◌, ◌∙◌, Bool, true, false, cond, List, Some, sym, ap, subst}
use Rattle.model_shapes.specs.Trees.{Trees}
use Rattle.model_heap.specs.Entries.{removed, appended, uses, tree_at}
use Rattle.slab.specs.Slab.{Slab, get, slab_len}
use Rattle.node_heap.specs.declared.records.Record.{Record}
use Rattle.node_heap.specs.declared.index.Pair.{Pair}
use Rattle.node_heap.specs.Records.{TakesOut, PutsLast}
use Rattle.node_heap.specs.HeapView.{HeapView}
use Rattle.node_heap.specs.Heap.{grove_of, Linking, Linked}
use Rattle.node_heap.specs.Ends.{HasBoth, LacksOne}
use Rattle.node_heap.proofs.Found.{Found, found}
use Rattle.node_heap.proofs.Whole.{same_grove, linked_back}
use Rattle.node_heap.proofs.Rooted.{there, beside_it, parted, moved_last}
use Rattle.node_heap.proofs.Told.{no_node_told, cycle_told, append_told}
use Rattle.node_heap.proofs.heap.NodeHeap.append.Goals as goal
use Rattle.node_heap.proofs.heap.NodeHeap.append.Goals.{In-Some}

abbrev grove : In-Some → Trees
grove c = grove_of c.self.inside.records c.self.inside.nodes.items

keys : (c : In-Some) → HasBoth c.self.inside.nodes.items c.args.parent c.args.child
    c.in-Some.above c.in-Some.below
keys c = subst (λ (nodes : List Pair). HasBoth nodes c.args.parent c.args.child c.in-Some.above
    c.in-Some.below) c.deref.ensures.value c.in-Some.ensures.keys

above : (c : In-Some) → Found c.self.inside.records c.self.inside.nodes.items (grove c)
    c.args.parent c.in-Some.above
above c = found c.self.inside.records c.self.inside.nodes.items c.self.inside.lists.items (grove c)
    c.self.invariant.links c.args.parent c.in-Some.above (keys c).parent_at

below : (c : In-Some) → Found c.self.inside.records c.self.inside.nodes.items (grove c)
    c.args.child c.in-Some.below
below c = found c.self.inside.records c.self.inside.nodes.items c.self.inside.lists.items (grove c)
    c.self.invariant.links c.args.child c.in-Some.below (keys c).child_at

tested : (c : In-Some) (b : Bool) → c.in-Some.makes_cycle ≡ b
    → uses c.args.parent (tree_at c.args.child (grove c)) ≡ cond b 1 0
tested c b e = ap (λ (nodes : List Pair). uses c.args.parent (tree_at c.args.child
    (grove_of c.self.inside.records nodes))) (sym c.deref.ensures.value)
    ∙ c.in-Some.ensures.cycle ∙ ap (λ b. cond b 1 0) e

pub returns-in_default : goal.returns-in_default
returns-in_default c = λ store. (no_node_told c.self.inside.records c.self.inside.nodes.items
    c.self.inside.lists.items (grove_of c.self.inside.records c.self.inside.nodes.items)
    c.self.invariant.links c.args.self.now (ap (λ (v : HeapView). v.grove) c.self.view_is) store
    c.args.parent c.args.child
    (subst (λ (nodes : List Pair). LacksOne nodes c.args.parent c.args.child)
    c.deref.ensures.value c.in_default.ensures.keys)).0

pub returns-then-makes_cycle : goal.returns-then-makes_cycle
returns-then-makes_cycle c = λ store.
    let t = (goal.at.returns-then-makes_cycle c).In-Some in
    cycle_told _ _ _ (grove t) t.self.invariant.links c.args.self.now c.args.self.now
    (ap (λ (v : HeapView). v.grove) c.self.view_is) store c.args.parent t.in-Some.above
    c.args.child t.in-Some.below (above t) (below t) (tested t true c.if-makes_cycle.true)

pub detach-requires-clause-there : goal.detach-requires-clause-there
detach-requires-clause-there c =
    let t = (goal.at.detach-requires-clause-there c).In-Some in
    there t.self.inside.records t.self.inside.nodes.items t.self.inside.lists.items (grove t)
    t.self.invariant.links t.args.child t.in-Some.below (keys t).child_at

pub detach-requires-clause-neighbours : goal.detach-requires-clause-neighbours
detach-requires-clause-neighbours c =
    let t = (goal.at.detach-requires-clause-neighbours c).In-Some in
    beside_it t.self.inside.records t.self.inside.nodes.items t.self.inside.lists.items (grove t)
    t.self.invariant.links t.args.child t.in-Some.below (keys t).child_at

module _ (t : In-Some) (s : Slab Record)
    (taken : (r : Record) → get t.self.inside.records t.in-Some.below ≡ Some r
    → TakesOut t.self.inside.records s t.in-Some.below r)
    (size : slab_len s ≡ slab_len t.self.inside.records) where
  between : Linking s t.self.inside.nodes.items t.self.inside.lists.items
      (removed t.args.child (grove t))
  between = parted t.self.inside.records s t.self.inside.nodes.items t.self.inside.lists.items
      (grove t) t.self.invariant.links t.args.child t.in-Some.below (keys t).child_at taken size

  done : (s' : Slab Record) → t.in-Some.makes_cycle ≡ false
      → ((r : Record) → get s t.in-Some.above ≡ Some r
      → PutsLast s s' t.in-Some.above t.in-Some.below r) → slab_len s' ≡ slab_len s
      → Linked s' t.self.inside.nodes.items t.self.inside.lists.items
      (appended t.args.parent t.args.child (grove t))
  done s' no_cycle puts size' = record {
    links = moved_last t.self.inside.records s t.self.inside.nodes.items
        t.self.inside.lists.items (grove t) t.self.invariant.links t.args.child t.in-Some.below
        (keys t).child_at taken size t.args.parent t.in-Some.above (keys t).parent_at
        (tested t false no_cycle) s' size' puts;
    rising = t.self.invariant.rising;
    rising_lists = t.self.invariant.rising_lists;
  }

pub attach_last-requires-clause-there : goal.attach_last-requires-clause-there
attach_last-requires-clause-there c =
    let t = (goal.at.attach_last-requires-clause-there c).In-Some in
    there c.detach.new.records t.self.inside.nodes.items t.self.inside.lists.items
    (removed t.args.child (grove t))
    (between t c.detach.new.records c.detach.ensures.takes_out c.detach.ensures.size)
    t.args.child t.in-Some.below (keys t).child_at

pub attach_last-requires-clause-parent : goal.attach_last-requires-clause-parent
attach_last-requires-clause-parent c =
    let t = (goal.at.attach_last-requires-clause-parent c).In-Some in
    there c.detach.new.records t.self.inside.nodes.items t.self.inside.lists.items
    (removed t.args.child (grove t))
    (between t c.detach.new.records c.detach.ensures.takes_out c.detach.ensures.size)
    t.args.parent t.in-Some.above (keys t).parent_at

pub attach_last-requires-clause-neighbours : goal.attach_last-requires-clause-neighbours
attach_last-requires-clause-neighbours c =
    let t = (goal.at.attach_last-requires-clause-neighbours c).In-Some in
    beside_it c.detach.new.records t.self.inside.nodes.items t.self.inside.lists.items
    (removed t.args.child (grove t))
    (between t c.detach.new.records c.detach.ensures.takes_out c.detach.ensures.size)
    t.args.parent t.in-Some.above (keys t).parent_at

pub invariant_of-self : goal.invariant_of-self
invariant_of-self c =
    let t = (goal.at.invariant_of-self c).In-Some in
    linked_back c.attach_last.new.records c.self.inside.nodes.items c.self.inside.lists.items
    (appended c.args.parent c.args.child (grove t))
    (done t c.detach.new.records c.detach.ensures.takes_out c.detach.ensures.size
    c.attach_last.new.records c.if-makes_cycle.false c.attach_last.ensures.puts_last
    c.attach_last.ensures.size)

pub returns : goal.returns
returns c = λ store.
    let t = (goal.at.returns c).In-Some in
    append_told _ _ _ (grove t) t.self.invariant.links c.args.self.now _
    (ap (λ (v : HeapView). v.grove) c.self.view_is) store c.args.parent t.in-Some.above
    c.args.child t.in-Some.below (above t) (below t) (tested t false c.if-makes_cycle.false)
    (same_grove c.attach_last.new.records c.self.inside.nodes.items c.self.inside.lists.items
    (appended c.args.parent c.args.child (grove t))
    (done t c.detach.new.records c.detach.ensures.takes_out c.detach.ensures.size
    c.attach_last.new.records c.if-makes_cycle.false c.attach_last.ensures.puts_last
    c.attach_last.ensures.size))
    (rw (
      c.attach_last.ensures.size,
      c.attach_last.ensures.capacity,
      c.detach.ensures.size,
      c.detach.ensures.capacity,
    ) (ap (λ (v : HeapView). v.spare) c.self.view_is))
