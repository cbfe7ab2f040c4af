use Rattle.std.proofs.Common.{◌≡◌, ◌≢◌, ◌∙◌, ℕ, Bool, true, false, cond, List, Some, sym, ap, subst}
use Rattle.model_shapes.specs.Trees.{Trees}
use Rattle.model_heap.specs.Lists.{holds}
use Rattle.model_heap.specs.Entries.{removed, inserted, uses, tree_at, rows_of, parent_of}
use Rattle.slab.specs.Slab.{Slab, get, slab_len}
use Rattle.node_heap.specs.declared.records.Record.{Record}
use Rattle.node_heap.specs.declared.index.Pair.{Pair}
use Rattle.node_heap.specs.Records.{TakesOut, PutsBefore}
use Rattle.node_heap.specs.HeapView.{HeapView}
use Rattle.node_heap.specs.Indexes.{lookup}
use Rattle.node_heap.specs.Heap.{grove_of, Linking, Linked}
use Rattle.node_heap.specs.Ends.{HasBoth, LacksOne}
use Rattle.node_heap.proofs.Found.{Found, found}
use Rattle.node_heap.proofs.Whole.{same_grove, linked_back}
use Rattle.node_heap.proofs.Tests.{child_test}
use Rattle.node_heap.proofs.Rooted.{there, beside_it, parted, moved_before}
use Rattle.node_heap.proofs.Inserted.{no_node_in, no_next_in, self_in, cycle_in, not_child_in, insert_in}
use Rattle.node_heap.proofs.heap.NodeHeap.put_before.Goals as goal
use Rattle.node_heap.proofs.heap.NodeHeap.put_before.Goals.{In-Some, In-Some-find}

abbrev grove : In-Some → Trees
grove c = grove_of c.self.inside.records c.self.inside.nodes.items

keys : (c : In-Some) → HasBoth c.self.inside.nodes.items c.args.parent c.args.child
    c.in-Some.above c.in-Some.below
keys c = subst (λ (nodes : List Pair). HasBoth nodes c.args.parent c.args.child c.in-Some.above
    c.in-Some.below) c.deref.ensures.value c.in-Some.ensures.keys

above : (c : In-Some) → Found c.self.inside.records c.self.inside.nodes.items (grove c)
    c.args.parent c.in-Some.above
above c = found c.self.inside.records c.self.inside.nodes.items c.self.inside.lists.items (grove c)
    c.self.invariant.links c.args.parent c.in-Some.above (keys c).parent_at

below : (c : In-Some) → Found c.self.inside.records c.self.inside.nodes.items (grove c)
    c.args.child c.in-Some.below
below c = found c.self.inside.records c.self.inside.nodes.items c.self.inside.lists.items (grove c)
    c.self.invariant.links c.args.child c.in-Some.below (keys c).child_at

tested : (c : In-Some) (b : Bool) → c.in-Some.makes_cycle ≡ b
    → uses c.args.parent (tree_at c.args.child (grove c)) ≡ cond b 1 0
tested c b e = ap (λ (nodes : List Pair). uses c.args.parent (tree_at c.args.child
    (grove_of c.self.inside.records nodes))) (sym c.deref.ensures.value)
    ∙ c.in-Some.ensures.cycle ∙ ap (λ b. cond b 1 0) e

next_at : (c : In-Some-find) → Some c.in-Some-find.key
    ≡ lookup c.args.next c.self.inside.nodes.items
next_at c = sym c.in-Some-find.is ∙ c.find.ensures
    ∙ ap (lookup c.args.next) c.deref-2.ensures.value

before : (c : In-Some-find) → Found c.self.inside.records c.self.inside.nodes.items
    (grove_of c.self.inside.records c.self.inside.nodes.items) c.args.next c.in-Some-find.key
before c = found c.self.inside.records c.self.inside.nodes.items c.self.inside.lists.items
    (grove_of c.self.inside.records c.self.inside.nodes.items) c.self.invariant.links
    c.args.next c.in-Some-find.key (next_at c)

pub returns-in_default : goal.returns-in_default
returns-in_default c = λ store. no_node_in c.self.inside.records c.self.inside.nodes.items
    c.self.inside.lists.items (grove_of c.self.inside.records c.self.inside.nodes.items)
    c.self.invariant.links c.args.self.now c.args.self.now
    (ap (λ (v : HeapView). v.grove) c.self.view_is) store c.args.parent c.args.child c.args.next
    (subst (λ (nodes : List Pair). LacksOne nodes c.args.parent c.args.child)
    c.deref.ensures.value c.in_default.ensures.keys)

pub returns-in-None : goal.returns-in-None
returns-in-None c = λ store.
    let t = (goal.at.returns-in-None c).In-Some in
    no_next_in _ _ _ (grove t) t.self.invariant.links c.args.self.now c.args.self.now
    (ap (λ (v : HeapView). v.grove) c.self.view_is) store c.args.parent c.args.child c.args.next
    t.in-Some.above (above t) t.in-Some.below (below t)
    (sym c.in-None.is ∙ c.find.ensures ∙ ap (lookup c.args.next) c.deref-2.ensures.value)

pub returns-then-child-next : goal.returns-then-child-next
returns-then-child-next c = λ store.
    let t = (goal.at.returns-then-child-next c).In-Some in
    let f = (goal.at.returns-then-child-next c).In-Some-find in
    self_in _ _ _ (grove t) t.self.invariant.links c.args.self.now c.args.self.now
    (ap (λ (v : HeapView). v.grove) c.self.view_is) store c.args.parent c.args.child c.args.next
    t.in-Some.above (above t) t.in-Some.below (below t) f.in-Some-find.key (before f)
    c.if-child-next.true

pub returns-then-makes_cycle : goal.returns-then-makes_cycle
returns-then-makes_cycle c = λ store.
    let t = (goal.at.returns-then-makes_cycle c).In-Some in
    let f = (goal.at.returns-then-makes_cycle c).In-Some-find in
    cycle_in _ _ _ (grove t) t.self.invariant.links c.args.self.now c.args.self.now
    (ap (λ (v : HeapView). v.grove) c.self.view_is) store c.args.parent c.args.child c.args.next
    t.in-Some.above (above t) t.in-Some.below (below t) f.in-Some-find.key (before f)
    c.if-child-next.false (tested t true c.if-makes_cycle.true)

pub index-requires : goal.index-requires
index-requires c =
    let f = (goal.at.index-requires c).In-Some-find in
    there f.self.inside.records f.self.inside.nodes.items f.self.inside.lists.items
    (grove_of f.self.inside.records f.self.inside.nodes.items) f.self.invariant.links f.args.next
    f.in-Some-find.key (next_at f)

-- what the test of the parent says
is_child : (t : In-Some) (r : Record) (k : ℕ)
    → Found t.self.inside.records t.self.inside.nodes.items (grove t) t.args.next k
    → get t.self.inside.records k ≡ Some r
    → holds r.parent t.in-Some.above
    ≡ holds (parent_of (rows_of (grove t) t.args.next)) t.args.parent
is_child t r k found a = child_test t.self.inside.records t.self.inside.nodes.items
    t.self.inside.lists.items (grove t) t.self.invariant.links t.args.parent t.args.next
    t.in-Some.above k (above t) found r a

pub returns-then-not-is_under : goal.returns-then-not-is_under
returns-then-not-is_under c = λ store.
    let t = (goal.at.returns-then-not-is_under c).In-Some in
    let f = (goal.at.returns-then-not-is_under c).In-Some-find in
    not_child_in _ _ _ (grove t) t.self.invariant.links c.args.self.now c.args.self.now
    (ap (λ (v : HeapView). v.grove) c.self.view_is) store c.args.parent c.args.child c.args.next
    t.in-Some.above (above t) t.in-Some.below (below t) f.in-Some-find.key (before f)
    c.if-child-next.false (tested t false c.if-makes_cycle.false)
    (sym (is_child t c.index.result.now c.in-Some-find.key (before f) c.index.ensures)
    ∙ sym c.is_under.ensures ∙ c.if-not-is_under.true)

pub detach-requires-clause-there : goal.detach-requires-clause-there
detach-requires-clause-there c =
    let t = (goal.at.detach-requires-clause-there c).In-Some in
    there t.self.inside.records t.self.inside.nodes.items t.self.inside.lists.items (grove t)
    t.self.invariant.links t.args.child t.in-Some.below (keys t).child_at

pub detach-requires-clause-neighbours : goal.detach-requires-clause-neighbours
detach-requires-clause-neighbours c =
    let t = (goal.at.detach-requires-clause-neighbours c).In-Some in
    beside_it t.self.inside.records t.self.inside.nodes.items t.self.inside.lists.items (grove t)
    t.self.invariant.links t.args.child t.in-Some.below (keys t).child_at

module _ (t : In-Some) (s : Slab Record)
    (taken : (r : Record) → get t.self.inside.records t.in-Some.below ≡ Some r
    → TakesOut t.self.inside.records s t.in-Some.below r)
    (size : slab_len s ≡ slab_len t.self.inside.records) where
  between : Linking s t.self.inside.nodes.items t.self.inside.lists.items
      (removed t.args.child (grove t))
  between = parted t.self.inside.records s t.self.inside.nodes.items t.self.inside.lists.items
      (grove t) t.self.invariant.links t.args.child t.in-Some.below (keys t).child_at taken size

  done : (s' : Slab Record) (k : ℕ) → Some k ≡ lookup t.args.next t.self.inside.nodes.items
      → t.args.child ≢ t.args.next → t.in-Some.makes_cycle ≡ false
      → holds (parent_of (rows_of (grove t) t.args.next)) t.args.parent ≡ true
      → ((r : Record) → get s k ≡ Some r
      → PutsBefore s s' t.in-Some.above k t.in-Some.below r) → slab_len s' ≡ slab_len s
      → Linked s' t.self.inside.nodes.items t.self.inside.lists.items
      (inserted t.args.next t.args.child (grove t))
  done s' k at differ no_cycle under puts size' = record {
    links = moved_before t.self.inside.records s t.self.inside.nodes.items
        t.self.inside.lists.items (grove t) t.self.invariant.links t.args.child t.in-Some.below
        (keys t).child_at taken size t.args.parent t.in-Some.above (keys t).parent_at
        (tested t false no_cycle) s' size' t.args.next k at differ under puts;
    rising = t.self.invariant.rising;
    rising_lists = t.self.invariant.rising_lists;
  }

pub attach_before-requires-clause-there : goal.attach_before-requires-clause-there
attach_before-requires-clause-there c =
    let t = (goal.at.attach_before-requires-clause-there c).In-Some in
    there c.detach.new.records t.self.inside.nodes.items t.self.inside.lists.items
    (removed t.args.child (grove t))
    (between t c.detach.new.records c.detach.ensures.takes_out c.detach.ensures.size)
    t.args.child t.in-Some.below (keys t).child_at

pub attach_before-requires-clause-parent : goal.attach_before-requires-clause-parent
attach_before-requires-clause-parent c =
    let t = (goal.at.attach_before-requires-clause-parent c).In-Some in
    there c.detach.new.records t.self.inside.nodes.items t.self.inside.lists.items
    (removed t.args.child (grove t))
    (between t c.detach.new.records c.detach.ensures.takes_out c.detach.ensures.size)
    t.args.parent t.in-Some.above (keys t).parent_at

pub attach_before-requires-clause-next : goal.attach_before-requires-clause-next
attach_before-requires-clause-next c =
    let t = (goal.at.attach_before-requires-clause-next c).In-Some in
    let f = (goal.at.attach_before-requires-clause-next c).In-Some-find in
    there c.detach.new.records t.self.inside.nodes.items t.self.inside.lists.items
    (removed t.args.child (grove t))
    (between t c.detach.new.records c.detach.ensures.takes_out c.detach.ensures.size)
    t.args.next f.in-Some-find.key (next_at f)

pub attach_before-requires-clause-neighbours : goal.attach_before-requires-clause-neighbours
attach_before-requires-clause-neighbours c =
    let t = (goal.at.attach_before-requires-clause-neighbours c).In-Some in
    let f = (goal.at.attach_before-requires-clause-neighbours c).In-Some-find in
    beside_it c.detach.new.records t.self.inside.nodes.items t.self.inside.lists.items
    (removed t.args.child (grove t))
    (between t c.detach.new.records c.detach.ensures.takes_out c.detach.ensures.size)
    t.args.next f.in-Some-find.key (next_at f)

pub invariant_of-self : goal.invariant_of-self
invariant_of-self c =
    let t = (goal.at.invariant_of-self c).In-Some in
    let f = (goal.at.invariant_of-self c).In-Some-find in
    linked_back c.attach_before.new.records c.self.inside.nodes.items c.self.inside.lists.items
    (inserted c.args.next c.args.child (grove t))
    (done t c.detach.new.records c.detach.ensures.takes_out c.detach.ensures.size
    c.attach_before.new.records f.in-Some-find.key (next_at f) c.if-child-next.false
    c.if-makes_cycle.false
    (sym (is_child t c.index.result.now c.in-Some-find.key (before f) c.index.ensures)
    ∙ sym c.is_under.ensures ∙ c.if-not-is_under.false)
    c.attach_before.ensures.puts_before c.attach_before.ensures.size)

pub returns : goal.returns
returns c = λ store.
    let t = (goal.at.returns c).In-Some in
    let f = (goal.at.returns c).In-Some-find in
    let under : holds (parent_of (rows_of (grove t) t.args.next)) t.args.parent ≡ true =
    sym (is_child t c.index.result.now c.in-Some-find.key (before f) c.index.ensures)
    ∙ sym c.is_under.ensures ∙ c.if-not-is_under.false in
    insert_in _ _ _ (grove t) t.self.invariant.links c.args.self.now _
    (ap (λ (v : HeapView). v.grove) c.self.view_is) store c.args.parent c.args.child c.args.next
    t.in-Some.above (above t) t.in-Some.below (below t) f.in-Some-find.key (before f)
    c.if-child-next.false (tested t false c.if-makes_cycle.false) under
    (same_grove c.attach_before.new.records c.self.inside.nodes.items c.self.inside.lists.items
    (inserted c.args.next c.args.child (grove t))
    (done t c.detach.new.records c.detach.ensures.takes_out c.detach.ensures.size
    c.attach_before.new.records f.in-Some-find.key (next_at f) c.if-child-next.false
    c.if-makes_cycle.false under c.attach_before.ensures.puts_before
    c.attach_before.ensures.size))
    (rw (
      c.attach_before.ensures.size,
      c.attach_before.ensures.capacity,
      c.detach.ensures.size,
      c.detach.ensures.capacity,
    ) (ap (λ (v : HeapView). v.spare) c.self.view_is))
