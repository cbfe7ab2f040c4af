use Rattle.std.proofs.Common.{◌≡◌, ◌∙◌, List, subst, sym, ap, refl}
use Rattle.std.specs.Option.{IsSome}
use Rattle.model_shapes.specs.Trees.{Trees}
use Rattle.model_heap.specs.Lists.{holds}
use Rattle.model_heap.specs.Entries.{removed, rows_of, parent_of}
use Rattle.node_heap.specs.declared.index.Pair.{Pair}
use Rattle.node_heap.specs.Ends.{HasBoth, LacksOne}
use Rattle.node_heap.specs.HeapView.{HeapView}
use Rattle.node_heap.specs.Heap.{grove_of, Linking}
use Rattle.node_heap.proofs.Found.{Found, found}
use Rattle.node_heap.proofs.Whole.{same_grove, linked_back}
use Rattle.node_heap.proofs.Changes.{takes_out}
use Rattle.node_heap.proofs.Tests.{neighbours, child_test, held, not_held}
use Rattle.node_heap.proofs.Told.{no_node_told, not_child_told, remove_told}
use Rattle.node_heap.proofs.heap.NodeHeap.remove.Goals as goal
use Rattle.node_heap.proofs.heap.NodeHeap.remove.Goals.{In-Some}

abbrev grove : In-Some → Trees
grove c = grove_of c.self.inside.records c.self.inside.nodes.items

keys : (c : In-Some) → HasBoth c.self.inside.nodes.items c.args.parent c.args.child
    c.in-Some.above c.in-Some.below
keys c = subst (λ (nodes : List Pair). HasBoth nodes c.args.parent c.args.child c.in-Some.above
    c.in-Some.below) c.deref.ensures.value c.in-Some.ensures

above : (c : In-Some) → Found c.self.inside.records c.self.inside.nodes.items (grove c)
    c.args.parent c.in-Some.above
above c = found c.self.inside.records c.self.inside.nodes.items c.self.inside.lists.items (grove c)
    c.self.invariant.links c.args.parent c.in-Some.above (keys c).parent_at

below : (c : In-Some) → Found c.self.inside.records c.self.inside.nodes.items (grove c)
    c.args.child c.in-Some.below
below c = found c.self.inside.records c.self.inside.nodes.items c.self.inside.lists.items (grove c)
    c.self.invariant.links c.args.child c.in-Some.below (keys c).child_at

parent_is : (t : In-Some) → holds (parent_of (rows_of (grove t) t.args.child)) t.args.parent
    ≡ holds (below t).entry.parent t.args.parent
parent_is t = ap (λ o. holds (parent_of o) t.args.parent) (below t).is

pub index-requires : goal.index-requires
index-requires c = subst IsSome (sym (below (goal.at.index-requires c).In-Some).at) refl

pub returns-in_default : goal.returns-in_default
returns-in_default c = λ store. (no_node_told c.self.inside.records c.self.inside.nodes.items
    c.self.inside.lists.items (grove_of c.self.inside.records c.self.inside.nodes.items)
    c.self.invariant.links c.args.self.now (ap (λ (v : HeapView). v.grove) c.self.view_is) store
    c.args.parent c.args.child
    (subst (λ (nodes : List Pair). LacksOne nodes c.args.parent c.args.child)
    c.deref.ensures.value c.in_default.ensures)).1

pub returns-then-not-is_under : goal.returns-then-not-is_under
returns-then-not-is_under c = λ store.
    let t = (goal.at.returns-then-not-is_under c).In-Some in
    let test = child_test t.self.inside.records t.self.inside.nodes.items t.self.inside.lists.items
    (grove t) t.self.invariant.links t.args.parent t.args.child t.in-Some.above t.in-Some.below
    (above t) (below t) c.index.result.now c.index.ensures in
    not_child_told _ _ _ (grove t) t.self.invariant.links c.args.self.now c.args.self.now
    (ap (λ (v : HeapView). v.grove) c.self.view_is) store c.args.parent t.in-Some.above c.args.child
    t.in-Some.below (above t) (below t)
    (not_held (below t).entry.parent c.args.parent
    (sym (parent_is t) ∙ sym test ∙ sym c.is_under.ensures ∙ c.if-not-is_under.true))

pub detach-requires-clause-neighbours : goal.detach-requires-clause-neighbours
detach-requires-clause-neighbours c =
    let t = (goal.at.detach-requires-clause-neighbours c).In-Some in
    λ r a. neighbours t.self.inside.records t.self.inside.nodes.items t.self.inside.lists.items
    (grove t) t.self.invariant.links t.args.child t.in-Some.below (below t) r a

after : (c : goal.After-detach) → Linking c.detach.new.records c.self.inside.nodes.items
    c.self.inside.lists.items (removed c.args.child
    (grove_of c.self.inside.records c.self.inside.nodes.items))
after c =
    let t = (goal.at.returns c).In-Some in
    takes_out t.self.inside.records c.detach.new.records t.self.inside.nodes.items
    t.self.inside.lists.items (grove t) t.args.child t.in-Some.below t.self.invariant.links
    (below t) (c.detach.ensures.takes_out (below t).it (below t).at) c.detach.ensures.size

pub invariant_of-self : goal.invariant_of-self
invariant_of-self c =
    linked_back c.detach.new.records c.self.inside.nodes.items c.self.inside.lists.items
    (removed c.args.child (grove_of c.self.inside.records c.self.inside.nodes.items))
    (record {
      links = after c;
      rising = c.self.invariant.rising;
      rising_lists =
          c.self.invariant.rising_lists;
    })

pub returns : goal.returns
returns c = λ store.
    let t = (goal.at.returns c).In-Some in
    let test = child_test t.self.inside.records t.self.inside.nodes.items t.self.inside.lists.items
    (grove t) t.self.invariant.links t.args.parent t.args.child t.in-Some.above t.in-Some.below
    (above t) (below t) c.index.result.now c.index.ensures in
    remove_told _ _ _ (grove t) t.self.invariant.links c.args.self.now _
    (ap (λ (v : HeapView). v.grove) c.self.view_is) store c.args.parent t.in-Some.above c.args.child
    t.in-Some.below (above t) (below t)
    (held (below t).entry.parent c.args.parent
    (sym (parent_is t) ∙ sym test ∙ sym c.is_under.ensures ∙ c.if-not-is_under.false))
    (same_grove c.detach.new.records c.self.inside.nodes.items c.self.inside.lists.items
    (removed c.args.child (grove t))
    (record {
      links = after c;
      rising = c.self.invariant.rising;
      rising_lists =
          c.self.invariant.rising_lists;
    }))
    (rw (c.detach.ensures.size, c.detach.ensures.capacity)
    (ap (λ (v : HeapView). v.spare) c.self.view_is))
