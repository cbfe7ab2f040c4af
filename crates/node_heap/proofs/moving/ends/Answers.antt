use Rattle.std.proofs.Common.{subst, sym, refl}
use Rattle.std.specs.Option.{IsSome}
use Rattle.model_shapes.specs.Trees.{Trees}
use Rattle.node_heap.specs.Heap.{grove_of}
use Rattle.node_heap.proofs.Found.{Found, found}
use Rattle.node_heap.proofs.Walk.{Up, walk_up, walk_out, walk_in, walk_spared}
use Rattle.node_heap.proofs.moving.ends.Goals as goal
use Rattle.node_heap.proofs.moving.ends.Goals.{In_ok-above}

abbrev grove : In_ok-above → Trees
grove c = grove_of c.args.records.now c.args.nodes.now

above : (c : In_ok-above) → Found c.args.records.now c.args.nodes.now (grove c) c.args.parent
    c.in_ok-above.above
above c = found c.args.records.now c.args.nodes.now c.requires.lists (grove c)
    c.requires.linked.links c.args.parent c.in_ok-above.above c.in_ok-above.ensures.parent_at

below : (c : In_ok-above) → Found c.args.records.now c.args.nodes.now (grove c) c.args.child
    c.in_ok-above.below
below c = found c.args.records.now c.args.nodes.now c.requires.lists (grove c)
    c.requires.linked.links c.args.child c.in_ok-above.below c.in_ok-above.ensures.child_at

pub index-requires-in-loop-current : goal.index-requires-in-loop-current
index-requires-in-loop-current c = subst IsSome (sym c.loop-current.invariant.found.at) refl

pub loop-current-init : goal.loop-current-init
loop-current-init c = record {
  number = c.args.parent;
  found = above (goal.at.loop-current-init c).In_ok-above;
  same = refl;
}

pub returns-then-current-below-clause-cycle : goal.returns-then-current-below-clause-cycle
returns-then-current-below-clause-cycle c =
    let t = (goal.at.returns-then-current-below-clause-cycle c).In_ok-above in
    walk_in c.args.records.now c.args.nodes.now c.requires.lists (grove t)
    c.requires.linked.links c.args.parent c.args.child c.loop-current.current
    c.loop-current.invariant c.in_ok-above.below (below t) c.if-current-below.true

up : (c : goal.In-Some) → Up c.args.records.now c.args.nodes.now
    (grove_of c.args.records.now c.args.nodes.now) c.args.parent c.args.child
    c.loop-current.current c.in-Some.next
up c =
    let t = (goal.at.loop-current-preserved c).In_ok-above in
    walk_up c.args.records.now c.args.nodes.now c.requires.lists (grove t)
    c.requires.linked.links c.args.parent c.args.child c.loop-current.current
    c.loop-current.invariant c.in_ok-above.below (below t) c.if-current-below.false
    c.index-in-loop-current.result.now c.in-Some.next c.index-in-loop-current.ensures
    c.in-Some.is

pub loop-current-smaller : goal.loop-current-smaller
loop-current-smaller c = (up c).nearer

pub loop-current-preserved : goal.loop-current-preserved
loop-current-preserved c = (up c).walk

pub returns-in-None-clause-cycle : goal.returns-in-None-clause-cycle
returns-in-None-clause-cycle c =
    let t = (goal.at.returns-in-None-clause-cycle c).In_ok-above in
    walk_out c.args.records.now c.args.nodes.now c.requires.lists (grove t)
    c.requires.linked.links c.args.parent c.args.child c.loop-current.current
    c.loop-current.invariant c.in_ok-above.below (below t) c.if-current-below.false
    c.index-in-loop-current.result.now c.index-in-loop-current.ensures c.in-None.is

pub index-requires : goal.index-requires
index-requires c = subst IsSome (sym (below (goal.at.index-requires c).In_ok-above).at) refl

pub returns-then-is_none-clause-cycle : goal.returns-then-is_none-clause-cycle
returns-then-is_none-clause-cycle c =
    let t = (goal.at.returns-then-is_none-clause-cycle c).In_ok-above in
    walk_spared c.args.records.now c.args.nodes.now c.requires.lists (grove t)
    c.requires.linked.links c.args.parent c.args.child c.in_ok-above.above c.in_ok-above.below
    (above t) (below t) c.if-above-below.true c.index.result.now c.index.ensures
    c.if-is_none.ensures
