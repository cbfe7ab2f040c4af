use Rattle.std.proofs.Common.{◌∙◌, ◌≤◌, ◌<◌, ℕ, map, Option, Some, sym, ap, subst, refl, [], append-nil}
use Rattle.std.specs.Option.{IsSome}
use Rattle.model_heap.specs.Lists.{count}
use Rattle.model_heap.specs.Entries.{roots}
use Rattle.model_heap.specs.Roots.{root_at}
use Rattle.node_heap.specs.declared.walking.Mark.{Mark}
use Rattle.node_heap.specs.declared.walking.Place.{Place}
use Rattle.node_heap.specs.HeapView.{HeapView}
use Rattle.node_heap.specs.Indexes.{lookup}
use Rattle.node_heap.specs.Heap.{grove_of}
use Rattle.node_heap.specs.Walking.{seen}
use Rattle.node_heap.proofs.Tours.{Toured, toured_on, seen-last, begin, no_index, left_at}
use Rattle.node_heap.proofs.heap.NodeHeap.walk_tree.Goals as goal

pub unreachable-requires : goal.unreachable-requires
unreachable-requires c =
    no_index c.self.inside.records c.self.inside.nodes.items c.self.inside.lists.items
    (grove_of c.self.inside.records c.self.inside.nodes.items) c.self.invariant.links c.args.root
    (subst (λ (v : HeapView). 1 ≤ count c.args.root (roots v.grove)) (sym c.self.view_is)
    c.requires)
    (sym c.in-None.is ∙ c.find.ensures ∙ ap (lookup c.args.root) c.deref.ensures.value)

pub loop-place-init : goal.loop-place-init
loop-place-init c = record {
  out = [];
  is = sym (append-nil (map seen c.args.marks.now.items));
  at =
      begin c.self.inside.records c.self.inside.nodes.items c.self.inside.lists.items
      (grove_of c.self.inside.records c.self.inside.nodes.items) c.self.invariant.links c.args.root
      c.in-Some.key
      (subst (λ (v : HeapView). 1 ≤ count c.args.root (roots v.grove)) (sym c.self.view_is)
      c.requires)
      (sym c.in-Some.is ∙ c.find.ensures ∙ ap (lookup c.args.root) c.deref.ensures.value);
}

pub index-node-requires : goal.index-node-requires
index-node-requires c =
    let w : Toured c.self.inside.records c.self.inside.nodes.items
    (grove_of c.self.inside.records c.self.inside.nodes.items) c.args.root
    (map seen c.args.marks.now.items) (map seen c.loop-place.marks.items)
    (Some c.in-Some-place.here) = subst (λ p. Toured c.self.inside.records
    c.self.inside.nodes.items
    (grove_of c.self.inside.records c.self.inside.nodes.items) c.args.root
    (map seen c.args.marks.now.items)
    (map seen c.loop-place.marks.items) p) c.in-Some-place.is c.loop-place.invariant in
    subst IsSome (sym w.at.found.at) refl

pub loop-place-preserved : goal.loop-place-preserved
loop-place-preserved c =
    let w : Toured c.self.inside.records c.self.inside.nodes.items
    (grove_of c.self.inside.records c.self.inside.nodes.items) c.args.root
    (map seen c.args.marks.now.items) (map seen c.loop-place.marks.items)
    (Some c.in-Some-place.here) = subst (λ p. Toured c.self.inside.records
    c.self.inside.nodes.items
    (grove_of c.self.inside.records c.self.inside.nodes.items) c.args.root
    (map seen c.args.marks.now.items)
    (map seen c.loop-place.marks.items) p) c.in-Some-place.is c.loop-place.invariant in
    let m : Mark = record { node = c.index-node.result; opens = c.in-Some-place.here.opens } in
    let t = toured_on c.self.inside.records c.self.inside.nodes.items c.self.inside.lists.items
    (grove_of c.self.inside.records c.self.inside.nodes.items) c.self.invariant.links
    c.args.root
    (subst (λ (v : HeapView). 1 ≤ count c.args.root (roots v.grove)) (sym c.self.view_is)
    c.requires)
    (map seen c.args.marks.now.items) (map seen c.loop-place.marks.items) c.in-Some-place.here w
    m
    c.index-node.ensures refl (map seen c.push.new.self.items)
    (ap (map seen) c.in_ok-push.ensures.items ∙ seen-last c.loop-place.marks.items m) in
    rw c.onward-place.ensures t.0

pub loop-place-smaller : goal.loop-place-smaller
loop-place-smaller c =
    let w : Toured c.self.inside.records c.self.inside.nodes.items
    (grove_of c.self.inside.records c.self.inside.nodes.items) c.args.root
    (map seen c.args.marks.now.items) (map seen c.loop-place.marks.items)
    (Some c.in-Some-place.here) = subst (λ p. Toured c.self.inside.records
    c.self.inside.nodes.items
    (grove_of c.self.inside.records c.self.inside.nodes.items) c.args.root
    (map seen c.args.marks.now.items)
    (map seen c.loop-place.marks.items) p) c.in-Some-place.is c.loop-place.invariant in
    let m : Mark = record { node = c.index-node.result; opens = c.in-Some-place.here.opens } in
    let t = toured_on c.self.inside.records c.self.inside.nodes.items c.self.inside.lists.items
    (grove_of c.self.inside.records c.self.inside.nodes.items) c.self.invariant.links
    c.args.root
    (subst (λ (v : HeapView). 1 ≤ count c.args.root (roots v.grove)) (sym c.self.view_is)
    c.requires)
    (map seen c.args.marks.now.items) (map seen c.loop-place.marks.items) c.in-Some-place.here w
    m
    c.index-node.ensures refl (map seen c.push.new.self.items)
    (ap (map seen) c.in_ok-push.ensures.items ∙ seen-last c.loop-place.marks.items m) in
    let now : Option Place → ℕ = left_at c.self.inside.records
    (root_at c.args.root (grove_of c.self.inside.records c.self.inside.nodes.items)) in
    let smaller : now c.onward-place.result < now c.loop-place.place =
    subst (λ p. now c.onward-place.result < now p) (sym c.in-Some-place.is)
    (subst (λ p. now p < now (Some c.in-Some-place.here)) (sym c.onward-place.ensures) t.1) in
    smaller
