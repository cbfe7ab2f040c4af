use Rattle.std.proofs.Common.{◌≡◌, ◌∙◌, subst, sym, ap, refl}
use Rattle.std.specs.Option.{IsSome}
use Rattle.model_shapes.specs.Values.{list_number}
use Rattle.node_heap.specs.declared.records.Record.{Record}
use Rattle.node_heap.specs.HeapView.{HeapView}
use Rattle.node_heap.specs.Indexes.{lookup}
use Rattle.node_heap.specs.Heap.{grove_of}
use Rattle.node_heap.proofs.Found.{Found, found}
use Rattle.node_heap.proofs.Told.{node_told, node_missed}
use Rattle.node_heap.proofs.heap.NodeHeap.child_list.Goals as goal
use Rattle.node_heap.proofs.heap.NodeHeap.child_list.Goals.{In-Some}

it : (c : In-Some) → Found c.self.inside.records c.self.inside.nodes.items
    (grove_of c.self.inside.records c.self.inside.nodes.items) c.args.node c.in-Some.key
it c =
    found c.self.inside.records c.self.inside.nodes.items c.self.inside.lists.items
    (grove_of c.self.inside.records c.self.inside.nodes.items) c.self.invariant.links c.args.node
    c.in-Some.key (sym c.in-Some.is ∙ c.find.ensures ∙ ap (lookup c.args.node)
    c.deref.ensures.value)

pub index-requires : goal.index-requires
index-requires c = subst IsSome (sym (it c).at) refl

pub returns-in-Some : goal.returns-in-Some
returns-in-Some c =
    let f = it (goal.at.returns-in-Some c).In-Some in
    let same : f.it ≡ c.index.result.now = let x = f.at in let y = c.index.ensures in cc in
    node_told _ _ _ (grove_of c.self.inside.records c.self.inside.nodes.items)
    c.self.invariant.links _ _ _ c.args.node c.in-Some.key f c.args.self.now.grove
    (ap (λ (v : HeapView). v.grove) c.self.view_is)
    (λ kids. ap list_number (ap (λ (r : Record). r.list) (sym same) ∙ f.fits.list))

pub returns-in-None : goal.returns-in-None
returns-in-None c =
    node_missed _ _ _ (grove_of c.self.inside.records c.self.inside.nodes.items)
    c.self.invariant.links list_number _ c.args.node
    (sym c.in-None.is ∙ c.find.ensures ∙ ap (lookup c.args.node) c.deref.ensures.value)
    c.args.self.now.grove (ap (λ (v : HeapView). v.grove) c.self.view_is)
