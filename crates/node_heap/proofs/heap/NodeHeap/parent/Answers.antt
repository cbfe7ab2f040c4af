use Rattle.std.proofs.Common.{◌≡◌, ◌∙◌, ℕ, Some, None, subst, sym, ap, refl}
use Rattle.std.specs.Option.{IsSome}
use Rattle.slab.specs.Slab.{get}
use Rattle.node_heap.specs.declared.records.Record.{Record}
use Rattle.node_heap.specs.HeapView.{HeapView}
use Rattle.node_heap.specs.Indexes.{lookup, key_in}
use Rattle.node_heap.specs.Heap.{grove_of}
use Rattle.grove_data.specs.Finding.{number_or_null}
use Rattle.model_shapes.specs.Values.{node_number}
use Rattle.model_groves.specs.Groves.{nodes_where, parental, first_number}
use Rattle.node_heap.proofs.Found.{Found, Points, found, parent_found, from_none}
use Rattle.node_heap.proofs.Told.{node_told, node_missed, parent_told}
use Rattle.node_heap.proofs.heap.NodeHeap.parent.Goals as goal
use Rattle.node_heap.proofs.heap.NodeHeap.parent.Goals.{In-Some}

it : (c : In-Some) → Found c.self.inside.records c.self.inside.nodes.items
    (grove_of c.self.inside.records c.self.inside.nodes.items) c.args.node c.in-Some.key
it c = found c.self.inside.records c.self.inside.nodes.items c.self.inside.lists.items
    (grove_of c.self.inside.records c.self.inside.nodes.items) c.self.invariant.links c.args.node
    c.in-Some.key (sym c.in-Some.is ∙ c.find.ensures ∙ ap (lookup c.args.node)
    c.deref.ensures.value)

abbrev Above : (c : In-Some) (pk : ℕ) → Type 0
Above c pk = (f : Found c.self.inside.records c.self.inside.nodes.items
    (grove_of c.self.inside.records c.self.inside.nodes.items) c.args.node c.in-Some.key)
    × Points c.self.inside.records c.self.inside.nodes.items
    (grove_of c.self.inside.records c.self.inside.nodes.items) f.entry.parent pk

above : (c : In-Some) (pk : ℕ) (r : Record) → get c.self.inside.records c.in-Some.key ≡ Some r
    → r.parent ≡ Some pk → Above c pk
above c pk r a p = parent_found c.self.inside.records c.self.inside.nodes.items
    c.self.inside.lists.items (grove_of c.self.inside.records c.self.inside.nodes.items)
    (grove_of c.self.inside.records c.self.inside.nodes.items) c.self.invariant.links c.args.node
    c.in-Some.key pk r (it c) a p

pub index-requires : goal.index-requires
index-requires c = subst IsSome (sym (it c).at) refl

pub index-requires-in-Some-parent : goal.index-requires-in-Some-parent
index-requires-in-Some-parent c = subst IsSome
    (sym (above (goal.at.index-requires-in-Some-parent c).In-Some c.in-Some-parent.parent
    c.index.result.now c.index.ensures c.in-Some-parent.is).1.there.at) refl

pub returns-in-Some-parent : goal.returns-in-Some-parent
returns-in-Some-parent c =
    let t = (goal.at.returns-in-Some-parent c).In-Some in
    let w =
    above t c.in-Some-parent.parent c.index.result.now c.index.ensures c.in-Some-parent.is in
    let same : w.1.there.it ≡ c.index-in-Some-parent.result.now =
    let x = w.1.there.at in let y = c.index-in-Some-parent.ensures in cc in
    let number : c.index-in-Some-parent.result.now.number ≡ w.1.number =
    ap (λ (r : Record). r.number) (sym same) ∙ w.1.there.fits.number in
    let view = ap (λ (v : HeapView). v.grove) c.self.view_is in
    node_told _ _ _ (grove_of c.self.inside.records c.self.inside.nodes.items)
    c.self.invariant.links _ _ _ c.args.node c.in-Some.key w.0 c.args.self.now.grove view
    (λ kids. ap node_number number
    ∙ parent_told _ _ _ _ c.self.invariant.links c.args.node c.in-Some.key w.0 (Some w.1.number)
    w.1.is ∙ ap (λ g. first_number (nodes_where (parental c.args.node) g)) view)

pub returns-in-None-parent : goal.returns-in-None-parent
returns-in-None-parent c =
    let f = it (goal.at.returns-in-None-parent c).In-Some in
    let same : f.it ≡ c.index.result.now = let x = f.at in let y = c.index.ensures in cc in
    let top : f.entry.parent ≡ None =
    from_none (key_in c.self.inside.nodes.items) f.entry.parent
    (sym f.fits.parent ∙ ap (λ (r : Record). r.parent) same ∙ c.in-None-parent.is) in
    let view = ap (λ (v : HeapView). v.grove) c.self.view_is in
    node_told _ _ _ (grove_of c.self.inside.records c.self.inside.nodes.items)
    c.self.invariant.links _ _ _ c.args.node c.in-Some.key f c.args.self.now.grove view
    (λ kids. parent_told _ _ _ _ c.self.invariant.links c.args.node c.in-Some.key f None top
    ∙ ap (λ g. first_number (nodes_where (parental c.args.node) g)) view)

pub returns-in-None : goal.returns-in-None
returns-in-None c =
    node_missed _ _ _ (grove_of c.self.inside.records c.self.inside.nodes.items)
    c.self.invariant.links number_or_null _ c.args.node
    (sym c.in-None.is ∙ c.find.ensures ∙ ap (lookup c.args.node) c.deref.ensures.value)
    c.args.self.now.grove (ap (λ (v : HeapView). v.grove) c.self.view_is)
