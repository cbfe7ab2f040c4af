use Rattle.std.proofs.Common.{◌≡◌, ◌∙◌, ℕ, None, Some, subst, sym, ap, refl}
use Rattle.std.specs.Option.{IsSome}
use Rattle.slab.specs.Slab.{get}
use Rattle.model_heap.specs.Lists.{after}
use Rattle.model_heap.specs.Entries.{rows_of}
use Rattle.node_heap.specs.Links.{row}
use Rattle.node_heap.specs.declared.records.Record.{Record}
use Rattle.node_heap.specs.HeapView.{HeapView}
use Rattle.node_heap.specs.Indexes.{lookup, key_in}
use Rattle.node_heap.specs.Heap.{grove_of}
use Rattle.grove_data.specs.Finding.{number_or_null}
use Rattle.node_heap.proofs.Found.{Found, Points, found, from_none}
use Rattle.node_heap.proofs.Told.{node_missed}
use Rattle.node_heap.proofs.Siblings.{next_found, next_told}
use Rattle.node_heap.proofs.heap.NodeHeap.next.Goals as goal
use Rattle.node_heap.proofs.heap.NodeHeap.next.Goals.{In-Some}

it : (c : In-Some) → Found c.self.inside.records c.self.inside.nodes.items
    (grove_of c.self.inside.records c.self.inside.nodes.items) c.args.node c.in-Some.key
it c = found c.self.inside.records c.self.inside.nodes.items c.self.inside.lists.items
    (grove_of c.self.inside.records c.self.inside.nodes.items) c.self.invariant.links c.args.node
    c.in-Some.key (sym c.in-Some.is ∙ c.find.ensures ∙ ap (lookup c.args.node)
    c.deref.ensures.value)

there : (c : In-Some) (k : ℕ) (r : Record) → get c.self.inside.records c.in-Some.key ≡ Some r
    → r.next ≡ Some k → Points c.self.inside.records c.self.inside.nodes.items
    (grove_of c.self.inside.records c.self.inside.nodes.items)
    (after c.args.node (row (rows_of (grove_of c.self.inside.records c.self.inside.nodes.items))
    (it c).entry.parent)) k
there c k r a p =
    let f = it c in
    let same : f.it ≡ r = let x = f.at in cc in
    next_found c.self.inside.records c.self.inside.nodes.items c.self.inside.lists.items
    (grove_of c.self.inside.records c.self.inside.nodes.items) c.self.invariant.links c.args.node
    c.in-Some.key k f (ap (λ (r : Record). r.next) same ∙ p)

pub index-requires : goal.index-requires
index-requires c = subst IsSome (sym (it c).at) refl

pub index-requires-in-Some-next : goal.index-requires-in-Some-next
index-requires-in-Some-next c = subst IsSome
    (sym (there (goal.at.index-requires-in-Some-next c).In-Some c.in-Some-next.next
    c.index.result.now c.index.ensures c.in-Some-next.is).there.at) refl

pub returns-in-Some-next : goal.returns-in-Some-next
returns-in-Some-next c =
    let t = (goal.at.returns-in-Some-next c).In-Some in
    let w = there t c.in-Some-next.next c.index.result.now c.index.ensures c.in-Some-next.is in
    let same : w.there.it ≡ c.index-in-Some-next.result.now =
    let x = w.there.at in let y = c.index-in-Some-next.ensures in cc in
    let number : c.index-in-Some-next.result.now.number ≡ w.number =
    ap (λ (r : Record). r.number) (sym same) ∙ w.there.fits.number in
    next_told c.self.inside.records c.self.inside.nodes.items c.self.inside.lists.items
    (grove_of c.self.inside.records c.self.inside.nodes.items) c.self.invariant.links
    (Some c.index-in-Some-next.result.now.number) c.args.node c.in-Some.key (it t)
    c.args.self.now.grove (ap (λ (v : HeapView). v.grove) c.self.view_is)
    (ap Some number ∙ sym w.is)

pub returns-in-None-next : goal.returns-in-None-next
returns-in-None-next c =
    let t = (goal.at.returns-in-None-next c).In-Some in
    let f = it t in
    let same : f.it ≡ c.index.result.now = let x = f.at in let y = c.index.ensures in cc in
    next_told c.self.inside.records c.self.inside.nodes.items c.self.inside.lists.items
    (grove_of c.self.inside.records c.self.inside.nodes.items) c.self.invariant.links
    None c.args.node c.in-Some.key f
    c.args.self.now.grove (ap (λ (v : HeapView). v.grove) c.self.view_is)
    (sym (from_none (key_in c.self.inside.nodes.items)
    (after c.args.node (row (rows_of (grove_of c.self.inside.records c.self.inside.nodes.items))
    f.entry.parent))
    (sym f.fits.next ∙ ap (λ (r : Record). r.next) same ∙ c.in-None-next.is)))

pub returns-in-None : goal.returns-in-None
returns-in-None c =
    node_missed _ _ _ (grove_of c.self.inside.records c.self.inside.nodes.items)
    c.self.invariant.links number_or_null _ c.args.node
    (sym c.in-None.is ∙ c.find.ensures ∙ ap (lookup c.args.node) c.deref.ensures.value)
    c.args.self.now.grove (ap (λ (v : HeapView). v.grove) c.self.view_is)
