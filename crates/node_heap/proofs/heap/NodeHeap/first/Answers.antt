use Rattle.std.proofs.Common.{◌≡◌, ◌∙◌, ℕ, None, Some, subst, sym, ap, refl}
use Rattle.std.specs.Option.{IsSome}
use Rattle.slab.specs.Slab.{get}
use Rattle.model_heap.specs.Lists.{head_of}
use Rattle.node_heap.specs.declared.records.Record.{Record}
use Rattle.node_heap.specs.HeapView.{HeapView}
use Rattle.node_heap.specs.Indexes.{lookup, key_in}
use Rattle.node_heap.specs.Heap.{grove_of}
use Rattle.grove_data.specs.Finding.{number_or_null}
use Rattle.node_heap.proofs.Found.{Found, Points, found, from_none}
use Rattle.node_heap.proofs.Told.{node_missed}
use Rattle.node_heap.proofs.Siblings.{first_found, first_told}
use Rattle.node_heap.proofs.heap.NodeHeap.first.Goals as goal
use Rattle.node_heap.proofs.heap.NodeHeap.first.Goals.{In-Some}

it : (c : In-Some) → Found c.self.inside.records c.self.inside.nodes.items
    (grove_of c.self.inside.records c.self.inside.nodes.items) c.args.node c.in-Some.key
it c = found c.self.inside.records c.self.inside.nodes.items c.self.inside.lists.items
    (grove_of c.self.inside.records c.self.inside.nodes.items) c.self.invariant.links c.args.node
    c.in-Some.key (sym c.in-Some.is ∙ c.find.ensures ∙ ap (lookup c.args.node)
    c.deref.ensures.value)

there : (c : In-Some) (k : ℕ) (r : Record) → get c.self.inside.records c.in-Some.key ≡ Some r
    → r.first ≡ Some k → Points c.self.inside.records c.self.inside.nodes.items
    (grove_of c.self.inside.records c.self.inside.nodes.items)
    (head_of (it c).entry.kids) k
there c k r a p =
    let f = it c in
    let same : f.it ≡ r = let x = f.at in cc in
    first_found c.self.inside.records c.self.inside.nodes.items c.self.inside.lists.items
    (grove_of c.self.inside.records c.self.inside.nodes.items) c.self.invariant.links c.args.node
    c.in-Some.key k f (ap (λ (r : Record). r.first) same ∙ p)

pub index-requires : goal.index-requires
index-requires c = subst IsSome (sym (it c).at) refl

pub index-requires-in-Some-first : goal.index-requires-in-Some-first
index-requires-in-Some-first c = subst IsSome
    (sym (there (goal.at.index-requires-in-Some-first c).In-Some c.in-Some-first.first
    c.index.result.now c.index.ensures c.in-Some-first.is).there.at) refl

pub returns-in-Some-first : goal.returns-in-Some-first
returns-in-Some-first c =
    let t = (goal.at.returns-in-Some-first c).In-Some in
    let w = there t c.in-Some-first.first c.index.result.now c.index.ensures c.in-Some-first.is in
    let same : w.there.it ≡ c.index-in-Some-first.result.now =
    let x = w.there.at in let y = c.index-in-Some-first.ensures in cc in
    let number : c.index-in-Some-first.result.now.number ≡ w.number =
    ap (λ (r : Record). r.number) (sym same) ∙ w.there.fits.number in
    first_told c.self.inside.records c.self.inside.nodes.items c.self.inside.lists.items
    (grove_of c.self.inside.records c.self.inside.nodes.items) c.self.invariant.links
    (Some c.index-in-Some-first.result.now.number) c.args.node c.in-Some.key (it t)
    c.args.self.now.grove (ap (λ (v : HeapView). v.grove) c.self.view_is)
    (ap Some number ∙ sym w.is)

pub returns-in-None-first : goal.returns-in-None-first
returns-in-None-first c =
    let t = (goal.at.returns-in-None-first c).In-Some in
    let f = it t in
    let same : f.it ≡ c.index.result.now = let x = f.at in let y = c.index.ensures in cc in
    first_told c.self.inside.records c.self.inside.nodes.items c.self.inside.lists.items
    (grove_of c.self.inside.records c.self.inside.nodes.items) c.self.invariant.links
    None c.args.node c.in-Some.key f
    c.args.self.now.grove (ap (λ (v : HeapView). v.grove) c.self.view_is)
    (sym (from_none (key_in c.self.inside.nodes.items) (head_of f.entry.kids)
    (sym f.fits.first ∙ ap (λ (r : Record). r.first) same ∙ c.in-None-first.is)))

pub returns-in-None : goal.returns-in-None
returns-in-None c =
    node_missed _ _ _ (grove_of c.self.inside.records c.self.inside.nodes.items)
    c.self.invariant.links number_or_null _ c.args.node
    (sym c.in-None.is ∙ c.find.ensures ∙ ap (lookup c.args.node) c.deref.ensures.value)
    c.args.self.now.grove (ap (λ (v : HeapView). v.grove) c.self.view_is)
