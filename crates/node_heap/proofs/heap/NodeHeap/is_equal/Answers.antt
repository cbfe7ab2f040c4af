use Rattle.std.proofs.Common.{◌∙◌, sym, ap, subst}
use Rattle.model_shapes.specs.Sorts.{grove}
use Rattle.model_shapes.specs.Shapes.{SameAt}
use Rattle.node_heap.specs.HeapView.{HeapView}
use Rattle.node_heap.specs.Heap.{grove_of}
use Rattle.node_heap.proofs.Rounds.{one_order}
use Rattle.node_heap.proofs.heap.NodeHeap.is_equal.Goals as goal

pub returns : goal.returns
returns c =
    sym (ap (λ (v : HeapView). v.grove) c.self.view_is)
    ∙ one_order c.self.inside.records c.self.inside.nodes.items c.self.inside.lists.items
    c.self.invariant c.other.inside.records c.other.inside.nodes.items
    c.other.inside.lists.items c.other.invariant
    (subst (λ (v : HeapView). SameAt grove (grove_of c.self.inside.records
    c.self.inside.nodes.items) v.grove) (sym c.other.view_is)
    (subst (λ (v : HeapView). SameAt grove v.grove c.args.other.now.grove)
    (sym c.self.view_is) c.requires))
    ∙ ap (λ (v : HeapView). v.grove) c.other.view_is
