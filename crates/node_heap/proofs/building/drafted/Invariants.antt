use Rattle.std.specs.Prelude.{map}
use Rattle.model_heap.specs.Growing.{weights}
use Rattle.grove_data.specs.Trees.{forest_of}
use Rattle.node_heap.specs.Drafts.{Part, frame_of}
use Rattle.node_heap.proofs.building.drafted.Given as goal

abbrev pub invariant-loop-siblings : goal.invariant-loop-siblings
invariant-loop-siblings l =
    Part l.records l.nodes.items l.lists.items l.rest.items (forest_of l.grove)

abbrev pub decreases-loop-siblings : goal.decreases-loop-siblings
decreases-loop-siblings l = weights (map frame_of l.rest.items)
