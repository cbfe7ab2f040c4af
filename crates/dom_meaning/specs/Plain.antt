-- Needn't be believed: the contracts of private functions alone speak of it. What comes of a move
-- on a plain grove.
use Rattle.std.specs.Prelude.{◌≡◌, List, [], Result, Ok, Err}
use Rattle.model_terms.specs.Stores.{Store}
use Rattle.model_machine.specs.Machine.{Move, becomes, faults}
use Rattle.grove_data.specs.declared.trees.Tree.{Tree}
use Rattle.grove_data.specs.Trees.{forest_of}
use Rattle.dom_meaning.specs.declared.faults.MoveFault.{MoveFault}
use Rattle.dom_meaning.specs.declared.faults.MoveFault.TheVariants as m
use Rattle.dom_meaning.specs.Faults.{fault_kind_of}

-- the grove after the move, or the fault of the move
abbrev pub MovesTo : Move → Store → Result (List Tree) MoveFault → Type 0
MovesTo move store (Ok grove) = move ≡ becomes [] store (forest_of grove)
MovesTo move store (Err (m.Fault kind)) = move ≡ faults (fault_kind_of kind)
MovesTo move store (Err m.OutOfMemory) = Unit
