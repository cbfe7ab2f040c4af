-- Needn't be believed: the program's promise doesn't speak of it. What is told of the numbers of a
-- grove.
use Rattle.std.specs.Prelude.{◌≡◌, ℕ, Option, Some}
use Rattle.model_documents.specs.Numbers.{Numbered, node_numbered, list_numbered}
use Rattle.grove_data.specs.declared.trees.IdKind.{IdKind}
use Rattle.grove_data.specs.declared.trees.IdKind.TheVariants as kinds
use Rattle.logic_text.specs.declared.ranges.RangeFault.{RangeFault}
use Rattle.logic_text.specs.declared.ranges.RangeFault.TheVariants.{OutOfRange, OutOfMemory}

-- the number of a node, or of a children list
abbrev pub numbered : IdKind → ℕ → Numbered
numbered kinds.Node number = node_numbered number
numbered kinds.List number = list_numbered number

-- the number that is told is this one; want of memory says nothing
abbrev pub Tells : RangeFault → Option Numbered → Type 0
Tells (OutOfRange kind number) first = first ≡ Some (numbered kind number)
Tells OutOfMemory first = Unit {0}
