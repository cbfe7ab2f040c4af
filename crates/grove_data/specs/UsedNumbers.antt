-- Needn't be believed: the program's promise doesn't speak of it. The numbers of a grove as the
-- program holds them, and what the answer of a repeat says.
use Rattle.std.specs.Prelude.{◌≡◌, ℕ, Bool, Option, Some}
use Rattle.std.specs.Ordering.{nat_cmp}
use Rattle.std.specs.BTreeSet.{contains}
use Rattle.model_documents.specs.Numbers.{Numbered, node_numbered, list_numbered}
use Rattle.grove_data.specs.declared.trees.IdKind.{IdKind}
use Rattle.grove_data.specs.declared.trees.IdKind.TheVariants as kinds
use Rattle.grove_data.specs.declared.unique.UniqueFault.{UniqueFault}
use Rattle.grove_data.specs.declared.unique.UniqueFault.TheVariants as faults
use Rattle.grove_data.specs.declared.unique.UsedNumber.{UsedNumber}
use Rattle.grove_data.specs.declared.unique.UsedNumber.TheVariants as numbers
use Rattle.grove_data.specs.declared.unique.Seen.{Seen}

-- the number of a node or of a list
abbrev pub numbered_of : IdKind → ℕ → Numbered
numbered_of kinds.Node number = node_numbered number
numbered_of kinds.List number = list_numbered number

-- the fault names this number; of a want of memory nothing is said
abbrev pub Names : Option Numbered → UniqueFault → Type 0
Names found (faults.Repeated kind number) = found ≡ Some (numbered_of kind number)
Names found faults.OutOfMemory = Unit

-- a number with its kind
abbrev pub used : UsedNumber → Numbered
used (numbers.Node number) = node_numbered number
used (numbers.List number) = list_numbered number

-- whether a number was seen
abbrev pub was_seen : Seen → Numbered → Bool
was_seen seen (node_numbered n) = contains nat_cmp seen.nodes n
was_seen seen (list_numbered n) = contains nat_cmp seen.lists n
