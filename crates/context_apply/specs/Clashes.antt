-- Needn't be believed: the program's promise doesn't speak of it. When plugging and composing are
-- refused: where a number of one kind occurs twice. Trees, forests and groves with such a number
-- aren't well formed. Want of memory is free.
use Rattle.std.specs.Prelude.{◌≡◌, ℕ, ◌≤◌, ◌⊎◌, Result, Ok, Err}
use Rattle.model_shapes.specs.Trees.{Trees, node_uses, list_uses, WellFormed}
use Rattle.context_apply.specs.declared.faults.PlugFault.{PlugFault}
use Rattle.context_apply.specs.declared.faults.PlugFault.TheVariants as f

-- no node and no list has the number 0
abbrev pub NoZero : Trees → Type 0
NoZero trees = (node_uses 0 trees ≡ 0) × (list_uses 0 trees ≡ 0)

-- some number is that of two nodes, or of two lists
abbrev pub Clashes : Trees → Type 0
Clashes trees = (n : ℕ) × ((2 ≤ node_uses n trees) ⊎ (2 ≤ list_uses n trees))

-- the fault is that of these trees
abbrev pub FaultReports : PlugFault → Trees → Type 0
FaultReports f.Clash trees = Clashes trees
FaultReports f.OutOfMemory trees = Unit

-- an answer reports whether a number occurs twice: a value where none does, and else a clash
abbrev pub Reports : {A : Type 0} → Result A PlugFault → Trees → Type 0
Reports (Ok value) trees = WellFormed trees
Reports (Err fault) trees = FaultReports fault trees
