-- Needn't be believed: the program's promise doesn't speak of it. Configurations that are the same
-- up to the order of roots, and where a step leads.
use Rattle.std.specs.Prelude.{◌≡◌}
use Rattle.model_shapes.specs.Sorts.{grove}
use Rattle.model_shapes.specs.Shapes.{SameAt}
use Rattle.model_machine.specs.Machine as model

-- the same pieces, the same store, and the same grove up to the order of roots
abbrev pub SameConfig : model.Config → model.Config → Type 0
SameConfig config other =
    (config.pending ≡ other.pending) × (config.store ≡ other.store)
    × SameAt grove config.grove other.grove

-- the step leads to the same configuration
abbrev pub Leads : model.StepOut → model.Config → Type 0
Leads (model.next config) after = SameConfig config after
Leads out after = ⊥
