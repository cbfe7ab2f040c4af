-- Needn't be believed: the contracts of private functions alone speak of it. Where a run is after
-- some steps.
use Rattle.std.specs.Prelude.{◌≡◌, ℕ, ◌+◌, List}
use Rattle.model_shapes.specs.Sorts.{grove}
use Rattle.model_shapes.specs.Trees.{Trees}
use Rattle.model_shapes.specs.Shapes.{SameAt}
use Rattle.model_terms.specs.Stores.{ProgVar}
use Rattle.model_commands.specs.Theories.{Procedures}
use Rattle.model_limits.specs.Limits.{standard_limits}
use Rattle.model_machine.specs.Machine.{Config, configuration}
use Rattle.model_machine.specs.Fitting.{FitsConfig}
use Rattle.model_machine.specs.Outcomes.{Outcome, outcome}

-- The run, of which it is said what comes out with each fuel, comes after so many steps to this
-- configuration, with the same grove up to the order of its roots.
pub record Reached (run : ℕ → Outcome) (procedures : Procedures) (results : List ProgVar)
    (steps : ℕ) (here : Config) : Type 0 where
  pub roots : Trees
  pub same : SameAt grove roots here.grove
  pub fits : FitsConfig procedures (configuration here.pending here.store roots)
  pub more : (fuel : ℕ) → run (steps + fuel) ≡ outcome standard_limits procedures results fuel
      steps (configuration here.pending here.store roots)
