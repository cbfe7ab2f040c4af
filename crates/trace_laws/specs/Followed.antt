-- Needn't be believed: the contracts of private functions and laws alone speak of it. Where the
-- changes of a run are after some steps, in whatever order its grove has its roots.
use Rattle.std.specs.Prelude.{ℕ, List}
use Rattle.model_shapes.specs.Sorts.{grove}
use Rattle.model_shapes.specs.Trees.{Trees}
use Rattle.model_shapes.specs.Shapes.{SameAt}
use Rattle.model_commands.specs.Theories.{Procedures}
use Rattle.model_machine.specs.Changes.{Change}
use Rattle.model_machine.specs.Fitting.{FitsConfig}
use Rattle.model_machine.specs.Machine.{Config, configuration}
use Rattle.trace_laws.specs.Traced.{Traced}

-- The run, of which it is said what its changes are within each number of steps, comes after so
-- many steps to this configuration, with the same grove up to the order of its roots, and these are
-- its changes so far.
pub record Followed (run : ℕ → List Change) (procedures : Procedures) (steps : ℕ)
    (so_far : List Change) (here : Config) : Type 0 where
  pub roots : Trees
  pub same : SameAt grove roots here.grove
  pub fits : FitsConfig procedures (configuration here.pending here.store roots)
  pub traced : Traced run procedures steps so_far (configuration here.pending here.store roots)
