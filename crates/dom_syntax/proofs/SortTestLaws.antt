-- A sort is the same as itself.
use Rattle.model_shapes.proofs.Tests.{same_sort-refl}

pub ruleset refl_rules = (same_sort-refl)
