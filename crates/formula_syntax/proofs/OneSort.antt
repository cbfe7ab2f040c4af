-- A sort is the same as itself.
use Rattle.model_shapes.proofs.Tests.{same_sort-refl}

pub ruleset same_sort_rules = (same_sort-refl)
