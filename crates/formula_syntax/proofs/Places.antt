-- The first fault of two formulas, one behind the other, from those of each.
use Rattle.model_formulas.proofs.FaultPlaces.{place-two}

pub ruleset place_rules = (place-two)
