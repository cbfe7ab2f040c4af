-- Arguments that were read, before those that are left.
use Rattle.std.proofs.Common.{List, ◌++◌, Option, option_map}
use Rattle.model_shapes.specs.Values.{Value}

-- the values read, and then the others
abbrev pub with_values : List Value → Option (List Value) → Option (List Value)
with_values values others = option_map (λ left. values ++ left) others
