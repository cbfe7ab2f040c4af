-- Needn't be believed: no definition rests on it. An environment with one variable set to a thing:
-- how the laws about quantifiers speak of named variables.
use Rattle.std.specs.Prelude.{◌≡◌}
use Rattle.model_shapes.specs.Things.{Thing}
use Rattle.model_terms.specs.Variables.{Var}
use Rattle.model_terms.specs.VariableTests.{var_eq}
use Rattle.model_formulas.specs.Satisfaction.{Environment}

-- what a variable stands for: the thing where it is the one that is set, and else what it did
abbrev pub setting_at : {x y : Var} → Thing → Environment → Dec (y ≡ x) → Thing
setting_at {x} {y} thing environment (yes same) = thing
setting_at {x} {y} thing environment (no other) = environment y

-- the environment in which the variable stands for the thing
abbrev pub setting : Var → Thing → Environment → Environment
setting x thing environment y = setting_at thing environment (var_eq y x)
