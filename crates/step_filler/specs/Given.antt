-- Needn't be believed: the program's promise doesn't speak of it. What an assistant offers: the
-- steps of its plan. Once those that are written pass a size of an offer no further one is, so that
-- memory stays bounded: what is offered then isn't usable anyway.
use Rattle.std.specs.Prelude.{ℕ, Bool, cond, ◌||◌, nat_lt, List, [], ◌∷◌, ◌++◌, Option, length, sum_by}
use Rattle.std.specs.Option.{option_map}
use Rattle.model_formulas.specs.Formulas.{Named}
use Rattle.model_commands.specs.Theories.{StepOf}
use Rattle.model_limits.specs.Limits.{standard_limits}
use Rattle.assistant_laws.specs.Plans.{Plan, steps_of}
use Rattle.step_filler.specs.Weights.{weight_of}

-- the steps pass a size of an offer
abbrev pub are_too_many : List (StepOf Named) → Bool
are_too_many steps = nat_lt standard_limits.offer_steps (length steps)
    || nat_lt standard_limits.offer_bytes (sum_by weight_of steps)

-- steps and further ones after them, until they pass a size
abbrev pub grown : List (StepOf Named) → List (StepOf Named) → List (StepOf Named)
grown steps [] = steps
grown steps (step ∷ rest) = cond (are_too_many steps) steps (grown (steps ++ step ∷ []) rest)

-- the steps of a plan, numbered from n on
abbrev pub given_by : ℕ → Plan → List (StepOf Named)
given_by n plan = grown [] (steps_of n plan)

-- what is offered where there is a plan
abbrev pub offer_of : Option Plan → ℕ → Option (List (StepOf Named))
offer_of plan n = option_map (given_by n) plan
