-- Needn't be believed: it serves the contracts of private functions. The new variables when a
-- number is done.
use Rattle.std.specs.Prelude.{ℕ, List, [], ◌∷◌, ◌++◌, Bool, true, false}
use Rattle.model_weakest.specs.Written.{numbered}
use Rattle.dom_terms.specs.declared.sorts.Sort.{Sort}
use Rattle.dom_terms.specs.declared.terms.LogicVar.{LogicVar}

-- one of the sort and with the name of the number is new, if that isn't declared
abbrev pub pushed : Bool → List LogicVar → ℕ → Sort → List LogicVar
pushed true variables number sort = variables
pushed false variables number sort =
    let x : LogicVar = record { name = numbered number; sort = sort } in variables ++ x ∷ []
