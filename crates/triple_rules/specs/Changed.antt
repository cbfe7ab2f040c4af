-- Needn't be believed: the program's promise doesn't speak of it. The program variables that a
-- command changes, as a list.
use Rattle.std.specs.Prelude.{List}
use Rattle.model_terms.specs.Stores.{ProgVar}
use Rattle.model_commands.specs.Commands.{Command, Among, Modifies}

-- the variables of the list are those
pub record AreChanged (xs : List ProgVar) (c : Command) : Type 0 where
  pub each : (x : ProgVar) → Among xs x → Modifies c x
  pub all : (x : ProgVar) → Modifies c x → Among xs x
