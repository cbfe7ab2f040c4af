-- Needn't be believed: the program's promise doesn't speak of it. What a run needs and keeps:
-- pieces with parts of the right sorts, values that fit, and a well-formed grove. It is the
-- condition of a run's beginning and of a step, and the laws say that each step keeps it.
use Rattle.std.specs.Prelude.{◌≡◌, true, List, [], ◌∷◌}
use Rattle.model_shapes.specs.Sorts.{shape, grove}
use Rattle.model_shapes.specs.Trees.{Trees}
use Rattle.model_shapes.specs.Shapes.{Shaped}
use Rattle.model_shapes.specs.Values.{Value, FitsValue}
use Rattle.model_terms.specs.Stores.{ProgVar, Store, ProperStore, sort_of}
use Rattle.model_commands.specs.Each.{Each}
use Rattle.model_commands.specs.Theories.{Procedures}
use Rattle.model_commands.specs.SortTests.{is_sorted, receives}
use Rattle.model_machine.specs.Machine.{Piece, run, restore, return, Config}

-- a command with parts of the right sorts; a value of the variable's sort; a proper store, and
-- variables that can take the results
abbrev pub FitsPiece : Procedures → Piece → Type 0
FitsPiece procedures (run command) = is_sorted procedures command ≡ true
FitsPiece procedures (restore x value) = FitsValue (sort_of x) value
FitsPiece procedures (return store results xs) = ProperStore store × (receives results xs ≡ true)

-- each of these pieces fits
abbrev pub FitPieces : Procedures → List Piece → Type 0
FitPieces procedures = Each (FitsPiece procedures)

-- values for these variables
abbrev pub ValuesFit : List ProgVar → List Value → Type 0
ValuesFit [] [] = Unit
ValuesFit (x ∷ xs) (value ∷ values) = FitsValue (sort_of x) value × ValuesFit xs values
ValuesFit xs values = ⊥

-- a proper store and a well-formed grove
pub record Fine (store : Store) (roots : Trees) : Type 0 where
  pub proper : ProperStore store
  pub whole : Shaped (shape grove) roots

-- a configuration that fits the procedures
pub record FitsConfig (procedures : Procedures) (config : Config) : Type 0 where
  pub pieces : FitPieces procedures config.pending
  pub fine : Fine config.store config.grove
