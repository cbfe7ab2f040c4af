-- What variables stand for and quantifiers range over: values, shapes and contexts.
use Rattle.model_shapes.specs.Sorts.{Sort, value, shape, context}
use Rattle.model_shapes.specs.Values.{Value, FitsValue}
use Rattle.model_shapes.specs.Trees.{Trees}
use Rattle.model_shapes.specs.Shapes.{Shaped, HolePlaced}

-- a value, or a shape or context
pub data Thing : Type 0 where
  val : Value → Thing
  trees : Trees → Thing
  deriving Discrete as Thing-discrete

-- the one test: well formed and of the sort, with the hole of a grove's context in the first root
abbrev pub Fits : Sort → Thing → Type 0
Fits (value v) (val x) = FitsValue v x
Fits (shape k) (trees r) = Shaped (shape k) r
Fits (context h k) (trees r) = Shaped (context h k) r × HolePlaced k r
Fits s x = ⊥
