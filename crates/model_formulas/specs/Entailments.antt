-- Needn't be believed: the program's promise doesn't speak of it. That whatever of a sort meets one
-- formula meets another, as it is written.
use Rattle.model_shapes.specs.Sorts.{Sort}

-- what is given, what follows, and the sort at which both are judged
pub record EntailmentOf (F : Type 0) : Type 0 where
  pub left : F
  pub right : F
  pub sort : Sort
