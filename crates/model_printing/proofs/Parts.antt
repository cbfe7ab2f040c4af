-- What each element of a list meets, for lists put together.
use Rattle.std.proofs.Common.{List, [], ◌∷◌, ◌++◌}
use Rattle.model_grammar.specs.Writable.{Each}

pub each_both : {A : Type 0} (Meets : A → Type 0) (a b : List A) → Each Meets a → Each Meets b
    → Each Meets (a ++ b)
each_both Meets [] b own others = others
each_both Meets (first ∷ a) b own others = (own.0, each_both Meets a b own.1 others)
