-- The first of several that is found.
use Rattle.std.proofs.Common.{◌≡◌, refl}
use Rattle.std.specs.Prelude.{Option, Some, None, option_map}
use Rattle.std.specs.Option.{option_or}

pub mapped-or : {A B : Type 0} (f : A → B) (x y : Option A)
    → option_map f (option_or x y) ≡ option_or (option_map f x) (option_map f y)
mapped-or f None y = refl
mapped-or f (Some a) y = refl

pub or-assoc : {A : Type 0} (x y z : Option A)
    → option_or (option_or x y) z ≡ option_or x (option_or y z)
or-assoc None y z = refl
or-assoc (Some a) y z = refl

pub ruleset first_rules = (mapped-or, or-assoc)
