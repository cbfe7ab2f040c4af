-- The first of several refusals.
use Rattle.std.specs.Prelude.{Bool, true, false, Option, Some, None}

-- the first of two, where there is one
abbrev pub or_else : {A : Type 0} → Option A → Option A → Option A
or_else None b = b
or_else (Some a) b = Some a

-- the refusal where the test fails
abbrev pub unless : {A : Type 0} → Bool → A → Option A
unless true a = None
unless false a = Some a
