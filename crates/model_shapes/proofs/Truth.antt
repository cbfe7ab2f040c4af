-- Truth values: what a false test gives, and what a conjunction of tests says. More on tests, and
-- on what `Some` holds, is in std's `lemmas.Bool` and `lemmas.Option`.
use Rattle.std.proofs.Common.{◌≡◌, true, false}
pub use Rattle.std.proofs.lemmas.Bool.{and_parts as both_true, and_from}

-- a test is not both
pub false≢true : {P : Type 0} → false ≡ true → P
false≢true e = cc
