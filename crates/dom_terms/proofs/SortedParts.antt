-- What passes the tests of sorts has parts that are sorted.
use Rattle.std.proofs.Common.{◌≡◌, true}
use Rattle.model_shapes.specs.Sorts.{ValueSort}
use Rattle.model_terms.specs.Terms.{Term}
use Rattle.model_terms.specs.TermSorts.{evaluates}
use Rattle.model_terms.specs.Conditions.{Cond, condition_sorted}
use Rattle.model_terms.specs.Computing.{Computes, Tests}
use Rattle.model_terms.proofs.Computing.{evaluates-computes, condition-tests}

-- a term that a command may evaluate
pub evaluates_some : (s : ValueSort) (t : Term) → evaluates s t ≡ true → Computes s t
evaluates_some = evaluates-computes

-- a condition of a command
pub condition_tests : (c : Cond) → condition_sorted c ≡ true → Tests c
condition_tests = condition-tests
