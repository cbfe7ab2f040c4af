-- A variable for which another is put, and one for which none is.
use Rattle.std.proofs.Common.{◌≡◌, true, false}
use Rattle.model_terms.specs.Variables.{Var}
use Rattle.model_terms.specs.VariableTests.{same_var}
use Rattle.model_terms.specs.Terms.{Term, variable}
use Rattle.model_formulas.specs.Substitution.{replacing}
use Rattle.formula_syntax.proofs.Replacing.{one-here, one-there}

pub put-here : (x y : Var) (a : Term) → same_var y x ≡ true → replacing x a y ≡ a
put-here x y a e = one-here x y a e

pub put-there : (x y : Var) (a : Term) → same_var y x ≡ false → replacing x a y ≡ variable y
put-there x y a e = one-there x y a e

pub ruleset put_rules = (put-here, put-there)
