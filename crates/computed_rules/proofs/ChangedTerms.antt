-- A term of the program stands below binders as it stands outside them.
use Rattle.std.proofs.Common.{◌≡◌, refl}
use Rattle.model_terms.specs.Terms.{raised, sum, difference, appended}
use Rattle.dom_terms.specs.declared.terms.Term as program
use Rattle.dom_terms.specs.declared.terms.Term.TheVariants as t
use Rattle.computed_rules.specs.Changes.{plainly}

pub raised-plainly : (a : program.Term) → raised (plainly a) ≡ plainly a
raised-plainly t.NullNode = refl
raised-plainly t.NullList = refl
raised-plainly (t.Int a) = refl
raised-plainly (t.Str a) = refl
raised-plainly (t.Bool a) = refl
raised-plainly (t.Prog x) = refl
raised-plainly (t.Logic x) = refl
raised-plainly (t.Add' p a q b) = λ j. sum (raised-plainly a j) (raised-plainly b j)
raised-plainly (t.Sub' p a q b) = λ j. difference (raised-plainly a j) (raised-plainly b j)
raised-plainly (t.Cat' p a q b) = λ j. appended (raised-plainly a j) (raised-plainly b j)

pub ruleset below_rules = (raised-plainly)
