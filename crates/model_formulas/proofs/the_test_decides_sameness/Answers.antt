use Rattle.model_formulas.proofs.SameFormulas.{same_var-both, same_formula-both, same_formula-Decides}
use Rattle.model_formulas.proofs.the_test_decides_sameness.Goals as goal

pub returns-clause-nameless : goal.returns-clause-nameless
returns-clause-nameless c = same_formula-both

pub returns-clause-named : goal.returns-clause-named
returns-clause-named c = same_formula-Decides

pub returns-clause-variables : goal.returns-clause-variables
returns-clause-variables c = same_var-both
