-- What the tests of formulas, commands and judgements say.
use Rattle.model_formulas.proofs.SameFormulas.{same_formula-Decides}
use Rattle.formula_syntax.proofs.BoundNames.{names-prog, logic-prog}
use Rattle.triple_rules.proofs.Covering.{right-or}
use Rattle.formula_syntax.proofs.Replacing.{replaced-Decides, term-plain}
use Rattle.theory_syntax.proofs.SameCommands.{same_command-Decides}

-- the test of a substitution
pub ruleset put_rules = (replaced-Decides)

pub ruleset same_rules = (same_formula-Decides, same_command-Decides)

-- a term as it is written
pub ruleset plain_rules = (term-plain)

-- variables below binders
pub ruleset covering_rules = (names-prog, logic-prog, right-or)
