use Rattle.model_formulas.specs.Nameless.{nameless}
use Rattle.model_formulas.proofs.Substitutes.{meets-agrees}
use Rattle.formula_syntax.specs.Formulas.{formula_of}
use Rattle.formula_meaning.proofs.only_free_variables_count.Goals as goal

pub returns : goal.returns
returns c = meets-agrees (nameless (formula_of c.args.formula.now))
