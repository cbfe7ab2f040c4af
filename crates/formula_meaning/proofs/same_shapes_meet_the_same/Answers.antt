use Rattle.model_formulas.specs.Nameless.{nameless}
use Rattle.model_formulas.proofs.Closed.{closed}
use Rattle.formula_syntax.specs.Formulas.{formula_of}
use Rattle.formula_meaning.proofs.same_shapes_meet_the_same.Goals as goal

pub returns : goal.returns
returns c = closed (nameless (formula_of c.args.formula.now))
