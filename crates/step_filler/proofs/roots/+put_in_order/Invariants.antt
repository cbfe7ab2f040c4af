use Rattle.model_formulas.specs.Parts.{parts}
use Rattle.formula_syntax.specs.Formulas.{formula_of}
use Rattle.step_filler.proofs.roots.+put_in_order.Given as goal

abbrev pub decreases-put_in_order : goal.decreases-put_in_order
decreases-put_in_order l = parts (formula_of l.to.now)
