use Rattle.model_formulas.specs.Parts.{parts}
use Rattle.formula_syntax.specs.Formulas.{formula_of}
use Rattle.step_filler.proofs.same_forms.+same_roots.Given as goal

abbrev pub decreases-same_roots : goal.decreases-same_roots
decreases-same_roots l = parts (formula_of l.right.now)
