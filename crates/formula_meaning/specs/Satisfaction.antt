-- Needn't be believed: the program's promise doesn't speak of it. Satisfaction of the formulas of
-- the program: that of POPL 2005 and PODS 2008, of the formulas that they stand for.
use Rattle.model_shapes.specs.Sorts.{Sort}
use Rattle.model_shapes.specs.Trees.{Trees}
use Rattle.model_formulas.specs.Nameless.{nameless}
use Rattle.model_formulas.specs.Satisfaction.{Environment, Meets}
use Rattle.formula_syntax.specs.declared.formulas.Formula.{Formula}
use Rattle.formula_syntax.specs.Formulas.{formula_of}

-- a well-formed shape or context of the sort meets the formula
abbrev pub MeetsFormula : Formula → Environment → Sort → Trees → Type 0
MeetsFormula formula = Meets (nameless (formula_of formula))
