-- Needn't be believed: the program's promise doesn't speak of it. The entailments of the
-- definitions that those of the program stand for.
use Rattle.model_formulas.specs.Formulas.{Named}
use Rattle.model_formulas.specs.Entailments.{EntailmentOf}
use Rattle.dom_terms.specs.Sorts.{sort_of}
use Rattle.formula_syntax.specs.declared.entailments.Entailment.{Entailment}
use Rattle.formula_syntax.specs.Formulas.{formula_of}

-- that the left formula entails the right one at the sort
abbrev pub entailment_of : Entailment → EntailmentOf Named
entailment_of entailment = record {
  left = formula_of entailment.left;
  right = formula_of entailment.right;
  sort = sort_of entailment.sort;
}
