use Rattle.formula_syntax.proofs.PutSorts.{sorted-names}
use Rattle.formula_syntax.proofs.substituting.well_sorted_formulas_name_no_value.Goals as goal

pub returns : goal.returns
returns c = sorted-names
