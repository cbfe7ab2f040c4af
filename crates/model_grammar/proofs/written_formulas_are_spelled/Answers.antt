use Rattle.model_grammar.proofs.Spelled.{formula_spelled}
use Rattle.model_grammar.proofs.written_formulas_are_spelled.Goals as goal

pub returns : goal.returns
returns c = formula_spelled
