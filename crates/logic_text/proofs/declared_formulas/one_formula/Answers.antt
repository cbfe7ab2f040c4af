use Rattle.std.proofs.Common.{refl}
use Rattle.model_grammar.specs.Formulas.{SpellsFormula}
use Rattle.token_readers.proofs.Whole.{one_value}
use Rattle.logic_text.specs.FormulaReaders.{formula_at, ends_formula}
use Rattle.logic_text.proofs.FormulaReader.{formula_sound, formula_only}
use Rattle.logic_text.proofs.declared_formulas.one_formula.Goals as goal

pub returns : goal.returns
returns c = one_value formula_at SpellsFormula ends_formula refl formula_sound formula_only
