use Rattle.std.proofs.Common.{refl, sym}
use Rattle.model_grammar.specs.Formulas.{SpellsFormula}
use Rattle.token_readers.proofs.Whole.{whole_found, fault_within, fault_spells_none, fault_at_token}
use Rattle.logic_text.specs.FormulaReaders.{formula_at, ends_formula}
use Rattle.logic_text.proofs.FormulaReader.{formula_sound, formula_only}
use Rattle.logic_text.proofs.declared_formulas.formula_from.Goals as goal

pub of_whole-requires : goal.of_whole-requires
of_whole-requires c =
    fault_within formula_at SpellsFormula ends_formula refl formula_sound formula_only
    128 _ _ c.in-Err.ensures _ (sym c.count.ensures)

pub returns-in_ok-with_sorts-in-Ok-clause-found :
    goal.returns-in_ok-with_sorts-in-Ok-clause-found
returns-in_ok-with_sorts-in-Ok-clause-found c = record {
  raw = _;
  spelled = whole_found formula_at SpellsFormula ends_formula refl formula_sound formula_only
      128 _ _ c.in-Ok.ensures;
  sorted = c.in_ok-with_sorts-in-Ok.ensures;
}

pub returns-in-Err-clause-bad_text : goal.returns-in-Err-clause-bad_text
returns-in-Err-clause-bad_text c =
    fault_spells_none formula_at SpellsFormula ends_formula refl formula_sound formula_only
    128 _ _ c.in-Err.ensures _ _ c.of_whole.ensures

pub returns-in-Err-clause-fault_token : goal.returns-in-Err-clause-fault_token
returns-in-Err-clause-fault_token c each =
    fault_at_token formula_at SpellsFormula ends_formula refl formula_sound formula_only
    128 _ _ c.in-Err.ensures _
    (sym c.count.ensures) _ c.of_whole.ensures each
