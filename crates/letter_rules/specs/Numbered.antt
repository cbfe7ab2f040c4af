-- Needn't be believed: the promises speak of the table of rules. The numbers of the formulas of a
-- triple.
use Rattle.model_formulas.specs.Formulas.{Formula}
use Rattle.formula_table.specs.Interning.{StandsFor}
use Rattle.formula_table.specs.declared.tables.Table.{Table}
use Rattle.letter_rules.specs.declared.eliminating.Numbered.{Numbered}

-- they stand for these
pub record AreNumbered (table : Table) (numbers : Numbered) (p q : Formula) : Type 0 where
  pub pre : StandsFor table numbers.pre p
  pub post : StandsFor table numbers.post q
