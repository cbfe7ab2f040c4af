-- Needn't be believed: the promises speak of the table of rules. The lines of the axioms as
-- patterns.
use Rattle.std.specs.Prelude.{List, [], ◌∷◌}
use Rattle.rule_patterns.specs.Patterns.{DataPattern, FormulaPattern}
use Rattle.row_patterns.specs.Views.{data_in, formula_in}
use Rattle.small_axioms.specs.declared.rows.AxiomRow.{AxiomRow}
use Rattle.small_axioms.specs.declared.rows.Kind.{Kind}

-- a command of the kind, between these formulas, at the sort
pub record AxiomPattern : Type 0 where
  pub kind : Kind
  pub pre : FormulaPattern
  pub post : FormulaPattern
  pub sort : DataPattern

abbrev pub pattern_in : AxiomRow → AxiomPattern
pattern_in row = record {
  kind = row.kind;
  pre = formula_in row.pre;
  post = formula_in row.post;
  sort = data_in row.sort;
}

abbrev pub patterns_in : List AxiomRow → List AxiomPattern
patterns_in [] = []
patterns_in (row ∷ rows) = pattern_in row ∷ patterns_in rows
