-- Needn't be believed: terms over a name, as a row and as a term.
use Rattle.std.specs.Prelude.{ℕ}
use Rattle.model_shapes.specs.Values.{Name, str}
use Rattle.model_terms.specs.Variables.{prog, logic}
use Rattle.model_terms.specs.Terms.{Term, literal, variable}
use Rattle.dom_terms.specs.Sorts.{value_sort_of, sort_of}
use Rattle.formula_table.specs.declared.over_names.Named.{Named}
use Rattle.formula_table.specs.declared.over_names.Named.TheVariants as n
use Rattle.formula_table.specs.declared.rows.TermRow.{TermRow}
use Rattle.formula_table.specs.declared.rows.TermRow.TheVariants as t

-- the row of the term over the name of this number
abbrev pub named_row : Named → ℕ → TermRow
named_row n.Str x = t.Str x
named_row (n.Prog s) x = t.Prog x s
named_row (n.Logic s) x = t.Logic x s

-- the term over the name
abbrev pub named_term : Named → Name → Term
named_term n.Str x = literal (str x)
named_term (n.Prog s) x = variable (prog x (value_sort_of s))
named_term (n.Logic s) x = variable (logic x (sort_of s))
