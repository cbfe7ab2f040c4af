-- Needn't be believed: what the numbers of a table stand for. A number that the table doesn't have
-- stands for what is said here.
use Rattle.std.specs.Prelude.{ℕ, List, [], map, get_or}
use Rattle.std.specs.String.{string_bytes}
use Rattle.model_shapes.specs.Values.{Name, null}
use Rattle.model_terms.specs.Terms.{Term, literal}
use Rattle.model_formulas.specs.Formulas.{Formula, truth}
use Rattle.formula_table.specs.Tables.{terms_of, forms_of}
use Rattle.formula_table.specs.declared.tables.Table.{Table}

-- its names, its terms, its formulas, each at its number
unfoldable pub names_at : Table → List Name
names_at t = map string_bytes t.names.keys

unfoldable pub terms_at : Table → List Term
terms_at t = terms_of (map string_bytes t.names.keys) t.terms.keys

unfoldable pub forms_at : Table → List Formula
forms_at t = forms_of (terms_of (map string_bytes t.names.keys) t.terms.keys) t.forms.keys

-- what a number stands for
abbrev pub name_at : Table → ℕ → Name
name_at t i = get_or (names_at t) i []

abbrev pub term_at : Table → ℕ → Term
term_at t i = get_or (terms_at t) i (literal null)

abbrev pub form_at : Table → ℕ → Formula
form_at t i = get_or (forms_at t) i truth
