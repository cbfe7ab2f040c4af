use Rattle.std.proofs.Common.{refl}
use Rattle.formula_table.specs.Tables.{terms_of, forms_of}
use Rattle.formula_table.specs.Forms.{names_at, terms_at, forms_at}
use Rattle.formula_table.proofs.tables.Table.copy.Goals as goal

pub returns : goal.returns
unfolding names_at terms_at forms_at
returns c = (
  c.in_ok-copy_names.ensures,
  λ j. terms_of (c.in_ok-copy_names.ensures j) (c.in_ok-copy_rows.ensures j),
  λ j. forms_of (terms_of (c.in_ok-copy_names.ensures j) (c.in_ok-copy_rows.ensures j))
      (c.in_ok-copy_rows-2.ensures j),
  refl,
)
