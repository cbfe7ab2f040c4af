-- A binder leaves a variable that it doesn't bind.
use Rattle.std.proofs.Common.{◌≡◌, refl}
use Rattle.model_terms.specs.Terms.{raised_var}
use Rattle.formula_table.specs.declared.tables.Table.{Table}
use Rattle.numbered_formulas.specs.declared.variables.Unbound.{Unbound}
use Rattle.numbered_formulas.specs.declared.variables.Unbound.TheVariants as u
use Rattle.numbered_formulas.specs.Variables.{unbound_at}

pub unbound-stays : (t : Table) (v : Unbound) → raised_var (unbound_at t v) ≡ unbound_at t v
unbound-stays t (u.Logic v) = refl
unbound-stays t (u.Prog name sort) = refl

pub ruleset unbound_rules = (unbound-stays)
