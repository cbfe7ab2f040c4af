-- Needn't be believed: the program's promise doesn't speak of it. The variables that numbers stand
-- for.
use Rattle.model_terms.specs.Variables.{Var, prog}
use Rattle.rule_table.specs.Letters.{LogicVar, as_logic}
use Rattle.dom_terms.specs.Sorts.{sort_of, value_sort_of}
use Rattle.formula_table.specs.Forms.{name_at}
use Rattle.formula_table.specs.declared.tables.Table.{Table}
use Rattle.numbered_formulas.specs.declared.variables.Variable.{Variable}
use Rattle.numbered_formulas.specs.declared.variables.Unbound.{Unbound}
use Rattle.numbered_formulas.specs.declared.variables.Unbound.TheVariants as u

-- the variable
abbrev pub variable_at : Table → Variable → LogicVar
variable_at table variable =
    record { name = name_at table variable.name; sort = sort_of variable.sort }

-- the same of those of the logic and of programs
abbrev pub unbound_at : Table → Unbound → Var
unbound_at table (u.Logic variable) = as_logic (variable_at table variable)
unbound_at table (u.Prog name sort) = prog (name_at table name) (value_sort_of sort)
