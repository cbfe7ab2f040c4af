-- Needn't be believed: formulas closed over $x, raised and opened, below more binders too; and the
-- tests of free variables.
use Rattle.std.specs.Prelude.{ℕ, zero, suc, Bool, false, ◌||◌}
use Rattle.model_terms.specs.Variables.{Var}
use Rattle.model_terms.specs.VariableTests.{same_var}
use Rattle.model_terms.specs.Terms.{Term, variable, raised_var, Substitution, under_binder, gathered_in}
use Rattle.model_formulas.specs.Formulas.{Formula}
use Rattle.model_formulas.specs.Substitution.{closing, formula_with, gathered}
use Rattle.rule_table.specs.Letters.{LogicVar, as_logic}
use Rattle.rule_table.proofs.Opening.{opening}

-- a binder of the variable comes round the formula; one of a variable that isn't in it; or the
-- nearest binder goes, and the term takes the place of what it bound
pub data Shift : Type 0 where
  close : LogicVar → Shift
  raise : Shift
  open_with : Term → Shift

abbrev pub shifting : Shift → Substitution
shifting (close x) = closing (as_logic x)
shifting raise = λ y. variable (raised_var y)
shifting (open_with t) = opening t

-- the substitution under so many more binders
abbrev pub under : ℕ → Substitution → Substitution
under zero f = f
under (suc n) f = under_binder (under n f)

-- the formula shifted
abbrev pub shifted : Shift → Formula → Formula
shifted s = formula_with (shifting s)

-- the variable stands in the term, free in the formula
abbrev pub is_in_term : Var → Term → Bool
is_in_term x = gathered_in false ◌||◌ (same_var x)

abbrev pub is_free : Var → Formula → Bool
is_free x p =
    gathered {Result = Var → Bool} (λ y. false) (λ left right y. left y || right y)
    (λ a y. is_in_term y a) (λ s inside y. inside (raised_var y)) p x
