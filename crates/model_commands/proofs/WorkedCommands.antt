-- Worked rows: what a block with a local variable modifies, and the formulas of conditions.
use Rattle.std.proofs.Common.{◌≡◌, refl, subst, inl, inr, pos, true}
use Rattle.std.specs.Prelude.{codes}
use Rattle.model_shapes.specs.Sorts.{bool_sort, int_sort}
use Rattle.model_shapes.specs.Values.{int, boolean}
use Rattle.model_shapes.proofs.Truth.{false≢true}
use Rattle.model_terms.specs.Terms.{literal, variable}
use Rattle.model_terms.specs.Stores.{ProgVar, named, as_var, same_name}
use Rattle.model_terms.specs.Conditions.{cond_variable}
use Rattle.model_formulas.specs.Formulas.{equality}
use Rattle.model_commands.specs.Commands.{Command, assign, local, stop, ◌then◌, Modifies}
use Rattle.model_commands.specs.ConditionFormulas.{formula_of}

-- three variables
abbrev x : ProgVar
x = named (codes "x") int_sort

abbrev y : ProgVar
y = named (codes "y") int_sort

abbrev b : ProgVar
b = named (codes "b") bool_sort

-- local y : int { y := 1 ; x := y }
abbrev inner : Command
inner = local y
    (assign y (literal (int (pos 1))) then (assign x (variable (as_var y)) then stop))

-- it modifies x, and not its own variable
modifies_x : Modifies inner x
modifies_x =
    ((λ e. false≢true (subst (λ z. same_name x z ≡ true) e refl)), inr (inl refl))

leaves_y : Modifies inner y → ⊥
leaves_y m = m.0 refl

-- a bool variable becomes its equation with yes
variable_formula : formula_of (cond_variable b)
    ≡ equality (variable (as_var b)) (literal (boolean true))
variable_formula = refl
