-- Needn't be believed: the program's promise doesn't speak of it. The binders that a walk down a
-- formula has passed. A variable is named by the number of binders between it and its binder, as
-- the nameless form of a formula has it.
use Rattle.std.specs.Prelude.{List, [], ◌∷◌}
use Rattle.model_terms.specs.Variables.{Var}
use Rattle.dom_terms.specs.Terms.{logic_var_of}
use Rattle.formula_syntax.specs.declared.binders.Binders.{Binders}
use Rattle.formula_syntax.specs.declared.binders.Binders.TheVariants as b

-- the variables that the binders bind, the nearest first
abbrev pub bound_by : Binders → List Var
bound_by b.Empty = []
bound_by (b.More' variable p outer) = logic_var_of variable.now ∷ bound_by outer
