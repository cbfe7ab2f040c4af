-- Needn't be believed: the contracts of private functions alone speak of it. The variables that are
-- bound, and what they stand for.
use Rattle.std.specs.Prelude.{List, [], ◌∷◌}
use Rattle.model_shapes.specs.Things.{val}
use Rattle.model_terms.specs.Variables.{Var}
use Rattle.model_formulas.specs.Satisfaction.{Environment}
use Rattle.model_formulas.specs.Setting.{setting}
use Rattle.dom_terms.specs.Sorts.{sort_of}
use Rattle.dom_terms.specs.Terms.{logic_var_of}
use Rattle.dom_watch.specs.declared.bindings.Bindings.{Bindings}
use Rattle.dom_watch.specs.declared.bindings.Bindings.TheVariants as b
use Rattle.dom_watch.specs.Rows.{value_at}

-- the variables, the nearest first
abbrev pub bound_in : Bindings → List Var
bound_in b.Empty = []
bound_in (b.More' variable row p outer) = logic_var_of variable.now ∷ bound_in outer

-- the environment with their values
abbrev pub meant : Bindings → Environment → Environment
meant b.Empty e = e
meant (b.More' variable row p outer) e =
    setting (logic_var_of variable.now) (val (value_at (sort_of variable.now.sort) row.now))
    (meant outer e)
