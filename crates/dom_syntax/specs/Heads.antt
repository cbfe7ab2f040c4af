-- Needn't be believed: the promises speak of the procedures before a header themselves. Procedures
-- that stand for those before it, by whether its name is new.
use Rattle.std.specs.Prelude.{Bool, true, false, List, [], ◌∷◌}
use Rattle.model_formulas.specs.Formulas.{Named}
use Rattle.model_commands.specs.Theories.{ProcedureOf}

-- none where the name is new, and else the procedure itself
abbrev pub earlier_for : Bool → ProcedureOf Named → List (ProcedureOf Named)
earlier_for true f = []
earlier_for false f = f ∷ []
