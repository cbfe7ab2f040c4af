use Rattle.std.proofs.Common.{subst, [], ◌∷◌}
use Rattle.model_formulas.specs.Formulas.{same_as}
use Rattle.formula_table.specs.Interning.{Ends}
use Rattle.formula_table.proofs.Interned.{grown_ends}
use Rattle.formula_table.proofs.tables.Table.same_as.Goals as goal

pub returns : goal.returns
returns c = grown_ends c.args.self.now c.variable_below.new.self c.about.new.self
    c.in_ok-first.ensures.grows _ _ c.about.result
    (subst (λ a. Ends c.variable_below.new.self c.about.new.self (same_as a ∷ []) (same_as a)
    c.about.result) c.in_ok-first.ensures.ok.is c.about.ensures)
