use Rattle.std.proofs.Common.{subst, [], ◌∷◌}
use Rattle.model_formulas.specs.Formulas.{length_is}
use Rattle.formula_table.specs.Interning.{Ends}
use Rattle.formula_table.proofs.Interned.{grown_ends}
use Rattle.formula_table.proofs.tables.Table.length_is.Goals as goal

pub returns : goal.returns
returns c = grown_ends c.args.self.now c.term_below.new.self c.about.new.self
    c.in_ok-first.ensures.grows _ _ c.about.result
    (subst (λ a. Ends c.term_below.new.self c.about.new.self (length_is a ∷ []) (length_is a)
    c.about.result) c.in_ok-first.ensures.ok.is c.about.ensures)
