use Rattle.std.proofs.Common.{◌∙◌}
use Rattle.formula_syntax.specs.Formulas.{formula_of}
use Rattle.step_filler.proofs.Fillings.{small_filling, same_filling}
use Rattle.step_filler.proofs.spot.is_filling.Goals as goal

pub is_same-requires-clause-left : goal.is_same-requires-clause-left
is_same-requires-clause-left c = small_filling (formula_of c.args.filler.now)
    (formula_of c.args.context.now) (formula_of c.in_ok-filling.filling) c.in_ok-filling.ensures
    c.requires.small

pub returns : goal.returns
returns c = c.is_same.ensures ∙ same_filling (formula_of c.args.filler.now)
    (formula_of c.args.context.now) (formula_of c.in_ok-filling.filling)
    (formula_of c.args.formula.now) c.in_ok-filling.ensures
