use Rattle.formula_syntax.specs.Formulas.{formula_of}
use Rattle.step_filler.proofs.Conjuncts.{decided}
use Rattle.step_filler.proofs.same_forms.is_same.Goals as goal

pub returns-in-Ok : goal.returns-in-Ok
returns-in-Ok c = decided c.in-Ok.same (formula_of c.args.left.now) (formula_of c.args.right.now)
    c.in-Ok.ensures.same
