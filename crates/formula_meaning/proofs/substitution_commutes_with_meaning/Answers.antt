use Rattle.std.proofs.Common.{◌∙◌, ap, map, sym}
use Rattle.model_formulas.specs.Satisfaction.{Meets}
use Rattle.model_formulas.proofs.Quantified.{met-alike}
use Rattle.model_formulas.proofs.Substitutes.{with-meets}
use Rattle.model_formulas.specs.Nameless.{nameless}
use Rattle.formula_syntax.specs.Formulas.{formula_of, pair_of}
use Rattle.formula_syntax.specs.Substitution.{replacing_each}
use Rattle.formula_meaning.proofs.substitution_commutes_with_meaning.Goals as goal

pub returns : goal.returns
returns c = λ e s r same. met-alike s r
    (sym (ap (λ p. Meets p e) same) ∙ with-meets (nameless (formula_of c.args.from.now))
    (replacing_each (map pair_of c.args.pairs.now)) e)
