use Rattle.std.proofs.Common.{◌∙◌, sym, ap, map, [], ◌∷◌}
use Rattle.dom_terms.specs.Terms.{prog_var_of}
use Rattle.formula_syntax.specs.Formulas.{formula_of}
use Rattle.triple_rules.specs.Occurring.{mentions}
use Rattle.triple_rules.proofs.WrittenProgVars.{mentions-nameless}
use Rattle.triple_rules.proofs.locals.stands_in.Goals as goal

pub returns : goal.returns
returns c =
    c.mentions.ensures
    ∙ ap (λ xs. mentions (map prog_var_of xs) (formula_of c.args.formula.now))
    c.from_ref.ensures.value
    ∙ sym (mentions-nameless (prog_var_of c.args.variable.now ∷ []) c.args.formula.now)
