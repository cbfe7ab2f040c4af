use Rattle.std.proofs.Common.{◌∙◌, ap, map, ◌++◌}
use Rattle.model_formulas.specs.Nameless.{nameless}
use Rattle.dom_terms.specs.Terms.{prog_var_of, term_of}
use Rattle.formula_syntax.specs.Formulas.{formula_of, pair_of}
use Rattle.triple_rules.specs.CallTests.{put}
use Rattle.triple_rules.proofs.Passing.{before-is}
use Rattle.triple_rules.proofs.calls.is_before.Goals as goal

pub returns : goal.returns
returns c =
    let xs = map prog_var_of c.args.procedure.now.params in
    let ts = map term_of c.args.arguments.now in
    let p = nameless (formula_of c.args.procedure.now.pre) in
    let q = nameless (formula_of c.args.formula.now) in
    c.is_put.ensures
    ∙ before-is (map pair_of c.as_slice-2.result.now) xs ts p q
    (ap (map pair_of) c.as_slice-2.ensures ∙ c.in_ok-pairs.ensures
    ∙ ap (λ z. map pair_of z ++ put (map prog_var_of c.as_slice.result.now) ts) c.new.ensures
    ∙ ap (λ z. put (map prog_var_of z) ts) c.as_slice.ensures)
