use Rattle.std.proofs.Common.{◌≡◌, ◌∙◌, ap, map, ◌++◌}
use Rattle.model_formulas.specs.Nameless.{nameless}
use Rattle.rule_table.specs.Notation.{prog_term}
use Rattle.dom_terms.specs.Terms.{prog_var_of, term_of}
use Rattle.formula_syntax.specs.Formulas.{formula_of, pair_of}
use Rattle.triple_rules.specs.CallTests.{put}
use Rattle.triple_rules.proofs.Passing.{behind-is}
use Rattle.triple_rules.proofs.calls.is_behind.Goals as goal

pub returns : goal.returns
returns c =
    let xs = map prog_var_of c.args.procedure.now.params in
    let ts = map term_of c.args.arguments.now in
    let ys = map prog_var_of c.args.procedure.now.results in
    let us = map prog_term (map prog_var_of c.args.results.now) in
    let p = nameless (formula_of c.args.procedure.now.post) in
    let q = nameless (formula_of c.args.formula.now) in
    let first : map pair_of c.in_ok-pairs.pairs ≡ put xs ts =
    c.in_ok-pairs.ensures
    ∙ ap (λ z. map pair_of z ++ put (map prog_var_of c.as_slice.result.now) ts) c.new.ensures
    ∙ ap (λ z. put (map prog_var_of z) ts) c.as_slice.ensures in
    let terms : map term_of c.as_slice-3.result.now ≡ us =
    ap (map term_of) c.as_slice-3.ensures ∙ c.in_ok-terms.ensures in
    c.is_put.ensures
    ∙ behind-is (map pair_of c.as_slice-4.result.now) xs ys ts us p q
    (ap (map pair_of) c.as_slice-4.ensures ∙ c.in_ok-pairs-2.ensures
    ∙ ap (λ z. z ++ put (map prog_var_of c.as_slice-2.result.now)
    (map term_of c.as_slice-3.result.now)) first
    ∙ ap (λ z. put xs ts ++ put (map prog_var_of z) (map term_of c.as_slice-3.result.now))
    c.as_slice-2.ensures
    ∙ ap (λ z. put xs ts ++ put ys z) terms)
