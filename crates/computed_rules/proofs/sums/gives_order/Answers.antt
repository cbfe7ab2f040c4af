use Rattle.std.proofs.Common.{◌≡◌, ◌∙◌, ◌&&◌, ap, map, pos, rules}
use Rattle.std.specs.Prelude.{int_le}
use Rattle.dom_terms.specs.Terms.{term_of}
use Rattle.computed_rules.specs.Sums.{comparison_of}
use Rattle.computed_rules.proofs.SumLaws.{given-order}
use Rattle.computed_rules.proofs.sums.gives_order.Goals as goal

pub returns : goal.returns
returns c =
    let form = c.in_ok-form.form in
    let both : c.if-is_constant.result ≡ (c.is_constant.result && int_le form.constant (pos 0)) =
    search rules in
    both
    ∙ ap (λ z. z && int_le form.constant (pos 0)) c.is_constant.ensures
    ∙ given-order (map comparison_of c.args.comparisons.now) c.requires.integral
    (term_of c.args.left.now) (term_of c.args.right.now) c.requires.sorted form
    c.in_ok-form.ensures
