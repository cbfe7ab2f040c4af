use Rattle.std.proofs.Common.{◌≡◌, ◌∙◌, ◌&&◌, ap, map, pos, rules}
use Rattle.std.specs.List.{list_all}
use Rattle.model_shapes.specs.Tests.{int_eq}
use Rattle.dom_terms.specs.Terms.{term_of}
use Rattle.computed_rules.specs.Linear.{is_equation}
use Rattle.computed_rules.specs.Sums.{comparison_of}
use Rattle.computed_rules.proofs.SumLaws.{given-equation}
use Rattle.computed_rules.proofs.sums.gives_equation.Goals as goal

pub returns : goal.returns
returns c =
    let form = c.in_ok-form.form in
    let cs = map comparison_of c.args.comparisons.now in
    let zero : c.if-is_constant.is_zero ≡ (c.is_constant.result && int_eq form.constant (pos 0)) =
    search rules in
    let both : c.if-is_zero.result ≡ (c.if-is_constant.is_zero && list_all is_equation cs) =
    search rules in
    both
    ∙ ap (λ z. z && list_all is_equation cs)
    (zero ∙ ap (λ z. z && int_eq form.constant (pos 0)) c.is_constant.ensures
    ∙ given-equation cs c.requires.integral (term_of c.args.left.now) (term_of c.args.right.now)
    c.requires.sorted form c.in_ok-form.ensures)
