use Rattle.std.proofs.Common.{◌≡◌, ◌∙◌, ◌&&◌, ap, map, pos, rules}
use Rattle.std.specs.Prelude.{int_lt}
use Rattle.computed_rules.specs.Sums.{comparison_of}
use Rattle.computed_rules.proofs.SumLaws.{given-false}
use Rattle.computed_rules.proofs.sums.gives_false.Goals as goal

pub returns : goal.returns
returns c =
    let form = c.in_ok-form.form in
    let both : c.if-cancel.result ≡ (c.cancel.result && int_lt form.constant (pos 0)) =
    search rules in
    both
    ∙ ap (λ z. z && int_lt form.constant (pos 0)) c.cancel.ensures
    ∙ given-false (map comparison_of c.args.comparisons.now) c.requires form c.in_ok-form.ensures
