use Rattle.std.proofs.Common.{Some, None, sym, ap, ◌∙◌}
use Rattle.std.specs.Prelude.{if◌then◌else◌}
use Rattle.std.specs.Str.Parse.{digits_value}
use Rattle.text_tokens.proofs.NumberLemmas.{refused_at}
use Rattle.text_tokens.proofs.numbers.number_value.Goals as goal

pub returns-in_err-value : goal.returns-in_err-value
returns-in_err-value c =
    let refused = refused_at c.loop-digit.value c.from.result c.args.digits.now
    c.loop-digit.digit-index _ c.loop-digit-test.true c.from.ensures (sym c.with_digit.ensures
    ∙ c.in_err-value.was) in
    c.from_residual.ensures
    ∙ ap (λ b. if b then Some (digits_value 10 c.args.digits.now) else None) (sym refused
    ∙ c.loop-digit.invariant.left)
