use Rattle.std.proofs.Common.{◌∙◌, ap, ◌+◌, ◌/◌, ◌%◌, length, length-append, [], ◌∷◌, sym, arith}
use Rattle.std.specs.Fmt.{decimal}
use Rattle.std.proofs.lemmas.Fmt.{decimal_digit, decimal_step, length-decimal-le}
use Rattle.gap_filling.proofs.meters.+digit_count.Goals as goal

pub returns-then-number-lt10 : goal.returns-then-number-lt10
returns-then-number-lt10 t c =
    ap length (sym (decimal_digit c.args.number (omega (arith, c.if-number-lt10.true))))

pub overflow_add-result : goal.overflow_add-result
overflow_add-result t c =
    omega (
      arith,
      c.digit_count.ensures,
      c.ranges.number,
      length-decimal-le 20 (c.args.number / 10) (omega arith) (omega (arith, c.ranges.number))
          (omega (arith, c.ranges.number)),
    )

pub returns : goal.returns
returns t c =
    ap (λ n. n + 1) c.digit_count.ensures
    ∙ (sym (length-append (decimal (c.args.number / 10)) ((48 + c.args.number % 10) ∷ []))
    ∙ ap length (sym (decimal_step c.args.number (omega (arith, c.if-number-lt10.false))
    (omega (arith, c.ranges.number)))))
