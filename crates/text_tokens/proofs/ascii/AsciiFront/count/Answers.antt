use Rattle.std.proofs.Common.{arith}
use Rattle.text_tokens.specs.Ascii.{left_behind}
use Rattle.text_tokens.proofs.AsciiLemmas.{few_left}
use Rattle.text_tokens.proofs.WithinLemmas.{first_no_more}
use Rattle.text_tokens.proofs.ascii.AsciiFront.count.Goals as goal

pub overflow_add-found : goal.overflow_add-found
overflow_add-found c =
    let self = c.args.self in
    omega (
      arith,
      few_left _ _ _ _ _ self.settled,
      c.loop-left.invariant,
      first_no_more self.most self.open (left_behind self.bytes.now self.from),
    )
