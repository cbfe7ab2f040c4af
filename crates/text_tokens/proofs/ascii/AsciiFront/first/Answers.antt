use Rattle.std.proofs.Common.{ap}
use Rattle.text_tokens.specs.Within.{behind_first}
use Rattle.text_tokens.proofs.AsciiLemmas.{of_none, none_left, bad_first}
use Rattle.text_tokens.proofs.WithinLemmas.{first_same}
use Rattle.text_tokens.proofs.ascii.AsciiFront.first.Goals as goal

pub returns-in-None : goal.returns-in-None
returns-in-None c =
    let self = c.args.self in
    ap (behind_first self.most self.open)
    (none_left _ _ _ _ (of_none _ _ _ _ _ self.settled c.in-None.is) c.if-self.true)

pub returns-in-None-2 : goal.returns-in-None-2
returns-in-None-2 c =
    let self = c.args.self in
    first_same self.most self.open _ _
    (bad_first _ _ _ _ (of_none _ _ _ _ _ self.settled c.in-None-2.is) c.if-self.false)
