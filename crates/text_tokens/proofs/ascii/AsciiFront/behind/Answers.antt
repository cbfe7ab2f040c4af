use Rattle.std.proofs.Common.{ap, sym, ◌∙◌}
use Rattle.text_tokens.specs.Within.{within_limits}
use Rattle.text_tokens.proofs.AsciiLemmas.{of_none, nothing_left, none_behind}
use Rattle.text_tokens.proofs.WithinLemmas.{rest_within}
use Rattle.text_tokens.proofs.ascii.AsciiFront.behind.Goals as goal

pub returns-in-None : goal.returns-in-None
returns-in-None c =
    let self = c.args.self in
    c.settled.ensures ∙ ap (within_limits self.most 0) nothing_left
    ∙ sym (ap (within_limits self.most self.open)
    (none_behind _ _ _ _ (of_none _ _ _ _ _ self.settled c.in-None.is)))
    ∙ rest_within self.most self.open _
