use Rattle.std.proofs.Common.{ap, ◌∙◌}
use Rattle.text_tokens.specs.Within.{within_limits}
use Rattle.text_tokens.proofs.AsciiLemmas.{some_in, token_line}
use Rattle.text_tokens.proofs.WithinLemmas.{rest_within}
use Rattle.text_tokens.proofs.ascii.AsciiFront.behind_token.Goals as goal

pub settled-requires-clause-within : goal.settled-requires-clause-within
settled-requires-clause-within c =
    (some_in _ _ _ _ _ c.args.self.settled c.requires).0

pub settled-requires-clause-line : goal.settled-requires-clause-line
settled-requires-clause-line c = token_line _ _ _ _ _ c.args.self.settled c.requires

pub returns : goal.returns
returns c =
    let self = c.args.self in
    c.settled.ensures ∙ ap (within_limits self.most self.open)
    (some_in _ _ _ _ _ self.settled c.requires).1
    ∙ rest_within self.most self.open _
