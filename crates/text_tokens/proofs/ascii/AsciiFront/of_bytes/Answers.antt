use Rattle.std.proofs.Common.{ap, ◌∙◌}
use Rattle.text_tokens.specs.Within.{within_limits}
use Rattle.text_tokens.proofs.AsciiLemmas.{all_left}
use Rattle.text_tokens.proofs.ascii.AsciiFront.of_bytes.Goals as goal

pub returns : goal.returns
returns c = c.settled.ensures
    ∙ ap (within_limits c.args.most 0) (all_left c.args.bytes.now c.if-not-is_ascii.ensures)
