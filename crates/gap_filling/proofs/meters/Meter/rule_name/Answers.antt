use Rattle.std.proofs.Common.{◌∙◌, ap, length, true}
use Rattle.gap_filling.specs.Measured.{spent}
use Rattle.gap_filling.proofs.Tokens.{rule_word}
use Rattle.gap_filling.proofs.meters.Meter.rule_name.Goals as goal

pub returns : goal.returns
returns c = λ version. c.spend.ensures
    ∙ (ap (λ b. spent c.args.self.now (length c.args.name.now) b true) c.from.ensures
    ∙ rule_word c.args.self.now c.args.name.now version)
