use Rattle.std.proofs.Common.{sym, ◌∙◌}
use Rattle.std.proofs.lemmas.Bool.{le-leb}
use Rattle.text_tokens.proofs.LimitLemmas.{few_short}
use Rattle.text_tokens.proofs.ascii_limits.is_literal_within.Goals as goal

pub returns-then-own-le-TEXT_BYTES : goal.returns-then-own-le-TEXT_BYTES
returns-then-own-le-TEXT_BYTES c =
    let few = c.if-own-le-TEXT_BYTES.true in
    le-leb _ 4096 few ∙ sym (few_short c.args.own.now c.requires few)
