use Rattle.std.proofs.Common.{◌∙◌}
use Rattle.text_tokens.proofs.StartLemmas.{in_table}
use Rattle.text_tokens.proofs.pieces.start_of.Goals as goal

pub returns-in-Some : goal.returns-in-Some
returns-in-Some c = let found = c.in-Some.ensures in
    found.1 ∙ in_table c.args.character c.in-Some.start found.0
