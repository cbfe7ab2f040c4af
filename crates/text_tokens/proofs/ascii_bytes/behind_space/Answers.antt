use Rattle.text_tokens.proofs.AsciiLemmas.{behind_gap, space_gap}
use Rattle.text_tokens.proofs.ascii_bytes.behind_space.Goals as goal

pub returns-then-is_space_at-clause-same : goal.returns-then-is_space_at-clause-same
returns-then-is_space_at-clause-same c =
    behind_gap c.args.bytes.now c.args.place 1 c.requires
    (space_gap c.args.bytes.now c.args.place c.if-is_space_at.ensures)
