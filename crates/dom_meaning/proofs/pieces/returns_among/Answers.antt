use Rattle.std.proofs.Common.{◌≡◌, ◌∙◌, rules}
use Rattle.std.specs.List.{count_by}
use Rattle.dom_meaning.proofs.PieceLaws.{is_return, returns_counted}
use Rattle.dom_meaning.proofs.pieces.returns_among.Goals as goal

pub returns : goal.returns
returns c =
    let counted : c.count.result ≡ count_by is_return c.args.pending.now = search rules in
    counted ∙ returns_counted c.args.pending.now
