use Rattle.std.proofs.Common.{◌≡◌, map, take}
use Rattle.dom_terms.proofs.few.FewCopied.copy.Given as goal

abbrev pub invariant-loop-item : goal.invariant-loop-item
invariant-loop-item g l =
    map g.T.Copied.seen l.copied ≡ map g.T.Copied.seen (take l.item-index l.item-items)
