use Rattle.std.proofs.Common.{◌≡◌, codes, drop, map}
use denote.Shadow.{shadow}
use denote.Text.{Utf8}
use Rattle.theory_writing.specs.Marked.{marked}
use Rattle.gap_filling.specs.Measured.{measured}
use Rattle.gap_filling.proofs.items.measure_marked.Given as goal

-- with the items that are left, all of them
abbrev pub invariant-loop-item : goal.invariant-loop-item
invariant-loop-item g l =
    (measured l.meter (marked l.mark (codes ",") (map g.T.Item.lexemes (drop l.item-index l.items)))
    ≡ measured l.fn.meter (marked l.first_mark (codes ",") (map g.T.Item.lexemes l.items)))
    × shadow (Utf8 l.mark)
