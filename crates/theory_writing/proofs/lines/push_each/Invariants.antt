use Rattle.std.proofs.Common.{◌≡◌, ◌++◌, drop, map}
use Rattle.theory_writing.specs.Marked.{joined_texts}
use Rattle.theory_writing.proofs.lines.push_each.Given as goal

-- with the items that are left, all of them
abbrev pub invariant-loop-item : goal.invariant-loop-item
invariant-loop-item g l =
    l.text ++ joined_texts (map g.T.Lines.own_text (drop l.item-index l.items))
    ≡ l.fn.text ++ joined_texts (map g.T.Lines.own_text l.items)
