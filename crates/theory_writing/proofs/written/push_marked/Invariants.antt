use Rattle.std.proofs.Common.{◌≡◌, ◌++◌, codes, drop, map}
use denote.Shadow.{shadow}
use denote.Text.{Utf8}
use Rattle.model_grammar.specs.Writing.{spaced}
use Rattle.theory_writing.specs.Marked.{marked}
use Rattle.theory_writing.proofs.written.push_marked.Given as goal

-- with the items that are left, all of them
abbrev pub invariant-loop-item : goal.invariant-loop-item
invariant-loop-item g l =
    (l.text
    ++ spaced (marked l.mark (codes ",") (map g.W.Writer.lexemes (drop l.item-index l.items)))
    ≡ l.fn.text ++ spaced (marked l.first_mark (codes ",") (map g.W.Writer.lexemes l.items)))
    × shadow (Utf8 l.mark)
