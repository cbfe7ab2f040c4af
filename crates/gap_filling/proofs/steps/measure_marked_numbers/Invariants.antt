use Rattle.std.proofs.Common.{◌≡◌, codes, drop, map}
use denote.Shadow.{shadow}
use denote.Text.{Utf8}
use Rattle.theory_writing.specs.Marked.{marked}
use Rattle.model_grammar.specs.TheoryWriting.{number_lexemes}
use Rattle.gap_filling.specs.Measured.{measured}
use Rattle.gap_filling.proofs.steps.measure_marked_numbers.Given as goal

-- with the numbers that are left, all of them
abbrev pub invariant-loop-number : goal.invariant-loop-number
invariant-loop-number l =
    (measured l.meter
    (marked l.mark (codes ",") (map number_lexemes (drop l.number-index l.numbers)))
    ≡ measured l.fn.meter (marked (codes "(") (codes ",") (map number_lexemes l.numbers)))
    × shadow (Utf8 l.mark)
