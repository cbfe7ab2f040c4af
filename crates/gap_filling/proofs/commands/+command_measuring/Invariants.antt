use Rattle.std.proofs.Common.{◌≡◌, codes, drop, map}
use denote.Shadow.{shadow}
use denote.Text.{Utf8}
use Rattle.theory_writing.specs.Marked.{marked}
use Rattle.theory_writing.proofs.MarkLemmas.{lexemes_of_command}
use Rattle.gap_filling.specs.Measured.{measured}
use Rattle.gap_filling.proofs.commands.+command_measuring.Given as goal

-- with the commands that are left, all of them
abbrev pub invariant-measure_block-loop-command : goal.invariant-measure_block-loop-command
invariant-measure_block-loop-command l =
    (measured l.meter (marked l.mark (codes ";")
    (map lexemes_of_command (drop l.command-index l.command-items)))
    ≡ measured l.fn.meter
    (marked (codes "{") (codes ";") (map lexemes_of_command l.command-items)))
    × shadow (Utf8 l.mark)
