use Rattle.std.proofs.Common.{◌≡◌, ◌++◌, codes, drop, map}
use denote.Shadow.{shadow}
use denote.Text.{Utf8}
use Rattle.model_grammar.specs.Writing.{spaced}
use Rattle.theory_writing.specs.Marked.{marked}
use Rattle.theory_writing.proofs.MarkLemmas.{lexemes_of_command}
use Rattle.theory_writing.proofs.writing.+command_writing.Given as goal

-- with the commands that are left, all of them
abbrev pub invariant-push_block-loop-command : goal.invariant-push_block-loop-command
invariant-push_block-loop-command l =
    (l.text ++ spaced (marked l.mark (codes ";")
    (map lexemes_of_command (drop l.command-index l.command-items)))
    ≡ l.fn.text
    ++ spaced (marked (codes "{") (codes ";") (map lexemes_of_command l.command-items)))
    × shadow (Utf8 l.mark)
