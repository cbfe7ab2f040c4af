-- What is written for a command or a theory reads back.
use Rattle.std.proofs.Common.{◌≡◌, ℕ, List, subst}
use Rattle.std.specs.Str.{IsUtf8}
use Rattle.model_commands.specs.Commands.{Command}
use Rattle.model_commands.specs.Theories.{Theory}
use Rattle.model_text.specs.Versions.{seen_in, IsOfVersion}
use Rattle.model_text.specs.Nesting.{lexemes_of}
use Rattle.model_grammar.specs.Sorts.{Declared, sorted_command, with_sorts}
use Rattle.model_grammar.specs.Writing.{spaced, text_of, command_lexemes}
use Rattle.model_grammar.specs.TheoryWriting.{theory_lines, theory_text}
use Rattle.model_grammar.specs.Writable.{Each, IsWritableCommand}
use Rattle.model_round_trip.specs.Writable.{IsWritableTheory}
use Rattle.model_round_trip.specs.ReadBack.{SpellsCommandAt, ReadsAs}
use Rattle.model_round_trip.proofs.Laws.{command_at, command_reads, theory_reads}
use Rattle.logic_text.proofs.Utf8Lemmas.{spaced_literals, lines_literals}

pub command_back : (version : ℕ) (declared : Declared) (c : Command) (text : List ℕ)
    → IsUtf8 text → text ≡ spaced (command_lexemes c) → IsWritableCommand c
    → Each (IsOfVersion version) (command_lexemes c) → sorted_command declared c ≡ c
    → SpellsCommandAt declared c (seen_in version (lexemes_of (text_of (command_lexemes c))))
command_back version declared c text utf8 e can words sorted =
    command_at declared c (seen_in version (lexemes_of (text_of (command_lexemes c)))) sorted
    (command_reads version c can words
    (spaced_literals (command_lexemes c) (subst IsUtf8 e utf8)))

pub theory_back : (t : Theory) (text : List ℕ) → IsUtf8 text → text ≡ theory_text t
    → IsWritableTheory t → with_sorts t ≡ t → ReadsAs t (theory_text t)
theory_back t text utf8 e can sorted =
    theory_reads t can sorted (lines_literals (theory_lines t) (subst IsUtf8 e utf8))
