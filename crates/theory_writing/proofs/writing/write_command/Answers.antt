use Rattle.std.proofs.Common.{◌≡◌, ℕ, List, refl, sym, subst}
use Rattle.std.proofs.lemmas.Result.{IfOk-weaker}
use Rattle.std.proofs.lemmas.Str.{IsUtf8-had}
use Rattle.model_text.specs.Lexemes.{Lexeme}
use Rattle.model_text.specs.Versions.{seen_in}
use Rattle.model_text.specs.Nesting.{lexemes_of}
use Rattle.model_grammar.specs.Writing.{spaced, text_of, command_lexemes}
use Rattle.model_round_trip.specs.ReadBack.{SpellsCommandAt}
use Rattle.theory_syntax.specs.Commands.{command_of}
use Rattle.theory_writing.proofs.WrittenTexts.{command_back}
use Rattle.theory_writing.proofs.writing.write_command.Goals as goal

pub returns-clause-reads_back : goal.returns-clause-reads_back
returns-clause-reads_back c version declared can words sorted =
    let command = command_of c.args.command.now in
    let made : c.push_command.new.text ≡ spaced (command_lexemes command)
    = rw (c.in_ok-push_command.ensures, c.new-text.ensures) refl in
    IfOk-weaker c.without_space.result
    (λ text. (s : List Lexeme) → c.push_command.new.text ≡ spaced s → text ≡ text_of s)
    (λ text. SpellsCommandAt declared command (seen_in version (lexemes_of text)))
    (λ text is. subst
    (λ (z : List ℕ). SpellsCommandAt declared command (seen_in version (lexemes_of z)))
    (sym (is (command_lexemes command) made))
    (command_back version declared command c.push_command.new.text
    (IsUtf8-had _ c.is_utf8.ensures) made can words sorted)) c.without_space.ensures
