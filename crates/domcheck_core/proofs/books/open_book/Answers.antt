use Rattle.model_limits.specs.Limits.{standard_limits}
use Rattle.model_grammar.specs.Theories.{SpellsTheory}
use Rattle.model_answers.specs.Output.{bad_text_line}
use Rattle.domcheck_core.specs.Answers.{unread as unread_text}
use Rattle.domcheck_core.specs.Calls.{IsOpened}
use Rattle.domcheck_core.proofs.Judged.{too_large}
use Rattle.domcheck_core.proofs.Reading.{in_hand, weaker}
use Rattle.domcheck_core.proofs.Running.{unread}
use Rattle.domcheck_core.proofs.books.open_book.Goals as goal

pub returns-in_ok-open_file-in-Some-clause-opened :
    goal.returns-in_ok-open_file-in-Some-clause-opened
returns-in_ok-open_file-in-Some-clause-opened g c =
    in_hand (λ b. IsOpened b c.args.procedure.now c.args.arguments.now
    c.in_ok-open_file-in-Some.field-0) _ c.in-Some.bytes.items _
    (rw (c.in-Some.is, c.as_str.ensures) at c.in_ok-bytes.ensures.read)
    c.deref.ensures.value c.in_ok-open_file-in-Some.ensures

pub returns-in_ok-too_large-in-None-clause-opened :
    goal.returns-in_ok-too_large-in-None-clause-opened
returns-in_ok-too_large-in-None-clause-opened g c =
    weaker _ _ _ (λ b long.
    unread b c.args.procedure.now c.args.arguments.now _ _
    (unread_text (too_large SpellsTheory standard_limits.file_nesting bad_text_line b _ _ long
    c.in_ok-too_large-in-None.ensures)))
    (rw (c.in-None.is, c.as_str.ensures) at c.in_ok-bytes.ensures.read)
