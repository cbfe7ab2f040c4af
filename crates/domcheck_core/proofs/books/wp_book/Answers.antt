use Rattle.model_limits.specs.Limits.{standard_limits}
use Rattle.model_grammar.specs.Theories.{SpellsTheory}
use Rattle.model_answers.specs.Output.{bad_text_line}
use Rattle.domcheck_core.specs.Answers.{WpAnswer, no_file, unread}
use Rattle.domcheck_core.proofs.Judged.{too_large}
use Rattle.domcheck_core.proofs.Reading.{in_hand, weaker}
use Rattle.domcheck_core.proofs.books.wp_book.Goals as goal

pub returns-in_ok-wp_until-in-Some-clause-answer :
    goal.returns-in_ok-wp_until-in-Some-clause-answer
returns-in_ok-wp_until-in-Some-clause-answer g c =
    in_hand (λ b. WpAnswer c.args.procedure.now b c.in_ok-wp_until-in-Some.field-0.status
    c.in_ok-wp_until-in-Some.field-0.output) _ c.in-Some.bytes.items _
    (rw (c.in-Some.is, c.as_str.ensures) at c.in_ok-bytes.ensures.read)
    c.deref.ensures.value c.in_ok-wp_until-in-Some.ensures

pub returns-in_ok-too_large-in-None-clause-answer :
    goal.returns-in_ok-too_large-in-None-clause-answer
returns-in_ok-too_large-in-None-clause-answer g c =
    weaker _ _ _ (λ b long.
    no_file (unread (too_large SpellsTheory standard_limits.file_nesting bad_text_line b _ _ long
    c.in_ok-too_large-in-None.ensures)))
    (rw (c.in-None.is, c.as_str.ensures) at c.in_ok-bytes.ensures.read)
