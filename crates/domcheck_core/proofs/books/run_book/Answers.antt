use Rattle.std.proofs.Common.{map}
use Rattle.std.proofs.lemmas.Result.{err_from_is_err_and}
use Rattle.model_limits.specs.Limits.{standard_limits}
use Rattle.model_documents.specs.Grammar.{SpellsGrove}
use Rattle.model_answers.specs.Output.{bad_document_text_line}
use Rattle.dom_terms.specs.Values.{value_seen}
use Rattle.theory_syntax.specs.Theories.{procedure_of, theory_of}
use Rattle.domcheck_core.specs.Answers.{no_document}
use Rattle.domcheck_core.specs.Calls.{CallAnswer}
use Rattle.domcheck_core.specs.Heard.{DocumentRuns}
use Rattle.domcheck_core.specs.Replies.{form_of, end_of, HeardIn}
use Rattle.domcheck_core.proofs.Hearing.{refused_in, gave_up_as, unread_run}
use Rattle.domcheck_core.proofs.Judged.{too_large}
use Rattle.domcheck_core.proofs.Reading.{in_hand, unread_book, weaker}
use Rattle.domcheck_core.proofs.books.run_book.Goals as goal

pub returns-in_ok-reply-in-Some-clause-answer :
    goal.returns-in_ok-reply-in-Some-clause-answer
returns-in_ok-reply-in-Some-clause-answer g c =
    in_hand (λ b. CallAnswer _ c.args.theory.now c.args.call c.args.fuel b
    c.in_ok-reply-in-Some.reply.status c.in_ok-reply-in-Some.reply.output)
    _ c.in-Some.bytes.items _
    (rw (c.in-Some.is, c.as_str.ensures) at c.in_ok-bytes.ensures.read)
    c.deref.ensures.value c.in_ok-reply-in-Some.ensures.answer

pub returns-in_ok-too_large-in-None-clause-answer :
    goal.returns-in_ok-too_large-in-None-clause-answer
returns-in_ok-too_large-in-None-clause-answer g c =
    weaker _ _ _ (λ b long p e.
    no_document (too_large SpellsGrove standard_limits.document_nesting bad_document_text_line b _ _
    long c.in_ok-too_large-in-None.ensures))
    (rw (c.in-None.is, c.as_str.ensures) at c.in_ok-bytes.ensures.read)

pub returns-in_ok-reply-in-Some-clause-heard :
    goal.returns-in_ok-reply-in-Some-clause-heard
returns-in_ok-reply-in-Some-clause-heard g c = λ p e.
    in_hand (λ b. HeardIn (form_of c.args.form) (DocumentRuns (theory_of c.args.theory.now)
    (procedure_of p) (map value_seen c.args.call.values) b) c.args.fuel
    c.in_ok-reply-in-Some.reply.status _ _)
    _ c.in-Some.bytes.items _
    (rw (c.in-Some.is, c.as_str.ensures) at c.in_ok-bytes.ensures.read)
    c.deref.ensures.value (c.in_ok-reply-in-Some.ensures.heard p e)

pub returns-in_ok-too_large-in-None-clause-heard :
    goal.returns-in_ok-too_large-in-None-clause-heard
returns-in_ok-too_large-in-None-clause-heard g c = λ p e.
    weaker _ _ _ (λ b long.
    refused_in (form_of c.args.form) (DocumentRuns (theory_of c.args.theory.now) (procedure_of p)
    (map value_seen c.args.call.values) b) c.args.fuel _ _
    (unread_run (theory_of c.args.theory.now) (procedure_of p)
    (map value_seen c.args.call.values) b _ _
    (too_large SpellsGrove standard_limits.document_nesting bad_document_text_line b _ _ long
    c.in_ok-too_large-in-None.ensures)))
    (rw (c.in-None.is, c.as_str.ensures) at c.in_ok-bytes.ensures.read)

pub returns-in_err-bytes-clause-heard : goal.returns-in_err-bytes-clause-heard
returns-in_err-bytes-clause-heard g c = λ p e.
    let q = err_from_is_err_and c.from_residual.result c.from_residual.ensures.1 in
    unread_book (λ b. HeardIn (form_of c.args.form) (DocumentRuns (theory_of c.args.theory.now)
    (procedure_of p) (map value_seen c.args.call.values) b) c.args.fuel
    (end_of c.from_residual.result) _ _) _
    (λ b. gave_up_as (form_of c.args.form) (DocumentRuns (theory_of c.args.theory.now)
    (procedure_of p) (map value_seen c.args.call.values) b) c.args.fuel _ c.from_residual.result
    q.0 q.1)
