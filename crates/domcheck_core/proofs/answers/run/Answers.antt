use Rattle.std.proofs.Common.{None}
use Rattle.std.proofs.lemmas.Result.{err_from_is_err_and}
use Rattle.std.proofs.lemmas.Result.{IfOk-weaker}
use Rattle.domcheck_core.specs.Answers.{grove_answer}
use Rattle.domcheck_core.specs.Replies.{form_of, end_of}
use Rattle.domcheck_core.proofs.Hearing.{answered_read, called_read, gave_up_read_as}
use Rattle.domcheck_core.proofs.Running.{fits, replied, called_reply}
use Rattle.domcheck_core.proofs.answers.run.Goals as goal

pub run_book-reply-requires : goal.run_book-reply-requires
run_book-reply-requires g c =
    let opened = rw c.in-Called.is at c.in_ok-theory.ensures.opened in
    fits opened.0 c.args.procedure.now c.args.arguments.now c.in-Called.theory c.in-Called.call
    opened.1

pub returns-in-Called-clause-answer : goal.returns-in-Called-clause-answer
returns-in-Called-clause-answer g c = λ voices.
    IfOk-weaker c.run_book-reply.result _ _
    (λ r h. called_reply _ _ c.args.procedure.now c.args.arguments.now c.args.fuel
    c.in-Called.theory c.in-Called.call (rw c.in-Called.is at c.in_ok-theory.ensures.opened) _ _
    (c.in_ok-theory.ensures.kept c.args.document.now) r.status r.output h)
    c.run_book-reply.ensures.answer

pub returns-in-Answered-clause-answer : goal.returns-in-Answered-clause-answer
returns-in-Answered-clause-answer g c = λ voices.
    replied _ _ c.args.procedure.now c.args.arguments.now c.args.fuel _ _ _
    (rw c.in-Answered.is at c.in_ok-theory.ensures.opened)

pub returns-in-Called-clause-heard : goal.returns-in-Called-clause-heard
returns-in-Called-clause-heard g c =
    called_read (form_of c.args.form) (g.L.Library.book c.args.library.now) c.args.file.now
    c.args.procedure.now
    c.args.arguments.now c.args.document.now c.args.fuel (end_of c.run_book-reply.result) _ _
    c.in-Called.theory c.in-Called.call (rw c.in-Called.is at c.in_ok-theory.ensures.opened) _
    (c.in_ok-theory.ensures.kept c.args.document.now) c.run_book-reply.ensures.heard

pub returns-in-Answered-clause-heard : goal.returns-in-Answered-clause-heard
returns-in-Answered-clause-heard g c =
    answered_read (form_of c.args.form) (g.L.Library.book c.args.library.now) c.args.file.now
    c.args.procedure.now
    c.args.arguments.now c.args.document.now c.args.fuel _ c.in-Answered.reply
    (rw c.in-Answered.is at c.in_ok-theory.ensures.opened)

pub returns-in_err-theory-clause-heard : goal.returns-in_err-theory-clause-heard
returns-in_err-theory-clause-heard g c =
    let p = err_from_is_err_and c.from_residual.result c.from_residual.ensures.1 in
    gave_up_read_as (form_of c.args.form) (g.L.Library.book c.args.library.now) c.args.file.now
    c.args.procedure.now c.args.arguments.now c.args.document.now c.args.fuel _
    c.from_residual.result p.0 p.1
