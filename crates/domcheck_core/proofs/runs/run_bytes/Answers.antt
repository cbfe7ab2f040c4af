use Rattle.std.proofs.lemmas.Result.{IfOk-weaker}
use Rattle.std.proofs.Common.{Some, []}
use Rattle.model_answers.specs.Words.{only_outcome}
use Rattle.domcheck_core.specs.Answers.{grove_answer}
use Rattle.domcheck_core.proofs.OneAnswer.{one_run}
use Rattle.domcheck_core.proofs.Running.{fits, reached}
use Rattle.domcheck_core.proofs.runs.run_bytes.Goals as goal

pub run_document-requires : goal.run_document-requires
run_document-requires c =
    fits c.args.file.now c.args.procedure.now c.args.arguments.now c.in-Called.theory
    c.in-Called.call (rw c.in-Called.is at c.in_ok-theory.ensures)

pub returns-in-Called-clause-answer : goal.returns-in-Called-clause-answer
returns-in-Called-clause-answer c =
    IfOk-weaker c.run_document.result _ _
    (λ r h. reached c.args.file.now c.args.procedure.now c.args.arguments.now _ _
    (rw c.in-Called.is at c.in_ok-theory.ensures) (grove_answer only_outcome []) c.args.fuel
    c.args.document.now
    r.status r.output h) c.run_document.ensures.answer

pub returns-in-Called-clause-exactly : goal.returns-in-Called-clause-exactly
returns-in-Called-clause-exactly c = λ s output a.
    IfOk-weaker c.run_document.result _ _
    (λ r h. one_run (grove_answer only_outcome []) _ c.args.file.now c.args.procedure.now
    c.args.fuel c.args.arguments.now r.status s r.output output
    (reached c.args.file.now c.args.procedure.now c.args.arguments.now _ _
    (rw c.in-Called.is at c.in_ok-theory.ensures) (grove_answer only_outcome []) c.args.fuel
    c.args.document.now
    r.status r.output h) a) c.run_document.ensures.answer

pub returns-in-Answered-clause-exactly : goal.returns-in-Answered-clause-exactly
returns-in-Answered-clause-exactly c = λ s output a.
    one_run (grove_answer only_outcome []) _ c.args.file.now c.args.procedure.now c.args.fuel
    c.args.arguments.now c.in-Answered.reply.status s c.in-Answered.reply.output output
    ((rw c.in-Answered.is at c.in_ok-theory.ensures) (grove_answer only_outcome [])
    (Some c.args.document.now) c.args.fuel) a
