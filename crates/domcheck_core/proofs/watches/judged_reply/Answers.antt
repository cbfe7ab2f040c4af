use Rattle.std.proofs.Common.{◌≡◌, ◌∙◌, Some, ap, sym, subst, IfOk}
use Rattle.std.proofs.lemmas.Result.{IfOk-weaker}
use Rattle.model_machine.specs.Outcomes.{Outcome}
use Rattle.model_answers.specs.Output.{requires_line}
use Rattle.theory_syntax.specs.Theories.{procedure_of}
use Rattle.heap_runner.specs.declared.outcomes.HeapOutcome.TheVariants as h
use Rattle.domcheck_core.specs.Answers.{judged_answer}
use Rattle.domcheck_core.specs.Calls.{CameOut, ResultsFit}
use Rattle.domcheck_core.proofs.Watching.{other_reply}
use Rattle.domcheck_core.proofs.watches.judged_reply.Goals as goal

pub ended_reply-requires-clause-fits : goal.ended_reply-requires-clause-fits
ended_reply-requires-clause-fits c =
    subst (ResultsFit (procedure_of c.args.procedure.now).results) c.in-Ended.is c.requires.fits

pub returns-in-Ended : goal.returns-in-Ended
returns-in-Ended c = λ arguments at o came.
    let there : CameOut (h.Ended c.in-Ended.steps c.in-Ended.values) c.args.heap.now.grove o =
    subst (λ z. CameOut z c.args.heap.now.grove o) c.in-Ended.is came in
    subst (λ (z : Outcome). IfOk c.ended_reply.result (λ r. judged_answer
    (requires_line c.args.before) (procedure_of c.args.procedure.now) arguments z
    ≡ Some (r.status, r.output))) (sym there.1)
    (c.ended_reply.ensures arguments at there.0 there.2)

pub returns : goal.returns
returns c = λ arguments at o came.
    let f = procedure_of c.args.procedure.now in
    let reply = c.in_ok-reply-in_default.reply in
    IfOk-weaker c.between.result _ _
    (λ r same. other_reply (requires_line c.args.before) f arguments c.args.outcome
    c.args.heap.now.grove reply.status reply.output o came
    (λ out is. (rw c.as_slice.ensures at c.in_ok-reply-in_default.ensures) out is)
    c.in_default.not-Ended c.in_default-status.not-Limit ∙ ap Some (sym same))
    (rw c.requires_line.ensures at c.between.ensures)
