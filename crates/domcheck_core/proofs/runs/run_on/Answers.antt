use Rattle.std.proofs.Common.{◌≡◌, Some, ◌∙◌, sym}
use Rattle.dom_terms.specs.Values.{value_seen}
use Rattle.std.proofs.Common as plain
use Rattle.theory_syntax.specs.Theories.{procedure_of, theory_of}
use Rattle.logic_text.specs.RawGroves.{raw_forest_of}
use Rattle.domcheck_core.specs.Answers.{refusal}
use Rattle.domcheck_core.specs.Heard.{GroveRuns}
use Rattle.domcheck_core.specs.Replies.{form_of}
use Rattle.domcheck_core.proofs.Hearing.{refused_grove, unread_in}
use Rattle.domcheck_core.proofs.Refusing.{weaker}
use Rattle.domcheck_core.proofs.runs.run_on.Goals as goal

pub returns-in-Ok-clause-answer : goal.returns-in-Ok-clause-answer
returns-in-Ok-clause-answer g c = λ p e.
    c.heap_reply.ensures.answer p e (raw_forest_of c.args.raw.now) c.in-Ok.ensures.same
    c.in-Ok.ensures.passes

pub returns-in-Ok-clause-heard : goal.returns-in-Ok-clause-heard
returns-in-Ok-clause-heard g c = λ p e.
    c.heap_reply.ensures.heard p e (raw_forest_of c.args.raw.now) c.in-Ok.ensures.same
    c.in-Ok.ensures.passes

pub returns-in-Err-clause-heard : goal.returns-in-Err-clause-heard
returns-in-Err-clause-heard g c = λ p e.
    let theory = theory_of c.args.theory.now in
    let values = plain.map value_seen c.args.call.values in
    let document = raw_forest_of c.args.raw.now in
    unread_in (form_of c.args.form) (GroveRuns theory (procedure_of p) values document)
    c.args.fuel _ c.in-Err.why c.answered.result
    (weaker (λ s o. refusal document ≡ Some (s, o)) _ c.in-Err.why
    (λ s o is. refused_grove theory (procedure_of p) values document s o is) c.in-Err.ensures.told)
    c.answered.ensures
