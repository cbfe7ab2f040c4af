use Rattle.std.proofs.Common.{map}
use Rattle.std.proofs.lemmas.Result.{IfOk-weaker}
use Rattle.model_limits.specs.Limits.{standard_limits}
use Rattle.model_documents.specs.Grammar.{SpellsGrove}
use Rattle.model_answers.specs.Output.{bad_document_text_line}
use Rattle.dom_terms.specs.Values.{value_seen}
use Rattle.logic_text.specs.RawGroves.{raw_forest_of}
use Rattle.theory_syntax.specs.Theories.{procedure_of, theory_of}
use Rattle.domcheck_core.specs.Calls.{CallAnswer}
use Rattle.domcheck_core.specs.Answers.{Unread, no_document, is_document}
use Rattle.domcheck_core.specs.Heard.{GroveRuns, DocumentRuns}
use Rattle.domcheck_core.specs.Replies.{form_of, status_of}
use Rattle.domcheck_core.proofs.Hearing.{heard_along, unread_in, spelled_run, run_spelled, unread_run}
use Rattle.domcheck_core.proofs.Refusing.{told, weaker}
use Rattle.domcheck_core.proofs.Running.{of_call}
use Rattle.domcheck_core.proofs.runs.run_document.Goals as goal

pub returns-in-Ok-clause-answer : goal.returns-in-Ok-clause-answer
returns-in-Ok-clause-answer g c =
    of_call _ c.args.theory.now c.args.call c.args.fuel c.args.document.now
    (λ r. r.status) (λ r. r.output) c.run_on.result
    (λ p e. IfOk-weaker c.run_on.result _ _
    (λ r h. is_document (raw_forest_of c.in-Ok.raw) c.in-Ok.ensures.reads c.in-Ok.ensures.spelled h)
    (c.run_on.ensures.answer p e))

pub returns-in-Err-clause-answer : goal.returns-in-Err-clause-answer
returns-in-Err-clause-answer g c =
    told (λ r. r.status) (λ r. r.output)
    (CallAnswer _ c.args.theory.now c.args.call c.args.fuel c.args.document.now) c.in-Err.why
    c.answered.result
    (weaker (Unread SpellsGrove standard_limits.document_nesting bad_document_text_line
    c.args.document.now)
    (CallAnswer _ c.args.theory.now c.args.call c.args.fuel c.args.document.now) c.in-Err.why
    (λ s o a p e. no_document a) c.in-Err.ensures.told)
    c.answered.ensures

pub returns-in-Ok-clause-heard : goal.returns-in-Ok-clause-heard
returns-in-Ok-clause-heard g c = λ p e.
    let theory = theory_of c.args.theory.now in
    let values = map value_seen c.args.call.values in
    let document = raw_forest_of c.in-Ok.raw in
    heard_along (form_of c.args.form) (GroveRuns theory (procedure_of p) values document)
    (DocumentRuns theory (procedure_of p) values c.args.document.now) c.args.fuel
    (status_of c.run_on.result) _ _
    (spelled_run theory (procedure_of p) values c.args.document.now document c.in-Ok.ensures.reads
    c.in-Ok.ensures.spelled)
    (run_spelled theory (procedure_of p) values c.args.document.now document
    c.in-Ok.ensures.spelled)
    (c.run_on.ensures.heard p e)

pub returns-in-Err-clause-heard : goal.returns-in-Err-clause-heard
returns-in-Err-clause-heard g c = λ p e.
    let theory = theory_of c.args.theory.now in
    let values = map value_seen c.args.call.values in
    unread_in (form_of c.args.form)
    (DocumentRuns theory (procedure_of p) values c.args.document.now) c.args.fuel _ c.in-Err.why
    c.answered.result
    (weaker (Unread SpellsGrove standard_limits.document_nesting bad_document_text_line
    c.args.document.now) _ c.in-Err.why
    (unread_run theory (procedure_of p) values c.args.document.now) c.in-Err.ensures.told)
    c.answered.ensures
