use Rattle.std.proofs.Common.{[], map}
use Rattle.model_answers.specs.Words.{only_outcome, with_changes, with_verdicts}
use Rattle.dom_terms.specs.Values.{value_seen}
use Rattle.theory_syntax.specs.Theories.{procedure_of, theory_of}
use Rattle.domcheck_core.proofs.Outcomes.{on_grove}
use Rattle.domcheck_core.proofs.runs.heap_reply.Goals as goal

pub returns-in-OnlyOutcome-clause-answer : goal.returns-in-OnlyOutcome-clause-answer
returns-in-OnlyOutcome-clause-answer g c = λ p e document same passes.
    rw c.in-OnlyOutcome.is
    (on_grove only_outcome [] (theory_of c.args.theory.now) (procedure_of p)
    (map value_seen c.args.call.values) c.args.fuel document (λ r. (r.status, r.output))
    c.plain_reply.result passes (c.plain_reply.ensures p e document same))

pub returns-in-WithChanges-clause-answer : goal.returns-in-WithChanges-clause-answer
returns-in-WithChanges-clause-answer g c = λ p e document same passes.
    rw c.in-WithChanges.is
    (on_grove with_changes _ (theory_of c.args.theory.now) (procedure_of p)
    (map value_seen c.args.call.values) c.args.fuel document (λ r. (r.status, r.output))
    c.told_reply.result passes (c.told_reply.ensures.answer p e document same))

pub returns-in-WithVerdicts-clause-answer : goal.returns-in-WithVerdicts-clause-answer
returns-in-WithVerdicts-clause-answer g c = λ p e document same passes.
    rw c.in-WithVerdicts.is
    (on_grove with_verdicts [] (theory_of c.args.theory.now) (procedure_of p)
    (map value_seen c.args.call.values) c.args.fuel document (λ r. (r.status, r.output))
    c.watched_reply.result passes (c.watched_reply.ensures p e document same))

pub returns-in-WithChanges-clause-heard : goal.returns-in-WithChanges-clause-heard
returns-in-WithChanges-clause-heard g c = λ p e document same passes.
    rw c.in-WithChanges.is (c.told_reply.ensures.heard p e document same passes)
