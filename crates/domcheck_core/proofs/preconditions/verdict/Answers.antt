use Rattle.std.proofs.lemmas.Result.{IfOk-weaker}
use Rattle.theory_syntax.specs.Theories.{procedure_of, theory_of}
use Rattle.domcheck_core.specs.Answers.{WpVerdict, not_there, is_there}
use Rattle.domcheck_core.proofs.Calling.{asked}
use Rattle.domcheck_core.proofs.Judged.{said}
use Rattle.domcheck_core.proofs.preconditions.verdict.Goals as goal

pub returns-in_default : goal.returns-in_default
returns-in_default c =
    said (λ r. r.status) (λ r. r.output)
    (WpVerdict c.args.procedure.now (theory_of c.args.theory.now)) _ _ c.reported.result
    (not_there (rw (c.as_slice.ensures, c.as_str.ensures) at c.in_default.ensures))
    c.reported.ensures.status c.reported.ensures.output

pub answer_for-requires : goal.answer_for-requires
answer_for-requires c = record {
  bytes = c.requires.0;
  file = c.requires.1;
  name = c.args.procedure.now;
  there = asked c.args.procedure.now c.args.theory.now.procedures c.in-Some.place
      (rw (c.as_slice.ensures, c.as_str.ensures) at c.in-Some.ensures) c.in-Some-get.asked.now
      c.in-Some-get.ensures.item;
}

pub returns : goal.returns
returns c =
    IfOk-weaker c.answer_for.result _ _
    (λ r h. is_there (procedure_of c.in-Some-get.asked.now)
    (asked c.args.procedure.now c.args.theory.now.procedures c.in-Some.place
    (rw (c.as_slice.ensures, c.as_str.ensures) at c.in-Some.ensures) c.in-Some-get.asked.now
    c.in-Some-get.ensures.item) h)
    c.answer_for.ensures
