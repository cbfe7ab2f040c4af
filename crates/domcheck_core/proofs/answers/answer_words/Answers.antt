use Rattle.std.proofs.Common.{[]}
use Rattle.domcheck_core.specs.Answers.{bad_words, made, tried}
use Rattle.domcheck_core.specs.Clauses.{asked}
use Rattle.domcheck_core.specs.declared.replies.Refusal.TheVariants.{OutOfMemory}
use Rattle.domcheck_core.proofs.Hearing.{gave_up_heard}
use Rattle.domcheck_core.proofs.answers.answer_words.Goals as goal

pub returns-in-Ok-Check-clause-answer : goal.returns-in-Ok-Check-clause-answer
returns-in-Ok-Check-clause-answer g c =
    rw (rw c.in-Ok-Check.field-0-is at c.in-Ok-Check.ensures.reading) c.check_book.ensures.answer

pub returns-in-Ok-Fill-clause-answer : goal.returns-in-Ok-Fill-clause-answer
returns-in-Ok-Fill-clause-answer g c =
    rw (rw c.in-Ok-Fill.field-0-is at c.in-Ok-Fill.ensures.reading) c.fill_book.ensures.answer

pub returns-in-Ok-Wp-clause-answer : goal.returns-in-Ok-Wp-clause-answer
returns-in-Ok-Wp-clause-answer g c =
    rw (rw c.in-Ok-Wp.field-0-is at c.in-Ok-Wp.ensures.reading) c.wp_book.ensures.answer

pub returns-in-Ok-Run-clause-answer : goal.returns-in-Ok-Run-clause-answer
returns-in-Ok-Run-clause-answer g c =
    rw (rw c.in-Ok-Run.field-0-is at c.in-Ok-Run.ensures.reading)
    (c.run.ensures.answer [])

pub returns-in_ok-reported-in-Err-BadWords-clause-answer :
    goal.returns-in_ok-reported-in-Err-BadWords-clause-answer
returns-in_ok-reported-in-Err-BadWords-clause-answer g c =
    rw (
      rw c.in-Err-BadWords.field-0-is at c.in-Err-BadWords.ensures.reading,
      c.in_ok-reported-in-Err-BadWords.ensures.status,
      c.in_ok-reported-in-Err-BadWords.ensures.output,
    ) bad_words

pub returns-in_ok-print_generated-in-Ok-Make-clause-answer :
    goal.returns-in_ok-print_generated-in-Ok-Make-clause-answer
returns-in_ok-print_generated-in-Ok-Make-clause-answer g c =
    rw (
      rw c.in-Ok-Make.field-0-is at c.in-Ok-Make.ensures.reading,
      c.in_ok-print_generated-in-Ok-Make.ensures.status,
      c.in_ok-print_generated-in-Ok-Make.ensures.output,
    ) (made c.in-Ok-Make.count)

pub returns-in_ok-try_generated-in-Ok-Trial-clause-answer :
    goal.returns-in_ok-try_generated-in-Ok-Trial-clause-answer
returns-in_ok-try_generated-in-Ok-Trial-clause-answer g c =
    rw (
      rw c.in-Ok-Trial.field-0-is at c.in-Ok-Trial.ensures.reading,
      c.in_ok-try_generated-in-Ok-Trial.ensures.status,
      c.in_ok-try_generated-in-Ok-Trial.ensures.output,
    ) (tried c.in-Ok-Trial.count)

pub returns-in-Ok-Trace-clause-answer : goal.returns-in-Ok-Trace-clause-answer
returns-in-Ok-Trace-clause-answer g c =
    rw (rw c.in-Ok-Trace.field-0-is at c.in-Ok-Trace.ensures.reading)
    (c.run-in-Ok-Trace.ensures.answer [])

pub returns-in-Ok-Run-clause-heard : goal.returns-in-Ok-Run-clause-heard
returns-in-Ok-Run-clause-heard g c =
    rw (rw c.in-Ok-Run.field-0-is at c.in-Ok-Run.ensures.reading) c.run.ensures.heard

pub returns-in-Ok-Trace-clause-heard : goal.returns-in-Ok-Trace-clause-heard
returns-in-Ok-Trace-clause-heard g c =
    rw (rw c.in-Ok-Trace.field-0-is at c.in-Ok-Trace.ensures.reading)
    c.run-in-Ok-Trace.ensures.heard

pub returns-in-Ok-Watch-clause-answer : goal.returns-in-Ok-Watch-clause-answer
returns-in-Ok-Watch-clause-answer g c =
    rw (rw c.in-Ok-Watch.field-0-is at c.in-Ok-Watch.ensures.reading)
    (c.run-in-Ok-Watch.ensures.answer [])

pub returns-in-Ok-Watch-clause-heard : goal.returns-in-Ok-Watch-clause-heard
returns-in-Ok-Watch-clause-heard g c =
    rw (rw c.in-Ok-Watch.field-0-is at c.in-Ok-Watch.ensures.reading)
    c.run-in-Ok-Watch.ensures.heard

pub returns-in-Err-OutOfMemory-clause-heard : goal.returns-in-Err-OutOfMemory-clause-heard
returns-in-Err-OutOfMemory-clause-heard g c =
    gave_up_heard (asked c.args.words.now) (g.L.Library.book c.args.library.now) _ OutOfMemory
