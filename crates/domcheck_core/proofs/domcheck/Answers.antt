use Rattle.std.proofs.Common.{inl, inr, refl, rules}
use Rattle.std.proofs.lemmas.Str.{IsUtf8-had}
use Rattle.domcheck_core.proofs.Hearing.{reply_heard, written_heard}
use Rattle.domcheck_core.proofs.Judged.{on_file, on_gaps, on_body, sound, answer, answered, same_answer, bad_words_exactly, wrote}
use Rattle.domcheck_core.proofs.Statuses.{possible, reply_speaks, no_fault, no_memory, no_sink, no_book}
use Rattle.domcheck_core.specs.Clauses.{asked}
use Rattle.domcheck_core.proofs.Promises.{judges_satisfaction, keeps_promises}
use Rattle.domcheck_core.proofs.domcheck.Goals as goal

pub returns-in-Ok-clause-soundness_of_yes : goal.returns-in-Ok-clause-soundness_of_yes
returns-in-Ok-clause-soundness_of_yes g c =
    on_file _ _ _ _ _ _ _ (λ bytes. sound bytes _ _) c.in-Ok.ensures.answer

pub returns-in-Ok-clause-filled : goal.returns-in-Ok-clause-filled
returns-in-Ok-clause-filled g c =
    on_gaps _ _ _ _ _ _ _ _ c.in-Ok.ensures.answer (IsUtf8-had _ c.is_utf8.ensures)
    (search rules)

pub returns-in-Ok-clause-precondition : goal.returns-in-Ok-clause-precondition
returns-in-Ok-clause-precondition g c =
    on_body _ _ _ _ _ _ _ _ c.in-Ok.ensures.answer (search rules)

pub returns-in-Ok-clause-answered : goal.returns-in-Ok-clause-answered
returns-in-Ok-clause-answered g c = answered _ _ _ _ _ _ c.in-Ok.ensures.answer

pub returns-in-Ok-clause-exactly : goal.returns-in-Ok-clause-exactly
returns-in-Ok-clause-exactly g c = λ s output a.
    inl (same_answer _ _ _ _ _ _ c.in-Ok.ensures.answer _ _ (search rules) s output a)

pub returns-in-Ok-clause-complete : goal.returns-in-Ok-clause-complete
returns-in-Ok-clause-complete g c = λ s output a no_read no_write.
    inl (same_answer _ _ _ _ _ _ c.in-Ok.ensures.answer _ _ (search rules) s output a)

pub returns-in-Ok-clause-possible : goal.returns-in-Ok-clause-possible
returns-in-Ok-clause-possible g c = possible _ _ _ _ _ _ c.in-Ok.ensures.answer

pub returns-in-Ok-clause-bad_words_exactly :
    goal.returns-in-Ok-clause-bad_words_exactly
returns-in-Ok-clause-bad_words_exactly g c =
    bad_words_exactly _ _ _ _ _ _ c.in-Ok.ensures.answer

pub returns-in-Ok-clause-read_fault : goal.returns-in-Ok-clause-read_fault
returns-in-Ok-clause-read_fault g c = λ e.
    absurd (no_fault _ _ _ _ _ _ c.in-Ok.ensures.answer (inl e))

pub returns-in-Ok-clause-write_fault : goal.returns-in-Ok-clause-write_fault
returns-in-Ok-clause-write_fault g c = λ e.
    absurd (no_fault _ _ _ _ _ _ c.in-Ok.ensures.answer (inr e))

pub returns-in-Ok-clause-wrote : goal.returns-in-Ok-clause-wrote
returns-in-Ok-clause-wrote g c =
    wrote _ _ _ _ _ _ c.in-Ok.ensures.answer _ _ (search rules)

pub returns-then-is_err-clause-wrote : goal.returns-then-is_err-clause-wrote
returns-then-is_err-clause-wrote g c = λ told. (
  c.in-Ok.reply.status,
  c.in-Ok.reply.output,
  answer _ _ _ _ _ _ c.in-Ok.ensures.answer told,
  search rules,
)

pub returns-then-is_err-clause-possible : goal.returns-then-is_err-clause-possible
returns-then-is_err-clause-possible g c = no_sink (asked c.args.words.now)

pub returns-in-Err-OutOfMemory-clause-possible : goal.returns-in-Err-OutOfMemory-clause-possible
returns-in-Err-OutOfMemory-clause-possible g c = no_memory (asked c.args.words.now)

pub returns-clause-possible : goal.returns-clause-possible
returns-clause-possible g c =
    no_book (asked c.args.words.now) _ _
    ((rw c.in-Err-ReadFault.field-0-is at c.in-Err-ReadFault.ensures.cause) refl)

pub returns-in-Ok-clause-heard : goal.returns-in-Ok-clause-heard
returns-in-Ok-clause-heard g c = reply_heard (asked c.args.words.now) _ _ _ _ c.in-Ok.ensures.heard

pub returns-then-is_err-clause-heard : goal.returns-then-is_err-clause-heard
returns-then-is_err-clause-heard g c =
    written_heard _ c.in-Ok.reply.status _ _
    (reply_speaks _ _ (asked c.args.words.now) _ _ _ c.in-Ok.ensures.answer)
    (asked c.args.words.now)
    (reply_heard (asked c.args.words.now) _ _ _ _ c.in-Ok.ensures.heard)

pub returns-in-Err-OutOfMemory-clause-heard : goal.returns-in-Err-OutOfMemory-clause-heard
returns-in-Err-OutOfMemory-clause-heard g c =
    reply_heard (asked c.args.words.now) _ _ _ _
    (rw c.in-Err-OutOfMemory.field-0-is at c.in-Err-OutOfMemory.ensures.heard)

pub returns-clause-heard : goal.returns-clause-heard
returns-clause-heard g c =
    reply_heard (asked c.args.words.now) _ _ _ _
    (rw c.in-Err-ReadFault.field-0-is at c.in-Err-ReadFault.ensures.heard)

pub returns-in-Ok-clause-judged : goal.returns-in-Ok-clause-judged
returns-in-Ok-clause-judged g c = judges_satisfaction

pub returns-in-Ok-clause-watched : goal.returns-in-Ok-clause-watched
returns-in-Ok-clause-watched g c = keeps_promises

pub returns-then-is_err-clause-judged : goal.returns-then-is_err-clause-judged
returns-then-is_err-clause-judged g c = judges_satisfaction

pub returns-then-is_err-clause-watched : goal.returns-then-is_err-clause-watched
returns-then-is_err-clause-watched g c = keeps_promises

pub returns-in-Err-OutOfMemory-clause-judged : goal.returns-in-Err-OutOfMemory-clause-judged
returns-in-Err-OutOfMemory-clause-judged g c = judges_satisfaction

pub returns-in-Err-OutOfMemory-clause-watched : goal.returns-in-Err-OutOfMemory-clause-watched
returns-in-Err-OutOfMemory-clause-watched g c = keeps_promises

pub returns-clause-judged : goal.returns-clause-judged
returns-clause-judged g c = judges_satisfaction

pub returns-clause-watched : goal.returns-clause-watched
returns-clause-watched g c = keeps_promises
