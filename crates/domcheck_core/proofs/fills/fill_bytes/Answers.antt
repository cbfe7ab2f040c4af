use Rattle.std.proofs.lemmas.Str.{IsUtf8-had}
use Rattle.domcheck_core.proofs.Judged.{filled_file}
use Rattle.domcheck_core.proofs.OneAnswer.{one_fill}
use Rattle.domcheck_core.proofs.fills.fill_bytes.Goals as goal

pub returns-clause-exactly : goal.returns-clause-exactly
returns-clause-exactly g c = λ s output a.
    one_fill _ c.args.bytes.now c.in_ok-reply.reply.status s
    c.in_ok-reply.reply.output output c.in_ok-reply.ensures.answer a

pub returns-clause-filled : goal.returns-clause-filled
returns-clause-filled g c = λ e.
    filled_file _ c.args.bytes.now c.in_ok-reply.reply.status
    c.in_ok-reply.reply.output c.in_ok-reply.ensures.answer e
    (IsUtf8-had _ c.is_utf8.ensures)
