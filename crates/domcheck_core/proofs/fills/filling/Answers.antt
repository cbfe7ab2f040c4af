use Rattle.theory_syntax.specs.Theories.{theory_of}
use Rattle.domcheck_core.specs.Answers.{FillVerdict, says_filled}
use Rattle.domcheck_core.proofs.Fillings.{few-steps}
use Rattle.domcheck_core.proofs.Judged.{said}
use Rattle.domcheck_core.proofs.fills.filling.Goals as goal

pub fill_theory-requires-clause-few : goal.fill_theory-requires-clause-few
fill_theory-requires-clause-few g c = few-steps (theory_of c.args.theory.now) c.requires.within

pub unfilled-requires : goal.unfilled-requires
unfilled-requires g c = (_, c.in-Err.ensures.refused)

pub returns-in-Ok-clause-answer : goal.returns-in-Ok-clause-answer
returns-in-Ok-clause-answer g c =
    said (λ r. r.status) (λ r. r.output) (FillVerdict _ (theory_of c.args.theory.now)) _ _
    c.written-reply.result
    (says_filled (theory_of c.in-Ok.filled) c.in-Ok.ensures.filled c.in-Ok.ensures.within)
    c.written-reply.ensures.status c.written-reply.ensures.output

pub returns-in-Err-clause-answer : goal.returns-in-Err-clause-answer
returns-in-Err-clause-answer g c = c.unfilled.ensures _ c.in-Err.ensures.refused
