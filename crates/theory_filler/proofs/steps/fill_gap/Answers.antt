-- What is answered, as a step of the walk.
use Rattle.std.proofs.Common.{◌≡◌, ◌∙◌, ◌+◌, ◌-◌, length, refl, ap, arith}
use Rattle.std.proofs.lemmas.List.{length-append}
use Rattle.theory_syntax.specs.Judgements.{step_of}
use Rattle.theory_syntax.specs.Theories.{theory_of}
use Rattle.theory_filler.proofs.Places.{own-procedure}
use Rattle.theory_filler.proofs.Filled.{answered-no, answered-yes, grown, gap-fails, gap-leads, gap-orderly}
use Rattle.theory_filler.proofs.steps.fill_gap.Goals as goal

pub returns-then-not-branch-clause-bad : goal.returns-then-not-branch-clause-bad
returns-then-not-branch-clause-bad g c = λ f at.
    let theory = theory_of c.args.theory.now in
    let s = step_of c.args.step.now in
    let voices = g.F.Fillers.voices c.args.fillers.now in
    let others = g.F.Fillers.voices c.ask.new.self in
    gap-fails theory f c.args.walked.now s c.requires.walked voices c.requires.reason others
    (answered-no theory f c.args.walked.now s c.requires.walked voices c.in_ok-ask.field-0
    c.ask.new.proof others (c.in_ok-ask.ensures.answer f at) c.if-not-branch.true)
    c.args.procedure

pub overflow_sub-more : goal.overflow_sub-more
overflow_sub-more g c =
    let own = own-procedure c.args.theory.now.procedures c.args.procedure c.requires.first
    c.requires.last in
    let more = grown (theory_of c.args.theory.now) own.0 c.args.walked.now
    (step_of c.args.step.now) c.requires.walked (g.F.Fillers.voices c.args.fillers.now)
    c.in_ok-ask.field-0 c.ask.new.proof (g.F.Fillers.voices c.ask.new.self)
    (c.in_ok-ask.ensures.answer own.0 own.1) c.if-not-branch.false in
    omega (arith, more.1, c.len.ensures, c.len-before.ensures)

pub overflow_sub-more-2 : goal.overflow_sub-more-2
overflow_sub-more-2 g c =
    let own = own-procedure c.args.theory.now.procedures c.args.procedure c.requires.first
    c.requires.last in
    let more = grown (theory_of c.args.theory.now) own.0 c.args.walked.now
    (step_of c.args.step.now) c.requires.walked (g.F.Fillers.voices c.args.fillers.now)
    c.in_ok-ask.field-0 c.ask.new.proof (g.F.Fillers.voices c.ask.new.self)
    (c.in_ok-ask.ensures.answer own.0 own.1) c.if-not-branch.false in
    omega (arith, more.1, more.2, c.len.ensures, c.len-before.ensures)

pub overflow_cast-more : goal.overflow_cast-more
overflow_cast-more g c =
    let own = own-procedure c.args.theory.now.procedures c.args.procedure c.requires.first
    c.requires.last in
    let more = grown (theory_of c.args.theory.now) own.0 c.args.walked.now
    (step_of c.args.step.now) c.requires.walked (g.F.Fillers.voices c.args.fillers.now)
    c.in_ok-ask.field-0 c.ask.new.proof (g.F.Fillers.voices c.ask.new.self)
    (c.in_ok-ask.ensures.answer own.0 own.1) c.if-not-branch.false in
    omega (arith, more.1, more.3, c.len.ensures, c.len-before.ensures)

pub returns-clause-orderly : goal.returns-clause-orderly
returns-clause-orderly g c =
    let own = own-procedure c.args.theory.now.procedures c.args.procedure c.requires.first
    c.requires.last in
    let theory = theory_of c.args.theory.now in
    let s = step_of c.args.step.now in
    let voices = g.F.Fillers.voices c.args.fillers.now in
    let others = g.F.Fillers.voices c.ask.new.self in
    let yes = answered-yes theory own.0 c.args.walked.now s c.requires.walked voices
    c.in_ok-ask.field-0 c.ask.new.proof others (c.in_ok-ask.ensures.answer own.0 own.1)
    c.if-not-branch.false in
    let long : length c.ask.new.proof ≡ length c.args.walked.now.steps + length yes.0 =
    ap length yes.1 ∙ length-append c.args.walked.now.steps yes.0 in
    gap-orderly theory own.0 c.args.walked.now s c.requires.walked voices yes.0 others yes.2
    (record { steps = c.ask.new.proof; gaps = c.push.new.self })
    (record {
      number = c.args.step.now.number;
      more = c.len.result - c.len-before.result - 1;
    })
    yes.1 c.in_ok-push.ensures.ok refl (omega (arith, long, c.len.ensures, c.len-before.ensures))
    c.in_ok-ask.ensures.citable

pub returns-clause-leads : goal.returns-clause-leads
returns-clause-leads g c = λ f at.
    let theory = theory_of c.args.theory.now in
    let s = step_of c.args.step.now in
    let voices = g.F.Fillers.voices c.args.fillers.now in
    let others = g.F.Fillers.voices c.ask.new.self in
    let yes = answered-yes theory f c.args.walked.now s c.requires.walked voices
    c.in_ok-ask.field-0 c.ask.new.proof others (c.in_ok-ask.ensures.answer f at)
    c.if-not-branch.false in
    let long : length c.ask.new.proof ≡ length c.args.walked.now.steps + length yes.0 =
    ap length yes.1 ∙ length-append c.args.walked.now.steps yes.0 in
    gap-leads theory f c.args.walked.now s c.requires.walked voices yes.0 others yes.2
    (record { steps = c.ask.new.proof; gaps = c.push.new.self })
    (record {
      number = c.args.step.now.number;
      more = c.len.result - c.len-before.result - 1;
    })
    yes.1 c.in_ok-push.ensures.ok refl (omega (arith, long, c.len.ensures, c.len-before.ensures))
    c.requires.reason
