-- The next filler is asked, or it was the last one.
use Rattle.std.proofs.Common.{◌≡◌, ◌-◌, Some, slice_get, refl, arith}
use Rattle.model_formulas.specs.Formulas.{Named}
use Rattle.model_commands.specs.Theories.{ProcedureOf}
use Rattle.theory_syntax.specs.Judgements.{judgement_of}
use Rattle.theory_syntax.specs.Theories.{theory_of}
use Rattle.theory_filler.proofs.Places.{own-procedure}
use Rattle.theory_filler.proofs.Turns.{were-none}
use Rattle.boxed_fillers.specs.Voices.{voices_of}
use Rattle.boxed_fillers.proofs.InOrder.{so-far-first}
use Rattle.boxed_fillers.proofs.Places.{gave, gave-nothing, nobody-gave, were-asked}
use Rattle.boxed_fillers.proofs.asking.ask_each.Goals as goal

pub loop-filler-init : goal.loop-filler-init
loop-filler-init g c = record {
  kept = refl;
  asked = were-none (voices_of g.F.Filler.turn g.F.Filler.offers c.args.fillers.now);
  so_far = λ f at. so-far-first _ f _ _ _ _;
}

pub returns-in_err-ask_one-clause-asked : goal.returns-in_err-ask_one-clause-asked
returns-in_err-ask_one-clause-asked g c =
    were-asked g.F.Filler.turn g.F.Filler.offers
    (voices_of g.F.Filler.turn g.F.Filler.offers c.args.fillers.now) c.loop-filler.fillers
    c.loop-filler.filler-index c.ask_one.new.filler c.filler-item.result
    (omega (arith, c.loop-filler-test.true, c.loop-filler.auto.fillers))
    c.loop-filler.invariant.asked c.ask_one.ensures.asked

pub returns-then-branch-clause-answer : goal.returns-then-branch-clause-answer
returns-then-branch-clause-answer g c = λ f at.
    gave g.F.Filler.turn g.F.Filler.offers
    (voices_of g.F.Filler.turn g.F.Filler.offers c.args.fillers.now) c.loop-filler.fillers
    c.loop-filler.filler-index c.ask_one.new.filler c.filler-item.result
    (omega (arith, c.loop-filler-test.true, c.loop-filler.auto.fillers))
    (theory_of c.args.theory.now) f c.args.proof.now (judgement_of c.args.judgement.now)
    (c.loop-filler.invariant.so_far f at) c.loop-filler.proof c.ask_one.new.proof
    c.loop-filler.invariant.kept c.in_ok-ask_one.field-0 (c.in_ok-ask_one.ensures.answer f at)
    c.if-branch.true

pub returns-then-branch-clause-asked : goal.returns-then-branch-clause-asked
returns-then-branch-clause-asked g c =
    were-asked g.F.Filler.turn g.F.Filler.offers
    (voices_of g.F.Filler.turn g.F.Filler.offers c.args.fillers.now) c.loop-filler.fillers
    c.loop-filler.filler-index c.ask_one.new.filler c.filler-item.result
    (omega (arith, c.loop-filler-test.true, c.loop-filler.auto.fillers))
    c.loop-filler.invariant.asked c.ask_one.ensures.asked

pub loop-filler-preserved : goal.loop-filler-preserved
loop-filler-preserved g c =
    let own = own-procedure c.args.theory.now.procedures c.args.procedure c.requires.first
    c.requires.last in
    let nothing = λ (f : ProcedureOf Named)
    (at : slice_get (theory_of c.args.theory.now).procedures (c.args.procedure - 1) ≡ Some f).
    gave-nothing g.F.Filler.turn g.F.Filler.offers
    (voices_of g.F.Filler.turn g.F.Filler.offers c.args.fillers.now) c.loop-filler.fillers
    c.loop-filler.filler-index c.ask_one.new.filler c.filler-item.result
    (omega (arith, c.loop-filler-test.true, c.loop-filler.auto.fillers))
    (theory_of c.args.theory.now) f c.args.proof.now (judgement_of c.args.judgement.now)
    (c.loop-filler.invariant.so_far f at) c.loop-filler.proof c.ask_one.new.proof
    c.loop-filler.invariant.kept c.in_ok-ask_one.field-0 (c.in_ok-ask_one.ensures.answer f at)
    c.if-branch.false in
    record {
      kept = (nothing own.0 own.1).0;
      asked = were-asked g.F.Filler.turn g.F.Filler.offers
          (voices_of g.F.Filler.turn g.F.Filler.offers c.args.fillers.now) c.loop-filler.fillers
          c.loop-filler.filler-index c.ask_one.new.filler c.filler-item.result
          (omega (arith, c.loop-filler-test.true, c.loop-filler.auto.fillers))
          c.loop-filler.invariant.asked c.ask_one.ensures.asked;
      so_far = λ f at. (nothing f at).1;
    }

pub returns-clause-answer : goal.returns-clause-answer
returns-clause-answer g c = λ f at.
    nobody-gave g.F.Filler.turn g.F.Filler.offers
    (voices_of g.F.Filler.turn g.F.Filler.offers c.args.fillers.now) c.loop-filler.fillers
    c.loop-filler.filler-index (theory_of c.args.theory.now) f c.args.proof.now
    c.loop-filler.proof (judgement_of c.args.judgement.now) c.loop-filler.invariant.kept
    (omega (arith, c.loop-filler-test.false, c.loop-filler.auto.fillers))
    (c.loop-filler.invariant.so_far f at)
