-- What one filler answers.
use Rattle.std.proofs.Common.{◌+◌, map, ap}
use Rattle.std.specs.Option.{option_map}
use Rattle.theory_syntax.specs.Judgements.{judgement_of, step_of}
use Rattle.theory_syntax.specs.Theories.{theory_of}
use Rattle.boxed_fillers.specs.Voices.{voice_of}
use Rattle.boxed_fillers.proofs.Alone.{unasked, asked-now, no-offer, taken-or-not}
use Rattle.boxed_fillers.proofs.asking.ask_one.Goals as goal

pub returns-in_err-offer-clause-asked : goal.returns-in_err-offer-clause-asked
returns-in_err-offer-clause-asked g c =
    unasked (voice_of g.F.Filler.turn g.F.Filler.offers c.args.filler.now)
    (voice_of g.F.Filler.turn g.F.Filler.offers c.propose.new.self)
    c.in_err-offer.ensures.same c.in_err-offer.ensures.as_before

pub returns-in-Some-clause-asked : goal.returns-in-Some-clause-asked
returns-in-Some-clause-asked g c =
    asked-now (voice_of g.F.Filler.turn g.F.Filler.offers c.args.filler.now)
    (voice_of g.F.Filler.turn g.F.Filler.offers c.propose.new.self)
    c.in_ok-offer.ensures.same c.in_ok-offer.ensures.turn

pub returns-in-None-clause-asked : goal.returns-in-None-clause-asked
returns-in-None-clause-asked g c =
    asked-now (voice_of g.F.Filler.turn g.F.Filler.offers c.args.filler.now)
    (voice_of g.F.Filler.turn g.F.Filler.offers c.propose.new.self)
    c.in_ok-offer.ensures.same c.in_ok-offer.ensures.turn

pub returns-in-Some-clause-answer : goal.returns-in-Some-clause-answer
returns-in-Some-clause-answer g c = λ f at.
    taken-or-not (voice_of g.F.Filler.turn g.F.Filler.offers c.args.filler.now)
    (voice_of g.F.Filler.turn g.F.Filler.offers c.propose.new.self) c.in_ok-offer.ensures.same
    c.in_ok-offer.ensures.turn (theory_of c.args.theory.now) f c.args.proof.now
    (judgement_of c.args.judgement.now) (c.len.result + 1) c.as_slice.result.now
    (ap (λ n. n + 1) c.len.ensures) c.as_slice.ensures
    (option_map (map step_of) c.in_ok-offer.field-0) c.in_ok-offer.ensures.answer c.in-Some.offer
    (ap (option_map (map step_of)) c.in-Some.is) c.take_usable.result c.take_usable.new.proof
    (c.take_usable.ensures.exact f at) c.take_usable.ensures.taken

pub returns-in-None-clause-answer : goal.returns-in-None-clause-answer
returns-in-None-clause-answer g c = λ f at.
    no-offer (voice_of g.F.Filler.turn g.F.Filler.offers c.args.filler.now)
    (voice_of g.F.Filler.turn g.F.Filler.offers c.propose.new.self) c.in_ok-offer.ensures.same
    c.in_ok-offer.ensures.turn (theory_of c.args.theory.now) f c.args.proof.now
    (judgement_of c.args.judgement.now) (c.len.result + 1) c.as_slice.result.now
    (ap (λ n. n + 1) c.len.ensures) c.as_slice.ensures
    (option_map (map step_of) c.in_ok-offer.field-0) c.in_ok-offer.ensures.answer
    (ap (option_map (map step_of)) c.in-None.is)
