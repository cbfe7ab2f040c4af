use Rattle.theory_syntax.specs.Judgements.{judgement_of}
use Rattle.theory_syntax.specs.Theories.{theory_of}
use Rattle.boxed_fillers.proofs.Lent.{answered-whole}
use Rattle.boxed_fillers.proofs.listed.ListedFillers.ask.Goals as goal

pub returns-clause-answer : goal.returns-clause-answer
returns-clause-answer g c = λ f at.
    answered-whole g.F.Filler.turn g.F.Filler.offers (theory_of c.args.theory.now) f
    c.args.proof.now c.ask_each.new.proof (judgement_of c.args.judgement.now)
    c.args.self.now.fillers.items c.deref_mut.result.now c.ask_each.new.fillers
    c.args.self.now.fillers.len c.deref_mut.ensures.value c.ask_each.auto.fillers
    c.args.self.now.fillers.ok.0 c.ask_each.result (c.ask_each.ensures.answer f at)
