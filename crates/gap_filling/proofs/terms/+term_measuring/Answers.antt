use Rattle.std.proofs.Common.{sym}
use Rattle.model_grammar.specs.Writing.{term_lexemes}
use Rattle.dom_terms.specs.Terms.{term_of}
use Rattle.gap_filling.proofs.Measures.{unfit}
use Rattle.gap_filling.proofs.terms.+term_measuring.Goals as goal

pub measure_term-returns-then-not-meter : goal.measure_term-returns-then-not-meter
measure_term-returns-then-not-meter t c =
    sym (unfit c.args.meter.now (term_lexemes (term_of c.args.term.now)) c.if-not-meter.true)
