use Rattle.std.proofs.Common.{sym}
use Rattle.model_grammar.specs.Writing.{cond_lexemes}
use Rattle.dom_terms.specs.Conditions.{cond_of}
use Rattle.gap_filling.proofs.Measures.{unfit}
use Rattle.gap_filling.proofs.conditions.+condition_measuring.Goals as goal

pub measure_condition-returns-then-not-meter : goal.measure_condition-returns-then-not-meter
measure_condition-returns-then-not-meter t c =
    sym (unfit c.args.meter.now (cond_lexemes (cond_of c.args.cond.now)) c.if-not-meter.true)
