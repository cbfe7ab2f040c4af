use Rattle.std.proofs.Common.{sym}
use Rattle.model_grammar.specs.TheoryWriting.{formula_lexemes}
use Rattle.formula_syntax.specs.Formulas.{formula_of}
use Rattle.gap_filling.proofs.Measures.{unfit}
use Rattle.gap_filling.proofs.formulas.+formula_measuring.Goals as goal

pub measure_formula-returns-then-not-meter : goal.measure_formula-returns-then-not-meter
measure_formula-returns-then-not-meter t c =
    sym (unfit c.args.meter.now (formula_lexemes (formula_of c.args.formula.now))
    c.if-not-meter.true)
