use Rattle.std.proofs.Common.{rules, codes}
use Rattle.model_grammar.specs.TheoryWriting.{number_lexemes}
use Rattle.gap_filling.proofs.Marks.{goes_on}
use Rattle.gap_filling.proofs.steps.measure_marked_numbers.Goals as goal

pub loop-number-preserved : goal.loop-number-preserved
loop-number-preserved c = (
  rw (c.numeral.ensures, c.token.ensures)
      (goes_on number_lexemes c.loop-number.mark.now (codes ",") c.args.numbers.now
      c.loop-number.number-index 0 c.from.result c.loop-number.meter _
      c.loop-number-test.true c.from.ensures c.loop-number.invariant.0),
  search rules,
)
