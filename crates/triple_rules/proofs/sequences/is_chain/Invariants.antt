use Rattle.std.proofs.Common.{◌≡◌, drop}
use Rattle.model_files.specs.Sizes.{IsSmall}
use Rattle.model_formulas.specs.Nameless.{nameless}
use Rattle.dom_terms.specs.Sorts.{data_sort_of}
use Rattle.formula_syntax.specs.Formulas.{formula_of}
use Rattle.theory_syntax.specs.Commands.{block_of}
use Rattle.cited_steps.specs.Earlier.{steps_in}
use Rattle.triple_rules.specs.SequenceTests.{reached}
use Rattle.triple_rules.proofs.sequences.is_chain.Given as goal

abbrev pub invariant-loop-number : goal.invariant-loop-number
invariant-loop-number l = record {
  same : reached (steps_in l.written.earlier.now) l.written.citations.now
      (nameless (formula_of l.written.triple.now.pre)) (block_of l.block)
      (data_sort_of l.written.triple.now.sort)
      ≡ reached (steps_in l.written.earlier.now)
      (drop l.number-index l.written.citations.now) (nameless (formula_of l.at))
      (block_of l.commands) (data_sort_of l.written.triple.now.sort);
  small : IsSmall (formula_of l.at);
}
