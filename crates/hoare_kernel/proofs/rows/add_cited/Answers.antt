-- One number more, and all of them.
use Rattle.std.proofs.Common.{ℕ, arith, get_or}
use borrow.Author.Count.{below_more}
use Rattle.cited_steps.specs.Earlier.{steps_in}
use Rattle.formula_table.proofs.KeptNumbers.{keeps_all-trans}
use Rattle.hoare_kernel.specs.Rows.{NumberHasRows}
use Rattle.hoare_kernel.proofs.HasRows.{number-kept, each-cited}
use Rattle.hoare_kernel.proofs.rows.add_cited.Goals as goal

pub loop-number-preserved : goal.loop-number-preserved
loop-number-preserved c =
    let old = c.loop-number.table in
    let new = c.add_numbered.new.table in
    let earlier = steps_in c.args.earlier.now in
    let kept = c.add_numbered.ensures.kept in record {
      kept = keeps_all-trans c.args.table.now old new c.loop-number.invariant.kept kept;
      rows = below_more
          (λ (i : ℕ). NumberHasRows new earlier (get_or c.args.numbers.now i 0))
          c.loop-number.number-index
          (λ i lt. number-kept old new kept earlier (get_or c.args.numbers.now i 0)
          (c.loop-number.invariant.rows i lt))
          c.in_ok-add_numbered.ensures.rows;
    }

pub returns-clause-rows : goal.returns-clause-rows
returns-clause-rows c =
    each-cited c.loop-number.table (steps_in c.args.earlier.now) c.args.numbers.now
    (λ i lt. c.loop-number.invariant.rows i (omega (arith, lt, c.loop-number-test.false)))
