use Rattle.std.proofs.Common.{◌≡◌, ◌∙◌, ◌+◌, ◌-◌, ◌<◌, ap, drop, length, arith}
use Rattle.model_weakest.specs.Written.{new_sorts_of, written_of}
use Rattle.formula_syntax.specs.Formulas.{formula_of}
use Rattle.wp_calc.specs.Rows.{names_in}
use Rattle.wp_calc.proofs.SortLaws.{left-from, left-none, whole-block, written-from, written-none}
use Rattle.wp_calc.proofs.walk.+before.Goals as goal

pub before_block-loop-place-init : goal.before_block-loop-place-init
before_block-loop-place-init t c = record {
  within = omega arith;
  left = left-none c.as_slice-commands.result.now (names_in c.args.supply.now.rest.now);
  done = written-none c.as_slice-commands.result.now (names_in c.args.supply.now.rest.now)
      (formula_of c.args.asked);
}

pub before_block-loop-place-preserved : goal.before_block-loop-place-preserved
before_block-loop-place-preserved t c =
    let some : 0 < c.loop-place.place = c.loop-place-test.true in
    let before = c.loop-place.invariant in
    let lt : c.loop-place.place - 1 < length c.as_slice-commands.result.now
    = omega (arith, before.within) in
    let e : c.loop-place.place ≡ c.loop-place.place - 1 + 1 = omega arith in
    record {
      within = omega arith;
      left = left-from c.as_slice-commands.result.now (c.loop-place.place - 1) c.loop-place.place
          c.index-commands-place.result (names_in c.args.supply.now.rest.now)
          (names_in c.loop-place.supply.rest.now)
          (names_in c.before-in-loop-place.new.supply.rest.now) lt c.index-commands-place.is e
          before.left c.in_ok-asked.ensures.rest;
      done = written-from c.as_slice-commands.result.now (c.loop-place.place - 1)
          c.loop-place.place c.index-commands-place.result (names_in c.args.supply.now.rest.now)
          (names_in c.loop-place.supply.rest.now) (formula_of c.args.asked)
          (formula_of c.loop-place.asked) (formula_of c.in_ok-asked.asked) lt
          c.index-commands-place.is e before.left before.done
          c.in_ok-asked.ensures.formula;
    }

pub before_block-returns-clause-formula : goal.before_block-returns-clause-formula
before_block-returns-clause-formula t c =
    c.loop-place.invariant.done
    ∙ ap (λ b. written_of (names_in c.args.supply.now.rest.now) b (formula_of c.args.asked))
    (whole-block c.as_slice-commands.result.now c.args.block.now c.loop-place.place
    c.loop-place-test.false c.as_slice-commands.ensures)

pub before_block-returns-clause-rest : goal.before_block-returns-clause-rest
before_block-returns-clause-rest t c =
    c.loop-place.invariant.left
    ∙ ap (λ b. drop (length (new_sorts_of b)) (names_in c.args.supply.now.rest.now))
    (whole-block c.as_slice-commands.result.now c.args.block.now c.loop-place.place
    c.loop-place-test.false c.as_slice-commands.ensures)
