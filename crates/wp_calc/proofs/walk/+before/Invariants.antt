use Rattle.std.proofs.Common.{◌≡◌, ◌≤◌, length, drop}
use Rattle.model_weakest.specs.Written.{new_sorts_of, written_of}
use Rattle.formula_syntax.specs.Formulas.{formula_of}
use Rattle.theory_syntax.specs.Commands.{block_of}
use Rattle.wp_calc.specs.Rows.{names_in}
use Rattle.wp_calc.proofs.walk.+before.Given as goal

-- the commands from the place on are behind
abbrev pub invariant-before_block-loop-place : goal.invariant-before_block-loop-place
invariant-before_block-loop-place l = record {
  within : l.place ≤ length l.commands;
  left : names_in l.supply.rest.now
      ≡ drop (length (new_sorts_of (block_of (drop l.place l.commands))))
      (names_in l.initial.supply.rest.now);
  done : formula_of l.asked ≡ written_of (names_in l.initial.supply.rest.now)
      (block_of (drop l.place l.commands)) (formula_of l.initial.asked);
}

abbrev pub decreases-before_block-loop-place : goal.decreases-before_block-loop-place
decreases-before_block-loop-place l = l.place
