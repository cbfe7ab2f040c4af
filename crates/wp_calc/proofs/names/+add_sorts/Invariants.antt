use Rattle.std.proofs.Common.{◌≡◌, ◌≤◌, ◌++◌, length, map, drop}
use Rattle.model_weakest.specs.Written.{new_sorts_of}
use Rattle.dom_terms.specs.Sorts.{sort_of}
use Rattle.theory_syntax.specs.Commands.{block_of}
use Rattle.wp_calc.proofs.names.+add_sorts.Given as goal

-- the commands from the place on have their sorts
abbrev pub invariant-add_block_sorts-loop-place : goal.invariant-add_block_sorts-loop-place
invariant-add_block_sorts-loop-place l = record {
  within : l.place ≤ length l.commands;
  sorts : map sort_of l.sorts
      ≡ map sort_of l.initial.sorts ++ new_sorts_of (block_of (drop l.place l.commands));
}

abbrev pub decreases-add_block_sorts-loop-place : goal.decreases-add_block_sorts-loop-place
decreases-add_block_sorts-loop-place l = l.place
