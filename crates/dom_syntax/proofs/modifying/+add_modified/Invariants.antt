use Rattle.std.proofs.Common.{drop}
use Rattle.model_commands.specs.Commands.{BlockModifies}
use Rattle.theory_syntax.specs.Commands.{block_of}
use Rattle.dom_syntax.specs.Modified.{IsFound, IsOutside, found_in}
use Rattle.dom_syntax.proofs.ModifiedLaws.{Leaves}
use Rattle.dom_syntax.proofs.modifying.+add_modified.Given as goal

abbrev pub invariant-add_in_block-loop-command : goal.invariant-add_in_block-loop-command
invariant-add_in_block-loop-command l = record {
  found : IsFound l.found;
  left : Leaves (found_in l.initial.found) (found_in l.found)
      (λ x. BlockModifies (block_of l.block) x × IsOutside l.over x)
      (λ x. BlockModifies (block_of (drop l.command-index l.command-items)) x
      × IsOutside l.over x);
}
