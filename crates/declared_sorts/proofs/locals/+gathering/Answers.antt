use Rattle.std.proofs.Common.{map, arith}
use Rattle.dom_terms.specs.Terms.{prog_var_of}
use Rattle.theory_syntax.specs.Commands.{command_of}
use Rattle.declared_sorts.proofs.OneMore.{added}
use Rattle.declared_sorts.proofs.locals.+gathering.Goals as goal

pub add_block-loop-item-preserved : goal.add_block-loop-item-preserved
add_block-loop-item-preserved t c =
    added command_of c.args.block.now c.loop-item.item-index c.item-item.result
    (map prog_var_of c.args.found.now)
    (map prog_var_of c.loop-item.found) _ (omega arith) c.item-item.is c.loop-item.invariant
    c.in_ok-add_locals.ensures
