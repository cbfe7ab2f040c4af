use Rattle.step_filler.proofs.Penning.{both-pens}
use Rattle.step_filler.proofs.tidy.write_trees.Goals as goal

pub returns-clause-written : goal.returns-clause-written
returns-clause-written c = both-pens c.write_tree-first.ensures.written
    c.write_tree-second.ensures.written c.write.ensures.written
