use Rattle.step_filler.proofs.Penning.{one-pens, both-pens}
use Rattle.step_filler.proofs.root_sides.take_root.Goals as goal

pub returns-clause-written : goal.returns-clause-written
returns-clause-written c = both-pens
    (one-pens c.write_tree-inner.ensures.written c.write_root-first.ensures.written)
    c.write_itself-second.ensures.written c.write_leading_root.ensures.written
