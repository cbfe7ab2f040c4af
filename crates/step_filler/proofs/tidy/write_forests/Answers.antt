use Rattle.step_filler.proofs.Penning.{both-pens}
use Rattle.step_filler.proofs.tidy.write_forests.Goals as goal

pub returns-clause-written : goal.returns-clause-written
returns-clause-written c = both-pens c.write_forest-first.ensures.written
    c.write_forest-second.ensures.written c.write.ensures.written
