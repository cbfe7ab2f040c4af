use Rattle.model_shapes.specs.Sorts.{shape, grove}
use Rattle.step_filler.specs.Turns.{way_of}
use Rattle.step_filler.proofs.Turning.{one-as, turned-is}
use Rattle.step_filler.proofs.root_sides.write_root.Goals as goal

pub returns-in-Ok-clause-written : goal.returns-in-Ok-clause-written
returns-in-Ok-clause-written c = one-as c.write_so.ensures.written
    (turned-is (way_of c.args.way) (shape grove) c.in-Ok.ensures.root c.in-Ok.ensures.tidied)
