use Rattle.grove_data.specs.Trees.{forest_of}
use Rattle.grove_data.specs.UsedNumbers.{numbered_of}
use Rattle.context_apply.proofs.Repeats.{unrepeated, repeated}
use Rattle.context_apply.proofs.plugging.refuse_clash.Goals as goal

pub returns-in-Ok : goal.returns-in-Ok
returns-in-Ok c = unrepeated (forest_of c.args.trees.now) c.requires c.in-Ok.ensures

pub returns-in-Err-Repeated : goal.returns-in-Err-Repeated
returns-in-Err-Repeated c =
    repeated (forest_of c.args.trees.now)
    (numbered_of c.in-Err-Repeated.field-0-0 c.in-Err-Repeated.field-0-1)
    (rw c.in-Err-Repeated.field-0-is at c.in-Err-Repeated.ensures)
