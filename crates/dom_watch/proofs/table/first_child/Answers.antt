use Rattle.grove_data.specs.Finding.{number_or_null}
use Rattle.dom_watch.proofs.Reading.{no_fault, first_read}
use Rattle.dom_watch.proofs.table.first_child.Goals as goal

pub unreachable-requires : goal.unreachable-requires
unreachable-requires c =
    no_fault c.args.heap.now.grove c.requires.shaped c.args.node c.requires.known number_or_null
    _ _ c.in_default.field-0 c.in_default.ensures

pub returns : goal.returns
returns c =
    first_read c.args.heap.now.grove c.requires.shaped c.args.node c.requires.known
    c.in-Ok.child c.in-Ok.ensures
