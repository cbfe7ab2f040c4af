-- Needn't be believed: the program's promise doesn't speak of it. The changes of the definitions
-- that those of the program stand for.
use Rattle.model_machine.specs.Changes as model
use Rattle.run_trace.specs.declared.changes.Change.{Change}
use Rattle.run_trace.specs.declared.changes.Change.TheVariants as v

-- the change
abbrev pub change_of : Change → model.Change
change_of (v.Created step node list) = model.created step node list
change_of (v.Moved step node from to before) = model.moved step node from to before
change_of (v.Removed step node from) = model.removed step node from
