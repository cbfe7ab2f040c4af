use Rattle.domcheck_core.proofs.Calling.{by_place}
use Rattle.domcheck_core.proofs.calls.place_of.Goals as goal

pub returns : goal.returns
returns c = by_place c.args.name.now c.args.procedures.now c.position_of.result
    c.position_of.ensures
