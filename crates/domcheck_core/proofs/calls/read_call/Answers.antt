use Rattle.std.proofs.Common.{map}
use Rattle.dom_terms.specs.Values.{value_seen}
use Rattle.domcheck_core.proofs.Calling.{reads}
use Rattle.domcheck_core.proofs.calls.read_call.Goals as goal

pub returns-in-Some-2 : goal.returns-in-Some-2
returns-in-Some-2 c =
    reads c.args.name.now c.args.theory.now.procedures c.in-Some.procedure
    (rw (c.as_slice.ensures, c.as_str.ensures) at c.in-Some.ensures) c.in-Some-get.called.now
    c.in-Some-get.ensures.item
    c.args.arguments.now (map value_seen c.in-Some-2.values)
    (rw (c.in-Some-2.is, c.as_slice-params.ensures, c.as_slice-2.ensures) at c.in_ok-values.ensures)
