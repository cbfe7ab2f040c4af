-- A procedure that only calls itself ensures false: it is well formed, accepted, and so it holds.
use Rattle.std.proofs.Common.{refl}
use Rattle.model_machine.specs.LocalTriples.{MeetsItsSpecification}
use Rattle.model_commands.specs.Theories.{procedures_of, nameless_procedure}
use Rattle.rule_table.proofs.WorkedTheories.{one_procedure, loop_procedure, file_loop_accepted}
use Rattle.triple_laws.proofs.Theories.{accepted_theories_hold}

pub loop_holds : MeetsItsSpecification (procedures_of (one_procedure loop_procedure))
    (nameless_procedure loop_procedure)
loop_holds = (accepted_theories_hold (one_procedure loop_procedure) refl file_loop_accepted).0
