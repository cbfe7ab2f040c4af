use Rattle.heap_runner.proofs.AdvanceLaws.{no_fault_of}
use Rattle.heap_runner.proofs.advancing.faulted.Goals as goal

pub unreachable-requires : goal.unreachable-requires
unreachable-requires c = no_fault_of c.args.first c.in_default.not-Command c.requires
