use Rattle.std.proofs.Common.{◌≡◌}
use Rattle.domcheck_core.proofs.traces.surrounded.Goals as goal
