use Rattle.std.proofs.Common.{◌≡◌}
use Rattle.dom_watch.specs.Judged.{others_at}
use Rattle.dom_watch.proofs.judging.leave_out.Given as goal

abbrev pub invariant-loop-at : goal.invariant-loop-at
invariant-loop-at l = l.rest.items ≡ others_at l.trees l.at
