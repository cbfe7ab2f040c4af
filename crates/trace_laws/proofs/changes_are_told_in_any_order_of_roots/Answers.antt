use Rattle.trace_laws.proofs.Followed.{followed_start, followed_next, followed_told}
use Rattle.trace_laws.proofs.changes_are_told_in_any_order_of_roots.Goals as goal

pub returns-clause-begin : goal.returns-clause-begin
returns-clause-begin c = followed_start

pub returns-clause-step : goal.returns-clause-step
returns-clause-step c = followed_next

pub returns-clause-so_far : goal.returns-clause-so_far
returns-clause-so_far c = followed_told
