use Rattle.weakest_laws.proofs.WrittenExact.{written-exact}
use Rattle.weakest_laws.proofs.written_preconditions_are_exact.Goals as goal

pub returns : goal.returns
returns c = written-exact
