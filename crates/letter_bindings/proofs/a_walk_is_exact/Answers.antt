use Rattle.letter_bindings.proofs.Walks.{formula-exact}
use Rattle.letter_bindings.proofs.a_walk_is_exact.Goals as goal

pub returns : goal.returns
returns c = formula-exact
