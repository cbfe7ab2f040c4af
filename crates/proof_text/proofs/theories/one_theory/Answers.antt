use Rattle.proof_text.proofs.Exact.{one_theory}
use Rattle.proof_text.proofs.theories.one_theory.Goals as goal

pub returns : goal.returns
returns c = one_theory
