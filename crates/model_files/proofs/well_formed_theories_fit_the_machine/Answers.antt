use Rattle.model_files.proofs.WellFormedTheories.{well-formed-bodies, well-formed-scopes, step-sorted}
use Rattle.model_files.proofs.well_formed_theories_fit_the_machine.Goals as goal

pub returns-clause-bodies : goal.returns-clause-bodies
returns-clause-bodies c = well-formed-bodies

pub returns-clause-scopes : goal.returns-clause-scopes
returns-clause-scopes c = well-formed-scopes

pub returns-clause-steps : goal.returns-clause-steps
returns-clause-steps c = step-sorted
