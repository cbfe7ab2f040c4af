use Rattle.model_generator.proofs.Counts.{so_many_makers, so_many_steps}
use Rattle.model_generator.proofs.the_theory_has_the_counts.Goals as goal

pub returns-clause-procedures : goal.returns-clause-procedures
returns-clause-procedures c = so_many_makers 1

pub returns-clause-steps : goal.returns-clause-steps
returns-clause-steps c = so_many_steps 1
