use Rattle.model_shapes.proofs.Filling.{fill-left, fill-right}
use Rattle.model_shapes.proofs.filling_keeps_sameness.Goals as goal

pub returns-clause-contexts : goal.returns-clause-contexts
returns-clause-contexts c = fill-left

pub returns-clause-pieces : goal.returns-clause-pieces
returns-clause-pieces c = λ h k o a b w e. fill-right h k o a b w.holes_fit e
