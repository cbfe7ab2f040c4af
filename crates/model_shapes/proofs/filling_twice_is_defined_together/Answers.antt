use Rattle.model_shapes.proofs.Filling.{composed-defined, filled-defined}
use Rattle.model_shapes.proofs.filling_twice_is_defined_together.Goals as goal

pub returns-clause-composed : goal.returns-clause-composed
returns-clause-composed c = composed-defined

pub returns-clause-filled : goal.returns-clause-filled
returns-clause-filled c = filled-defined
