use Rattle.model_shapes.proofs.Inhabited.{some_thing, fits-is_sort}
use Rattle.model_shapes.proofs.sorts_have_things.Goals as goal

pub returns-clause-inhabited : goal.returns-clause-inhabited
returns-clause-inhabited c = some_thing

pub returns-clause-only : goal.returns-clause-only
returns-clause-only c = fits-is_sort
