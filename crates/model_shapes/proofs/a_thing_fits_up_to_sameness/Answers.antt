use Rattle.model_shapes.proofs.Representatives.{representative, fits-Shaped}
use Rattle.model_shapes.proofs.a_thing_fits_up_to_sameness.Goals as goal

pub returns-clause-found : goal.returns-clause-found
returns-clause-found c = representative

pub returns-clause-shaped : goal.returns-clause-shaped
returns-clause-shaped c = fits-Shaped
