use Rattle.model_shapes.proofs.Filling.{fill-Shaped, outer-WellFormed, inner-WellFormed}
use Rattle.model_shapes.proofs.filling_gives_the_sort.Goals as goal

pub returns-clause-whole : goal.returns-clause-whole
returns-clause-whole c = fill-Shaped

pub returns-clause-parts : goal.returns-clause-parts
returns-clause-parts c = λ a b o w. (outer-WellFormed a b w, inner-WellFormed a b o w)
