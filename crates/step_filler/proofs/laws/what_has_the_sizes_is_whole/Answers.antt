use Rattle.assistant_laws.specs.Plans.{steps_of}
use Rattle.step_filler.proofs.Sizes.{given-begins, given-few, given-sized-is-all, sized-is-given}
use Rattle.step_filler.proofs.laws.what_has_the_sizes_is_whole.Goals as goal

pub returns-clause-begins : goal.returns-clause-begins
returns-clause-begins c = λ number plan. given-begins (steps_of number plan)

pub returns-clause-few : goal.returns-clause-few
returns-clause-few c = λ number plan. given-few (steps_of number plan)

pub returns-clause-whole : goal.returns-clause-whole
returns-clause-whole c =
    λ version number plan. given-sized-is-all version (steps_of number plan)

pub returns-clause-all : goal.returns-clause-all
returns-clause-all c = λ version number plan. sized-is-given version (steps_of number plan)
