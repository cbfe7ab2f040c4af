use Rattle.model_groves.proofs.InContext.{found-inside, without-inside, adding-inside, adding_before-inside}
use Rattle.model_groves.proofs.what_is_not_reached_stays.Goals as goal

pub returns-clause-found : goal.returns-clause-found
returns-clause-found c = found-inside

pub returns-clause-taken_out : goal.returns-clause-taken_out
returns-clause-taken_out c = without-inside

pub returns-clause-added : goal.returns-clause-added
returns-clause-added c = adding-inside

pub returns-clause-added_before : goal.returns-clause-added_before
returns-clause-added_before c = adding_before-inside
