use Rattle.letter_bindings.proofs.Settling.{settled-agrees, settled-one, settled-new, unsettled}
use Rattle.letter_bindings.proofs.what_is_settled_is_a_choice.Goals as goal

-- src/lib.rt:15:1
pub returns-clause-with_a_variable : goal.returns-clause-with_a_variable
returns-clause-with_a_variable c = settled-agrees

-- src/lib.rt:15:1
pub returns-clause-no_other : goal.returns-clause-no_other
returns-clause-no_other c = settled-one

-- src/lib.rt:15:1
pub returns-clause-with_a_new_one : goal.returns-clause-with_a_new_one
returns-clause-with_a_new_one c = settled-new

-- src/lib.rt:15:1
pub returns-clause-not_settled : goal.returns-clause-not_settled
returns-clause-not_settled c = unsettled
