use Rattle.rule_table.proofs.Places.{accepted-none, one-first-bad, accepted-or-bad}
use Rattle.rule_table.proofs.a_theory_is_accepted_or_has_a_bad_place.Goals as goal

pub returns-clause-none : goal.returns-clause-none
returns-clause-none c = accepted-none

pub returns-clause-first : goal.returns-clause-first
returns-clause-first c = accepted-or-bad

pub returns-clause-one : goal.returns-clause-one
returns-clause-one c = one-first-bad
