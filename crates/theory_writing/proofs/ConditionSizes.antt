-- How many conditions stand in a condition, itself among them.
use Rattle.std.proofs.Common.{ℕ, ◌+◌}
use Rattle.model_terms.specs.Conditions.{Cond, cond_true, cond_false, cond_variable, cond_equal, cond_at_most, cond_not, cond_and, cond_or}

abbrev pub conditions_in : Cond → ℕ
conditions_in cond_true = 1
conditions_in cond_false = 1
conditions_in (cond_variable x) = 1
conditions_in (cond_equal a b) = 1
conditions_in (cond_at_most a b) = 1
conditions_in (cond_not c) = conditions_in c + 1
conditions_in (cond_and c d) = conditions_in c + conditions_in d + 1
conditions_in (cond_or c d) = conditions_in c + conditions_in d + 1
