-- How many terms stand in a term, itself among them.
use Rattle.std.proofs.Common.{ℕ, ◌+◌}
use Rattle.model_terms.specs.Terms.{Term, literal, variable, sum, difference, appended}

abbrev pub terms_in : Term → ℕ
terms_in (literal v) = 1
terms_in (variable x) = 1
terms_in (sum a b) = terms_in a + terms_in b + 1
terms_in (difference a b) = terms_in a + terms_in b + 1
terms_in (appended a b) = terms_in a + terms_in b + 1
