use Rattle.std.proofs.Common.{◌≡◌, Bool, true, subst}
use Rattle.model_shapes.specs.Tests.{same_value_sort, same_data_sort, same_sort, int_eq, same_value}
use Rattle.model_shapes.proofs.Tests.{same_value_sort-is, same_value_sort-refl, same_data_sort-is, same_data_sort-refl, same_sort-is, same_sort-refl, int-is, int-refl, same_value-is, same_value-refl}
use Rattle.model_shapes.proofs.tests_are_of_equality.Goals as goal

both : {A : Type 0} (same : A → A → Bool) → ((a b : A) → same a b ≡ true → a ≡ b)
    → ((a : A) → same a a ≡ true) → (a b : A)
    → (same a b ≡ true → a ≡ b) × (a ≡ b → same a b ≡ true)
both same is of_itself a b = (is a b, (λ e. subst (λ z. same a z ≡ true) e (of_itself a)))

pub returns-clause-value_sorts : goal.returns-clause-value_sorts
returns-clause-value_sorts c = both same_value_sort same_value_sort-is same_value_sort-refl

pub returns-clause-data_sorts : goal.returns-clause-data_sorts
returns-clause-data_sorts c = both same_data_sort same_data_sort-is same_data_sort-refl

pub returns-clause-sorts : goal.returns-clause-sorts
returns-clause-sorts c = both same_sort same_sort-is same_sort-refl

pub returns-clause-integers : goal.returns-clause-integers
returns-clause-integers c = both int_eq int-is int-refl

pub returns-clause-values : goal.returns-clause-values
returns-clause-values c = both same_value same_value-is same_value-refl
