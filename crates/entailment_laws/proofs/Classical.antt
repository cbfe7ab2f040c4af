-- "Or" and "some" are classical, so a proof that has them goes on in a `do` block.
use Rattle.model_formulas.specs.Satisfaction.{Classically}

abbrev pub ◌>>=◌ : {A B : Type 0} → Classically A → (A → Classically B) → Classically B
m >>= f = λ k. m (λ a. f a k)

infixl 10 ◌>>=◌
-- what is so is so classically
abbrev pub surely : {A : Type 0} → A → Classically A
surely a = λ k. k a
