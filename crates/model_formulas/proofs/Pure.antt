-- A pure formula says nothing of the shape or context at which it is judged.
use Rattle.std.proofs.Common.{◌≡◌, ◌⊎◌, refl, true}
use Rattle.model_shapes.specs.Sorts.{Sort}
use Rattle.model_shapes.specs.Trees.{Trees}
use Rattle.model_shapes.proofs.Truth.{false≢true, both_true}
use Rattle.model_formulas.specs.Formulas.{Formula, truth, falsity, conjunction, disjunction, implication, negation, existential, universal, equality, at_most, value_meets, is_pure}
use Rattle.model_formulas.specs.Satisfaction.{Environment, Meets, Classically, SomeThing, EachThing, choosing}

-- at every sort and everywhere it says the same
pub pure-ignores : (p : Formula) → is_pure p ≡ true → (e : Environment) (s t : Sort) (r w : Trees)
    → Meets p e s r ≡ Meets p e t w
pure-ignores truth h e s t r w = refl
pure-ignores falsity h e s t r w = refl
pure-ignores (conjunction p q) h e s t r w =
    λ j. pure-ignores p (both_true (is_pure p) (is_pure q) h).0 e s t r w j
    × pure-ignores q (both_true (is_pure p) (is_pure q) h).1 e s t r w j
pure-ignores (disjunction p q) h e s t r w =
    λ j. Classically (pure-ignores p (both_true (is_pure p) (is_pure q) h).0 e s t r w j
    ⊎ pure-ignores q (both_true (is_pure p) (is_pure q) h).1 e s t r w j)
pure-ignores (implication p q) h e s t r w =
    λ j. pure-ignores p (both_true (is_pure p) (is_pure q) h).0 e s t r w j
    → pure-ignores q (both_true (is_pure p) (is_pure q) h).1 e s t r w j
pure-ignores (negation p) h e s t r w = λ j. pure-ignores p h e s t r w j → ⊥
pure-ignores (existential u p) h e s t r w =
    λ j. SomeThing u (λ v. pure-ignores p h (choosing v e) s t r w j)
pure-ignores (universal u p) h e s t r w =
    λ j. EachThing u (λ v. pure-ignores p h (choosing v e) s t r w j)
pure-ignores (equality a b) h e s t r w = refl
pure-ignores (at_most a b) h e s t r w = refl
pure-ignores (value_meets x a p) h e s t r w = refl
pure-ignores p h e s t r w = absurd (false≢true {P = ⊥} h)
