-- The text of each judgement of a plan is at most three times as long as the asked one's, and a few
-- bytes; and few more brackets are open in it.
use Rattle.std.proofs.Common.{ℕ, ◌+◌, ◌*◌, ◌≤◌, Option, IfSome, arith}
use Rattle.model_shapes.specs.Sorts.{Sort}
use Rattle.model_formulas.specs.Formulas.{Named}
use Rattle.model_commands.specs.Each.{Each}
use Rattle.model_commands.specs.Theories.{JudgementOf, entails, triple}
use Rattle.model_round_trip.specs.Writable.{IsWritableJudgement}
use Rattle.assistant_laws.specs.Bounds.{parts_of}
use Rattle.assistant_laws.specs.Plans.{Plan, steps_of}
use Rattle.assistant_laws.specs.ConjunctPlans.{plan_by_conjuncts}
use Rattle.assistant_laws.specs.FillingPlans.{plan_by_filling}
use Rattle.assistant_laws.specs.FormPlans.{plan_by_form}
use Rattle.filling_laws.specs.TextBounds.{judgement_bytes}
use Rattle.model_filling.specs.Nested.{Nests}
use Rattle.filling_laws.proofs.EachFormula.{some-good}
use Rattle.filling_laws.proofs.Widths.{entails-short, short-entails}
use Rattle.model_filling.proofs.Depths.{entails-nests, nests-entails}
use Rattle.filling_laws.proofs.ShortPlans as S
use Rattle.filling_laws.proofs.ShallowPlans as D

-- THE BYTES
module _ (n : ℕ) (p q : Named) (s : Sort) where
  abbrev IsBounded : JudgementOf Named → Type 0
  IsBounded j = judgement_bytes j ≤ 3 * judgement_bytes (entails p q s) + 256

  bounded : (o : Option Plan) → IfSome o (S.IsShort (S.allowed p q))
      → IfSome o (λ plan. Each (λ step. IsBounded step.judgement) (steps_of n plan))
  bounded =
      some-good (S.Short (S.allowed p q)) IsBounded
      (λ a b u h k. omega (arith, entails-short a b u, h, k, short-entails p q s)) n

pub conjuncts-bounded : (n : ℕ) (j : JudgementOf Named)
    → IfSome (plan_by_conjuncts j) (λ plan. Each (λ step.
    judgement_bytes step.judgement ≤ 3 * judgement_bytes j + 256) (steps_of n plan))
conjuncts-bounded n (entails p q s) =
    bounded n p q s (plan_by_conjuncts (entails p q s)) (S.conjuncts-short p q s)
conjuncts-bounded n (triple p c q k) = tt

pub form-bounded : (n : ℕ) (j : JudgementOf Named) → IsWritableJudgement j
    → IfSome (plan_by_form j) (λ plan. Each (λ step.
    judgement_bytes step.judgement ≤ 3 * judgement_bytes j + 256) (steps_of n plan))
form-bounded n (entails p q s) h =
    bounded n p q s (plan_by_form (entails p q s)) (S.form-plan-short p q s h.0 h.1)
form-bounded n (triple p c q k) h = tt

pub filling-bounded : (n : ℕ) (j : JudgementOf Named)
    → IfSome (plan_by_filling j) (λ plan. Each (λ step.
    judgement_bytes step.judgement ≤ 3 * judgement_bytes j + 256) (steps_of n plan))
filling-bounded n (entails p q s) =
    bounded n p q s (plan_by_filling (entails p q s)) (S.filling-plan-short p q s)
filling-bounded n (triple p c q k) = tt

-- THE BRACKETS
module _ (n most : ℕ) (p q : Named) (s : Sort) (asked : Nests most (entails p q s)) where
  nested : (o : Option Plan) → IfSome o (D.IsShallow (D.allowed p q))
      → IfSome o (λ plan. Each (λ step.
      Nests (most + (parts_of (entails p q s) + 8)) step.judgement) (steps_of n plan))
  nested =
      let sides = nests-entails most p q s asked in
      some-good (D.Shallow (D.allowed p q)) (Nests (most + (parts_of (entails p q s) + 8)))
      (λ a b u h k. entails-nests (most + (parts_of (entails p q s) + 8)) a b u
      (omega (arith, h, sides.0, sides.1)) (omega (arith, k, sides.0, sides.1))) n

pub conjuncts-nested : (n most : ℕ) (j : JudgementOf Named) → Nests most j
    → IfSome (plan_by_conjuncts j) (λ plan. Each (λ step.
    Nests (most + (parts_of j + 8)) step.judgement) (steps_of n plan))
conjuncts-nested n most (entails p q s) h =
    nested n most p q s h (plan_by_conjuncts (entails p q s)) (D.conjuncts-shallow p q s)
conjuncts-nested n most (triple p c q k) h = tt

pub form-nested : (n most : ℕ) (j : JudgementOf Named) → Nests most j
    → IfSome (plan_by_form j) (λ plan. Each (λ step.
    Nests (most + (parts_of j + 8)) step.judgement) (steps_of n plan))
form-nested n most (entails p q s) h =
    nested n most p q s h (plan_by_form (entails p q s)) (D.form-plan-shallow p q s)
form-nested n most (triple p c q k) h = tt

pub filling-nested : (n most : ℕ) (j : JudgementOf Named) → Nests most j
    → IfSome (plan_by_filling j) (λ plan. Each (λ step.
    Nests (most + (parts_of j + 8)) step.judgement) (steps_of n plan))
filling-nested n most (entails p q s) h =
    nested n most p q s h (plan_by_filling (entails p q s)) (D.filling-plan-shallow p q s)
filling-nested n most (triple p c q k) h = tt
