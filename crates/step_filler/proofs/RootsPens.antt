-- The plans over rows, as they are written.
use Rattle.std.proofs.Common.{◌≡◌, ◌∙◌, Bool, true, false, cond, codes, ap, sym}
use Rattle.model_shapes.specs.Sorts.{shape, grove}
use Rattle.model_formulas.specs.Formulas.{Named, grove_sum}
use Rattle.model_commands.specs.Theories.{entails}
use Rattle.assistant_laws.specs.ConjunctPlans.{same_named}
use Rattle.assistant_laws.specs.FormPlans.{pass}
use Rattle.assistant_laws.specs.Plans.{alone, from_two}
use Rattle.assistant_laws.specs.Ways.{itself}
use Rattle.formula_syntax.specs.Formulas.{formula_of}
use Rattle.step_filler.specs.declared.roots.Arranged.{Arranged}
use Rattle.step_filler.specs.Roots.{without_root, front_plan, order_plan, exchange, IsArranged}

-- the exchange of two roots
pub exchanged : (p q rest : Named) (before after : Arranged) → IsArranged p q rest before
    → IsArranged q p rest after
    → from_two (codes "cut")
    (alone (codes "plus_assoc_back")
    (entails (formula_of before.row) (formula_of before.grouped) (shape grove)))
    (from_two (codes "cut")
    (from_two (codes "mono_plus")
    (alone (codes "plus_comm")
    (entails (formula_of before.pair) (formula_of after.pair) (shape grove)))
    (itself rest (shape grove))
    (entails (formula_of before.grouped) (formula_of after.grouped) (shape grove)))
    (alone (codes "plus_assoc")
    (entails (formula_of after.grouped) (formula_of after.row) (shape grove)))
    (entails (formula_of before.grouped) (formula_of after.row) (shape grove)))
    (entails (formula_of before.row) (formula_of after.row) (shape grove))
    ≡ exchange p q rest
exchanged p q rest before after b a = cc (b.pair, b.grouped, b.row, a.pair, a.grouped, a.row)

module _ (root first others row : Named) (is : row ≡ grove_sum first others) where
  -- the plan to the front, where the first is the root or isn't
  by-first : (same : Bool) → same_named root first ≡ same → cond same
      (alone (codes "id")
      (entails (grove_sum first others) (grove_sum root others) (shape grove)))
      (pass first root others (without_root others root) (front_plan root others))
      ≡ front_plan root row
  by-first same test =
      ap (λ (b : Bool). cond b
      (alone (codes "id")
      (entails (grove_sum first others) (grove_sum root others) (shape grove)))
      (pass first root others (without_root others root) (front_plan root others))) (sym test)
      ∙ ap (front_plan root) (sym is)

  pub first-is-root : same_named root first ≡ true
      → alone (codes "id") (entails row (grove_sum root others) (shape grove))
      ≡ front_plan root row
  first-is-root test =
      ap (λ (r : Named). alone (codes "id") (entails r (grove_sum root others) (shape grove))) is
      ∙ by-first true test

  pub first-is-other : same_named root first ≡ false → (rest before after : Named)
      → rest ≡ without_root others root → before ≡ grove_sum first (grove_sum root rest)
      → after ≡ grove_sum root (grove_sum first rest)
      → from_two (codes "cut")
      (from_two (codes "mono_plus") (itself first (shape grove)) (front_plan root others)
      (entails row before (shape grove)))
      (exchange first root rest) (entails row after (shape grove))
      ≡ front_plan root row
  first-is-other test rest before after others-are before-is after-is =
      all ∙ by-first false test
    where
      all : from_two (codes "cut")
          (from_two (codes "mono_plus") (itself first (shape grove)) (front_plan root others)
          (entails row before (shape grove)))
          (exchange first root rest) (entails row after (shape grove))
          ≡ pass first root others (without_root others root) (front_plan root others)
      all = cc (is, others-are, before-is, after-is)

-- the plan of an order that begins with the root
pub ordered : (root others from to rest : Named) → to ≡ grove_sum root others
    → rest ≡ without_root from root
    → from_two (codes "cut") (front_plan root from)
    (from_two (codes "mono_plus") (itself root (shape grove)) (order_plan rest others)
    (entails (grove_sum root rest) to (shape grove)))
    (entails from to (shape grove))
    ≡ order_plan from to
ordered root others from to rest is rest-is = all ∙ ap (order_plan from) (sym is)
  where
    all : from_two (codes "cut") (front_plan root from)
        (from_two (codes "mono_plus") (itself root (shape grove)) (order_plan rest others)
        (entails (grove_sum root rest) to (shape grove)))
        (entails from to (shape grove))
        ≡ order_plan from (grove_sum root others)
    all = cc (is, rest-is)
