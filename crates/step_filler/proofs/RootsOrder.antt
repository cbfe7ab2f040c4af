-- The plans over rows are those over lists of roots.
use Rattle.std.proofs.Common.{◌≡◌, ◌∙◌, cond, codes, List, [], ◌∷◌, refl, ap, ap₂}
use Rattle.model_shapes.specs.Sorts.{shape, grove}
use Rattle.model_formulas.specs.Formulas.{Named, empty, grove_sum}
use Rattle.model_commands.specs.Theories.{entails}
use Rattle.assistant_laws.specs.ConjunctPlans.{same_named}
use Rattle.assistant_laws.specs.Forms.{grove_parts}
use Rattle.assistant_laws.specs.FormPlans.{absorbed_roots, sum_plan, sum_of, without_named, pass, to_front, in_order, form_plan}
use Rattle.assistant_laws.specs.Plans.{Plan, alone, from_two}
use Rattle.assistant_laws.specs.Ways.{onward, backward, itself}
use Rattle.assistant_laws.proofs.Forms.{absorbed_roots-sum}
use Rattle.step_filler.specs.Roots.{front_plan, order_plan}
use Rattle.step_filler.proofs.Sameness.{without-root}

front-plan : (q : Named) (ps : List Named) → front_plan q (sum_of ps) ≡ to_front q ps
front-plan q [] = refl
front-plan q (p ∷ ps) =
    ap₂ (λ (rest : Named) (plan : Plan). cond (same_named q p)
    (alone (codes "id") (entails (grove_sum p (sum_of ps)) (grove_sum q (sum_of ps)) (shape grove)))
    (pass p q (sum_of ps) rest plan)) (without-root ps q) (front-plan q ps)

order-plan : (ps qs : List Named) → order_plan (sum_of ps) (sum_of qs) ≡ in_order ps qs
order-plan ps [] = refl
order-plan ps (q ∷ qs) =
    ap₂ (λ (first second : Plan). from_two (codes "cut") first second
    (entails (sum_of ps) (grove_sum q (sum_of qs)) (shape grove)))
    (front-plan q ps)
    (ap₂ (λ (rest : Named) (plan : Plan). from_two (codes "mono_plus") (itself q (shape grove)) plan
    (entails (grove_sum q rest) (grove_sum q (sum_of qs)) (shape grove)))
    (without-root ps q)
    (ap (λ (rest : Named). order_plan rest (sum_of qs)) (without-root ps q)
    ∙ order-plan (without_named q ps) qs))

order-of-forms : (p q : Named)
    → order_plan (absorbed_roots p (empty grove)) (absorbed_roots q (empty grove))
    ≡ in_order (grove_parts p) (grove_parts q)
order-of-forms p q = ap₂ order_plan (absorbed_roots-sum p) (absorbed_roots-sum q)
    ∙ order-plan (grove_parts p) (grove_parts q)

-- the plan at grove
pub by-rows : (p q from to : Named) → from ≡ absorbed_roots p (empty grove)
    → to ≡ absorbed_roots q (empty grove)
    → from_two (codes "cut") (sum_plan onward p)
    (from_two (codes "cut") (order_plan from to) (sum_plan backward q)
    (entails from q (shape grove)))
    (entails p q (shape grove))
    ≡ form_plan (shape grove) p q
by-rows p q from to from-is to-is =
    ap₂ (λ (row : Named) (plan : Plan). from_two (codes "cut") (sum_plan onward p)
    (from_two (codes "cut") plan (sum_plan backward q) (entails row q (shape grove)))
    (entails p q (shape grove))) from-is
    (ap₂ order_plan from-is to-is ∙ order-of-forms p q)
