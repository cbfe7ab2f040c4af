-- Where some data in a context meets a formula classically, the data that is pulled out does.
use Rattle.std.proofs.Common.{List, ℕ}
use mathlib.Core.HLevel.{Stable}
use Rattle.model_shapes.specs.Trees.{Trees, fill}
use Rattle.model_shapes.specs.Shapes.{SameAt, Shaped}
use Rattle.model_shapes.specs.Values.{Value}
use Rattle.model_shapes.specs.Sorts.{ValueSort, shape, context, DataSort, grove}
use Rattle.model_formulas.specs.Formulas.{Formula}
use Rattle.model_formulas.specs.Satisfaction.{Environment, Meets, SomeShape, with_store}
use Rattle.model_shapes.proofs.Shapes.{SameAt-trans, same-Shaped}
use Rattle.model_shapes.proofs.Filling.{fill-right}
use Rattle.model_shapes.proofs.Pulling.{pull_root, pulled-same}
use Rattle.model_formulas.proofs.Closed.{closed}
use Rattle.model_formulas.proofs.Stable.{stable, stable-Shaped, stable-SameAt}

stable-part : {A : Type 0} {B : Type 0} → Stable B → (A → B) → ((A → ⊥) → ⊥) → B
stable-part s f m = s (λ n. m (λ a. n (f a)))

-- the end of a triple, read plainly
pub plain_end : (d : DataSort) (c : Trees) (q : Formula) (e : Environment) (st : List ℕ → ValueSort
    → Value) (g : Trees) → Shaped (context d grove) c
    → SomeShape (shape d) (λ b. Shaped (shape grove) (fill c b) × SameAt grove g (fill c b)
    × Meets q (with_store st e) (shape d) b)
    → (b : Trees) × Shaped (shape d) b × Shaped (shape grove) (fill c b)
    × SameAt grove g (fill c b) × Meets q (with_store st e) (shape d) b
plain_end d c q e st g wc m = (b, is-shaped, is-whole, is-same, meets)
  where
    b : Trees
    b = pull_root c g

    is-shaped : Shaped (shape d) (pull_root c g)
    is-shaped =
        stable-part stable-Shaped
        (λ x. same-Shaped (shape d) x.0 (pull_root c g) (pulled-same d c g x.0 wc x.1 x.2.1) x.1) m

    whole-same : (x : Trees) → Shaped (shape d) x → SameAt grove g (fill c x)
        → SameAt grove (fill c x) (fill c (pull_root c g))
    whole-same x wx h =
        fill-right d grove c x (pull_root c g) wc.holes_fit (pulled-same d c g x wc wx h)

    is-whole : Shaped (shape grove) (fill c (pull_root c g))
    is-whole =
        stable-part stable-Shaped
        (λ x. same-Shaped (shape grove) (fill c x.0) (fill c (pull_root c g))
        (whole-same x.0 x.1 x.2.1) x.2.0) m

    is-same : SameAt grove g (fill c (pull_root c g))
    is-same =
        stable-part (stable-SameAt grove g (fill c (pull_root c g)))
        (λ x. SameAt-trans grove g (fill c x.0) (fill c (pull_root c g)) x.2.1
        (whole-same x.0 x.1 x.2.1)) m

    meets : Meets q (with_store st e) (shape d) (pull_root c g)
    meets = stable-part (stable q (with_store st e) (shape d) (pull_root c g))
        (λ x. closed q (with_store st e) (shape d) x.0 (pull_root c g)
        (pulled-same d c g x.0 wc x.1 x.2.1) x.2.2) m
