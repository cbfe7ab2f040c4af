-- Two splits of one list: cancel_left, cancel_right, cancel_plus, empty_star, empty_plus, head and
-- last.
use Rattle.std.proofs.Common.{◌≡◌, ◌+◌, refl, sym, ap, subst, arith, ◌∙◌}
use Rattle.model_shapes.specs.Sorts.{DataSort, Sort, tree, forest, grove, shape, outer}
use Rattle.model_shapes.specs.Trees.{Trees, none, node, hole, beside, width}
use Rattle.model_shapes.specs.Shapes.{SameAt}
use Rattle.model_shapes.proofs.Basics.{width-beside, root_uses-beside}
use Rattle.model_shapes.proofs.Shapes.{SameAt-sym, SameAt-trans, same-width}
use Rattle.model_shapes.proofs.Narrow.{no_roots}
use Rattle.model_shapes.proofs.Cancelling.{node-rest, node-head}
use Rattle.model_terms.specs.Terms.{Term}
use Rattle.model_formulas.specs.Formulas.{Formula, empty, one_tree, same_as}
use Rattle.model_formulas.specs.Satisfaction.{Meets, Entails, meaning_of}
use Rattle.model_formulas.proofs.Closed.{closed}
use Rattle.rule_table.specs.Notation.{◌and◌, ◌∗◌, ◌⊹◌}
use Rattle.entailment_laws.proofs.Classical.{◌>>=◌}
use Rattle.entailment_laws.proofs.Shared.{split}
use Rattle.entailment_laws.proofs.Values.{same_value}

-- parts of one width are the same
pub beside-parts : (a a' b b' : Trees) → width a ≡ width a' → beside a b ≡ beside a' b'
    → (a ≡ a') × (b ≡ b')
beside-parts none none b b' w e = (refl, e)
beside-parts none (node s i k l r) b b' w e = absurd (omega arith)
beside-parts none (hole r) b b' w e = absurd (omega arith)
beside-parts (node s i k l r) none b b' w e = absurd (omega arith)
beside-parts (hole r) none b b' w e = absurd (omega arith)
beside-parts (node s i k l r) (node s' i' k' l' r') b b' w e =
    let rests : beside r b ≡ beside r' b' =
    node-rest s s' i i' k k' l l' (beside r b) (beside r' b') e in
    let x : (r ≡ r') × (b ≡ b') = beside-parts r r' b b' (omega arith) rests in
    (node-head s s' i i' k k' l l' (beside r b) (beside r' b') r r' e x.0, x.1)
beside-parts (node s i k l r) (hole r') b b' w e = absurd cc
beside-parts (hole r) (node s i k l r') b b' w e = absurd cc
beside-parts (hole r) (hole r') b b' w e =
    let x : (r ≡ r') × (b ≡ b') = beside-parts r r' b b' (omega arith) cc in
    (ap hole x.0, x.1)

-- the same in front, so the same behind
cancel_front : (k : DataSort) (a a' b b' : Trees) → SameAt k a a'
    → SameAt k (beside a b) (beside a' b') → SameAt k b b'
cancel_front tree a a' b b' h e = (beside-parts a a' b b' (ap width h) e).1
cancel_front forest a a' b b' h e = (beside-parts a a' b b' (ap width h) e).1
cancel_front grove a a' b b' h e =
    λ t. omega (arith, h t, e t, root_uses-beside t a b, root_uses-beside t a' b')

front-width : (a a' b b' : Trees) → width b ≡ width b' → beside a b ≡ beside a' b'
    → width a ≡ width a'
front-width a a' b b' w e = omega (arith, ap width e, width-beside a b, width-beside a' b')

-- the same behind, so the same in front
cancel_end : (k : DataSort) (a a' b b' : Trees) → SameAt k b b'
    → SameAt k (beside a b) (beside a' b') → SameAt k a a'
cancel_end tree a a' b b' h e = (beside-parts a a' b b' (front-width a a' b b' (ap width h) e) e).0
cancel_end forest a a' b b' h e =
    (beside-parts a a' b b' (front-width a a' b b' (ap width h) e) e).0
cancel_end grove a a' b b' h e =
    λ t. omega (arith, h t, e t, root_uses-beside t a b, root_uses-beside t a' b')

-- the same as one
meet : (k : DataSort) (r x y : Trees) → SameAt k r x → SameAt k r y → SameAt k x y
meet k r x y h g = SameAt-trans k x r y (SameAt-sym k r x h) g

module _ (x : Term) (p q : Formula) (s : Sort) where
  pub cancel_left : Entails ((same_as x ∗ p) and (same_as x ∗ q)) (same_as x ∗ (p and q)) s
  cancel_left e pr r w m = do
    (a, wa, m1) ← m.0
    (b, wb, (same, ma, mb)) ← m1
    (a', wa', m2) ← m.1
    (b', wb', (same', ma', mb')) ← m2
    let front : SameAt (outer s) a' a = same_value (meaning_of e x) (outer s) a' a ma' ma
    let end : SameAt (outer s) b' b = cancel_front (outer s) a' a b' b front
        (meet (outer s) r (beside a' b') (beside a b) same' same)
    split (outer s) s s (Meets (same_as x) e) (Meets (p and q) e) r a b wa wb same ma
        (mb, closed q e s b' b end mb')

  pub cancel_right : Entails ((p ∗ same_as x) and (q ∗ same_as x)) ((p and q) ∗ same_as x) s
  cancel_right e pr r w m = do
    (a, wa, m1) ← m.0
    (b, wb, (same, ma, mb)) ← m1
    (a', wa', m2) ← m.1
    (b', wb', (same', ma', mb')) ← m2
    let end : SameAt (outer s) b' b = same_value (meaning_of e x) (outer s) b' b mb' mb
    let front : SameAt (outer s) a' a = cancel_end (outer s) a' a b' b end
        (meet (outer s) r (beside a' b') (beside a b) same' same)
    split (outer s) s s (Meets (p and q) e) (Meets (same_as x) e) r a b wa wb same
        (ma, closed q e s a' a front ma') mb

  pub cancel_plus : Entails ((same_as x ⊹ p) and (same_as x ⊹ q)) (same_as x ⊹ (p and q)) s
  cancel_plus = cancel_left

module _ (p q : Formula) (k : DataSort) (s : Sort) where
  pub empty_star : Entails ((p ∗ q) and empty k) ((p and empty k) ∗ (q and empty k)) s
  empty_star e pr r w m = do
    (a, wa, m1) ← m.0
    (b, wb, (same, ma, mb)) ← m1
    let none_left : width a + width b ≡ 0 =
        omega (arith, same-width (outer s) r (beside a b) same, width-beside a b, ap width m.1)
    split (outer s) s s (Meets (p and empty k) e) (Meets (q and empty k) e) r a b wa wb same
        (ma, no_roots a (omega (arith, none_left))) (mb, no_roots b (omega (arith, none_left)))

  pub empty_plus : Entails ((p ⊹ q) and empty k) ((p and empty k) ⊹ (q and empty k)) s
  empty_plus = empty_star

module _ (p q a b : Formula) where
  pub head : Entails ((one_tree p ∗ q) and (one_tree a ∗ b)) (one_tree (p and a) ∗ (q and b))
      (shape forest)
  head e pr r w m = do
    (x, wx, m1) ← m.0
    (y, wy, (same, mx, my)) ← m1
    (x', wx', m2) ← m.1
    (y', wy', (same', mx', my')) ← m2
    let eq : (x' ≡ x) × (y' ≡ y) = beside-parts x' x y' y
        (omega (arith, mx.0.width_fits, mx'.0.width_fits)) (sym same' ∙ same)
    split forest (shape forest) (shape forest) (Meets (one_tree (p and a)) e)
        (Meets (q and b) e) r x y wx wy same
        (mx.0, (mx.1, subst (Meets a e (shape tree)) eq.0 mx'.1))
        (my, subst (Meets b e (shape forest)) eq.1 my')

  pub last : Entails ((q ∗ one_tree p) and (b ∗ one_tree a)) ((q and b) ∗ one_tree (p and a))
      (shape forest)
  last e pr r w m = do
    (y, wy, m1) ← m.0
    (x, wx, (same, my, mx)) ← m1
    (y', wy', m2) ← m.1
    (x', wx', (same', my', mx')) ← m2
    let n : width y' ≡ width y = front-width y' y x' x
        (omega (arith, mx.0.width_fits, mx'.0.width_fits)) (sym same' ∙ same)
    let eq : (y' ≡ y) × (x' ≡ x) = beside-parts y' y x' x n (sym same' ∙ same)
    split forest (shape forest) (shape forest) (Meets (q and b) e)
        (Meets (one_tree (p and a)) e) r y x wy wx same
        (my, subst (Meets b e (shape forest)) eq.0 my')
        (mx.0, (mx.1, subst (Meets a e (shape tree)) eq.1 mx'.1))
