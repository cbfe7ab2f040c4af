-- A grove with at most one root is the same as no other.
-- So at trees, and wherever at most one root is found, sameness is equality.
use Rattle.std.proofs.Common.{◌≡◌, ◌≤◌, ◌+◌, sym, refl, ap, arith, ◌∙◌}
use Rattle.model_shapes.specs.Trees.{Trees, none, node, hole, beside, width}
use Rattle.model_shapes.specs.Shapes.{SameAt}
use Rattle.model_shapes.specs.Sorts.{DataSort, tree, forest, grove}
use Rattle.model_shapes.proofs.Basics.{beside-none, width-beside}
use Rattle.model_shapes.proofs.Sameness.{SameGrove, picked, one_if_self}
use Rattle.model_shapes.proofs.Shapes.{same-width}

-- one root has no order
-- no roots, no trees
pub no_roots : (a : Trees) → width a ≡ 0 → a ≡ none
no_roots none h = refl
no_roots (node s i k l r) h = absurd (omega arith)
no_roots (hole r) h = absurd (omega arith)

-- one root between none
pub alone : (t l r b : Trees) → width t ≡ 1 → (b ≡ beside l (beside t r)) → width b ≡ 1 → t ≡ b
alone t l r b one e w =
    let x : width b ≡ width l + (width t + width r) = ap width e ∙ width-beside l (beside t r)
    ∙ ap (λ z. width l + z) (width-beside t r) in
    let n : l ≡ none = no_roots l (omega arith) in
    let m : r ≡ none = no_roots r (omega arith) in
    sym (e ∙ ap (λ z. beside z (beside t r)) n ∙ ap (beside t) m ∙ beside-none t)

-- with at most one root, the same grove is equal
pub narrow : (a b : Trees) → width a ≤ 1 → SameGrove a b → a ≡ b
narrow none b w h = sym (no_roots b (sym (same-width grove none b h)))
narrow (node s i k l none) b w h =
    let x : (l' : Trees) × (r : Trees) × (b ≡ beside l' (beside (node s i k l none) r)) =
    picked (node s i k l none) b
    (omega (arith, h (node s i k l none), one_if_self (node s i k l none))) in
    let y : width (node s i k l none) ≡ width b = same-width grove (node s i k l none) b h in
    alone (node s i k l none) x.0 x.1 b (omega arith) x.2 (omega arith)
narrow (node s i k l (node s' i' k' l' r)) b w h = absurd (omega arith)
narrow (node s i k l (hole r)) b w h = absurd (omega arith)
narrow (hole none) b w h =
    let x : (l' : Trees) × (r : Trees) × (b ≡ beside l' (beside (hole none) r)) =
    picked (hole none) b (omega (arith, h (hole none), one_if_self (hole none))) in
    let y : width (hole none) ≡ width b = same-width grove (hole none) b h in
    alone (hole none) x.0 x.1 b (omega arith) x.2 (omega arith)
narrow (hole (node s i k l r)) b w h = absurd (omega arith)
narrow (hole (hole r)) b w h = absurd (omega arith)

-- the same at every sort
pub narrow-at : (k : DataSort) (a b : Trees) → width a ≤ 1 → SameAt k a b → a ≡ b
narrow-at tree a b w h = h
narrow-at forest a b w h = h
narrow-at grove a b w h = narrow a b w h
