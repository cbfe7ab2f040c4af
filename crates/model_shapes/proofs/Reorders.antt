-- Groves are the same exactly where their roots are reordered, and which it is can be decided.
use Rattle.std.proofs.Common.{◌≡◌, ℕ, zero, suc, ◌≤◌, sym, refl, arith, subst}
use Rattle.model_shapes.specs.Trees.{Trees, none, node, hole, beside, root_uses, trees_eq}
use Rattle.model_shapes.specs.Shapes.{SameAt}
use Rattle.model_shapes.specs.Sorts.{DataSort, tree, forest, grove}
use Rattle.model_shapes.specs.Reordered.{Reordered, nothing, moved_node, moved_hole}
use Rattle.model_shapes.proofs.Basics.{root_uses-beside}
use Rattle.model_shapes.proofs.Sameness.{SameGrove, picked, one_if_self, moved}
use Rattle.model_shapes.proofs.Pulling.{remove_one, removed, less_one}

-- an equal list is reordered as well
to : (a b b' : Trees) → b' ≡ b → Reordered a b' → Reordered a b
to a b b' e r = subst (Reordered a) e r

-- the same groves have their roots reordered
pub same-reordered : (a b : Trees) → SameGrove a b → Reordered a b
same-reordered none none h = nothing
same-reordered none (node s i k l r) h =
    absurd (omega (arith, h (node s i k l none), one_if_self (node s i k l none)))
same-reordered none (hole r) h = absurd (omega (arith, h (hole none), one_if_self (hole none)))
same-reordered (node s i k l a) b h =
    let x : (p : Trees) × (q : Trees) × (b ≡ beside p (beside (node s i k l none) q)) =
    picked (node s i k l none) b
    (omega (arith, h (node s i k l none), one_if_self (node s i k l none))) in
    to (node s i k l a) b (beside x.0 (node s i k l x.1)) (sym x.2)
    (moved_node s i k l a x.0 x.1
    (same-reordered a (beside x.0 x.1) (moved (node s i k l none) a b x.0 x.1 x.2 h)))
same-reordered (hole a) b h =
    let x : (p : Trees) × (q : Trees) × (b ≡ beside p (beside (hole none) q)) =
    picked (hole none) b (omega (arith, h (hole none), one_if_self (hole none))) in
    to (hole a) b (beside x.0 (hole x.1)) (sym x.2)
    (moved_hole a x.0 x.1 (same-reordered a (beside x.0 x.1) (moved (hole none) a b x.0 x.1 x.2 h)))

-- reordered roots are counted alike
pub reordered-same : {a b : Trees} → Reordered a b → SameGrove a b
reordered-same nothing = λ u. refl
reordered-same (moved_node s i k l a p q r) = λ u.
    omega (arith, reordered-same r u, root_uses-beside u p (node s i k l q), root_uses-beside u p q)
reordered-same (moved_hole a p q r) = λ u.
    omega (arith, reordered-same r u, root_uses-beside u p (hole q), root_uses-beside u p q)

-- with the tree taken out on both sides
without-one : (t a b : Trees) → root_uses t t ≡ 1 → 1 ≤ root_uses t b
    → Dec (SameGrove a (remove_one t b)) → Dec (SameGrove (beside t a) b)
without-one t a b self h (yes e) =
    yes (λ u. omega (arith, e u, removed t b u h, root_uses-beside u t a))
without-one t a b self h (no n) =
    no (λ e. n (λ u. sym (less_one t b a self (λ w. sym (e w)) u)))

root-decided : (t a b : Trees) → root_uses t t ≡ 1 → ((c : Trees) → Dec (SameGrove a c))
    → Dec (SameGrove (beside t a) b)
root-decided t a b self rec = by_case (root_uses t b) refl
  where
    by_case : (n : ℕ) → root_uses t b ≡ n → Dec (SameGrove (beside t a) b)
    by_case zero e = no (λ h. omega (arith, h t, root_uses-beside t t a))
    by_case (suc n) e = without-one t a b self (omega (arith, e)) (rec (remove_one t b))

-- whether two groves are the same is decided
pub grove-decided : (a b : Trees) → Dec (SameGrove a b)
grove-decided none none = yes (λ u. refl)
grove-decided none (node s i k l r) =
    no (λ h. omega (arith, h (node s i k l none), one_if_self (node s i k l none)))
grove-decided none (hole r) = no (λ h. omega (arith, h (hole none), one_if_self (hole none)))
grove-decided (node s i k l a) b =
    root-decided (node s i k l none) a b
    (omega (arith, one_if_self (node s i k l none))) (λ c. grove-decided a c)
grove-decided (hole a) b =
    root-decided (hole none) a b (omega (arith, one_if_self (hole none))) (λ c. grove-decided a c)

-- and so it is at every sort
pub same-decided : (k : DataSort) (a b : Trees) → Dec (SameAt k a b)
same-decided tree a b = trees_eq a b
same-decided forest a b = trees_eq a b
same-decided grove a b = grove-decided a b
