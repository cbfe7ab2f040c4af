-- The names of new variables are unique.
use Rattle.std.proofs.Common.{◌≡◌, ℕ, suc, true, false, List, [], ◌∷◌, length, refl, sym, ap, ◌∙◌}
use Rattle.model_shapes.specs.Values.{Name}
use Rattle.model_terms.specs.Variables.{Var}
use Rattle.model_weakest.specs.Written.{numbered, AreNew, no_more, passed, next}

false-true : {P : Type 0} → false ≡ true → P
false-true e = cc

empty : (b : List Name) → 0 ≡ length b → [] ≡ b
empty [] e = refl
empty (name ∷ b) e = absurd cc

-- two lists of new names from one number on, of one length, are the same
pub one-list : (declared : List Var) (n : ℕ) (a b : List Name) → AreNew declared n a
    → AreNew declared n b → length a ≡ length b → a ≡ b
one-list declared n a b (no_more m) y e = empty b e
one-list declared n a b x (no_more k) e = sym (empty a (sym e))
one-list declared n a b (passed m xs s x) (passed k ys t y) e = one-list declared (suc n) a b x y e
one-list declared n a b (passed m xs s x) (next k ys t y) e = false-true (sym t ∙ s)
one-list declared n a b (next m xs s x) (passed k ys t y) e = false-true (sym s ∙ t)
one-list declared n a b (next m xs s x) (next k ys t y) e =
    ap (λ (z : List Name). numbered n ∷ z) (one-list declared (suc n) xs ys x y cc)
