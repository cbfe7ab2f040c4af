-- The flags of a formula, one a part, and the first of them that fails; and the same by a walk with
-- places, formula by formula.
use Rattle.std.proofs.Common.{◌≡◌, ℕ, suc, ◌+◌, ◌≤◌, ◌<◌, Bool, true, false, not, Some, None, List, [], ◌∷◌, ◌++◌, length, refl, ap, ◌∙◌, arith, length-append}
use Rattle.std.specs.List.{position_from}
use Rattle.std.specs.Option.{option_or}
use Rattle.std.proofs.lemmas.Option.{same_Some, none-some}
use Rattle.model_shapes.specs.Sorts.{Sort, shape, context, tree, forest, grove, outer, inner, with_outer}
use Rattle.model_formulas.specs.Formulas.{Named, truth, falsity, conjunction, disjunction, implication, negation, existential, universal, equality, at_most, empty, bare_hole, node_formula, one_tree, one_root, concatenation, grove_sum, grove_sum_hole, application, hole_adjoint, context_adjoint, same_as, length_is, value_meets, left_sort, right_sort}
use Rattle.model_formulas.specs.Parts.{parts}
use Rattle.model_formulas.specs.WellSorted.{flags}

-- the first flag that fails is one of the list
pub place-within : (xs : List Bool) (n m : ℕ) → position_from not n xs ≡ Some m
    → (n ≤ m) × (m < n + length xs)
place-within [] n m e = absurd (none-some m e)
place-within (false ∷ xs) n m e =
    let q : n ≡ m = same_Some n m e in (omega arith, omega arith)
place-within (true ∷ xs) n m e =
    let x : (n + 1 ≤ m) × (m < n + 1 + length xs) = place-within xs (n + 1) m e in
    (omega arith, omega arith)

-- the first of two lists, one behind the other
pub place-append : (xs ys : List Bool) (n : ℕ) → position_from not n (xs ++ ys)
    ≡ option_or (position_from not n xs) (position_from not (n + length xs) ys)
place-append [] ys n = ap (λ m. position_from not m ys) (omega arith)
place-append (false ∷ xs) ys n = refl
place-append (true ∷ xs) ys n = place-append xs ys (n + 1)
    ∙ ap (λ m. option_or (position_from not (n + 1) xs) (position_from not m ys)) (omega arith)

-- where none fails, it is so wherever the places begin
pub none-anywhere : (xs : List Bool) (n m : ℕ) → position_from not n xs ≡ None
    → position_from not m xs ≡ None
none-anywhere [] n m e = refl
none-anywhere (false ∷ xs) n m e = cc
none-anywhere (true ∷ xs) n m e = none-anywhere xs (n + 1) (m + 1) e

one : (xs : List Bool) (m : ℕ) → length xs ≡ m → suc (length xs) ≡ 1 + m
one xs m e = omega arith

two : (xs ys : List Bool) (m n : ℕ) → length xs ≡ m → length ys ≡ n
    → suc (length (xs ++ ys)) ≡ 1 + (m + n)
two xs ys m n e f = omega (arith, length-append xs ys)

-- there is a flag for each part
pub flags-parts : (p : Named) (s : Sort) → length (flags p s) ≡ parts p
flags-parts truth s = refl
flags-parts falsity s = refl
flags-parts (conjunction p q) s = two _ _ _ _ (flags-parts p s) (flags-parts q s)
flags-parts (disjunction p q) s = two _ _ _ _ (flags-parts p s) (flags-parts q s)
flags-parts (implication p q) s = two _ _ _ _ (flags-parts p s) (flags-parts q s)
flags-parts (negation p) s = one _ _ (flags-parts p s)
flags-parts (existential x p) s = one _ _ (flags-parts p s)
flags-parts (universal x p) s = one _ _ (flags-parts p s)
flags-parts (equality a b) s = refl
flags-parts (at_most a b) s = refl
flags-parts (empty tree) s = refl
flags-parts (empty forest) s = refl
flags-parts (empty grove) s = refl
flags-parts (bare_hole h) s = refl
flags-parts (node_formula i b p l) s = one _ _ (flags-parts p (with_outer forest s))
flags-parts (one_tree p) s = one _ _ (flags-parts p (with_outer tree s))
flags-parts (one_root p) s = one _ _ (flags-parts p (with_outer tree s))
flags-parts (concatenation d p q) s =
    two _ _ _ _ (flags-parts p (left_sort d s)) (flags-parts q (right_sort d s))
flags-parts (grove_sum p q) s = two _ _ _ _ (flags-parts p s) (flags-parts q s)
flags-parts (grove_sum_hole p q) s = two _ _ _ _ (flags-parts p s) (flags-parts q (shape grove))
flags-parts (application h p q) s =
    two _ _ _ _ (flags-parts p (context h (outer s))) (flags-parts q (with_outer h s))
flags-parts (hole_adjoint p q) s =
    two _ _ _ _ (flags-parts p (shape (inner s))) (flags-parts q (shape (outer s)))
flags-parts (context_adjoint k p q) s =
    two _ _ _ _ (flags-parts p (context (outer s) k)) (flags-parts q (shape k))
flags-parts (same_as a) s = refl
flags-parts (length_is a) s = refl
flags-parts (value_meets u a p) s = one _ _ (flags-parts p u)

-- a walk over two formulas, one behind the other
pub place-two : (p q : Named) (s t : Sort) (n : ℕ)
    → position_from not n (flags p s ++ flags q t)
    ≡ option_or (position_from not n (flags p s)) (position_from not (n + parts p) (flags q t))
place-two p q s t n = place-append (flags p s) (flags q t) n
    ∙ ap (λ m. option_or (position_from not n (flags p s)) (position_from not (n + m) (flags q t)))
    (flags-parts p s)
