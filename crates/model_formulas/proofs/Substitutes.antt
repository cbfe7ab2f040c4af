-- Only free variables count, and substitution commutes with the meaning.
use Rattle.std.proofs.Common.{◌≡◌, ◌⊎◌, zero, suc, sym, refl, ap, ◌∙◌, subst, inl, inr, ◌+ℤ◌, ◌-ℤ◌, ◌++◌, IsTrue, int_le}
use mathlib.Core.Path.{fun_ext}
use Rattle.model_shapes.specs.Trees.{Trees, fill, width}
use Rattle.model_shapes.specs.Sorts.{Sort, shape, context, tree, forest, outer, inner, with_outer}
use Rattle.model_shapes.specs.Shapes.{Same, Shaped}
use Rattle.model_shapes.specs.Things.{Thing, val}
use Rattle.model_shapes.specs.Values.{int, str, node_number, list_number}
use Rattle.model_formulas.specs.Formulas.{Formula, truth, falsity, conjunction, disjunction, implication, negation, existential, universal, equality, at_most, empty, bare_hole, node_formula, one_tree, one_root, concatenation, grove_sum, grove_sum_hole, application, hole_adjoint, context_adjoint, same_as, length_is, value_meets, whole, hole_left}
use Rattle.model_terms.specs.Variables.{Var, prog, logic, bound}
use Rattle.model_terms.specs.Terms.{Term, literal, variable, sum, difference, appended, raised, raised_var, under_binder, Substitution, term_with, InTerm}
use Rattle.model_formulas.specs.Substitution.{formula_with, FreeIn}
use Rattle.model_formulas.specs.Satisfaction.{Environment, Meets, Classically, SomeShape, EachShape, SomeThing, EachThing, Splits, choosing, IfNode, IfTrees, meaning_of, number_of, text_meant}

-- a term under one more binder means what it meant
pub raised-meaning : (e : Environment) (v : Thing) (t : Term)
    → meaning_of (choosing v e) (raised t) ≡ meaning_of e t
raised-meaning e v (literal x) = refl
raised-meaning e v (variable (prog x s)) = refl
raised-meaning e v (variable (logic x s)) = refl
raised-meaning e v (variable (bound i s)) = refl
raised-meaning e v (sum a b) =
    λ i. val (int (number_of (raised-meaning e v a i) +ℤ number_of (raised-meaning e v b i)))
raised-meaning e v (difference a b) =
    λ i. val (int (number_of (raised-meaning e v a i) -ℤ number_of (raised-meaning e v b i)))
raised-meaning e v (appended a b) =
    λ i. val (str (text_meant (raised-meaning e v a i) ++ text_meant (raised-meaning e v b i)))

-- what each variable stands for after a substitution
abbrev pub after : Substitution → Environment → Environment
after f e x = meaning_of e (f x)

-- what a term means after a substitution
pub term-with : (f : Substitution) (e : Environment) (t : Term)
    → meaning_of e (term_with f t) ≡ meaning_of (after f e) t
term-with f e (literal x) = refl
term-with f e (variable x) = refl
term-with f e (sum a b) =
    λ i. val (int (number_of (term-with f e a i) +ℤ number_of (term-with f e b i)))
term-with f e (difference a b) =
    λ i. val (int (number_of (term-with f e a i) -ℤ number_of (term-with f e b i)))
term-with f e (appended a b) =
    λ i. val (str (text_meant (term-with f e a i) ++ text_meant (term-with f e b i)))

under : (f : Substitution) (e : Environment) (v : Thing) (x : Var)
    → after (under_binder f) (choosing v e) x ≡ choosing v (after f e) x
under f e v (prog x s) = raised-meaning e v (f (prog x s))
under f e v (logic x s) = raised-meaning e v (f (logic x s))
under f e v (bound zero s) = refl
under f e v (bound (suc i) s) = raised-meaning e v (f (bound i s))

under-env : (f : Substitution) (e : Environment) (v : Thing)
    → after (under_binder f) (choosing v e) ≡ choosing v (after f e)
under-env f e v = fun_ext (under f e v)

-- SUBSTITUTION
pub with-meets : (p : Formula) (f : Substitution) (e : Environment)
    → Meets (formula_with f p) e ≡ Meets p (after f e)
with-meets truth f e = refl
with-meets falsity f e = refl
with-meets (conjunction p q) f e = λ i s r. with-meets p f e i s r × with-meets q f e i s r
with-meets (disjunction p q) f e =
    λ i s r. Classically (with-meets p f e i s r ⊎ with-meets q f e i s r)
with-meets (implication p q) f e = λ i s r. with-meets p f e i s r → with-meets q f e i s r
with-meets (negation p) f e = λ i s r. with-meets p f e i s r → ⊥
with-meets (existential u p) f e =
    λ i s r.
    SomeThing u (λ v. (with-meets p (under_binder f) (choosing v e)
    ∙ ap (Meets p) (under-env f e v)) i s r)
with-meets (universal u p) f e =
    λ i s r.
    EachThing u (λ v. (with-meets p (under_binder f) (choosing v e)
    ∙ ap (Meets p) (under-env f e v)) i s r)
with-meets (equality a b) f e = λ i s r. term-with f e a i ≡ term-with f e b i
with-meets (at_most a b) f e =
    λ i s r. IsTrue (int_le (number_of (term-with f e a i)) (number_of (term-with f e b i)))
with-meets (empty k) f e = refl
with-meets (bare_hole h) f e = refl
with-meets (node_formula n i p l) f e = λ j s r.
    IfNode r (λ name number kids list.
    (val (str name) ≡ term-with f e n j) × (val (node_number number) ≡ term-with f e i j)
    × (val (list_number list) ≡ term-with f e l j) × with-meets p f e j (with_outer forest s) kids)
with-meets (one_tree p) f e = λ i s r. Shaped (with_outer tree s) r
    × with-meets p f e i (with_outer tree s) r
with-meets (one_root p) f e = λ i s r. Shaped (with_outer tree s) r
    × with-meets p f e i (with_outer tree s) r
with-meets (concatenation side p q) f e =
    λ i s r. Splits side s r (with-meets p f e i) (with-meets q f e i)
with-meets (grove_sum p q) f e = λ i s r. Splits whole s r (with-meets p f e i) (with-meets q f e i)
with-meets (grove_sum_hole p q) f e =
    λ i s r. Splits hole_left s r (with-meets p f e i) (with-meets q f e i)
with-meets (application h k p) f e = λ i s r.
    SomeShape (context h (outer s)) λ c. SomeShape (with_outer h s) λ d.
    Same s r (fill c d) × with-meets k f e i (context h (outer s)) c
    × with-meets p f e i (with_outer h s) d
with-meets (hole_adjoint p q) f e = λ i s r.
    EachShape (shape (inner s)) λ d. with-meets p f e i (shape (inner s)) d
    → Shaped (shape (outer s)) (fill r d)
    → with-meets q f e i (shape (outer s)) (fill r d)
with-meets (context_adjoint k p q) f e = λ i s r.
    EachShape (context (outer s) k) λ c. with-meets p f e i (context (outer s) k) c
    → Shaped (shape k) (fill c r)
    → with-meets q f e i (shape k) (fill c r)
with-meets (same_as a) f e = λ i s r. IfTrees (term-with f e a i) (λ t. Same s r t)
with-meets (length_is a) f e =
    λ i s r. val (int (Rattle.std.specs.Prelude.pos (width r))) ≡ term-with f e a i
with-meets (value_meets u a p) f e =
    λ i s r. IfTrees (term-with f e a i) (λ t. with-meets p f e i u t)

-- COINCIDENCE
term-agrees : (t : Term) (e e' : Environment) → ((x : Var) → InTerm x t → e x ≡ e' x)
    → meaning_of e t ≡ meaning_of e' t
term-agrees (literal x) e e' h = refl
term-agrees (variable x) e e' h = h x refl
term-agrees (sum a b) e e' h =
    λ i. val
    (int (number_of (term-agrees a e e' (λ x m. h x (inl m)) i) +ℤ number_of
    (term-agrees b e e' (λ x m. h x (inr m)) i)))
term-agrees (difference a b) e e' h =
    λ i. val
    (int (number_of (term-agrees a e e' (λ x m. h x (inl m)) i) -ℤ number_of
    (term-agrees b e e' (λ x m. h x (inr m)) i)))
term-agrees (appended a b) e e' h =
    λ i. val
    (str (text_meant (term-agrees a e e' (λ x m. h x (inl m)) i) ++ text_meant
    (term-agrees b e e' (λ x m. h x (inr m)) i)))

agree-under : (p : Formula) (e e' : Environment) (v : Thing)
    → ((x : Var) → FreeIn (raised_var x) p → e x ≡ e' x) → (x : Var) → FreeIn x p
    → choosing v e x ≡ choosing v e' x
agree-under p e e' v h (prog x s) m = h (prog x s) m
agree-under p e e' v h (logic x s) m = h (logic x s) m
agree-under p e e' v h (bound zero s) m = refl
agree-under p e e' v h (bound (suc i) s) m = h (bound i s) m

-- only free variables count, as an equation of meanings
pub agrees : (p : Formula) (e e' : Environment) → ((x : Var) → FreeIn x p → e x ≡ e' x)
    → Meets p e ≡ Meets p e'
agrees truth e e' h = refl
agrees falsity e e' h = refl
agrees (conjunction p q) e e' h = λ i s r. agrees p e e' (λ x m. h x (inl m)) i s r
    × agrees q e e' (λ x m. h x (inr m)) i s r
agrees (disjunction p q) e e' h =
    λ i s r. Classically (agrees p e e' (λ x m. h x (inl m)) i s r
    ⊎ agrees q e e' (λ x m. h x (inr m)) i s r)
agrees (implication p q) e e' h = λ i s r. agrees p e e' (λ x m. h x (inl m)) i s r
    → agrees q e e' (λ x m. h x (inr m)) i s r
agrees (negation p) e e' h = λ i s r. agrees p e e' h i s r → ⊥
agrees (existential u p) e e' h =
    λ i s r.
    SomeThing u (λ v. agrees p (choosing v e) (choosing v e') (agree-under p e e' v h) i s r)
agrees (universal u p) e e' h =
    λ i s r.
    EachThing u (λ v. agrees p (choosing v e) (choosing v e') (agree-under p e e' v h) i s r)
agrees (equality a b) e e' h =
    λ i s r. term-agrees a e e' (λ x m. h x (inl m)) i ≡ term-agrees b e e' (λ x m. h x (inr m)) i
agrees (at_most a b) e e' h =
    λ i s r.
    IsTrue (int_le (number_of (term-agrees a e e' (λ x m. h x (inl m)) i))
    (number_of (term-agrees b e e' (λ x m. h x (inr m)) i)))
agrees (empty k) e e' h = refl
agrees (bare_hole k) e e' h = refl
agrees (node_formula n i p l) e e' h = λ j s r.
    IfNode r (λ name number kids list.
    (val (str name) ≡ term-agrees n e e' (λ x m. h x (inl m)) j)
    × (val (node_number number) ≡ term-agrees i e e' (λ x m. h x (inr (inl m))) j)
    × (val (list_number list) ≡ term-agrees l e e' (λ x m. h x (inr (inr (inr m)))) j)
    × agrees p e e' (λ x m. h x (inr (inr (inl m)))) j (with_outer forest s) kids)
agrees (one_tree p) e e' h =
    λ i s r. Shaped (with_outer tree s) r × agrees p e e' h i (with_outer tree s) r
agrees (one_root p) e e' h =
    λ i s r. Shaped (with_outer tree s) r × agrees p e e' h i (with_outer tree s) r
agrees (concatenation side p q) e e' h =
    λ i s r. Splits side s r (agrees p e e' (λ x m. h x (inl m)) i)
    (agrees q e e' (λ x m. h x (inr m)) i)
agrees (grove_sum p q) e e' h =
    λ i s r. Splits whole s r (agrees p e e' (λ x m. h x (inl m)) i)
    (agrees q e e' (λ x m. h x (inr m)) i)
agrees (grove_sum_hole p q) e e' h =
    λ i s r. Splits hole_left s r (agrees p e e' (λ x m. h x (inl m)) i)
    (agrees q e e' (λ x m. h x (inr m)) i)
agrees (application u k p) e e' h = λ i s r.
    SomeShape (context u (outer s)) λ c. SomeShape (with_outer u s) λ d.
    Same s r (fill c d) × agrees k e e' (λ x m. h x (inl m)) i (context u (outer s)) c
    × agrees p e e' (λ x m. h x (inr m)) i (with_outer u s) d
agrees (hole_adjoint p q) e e' h = λ i s r.
    EachShape (shape (inner s)) λ d. agrees p e e' (λ x m. h x (inl m)) i (shape (inner s)) d
    → Shaped (shape (outer s)) (fill r d)
    → agrees q e e' (λ x m. h x (inr m)) i (shape (outer s)) (fill r d)
agrees (context_adjoint k p q) e e' h = λ i s r.
    EachShape (context (outer s) k) λ c.
    agrees p e e' (λ x m. h x (inl m)) i (context (outer s) k) c → Shaped (shape k) (fill c r)
    → agrees q e e' (λ x m. h x (inr m)) i (shape k) (fill c r)
agrees (same_as a) e e' h = λ i s r. IfTrees (term-agrees a e e' h i) (λ t. Same s r t)
agrees (length_is a) e e' h =
    λ i s r. val (int (Rattle.std.specs.Prelude.pos (width r))) ≡ term-agrees a e e' h i
agrees (value_meets u a p) e e' h =
    λ i s r. IfTrees (term-agrees a e e' (λ x m. h x (inl m)) i)
    (λ t. agrees p e e' (λ x m. h x (inr m)) i u t)

-- the same, of one shape or context
pub meets-agrees : (p : Formula) (e e' : Environment) (s : Sort) (r : Trees)
    → ((x : Var) → FreeIn x p → e x ≡ e' x) → Meets p e s r → Meets p e' s r
meets-agrees p e e' s r h m = subst (λ M. M s r) (agrees p e e' h) m

-- from the substituted formula to the formula
pub meets-with : (p : Formula) (f : Substitution) (e : Environment) (s : Sort) (r : Trees)
    → Meets (formula_with f p) e s r → Meets p (after f e) s r
meets-with p f e s r m = subst (λ M. M s r) (with-meets p f e) m

-- and back
pub with-meets-back : (p : Formula) (f : Substitution) (e : Environment) (s : Sort) (r : Trees)
    → Meets p (after f e) s r → Meets (formula_with f p) e s r
with-meets-back p f e s r m = subst (λ M. M s r) (sym (with-meets p f e)) m
