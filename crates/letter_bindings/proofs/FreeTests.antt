-- The tests of the variables that are free in a formula say what they are to say.
use Rattle.std.proofs.Common.{◌≡◌, Bool, true, subst, inl, inr}
use Rattle.std.proofs.Math.Logic.{⊎_map}
use Rattle.std.proofs.lemmas.Bool.{or_cases, or_left, or_right}
use Rattle.std.specs.Prelude.{◌⊎◌, ◌||◌}
use Rattle.model_terms.specs.Variables.{Var}
use Rattle.model_terms.specs.VariableTests.{same_var, same_var-is, same_var-refl}
use Rattle.model_terms.specs.Terms.{Term, literal, variable, sum, difference, appended, raised_var, InTerm}
use Rattle.model_formulas.specs.Formulas.{Formula, truth, falsity, conjunction, disjunction, implication, negation, existential, universal, equality, at_most, empty, bare_hole, node_formula, one_tree, one_root, concatenation, grove_sum, grove_sum_hole, application, hole_adjoint, context_adjoint, same_as, length_is, value_meets}
use Rattle.model_formulas.specs.Substitution.{FreeIn}
use Rattle.letter_bindings.specs.Shifts.{is_in_term, is_free}

-- ONE OF TWO TESTS
either-is : {P Q : Type 0} (a b : Bool) → (a ≡ true → P) → (b ≡ true → Q) → (a || b) ≡ true
    → P ⊎ Q
either-is a b f g e = ⊎_map f g (or_cases a b e)

is-either : {P Q : Type 0} (a b : Bool) → (P → a ≡ true) → (Q → b ≡ true) → P ⊎ Q
    → (a || b) ≡ true
is-either a b f g (inl p) = or_left a b (f p)
is-either a b f g (inr q) = or_right a b (g q)

-- IN A TERM
term-is : (x : Var) (t : Term) → is_in_term x t ≡ true → InTerm x t
term-is x (literal v) e = absurd cc
term-is x (variable y) e = same_var-is x y e
term-is x (sum a b) e = either-is _ _ (term-is x a) (term-is x b) e
term-is x (difference a b) e = either-is _ _ (term-is x a) (term-is x b) e
term-is x (appended a b) e = either-is _ _ (term-is x a) (term-is x b) e

is-term : (x : Var) (t : Term) → InTerm x t → is_in_term x t ≡ true
is-term x (literal v) m = absurd m
is-term x (variable y) m = subst (λ z. same_var x z ≡ true) m (same_var-refl x)
is-term x (sum a b) m = is-either _ _ (is-term x a) (is-term x b) m
is-term x (difference a b) m = is-either _ _ (is-term x a) (is-term x b) m
is-term x (appended a b) m = is-either _ _ (is-term x a) (is-term x b) m

-- IN A FORMULA
pub is_free-is : (p : Formula) (x : Var) → is_free x p ≡ true → FreeIn x p
is_free-is truth x e = absurd cc
is_free-is falsity x e = absurd cc
is_free-is (empty k) x e = absurd cc
is_free-is (bare_hole k) x e = absurd cc
is_free-is (conjunction p q) x e = either-is _ _ (is_free-is p x) (is_free-is q x) e
is_free-is (disjunction p q) x e = either-is _ _ (is_free-is p x) (is_free-is q x) e
is_free-is (implication p q) x e = either-is _ _ (is_free-is p x) (is_free-is q x) e
is_free-is (grove_sum p q) x e = either-is _ _ (is_free-is p x) (is_free-is q x) e
is_free-is (grove_sum_hole p q) x e = either-is _ _ (is_free-is p x) (is_free-is q x) e
is_free-is (hole_adjoint p q) x e = either-is _ _ (is_free-is p x) (is_free-is q x) e
is_free-is (concatenation d p q) x e = either-is _ _ (is_free-is p x) (is_free-is q x) e
is_free-is (application k p q) x e = either-is _ _ (is_free-is p x) (is_free-is q x) e
is_free-is (context_adjoint k p q) x e = either-is _ _ (is_free-is p x) (is_free-is q x) e
is_free-is (negation p) x e = is_free-is p x e
is_free-is (one_tree p) x e = is_free-is p x e
is_free-is (one_root p) x e = is_free-is p x e
is_free-is (existential s p) x e = is_free-is p (raised_var x) e
is_free-is (universal s p) x e = is_free-is p (raised_var x) e
is_free-is (equality a b) x e = either-is _ _ (term-is x a) (term-is x b) e
is_free-is (at_most a b) x e = either-is _ _ (term-is x a) (term-is x b) e
is_free-is (same_as a) x e = term-is x a e
is_free-is (length_is a) x e = term-is x a e
is_free-is (value_meets s a p) x e = either-is _ _ (term-is x a) (is_free-is p x) e
is_free-is (node_formula a b p c) x e =
    either-is _ _ (term-is x a)
    (either-is _ _ (term-is x b) (either-is _ _ (is_free-is p x) (term-is x c))) e

pub is-is_free : (p : Formula) (x : Var) → FreeIn x p → is_free x p ≡ true
is-is_free truth x m = absurd m
is-is_free falsity x m = absurd m
is-is_free (empty k) x m = absurd m
is-is_free (bare_hole k) x m = absurd m
is-is_free (conjunction p q) x m = is-either _ _ (is-is_free p x) (is-is_free q x) m
is-is_free (disjunction p q) x m = is-either _ _ (is-is_free p x) (is-is_free q x) m
is-is_free (implication p q) x m = is-either _ _ (is-is_free p x) (is-is_free q x) m
is-is_free (grove_sum p q) x m = is-either _ _ (is-is_free p x) (is-is_free q x) m
is-is_free (grove_sum_hole p q) x m = is-either _ _ (is-is_free p x) (is-is_free q x) m
is-is_free (hole_adjoint p q) x m = is-either _ _ (is-is_free p x) (is-is_free q x) m
is-is_free (concatenation d p q) x m = is-either _ _ (is-is_free p x) (is-is_free q x) m
is-is_free (application k p q) x m = is-either _ _ (is-is_free p x) (is-is_free q x) m
is-is_free (context_adjoint k p q) x m = is-either _ _ (is-is_free p x) (is-is_free q x) m
is-is_free (negation p) x m = is-is_free p x m
is-is_free (one_tree p) x m = is-is_free p x m
is-is_free (one_root p) x m = is-is_free p x m
is-is_free (existential s p) x m = is-is_free p (raised_var x) m
is-is_free (universal s p) x m = is-is_free p (raised_var x) m
is-is_free (equality a b) x m = is-either _ _ (is-term x a) (is-term x b) m
is-is_free (at_most a b) x m = is-either _ _ (is-term x a) (is-term x b) m
is-is_free (same_as a) x m = is-term x a m
is-is_free (length_is a) x m = is-term x a m
is-is_free (value_meets s a p) x m = is-either _ _ (is-term x a) (is-is_free p x) m
is-is_free (node_formula a b p c) x m =
    is-either _ _ (is-term x a)
    (is-either _ _ (is-term x b) (is-either _ _ (is-is_free p x) (is-term x c))) m
