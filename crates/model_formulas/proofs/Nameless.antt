-- Substitutions compose, and two ways to a nameless form agree: by a walk with the variables of the
-- binders, and by closing over each quantifier's variable from the inside out.
use Rattle.std.proofs.Common.{◌≡◌, zero, suc, sym, refl, ap, ◌∙◌, List, [], ◌∷◌}
use mathlib.Core.Path.{fun_ext}
use Rattle.model_formulas.specs.Formulas.{Named, Formula, truth, falsity, conjunction, disjunction, implication, negation, existential, universal, equality, at_most, empty, bare_hole, node_formula, one_tree, one_root, concatenation, grove_sum, grove_sum_hole, application, hole_adjoint, context_adjoint, same_as, length_is, value_meets}
use Rattle.model_terms.specs.Variables.{Var, prog, logic, bound, var_sort}
use Rattle.model_terms.specs.VariableTests.{var_eq}
use Rattle.model_terms.specs.Terms.{Term, literal, variable, sum, difference, appended, raised, under_binder, Substitution, term_with, raised_var}
use Rattle.model_formulas.specs.Substitution.{formula_with, closing, exists, forall}
use Rattle.model_formulas.specs.Deciding.{closing_at, name_or}
use Rattle.model_formulas.specs.Nameless.{nameless, walked, names, naming}

raised-with : (g : Substitution) (t : Term) → term_with (under_binder g) (raised t)
    ≡ raised (term_with g t)
raised-with g (literal v) = refl
raised-with g (variable (prog x s)) = refl
raised-with g (variable (logic x s)) = refl
raised-with g (variable (bound i s)) = refl
raised-with g (sum a b) = λ j. sum (raised-with g a j) (raised-with g b j)
raised-with g (difference a b) = λ j. difference (raised-with g a j) (raised-with g b j)
raised-with g (appended a b) = λ j. appended (raised-with g a j) (raised-with g b j)

-- one substitution after another
abbrev pub then_with : Substitution → Substitution → Substitution
then_with f g x = term_with g (f x)

under-then : (f g : Substitution) (x : Var) → then_with (under_binder f) (under_binder g) x
    ≡ under_binder (then_with f g) x
under-then f g (prog x s) = raised-with g (f (prog x s))
under-then f g (logic x s) = raised-with g (f (logic x s))
under-then f g (bound zero s) = refl
under-then f g (bound (suc i) s) = raised-with g (f (bound i s))

term-then : (f g : Substitution) (t : Term)
    → term_with g (term_with f t) ≡ term_with (then_with f g) t
term-then f g (literal v) = refl
term-then f g (variable x) = refl
term-then f g (sum a b) = λ j. sum (term-then f g a j) (term-then f g b j)
term-then f g (difference a b) = λ j. difference (term-then f g a j) (term-then f g b j)
term-then f g (appended a b) = λ j. appended (term-then f g a j) (term-then f g b j)

-- substituting twice is substituting once
pub formula-then : (p : Formula) (f g : Substitution)
    → formula_with g (formula_with f p) ≡ formula_with (then_with f g) p
formula-then truth f g = refl
formula-then falsity f g = refl
formula-then (conjunction p q) f g = λ j. conjunction (formula-then p f g j) (formula-then q f g j)
formula-then (disjunction p q) f g = λ j. disjunction (formula-then p f g j) (formula-then q f g j)
formula-then (implication p q) f g = λ j. implication (formula-then p f g j) (formula-then q f g j)
formula-then (negation p) f g = λ j. negation (formula-then p f g j)
formula-then (existential s p) f g =
    λ j. existential s ((formula-then p (under_binder f) (under_binder g)
    ∙ ap (λ h. formula_with h p) (fun_ext (under-then f g))) j)
formula-then (universal s p) f g =
    λ j. universal s ((formula-then p (under_binder f) (under_binder g)
    ∙ ap (λ h. formula_with h p) (fun_ext (under-then f g))) j)
formula-then (equality a b) f g = λ j. equality (term-then f g a j) (term-then f g b j)
formula-then (at_most a b) f g = λ j. at_most (term-then f g a j) (term-then f g b j)
formula-then (empty k) f g = refl
formula-then (bare_hole k) f g = refl
formula-then (node_formula n i p l) f g =
    λ j. node_formula (term-then f g n j) (term-then f g i j) (formula-then p f g j)
    (term-then f g l j)
formula-then (one_tree p) f g = λ j. one_tree (formula-then p f g j)
formula-then (one_root p) f g = λ j. one_root (formula-then p f g j)
formula-then (concatenation side p q) f g =
    λ j. concatenation side (formula-then p f g j) (formula-then q f g j)
formula-then (grove_sum p q) f g = λ j. grove_sum (formula-then p f g j) (formula-then q f g j)
formula-then (grove_sum_hole p q) f g =
    λ j. grove_sum_hole (formula-then p f g j) (formula-then q f g j)
formula-then (application h p q) f g =
    λ j. application h (formula-then p f g j) (formula-then q f g j)
formula-then (hole_adjoint p q) f g =
    λ j. hole_adjoint (formula-then p f g j) (formula-then q f g j)
formula-then (context_adjoint k p q) f g =
    λ j. context_adjoint k (formula-then p f g j) (formula-then q f g j)
formula-then (same_as a) f g = λ j. same_as (term-then f g a j)
formula-then (length_is a) f g = λ j. length_is (term-then f g a j)
formula-then (value_meets s a p) f g = λ j. value_meets s (term-then f g a j) (formula-then p f g j)

-- what a name becomes below one more binder
raised-var : (x : Var) → raised (variable x) ≡ variable (raised_var x)
raised-var (prog x s) = refl
raised-var (logic x s) = refl
raised-var (bound i s) = refl

names-closing : (xs : List Var) (x y : Var) → then_with (closing x) (under_binder (naming xs)) y
    ≡ naming (x ∷ xs) y
names-closing xs x y = by_case (var_eq y x)
  where
    by_case : (d : Dec (y ≡ x)) → term_with (under_binder (naming xs)) (closing_at d)
        ≡ variable (name_or (names xs y) d)
    by_case (yes e) = refl
    by_case (no n) = raised-with (naming xs) (variable y) ∙ raised-var (names xs y)

-- the nameless form from the inside out: each quantifier closes over its variable
abbrev pub closed_form : Named → Formula
closed_form truth = truth
closed_form falsity = falsity
closed_form (conjunction p q) = conjunction (closed_form p) (closed_form q)
closed_form (disjunction p q) = disjunction (closed_form p) (closed_form q)
closed_form (implication p q) = implication (closed_form p) (closed_form q)
closed_form (negation p) = negation (closed_form p)
closed_form (existential x p) = exists x (closed_form p)
closed_form (universal x p) = forall x (closed_form p)
closed_form (equality a b) = equality a b
closed_form (at_most a b) = at_most a b
closed_form (empty k) = empty k
closed_form (bare_hole h) = bare_hole h
closed_form (node_formula name number p list) = node_formula name number (closed_form p) list
closed_form (one_tree p) = one_tree (closed_form p)
closed_form (one_root p) = one_root (closed_form p)
closed_form (concatenation side p q) = concatenation side (closed_form p) (closed_form q)
closed_form (grove_sum p q) = grove_sum (closed_form p) (closed_form q)
closed_form (grove_sum_hole p q) = grove_sum_hole (closed_form p) (closed_form q)
closed_form (application h p q) = application h (closed_form p) (closed_form q)
closed_form (hole_adjoint p q) = hole_adjoint (closed_form p) (closed_form q)
closed_form (context_adjoint k p q) = context_adjoint k (closed_form p) (closed_form q)
closed_form (same_as a) = same_as a
closed_form (length_is a) = length_is a
closed_form (value_meets s a p) = value_meets s a (closed_form p)

-- the walk below some binders is the nameless form with their names bound
pub walked-names : (p : Named) (xs : List Var)
    → walked xs p ≡ formula_with (naming xs) (closed_form p)
walked-names truth xs = refl
walked-names falsity xs = refl
walked-names (conjunction p q) xs = λ j. conjunction (walked-names p xs j) (walked-names q xs j)
walked-names (disjunction p q) xs = λ j. disjunction (walked-names p xs j) (walked-names q xs j)
walked-names (implication p q) xs = λ j. implication (walked-names p xs j) (walked-names q xs j)
walked-names (negation p) xs = λ j. negation (walked-names p xs j)
walked-names (existential s p) xs =
    λ j. existential (var_sort s)
    ((walked-names p (s ∷ xs)
    ∙ (sym (formula-then (closed_form p) (closing s) (under_binder (naming xs))
    ∙ ap (λ h. formula_with h (closed_form p)) (fun_ext (names-closing xs s))))) j)
walked-names (universal s p) xs =
    λ j. universal (var_sort s)
    ((walked-names p (s ∷ xs)
    ∙ (sym (formula-then (closed_form p) (closing s) (under_binder (naming xs))
    ∙ ap (λ h. formula_with h (closed_form p)) (fun_ext (names-closing xs s))))) j)
walked-names (equality a b) xs = λ j. equality (term_with (naming xs) a) (term_with (naming xs) b)
walked-names (at_most a b) xs = λ j. at_most (term_with (naming xs) a) (term_with (naming xs) b)
walked-names (empty k) xs = refl
walked-names (bare_hole k) xs = refl
walked-names (node_formula n i p l) xs =
    λ j. node_formula (term_with (naming xs) n) (term_with (naming xs) i) (walked-names p xs j)
    (term_with (naming xs) l)
walked-names (one_tree p) xs = λ j. one_tree (walked-names p xs j)
walked-names (one_root p) xs = λ j. one_root (walked-names p xs j)
walked-names (concatenation side p q) xs =
    λ j. concatenation side (walked-names p xs j) (walked-names q xs j)
walked-names (grove_sum p q) xs = λ j. grove_sum (walked-names p xs j) (walked-names q xs j)
walked-names (grove_sum_hole p q) xs =
    λ j. grove_sum_hole (walked-names p xs j) (walked-names q xs j)
walked-names (application h p q) xs = λ j. application h (walked-names p xs j) (walked-names q xs j)
walked-names (hole_adjoint p q) xs = λ j. hole_adjoint (walked-names p xs j) (walked-names q xs j)
walked-names (context_adjoint k p q) xs =
    λ j. context_adjoint k (walked-names p xs j) (walked-names q xs j)
walked-names (same_as a) xs = λ j. same_as (term_with (naming xs) a)
walked-names (length_is a) xs = λ j. length_is (term_with (naming xs) a)
walked-names (value_meets s a p) xs =
    λ j. value_meets s (term_with (naming xs) a) (walked-names p xs j)

under-variable : (x : Var) → under_binder variable x ≡ variable x
under-variable (prog x s) = refl
under-variable (logic x s) = refl
under-variable (bound zero s) = refl
under-variable (bound (suc i) s) = refl

pub term-variable : (t : Term) → term_with variable t ≡ t
term-variable (literal v) = refl
term-variable (variable x) = refl
term-variable (sum a b) = λ j. sum (term-variable a j) (term-variable b j)
term-variable (difference a b) = λ j. difference (term-variable a j) (term-variable b j)
term-variable (appended a b) = λ j. appended (term-variable a j) (term-variable b j)

-- each variable for itself leaves the formula
pub formula-variable : (p : Formula) → formula_with variable p ≡ p
formula-variable truth = refl
formula-variable falsity = refl
formula-variable (conjunction p q) = λ j. conjunction (formula-variable p j) (formula-variable q j)
formula-variable (disjunction p q) = λ j. disjunction (formula-variable p j) (formula-variable q j)
formula-variable (implication p q) = λ j. implication (formula-variable p j) (formula-variable q j)
formula-variable (negation p) = λ j. negation (formula-variable p j)
formula-variable (existential s p) =
    λ j. existential s ((ap (λ h. formula_with h p) (fun_ext under-variable)
    ∙ formula-variable p) j)
formula-variable (universal s p) =
    λ j. universal s ((ap (λ h. formula_with h p) (fun_ext under-variable) ∙ formula-variable p) j)
formula-variable (equality a b) = λ j. equality (term-variable a j) (term-variable b j)
formula-variable (at_most a b) = λ j. at_most (term-variable a j) (term-variable b j)
formula-variable (empty k) = refl
formula-variable (bare_hole k) = refl
formula-variable (node_formula n i p l) =
    λ j. node_formula (term-variable n j) (term-variable i j) (formula-variable p j)
    (term-variable l j)
formula-variable (one_tree p) = λ j. one_tree (formula-variable p j)
formula-variable (one_root p) = λ j. one_root (formula-variable p j)
formula-variable (concatenation side p q) =
    λ j. concatenation side (formula-variable p j) (formula-variable q j)
formula-variable (grove_sum p q) = λ j. grove_sum (formula-variable p j) (formula-variable q j)
formula-variable (grove_sum_hole p q) =
    λ j. grove_sum_hole (formula-variable p j) (formula-variable q j)
formula-variable (application h p q) =
    λ j. application h (formula-variable p j) (formula-variable q j)
formula-variable (hole_adjoint p q) =
    λ j. hole_adjoint (formula-variable p j) (formula-variable q j)
formula-variable (context_adjoint k p q) =
    λ j. context_adjoint k (formula-variable p j) (formula-variable q j)
formula-variable (same_as a) = λ j. same_as (term-variable a j)
formula-variable (length_is a) = λ j. length_is (term-variable a j)
formula-variable (value_meets s a p) = λ j. value_meets s (term-variable a j) (formula-variable p j)

-- so the walk from no binder gives the same
pub nameless-closed : (p : Named) → nameless p ≡ closed_form p
nameless-closed p = walked-names p [] ∙ formula-variable (closed_form p)

-- and a quantifier closes over its variable
pub nameless-exists : (x : Var) (p : Named) → nameless (existential x p) ≡ exists x (nameless p)
nameless-exists x p = nameless-closed (existential x p) ∙ ap (exists x) (sym (nameless-closed p))

pub nameless-forall : (x : Var) (p : Named) → nameless (universal x p) ≡ forall x (nameless p)
nameless-forall x p = nameless-closed (universal x p) ∙ ap (forall x) (sym (nameless-closed p))
