-- Q with $v for the program variable x: it has no other new variable, and its nameless form is
-- that of Q with $v for x.
use Rattle.std.proofs.Common.{◌≡◌, List, [], ◌∷◌, refl, sym, ap, ◌∙◌}
use Rattle.model_shapes.specs.Values.{Name}
use Rattle.model_terms.specs.Variables.{Var, prog, logic, bound, var_sort}
use Rattle.model_terms.specs.VariableTests.{var_eq}
use Rattle.model_terms.specs.Terms.{Term, literal, variable, sum, difference, appended, raised, raised_var, under_binder, Substitution, term_with}
use Rattle.model_terms.specs.Stores.{ProgVar, named, as_var}
use Rattle.model_formulas.specs.Formulas.{Named, truth, falsity, conjunction, disjunction, implication, negation, existential, universal, equality, at_most, empty, bare_hole, node_formula, one_tree, one_root, concatenation, grove_sum, grove_sum_hole, application, hole_adjoint, context_adjoint, same_as, length_is, value_meets}
use Rattle.model_formulas.specs.Substitution.{formula_with, replacing}
use Rattle.model_formulas.specs.Nameless.{nameless, walked, names, naming}
use Rattle.model_formulas.specs.Deciding.{name_or, replacing_at}
use Rattle.model_formulas.proofs.Nameless.{term-variable}
use Rattle.model_weakest.specs.Rows.{value_for}
use Rattle.model_weakest.specs.Written.{put}
use Rattle.weakest_laws.proofs.Avoiding.{Other, BindsOther, AvoidsTerm, Avoids}

module _ (x : ProgVar) (v : Name) where
  abbrev V : Var
  V = value_for x v

  abbrev with_v : Substitution
  with_v = replacing (as_var x) (variable V)

  -- ANOTHER NAME is still avoided
  module _ (w : Name) (differ : v ≡ w → ⊥) where
    variable-avoids : (y : Var) → Other w y → AvoidsTerm w (with_v y)
    variable-avoids y h = by_test (var_eq y (as_var x))
      where
        by_test : (d : Dec (y ≡ as_var x)) → AvoidsTerm w (replacing_at (variable V) d)
        by_test (yes e) = differ
        by_test (no n) = h

    term-avoids : (a : Term) → AvoidsTerm w a → AvoidsTerm w (term_with with_v a)
    term-avoids (literal u) h = tt
    term-avoids (variable y) h = variable-avoids y h
    term-avoids (sum a b) h = (term-avoids a h.0, term-avoids b h.1)
    term-avoids (difference a b) h = (term-avoids a h.0, term-avoids b h.1)
    term-avoids (appended a b) h = (term-avoids a h.0, term-avoids b h.1)

    pub put-avoids : (p : Named) → Avoids w p → Avoids w (put x v p)
    put-avoids truth h = tt
    put-avoids falsity h = tt
    put-avoids (conjunction p q) h = (put-avoids p h.0, put-avoids q h.1)
    put-avoids (disjunction p q) h = (put-avoids p h.0, put-avoids q h.1)
    put-avoids (implication p q) h = (put-avoids p h.0, put-avoids q h.1)
    put-avoids (negation p) h = put-avoids p h
    put-avoids (existential y p) h = (h.0, put-avoids p h.1)
    put-avoids (universal y p) h = (h.0, put-avoids p h.1)
    put-avoids (equality a b) h = (term-avoids a h.0, term-avoids b h.1)
    put-avoids (at_most a b) h = (term-avoids a h.0, term-avoids b h.1)
    put-avoids (empty k) h = tt
    put-avoids (bare_hole k) h = tt
    put-avoids (node_formula n i p l) h =
        (term-avoids n h.0, (term-avoids i h.1.0, (put-avoids p h.1.1.0, term-avoids l h.1.1.1)))
    put-avoids (one_tree p) h = put-avoids p h
    put-avoids (one_root p) h = put-avoids p h
    put-avoids (concatenation d p q) h = (put-avoids p h.0, put-avoids q h.1)
    put-avoids (grove_sum p q) h = (put-avoids p h.0, put-avoids q h.1)
    put-avoids (grove_sum_hole p q) h = (put-avoids p h.0, put-avoids q h.1)
    put-avoids (application k p q) h = (put-avoids p h.0, put-avoids q h.1)
    put-avoids (hole_adjoint p q) h = (put-avoids p h.0, put-avoids q h.1)
    put-avoids (context_adjoint k p q) h = (put-avoids p h.0, put-avoids q h.1)
    put-avoids (same_as a) h = term-avoids a h
    put-avoids (length_is a) h = term-avoids a h
    put-avoids (value_meets s a p) h = (term-avoids a h.0, put-avoids p h.1)

  -- THE NAMELESS FORM: below binders that pass $v on, `there` is the substitution
  abbrev Passes : List Var → Type 0
  Passes xs = names xs V ≡ V

  abbrev Agrees : List Var → Substitution → Type 0
  Agrees xs there = (y : Var) → term_with (naming xs) (with_v y) ≡ there (names xs y)

  passes : (z : Var) (xs : List Var) → BindsOther v z → Passes xs → Passes (z ∷ xs)
  passes (prog n s) xs other h = absurd other
  passes (bound i s) xs other h = absurd other
  passes (logic n s) xs other h = by_test (var_eq V (logic n s))
    where
      by_test : (d : Dec (V ≡ logic n s)) → name_or (names xs V) d ≡ V
      by_test (yes e) = absurd (other cc)
      by_test (no m) = ap raised_var h

  raised-var : (y : Var) → raised (variable y) ≡ variable (raised_var y)
  raised-var (prog n s) = refl
  raised-var (logic n s) = refl
  raised-var (bound i s) = refl

  under-raised : (there : Substitution) (y : Var)
      → under_binder there (raised_var y) ≡ raised (there y)
  under-raised there (prog n s) = refl
  under-raised there (logic n s) = refl
  under-raised there (bound i s) = refl

  apart-of-x : (z : Var) → BindsOther v z → z ≡ as_var x → ⊥
  apart-of-x z other e = by_form x z other e
    where
      by_form : (x' : ProgVar) (z : Var) → BindsOther v z → z ≡ as_var x' → ⊥
      by_form (named m u) (logic n s) other e = cc
      by_form (named m u) (prog n s) other e = other
      by_form (named m u) (bound i s) other e = other

  module _ (z : Var) (xs : List Var) (there : Substitution) (other : BindsOther v z)
      (pass : Passes xs) (y : Var)
    where
      -- where the variable is x, and where it isn't
      at_x : y ≡ as_var x → variable (names xs V) ≡ there (names xs y) → (b : Dec (y ≡ z))
          → variable (names (z ∷ xs) V) ≡ under_binder there (name_or (names xs y) b)
      at_x e k (yes c) = absurd (apart-of-x z other (sym c ∙ e))
      at_x e k (no n) =
          ap variable (passes z xs other pass)
          ∙ sym (under-raised there (names xs y) ∙ ap raised (sym k ∙ ap variable pass))

      at_other : variable (names xs y) ≡ there (names xs y) → (b : Dec (y ≡ z))
          → variable (name_or (names xs y) b) ≡ under_binder there (name_or (names xs y) b)
      at_other k (yes c) = refl
      at_other k (no n) =
          sym (under-raised there (names xs y) ∙ ap raised (sym k) ∙ raised-var (names xs y))

      agrees_by : (d : Dec (y ≡ as_var x))
          → term_with (naming xs) (replacing_at (variable V) d) ≡ there (names xs y)
          → term_with (naming (z ∷ xs)) (replacing_at (variable V) d)
          ≡ under_binder there (names (z ∷ xs) y)
      agrees_by (yes e) k = at_x e k (var_eq y z)
      agrees_by (no n) k = at_other k (var_eq y z)

  agrees : (z : Var) (xs : List Var) (there : Substitution) → BindsOther v z → Passes xs
      → Agrees xs there → Agrees (z ∷ xs) (under_binder there)
  agrees z xs there other pass h y =
      agrees_by z xs there other pass y (var_eq y (as_var x)) (h y)

  put-term : (a : Term) (xs : List Var) (there : Substitution) → Agrees xs there
      → term_with (naming xs) (term_with with_v a) ≡ term_with there (term_with (naming xs) a)
  put-term (literal u) xs there h = refl
  put-term (variable y) xs there h = h y
  put-term (sum a b) xs there h = λ j. sum (put-term a xs there h j) (put-term b xs there h j)
  put-term (difference a b) xs there h =
      λ j. difference (put-term a xs there h j) (put-term b xs there h j)
  put-term (appended a b) xs there h =
      λ j. appended (put-term a xs there h j) (put-term b xs there h j)

  put-walked : (p : Named) → Avoids v p → (xs : List Var) (there : Substitution) → Passes xs
      → Agrees xs there → walked xs (put x v p) ≡ formula_with there (walked xs p)
  put-walked truth a xs t k h = refl
  put-walked falsity a xs t k h = refl
  put-walked (conjunction p q) a xs t k h =
      λ j. conjunction (put-walked p a.0 xs t k h j) (put-walked q a.1 xs t k h j)
  put-walked (disjunction p q) a xs t k h =
      λ j. disjunction (put-walked p a.0 xs t k h j) (put-walked q a.1 xs t k h j)
  put-walked (implication p q) a xs t k h =
      λ j. implication (put-walked p a.0 xs t k h j) (put-walked q a.1 xs t k h j)
  put-walked (negation p) a xs t k h = λ j. negation (put-walked p a xs t k h j)
  put-walked (existential y p) a xs t k h =
      λ j. existential (var_sort y)
      (put-walked p a.1 (y ∷ xs) (under_binder t) (passes y xs a.0 k) (agrees y xs t a.0 k h) j)
  put-walked (universal y p) a xs t k h =
      λ j. universal (var_sort y)
      (put-walked p a.1 (y ∷ xs) (under_binder t) (passes y xs a.0 k) (agrees y xs t a.0 k h) j)
  put-walked (equality b c) a xs t k h =
      λ j. equality (put-term b xs t h j) (put-term c xs t h j)
  put-walked (at_most b c) a xs t k h =
      λ j. at_most (put-term b xs t h j) (put-term c xs t h j)
  put-walked (empty s) a xs t k h = refl
  put-walked (bare_hole s) a xs t k h = refl
  put-walked (node_formula n i p l) a xs t k h =
      λ j. node_formula (put-term n xs t h j) (put-term i xs t h j)
      (put-walked p a.1.1.0 xs t k h j) (put-term l xs t h j)
  put-walked (one_tree p) a xs t k h = λ j. one_tree (put-walked p a xs t k h j)
  put-walked (one_root p) a xs t k h = λ j. one_root (put-walked p a xs t k h j)
  put-walked (concatenation d p q) a xs t k h =
      λ j. concatenation d (put-walked p a.0 xs t k h j) (put-walked q a.1 xs t k h j)
  put-walked (grove_sum p q) a xs t k h =
      λ j. grove_sum (put-walked p a.0 xs t k h j) (put-walked q a.1 xs t k h j)
  put-walked (grove_sum_hole p q) a xs t k h =
      λ j. grove_sum_hole (put-walked p a.0 xs t k h j) (put-walked q a.1 xs t k h j)
  put-walked (application s p q) a xs t k h =
      λ j. application s (put-walked p a.0 xs t k h j) (put-walked q a.1 xs t k h j)
  put-walked (hole_adjoint p q) a xs t k h =
      λ j. hole_adjoint (put-walked p a.0 xs t k h j) (put-walked q a.1 xs t k h j)
  put-walked (context_adjoint s p q) a xs t k h =
      λ j. context_adjoint s (put-walked p a.0 xs t k h j) (put-walked q a.1 xs t k h j)
  put-walked (same_as b) a xs t k h = λ j. same_as (put-term b xs t h j)
  put-walked (length_is b) a xs t k h = λ j. length_is (put-term b xs t h j)
  put-walked (value_meets s b p) a xs t k h =
      λ j. value_meets s (put-term b xs t h j) (put-walked p a.1 xs t k h j)

  pub put-nameless : (p : Named) → Avoids v p
      → nameless (put x v p) ≡ formula_with with_v (nameless p)
  put-nameless p a = put-walked p a [] with_v refl (λ y. term-variable (with_v y))
