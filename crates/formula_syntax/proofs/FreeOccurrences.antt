-- The variables in the list are those that stand free in the nameless form, and each is there once.
use Rattle.std.proofs.Common.{◌≡◌, zero, refl, sym, ap, ◌∙◌, Bool, true, false, not, cond, List, [], ◌∷◌, ◌++◌, ◌||◌, ◌&&◌, ◌⊎◌, ◌↔◌, IsTrue, inl, inr, ⊎_elim, arith}
use Rattle.std.specs.List.{filter, IsDistinct, AllByRecursion}
use Rattle.std.proofs.lemmas.List.Folds.{list_any-append}
use Rattle.std.proofs.lemmas.Map.Keys.{IsDistinct-head, IsDistinct-tail, IsDistinct-cons, IsDistinct-from_apart}
use Rattle.std.proofs.lemmas.Map.Views.{any-filter_same}
use Rattle.model_shapes.specs.Sorts.{Sort}
use Rattle.model_terms.specs.Variables.{Var, prog, logic, bound, var_sort}
use Rattle.model_shapes.proofs.Truth.{false≢true}
use Rattle.model_terms.specs.VariableTests.{same_var-is, same_var-refl, same_var}
use Rattle.model_terms.specs.Terms.{Term, literal, variable, sum, difference, appended, raised_var, term_with, InTerm}
use Rattle.model_formulas.specs.Formulas.{Named, truth, falsity, conjunction, disjunction, implication, negation, existential, universal, equality, at_most, empty, bare_hole, node_formula, one_tree, one_root, concatenation, grove_sum, grove_sum_hole, application, hole_adjoint, context_adjoint, same_as, length_is, value_meets}
use Rattle.model_formulas.specs.Substitution.{FreeIn}
use Rattle.model_formulas.specs.Nameless.{names, naming, walked, nameless}
use Rattle.formula_syntax.specs.FreeVariables.{is_among, without, each_once, variables_of_term, occurrences, free_in_order}
use Rattle.formula_syntax.specs.Gathering.{outside}
use Rattle.formula_syntax.proofs.BoundNames.{names-here, names-there}
use Rattle.formula_syntax.proofs.Gathering.{outside-append, outside-none}

-- two tests, one of which says a fact and the other another
either : {A B : Type 0} (a b c : Bool) → c ≡ (a || b) → (IsTrue a ↔ A) → (IsTrue b ↔ B)
    → (IsTrue c ↔ (A ⊎ B))
either true b c e f g = (λ h. inl (f.0 refl), λ h. e)
either false b c e f g =
    (λ h. inr (g.0 (sym e ∙ h)), λ h. e ∙ ⊎_elim (λ x. false≢true (f.1 x)) (λ x. g.1 x) h)

neither : {A : Type 0} (c : Bool) → c ≡ false → (A → ⊥) → (IsTrue c ↔ A)
neither c e f = (λ h. false≢true (sym e ∙ h), λ x. absurd (f x))

-- a variable as it is named below these binders, where none of them binds it
abbrev deep : List Var → Var → Var
deep [] y = y
deep (x ∷ xs) y = raised_var (deep xs y)

raised-apart : (x : Var) (s : Sort) → raised_var x ≡ bound zero s → ⊥
raised-apart (prog n u) s e = cc
raised-apart (logic n u) s e = cc
raised-apart (bound i u) s e = cc

raised-one : (x y : Var) → raised_var x ≡ raised_var y → x ≡ y
raised-one (prog n s) (prog m u) e = e
raised-one (prog n s) (logic m u) e = e
raised-one (prog n s) (bound i u) e = absurd (cc)
raised-one (logic n s) (prog m u) e = e
raised-one (logic n s) (logic m u) e = e
raised-one (logic n s) (bound i u) e = absurd (cc)
raised-one (bound i s) (prog m u) e = absurd (cc)
raised-one (bound i s) (logic m u) e = absurd (cc)
raised-one (bound i s) (bound j u) e = cc

same-iff : (x y : Var) → IsTrue (same_var x y || false) ↔ (x ≡ y)
same-iff x y = by_test (same_var x y) refl
  where
    by_test : (b : Bool) → same_var x y ≡ b → IsTrue (b || false) ↔ (x ≡ y)
    by_test true e = (λ h. same_var-is x y e, λ h. refl)
    by_test false e = (
      λ h. false≢true h,
      λ h. false≢true (sym e ∙ ap (same_var x) (sym h) ∙ same_var-refl x),
    )

-- a variable is found in one that stands below the binders where it is named as that one is
variable-free : (xs : List Var) (y z : Var)
    → IsTrue (is_among y (outside xs (z ∷ []))) ↔ (deep xs y ≡ names xs z)
variable-free [] y z = same-iff y z
variable-free (x ∷ xs) y z = by_test (same_var z x) refl (variable-free xs y z)
  where
    by_test : (b : Bool) → same_var z x ≡ b
        → (IsTrue (is_among y (outside xs (z ∷ []))) ↔ (deep xs y ≡ names xs z))
        → IsTrue (is_among y (outside xs (cond (not b) (z ∷ []) [])))
        ↔ (raised_var (deep xs y) ≡ names (x ∷ xs) z)
    by_test true e h =
        neither (is_among y (outside xs [])) (ap (is_among y) (outside-none xs))
        (λ f. raised-apart (deep xs y) (var_sort z) (f ∙ names-here z x xs e))
    by_test false e h = (
      λ f. ap raised_var (h.0 f) ∙ sym (names-there z x xs e),
      λ f. h.1 (raised-one (deep xs y) (names xs z) (f ∙ names-there z x xs e)),
    )

nothing-free : {A : Type 0} (xs : List Var) (y : Var) → (A → ⊥)
    → IsTrue (is_among y (outside xs [])) ↔ A
nothing-free xs y f =
    neither (is_among y (outside xs [])) (ap (is_among y) (outside-none xs)) f

two-free : {A B : Type 0} (xs : List Var) (y : Var) (us vs : List Var)
    → (IsTrue (is_among y (outside xs us)) ↔ A) → (IsTrue (is_among y (outside xs vs)) ↔ B)
    → IsTrue (is_among y (outside xs (us ++ vs))) ↔ (A ⊎ B)
two-free xs y us vs f g =
    either (is_among y (outside xs us)) (is_among y (outside xs vs))
    (is_among y (outside xs (us ++ vs)))
    (ap (is_among y) (outside-append xs us vs)
    ∙ list_any-append (same_var y) (outside xs us) (outside xs vs)) f g

term-free : (a : Term) (xs : List Var) (y : Var)
    → IsTrue (is_among y (outside xs (variables_of_term a)))
    ↔ InTerm (deep xs y) (term_with (naming xs) a)
term-free (literal v) xs y = nothing-free xs y (λ f. f)
term-free (variable z) xs y = variable-free xs y z
term-free (sum a b) xs y =
    two-free xs y (variables_of_term a) (variables_of_term b) (term-free a xs y) (term-free b xs y)
term-free (difference a b) xs y =
    two-free xs y (variables_of_term a) (variables_of_term b) (term-free a xs y) (term-free b xs y)
term-free (appended a b) xs y =
    two-free xs y (variables_of_term a) (variables_of_term b) (term-free a xs y) (term-free b xs y)

abbrev Found : Named → List Var → Var → Type 0
Found p xs y =
    IsTrue (is_among y (outside xs (occurrences p))) ↔ FreeIn (deep xs y) (walked xs p)

terms-free : (a b : Term) (xs : List Var) (y : Var)
    → IsTrue (is_among y (outside xs (variables_of_term a ++ variables_of_term b)))
    ↔ (InTerm (deep xs y) (term_with (naming xs) a) ⊎ InTerm (deep xs y) (term_with (naming xs) b))
terms-free a b xs y =
    two-free xs y (variables_of_term a) (variables_of_term b) (term-free a xs y) (term-free b xs y)

both-free : (p q : Named) (xs : List Var) (y : Var) → Found p xs y → Found q xs y
    → IsTrue (is_among y (outside xs (occurrences p ++ occurrences q)))
    ↔ (FreeIn (deep xs y) (walked xs p) ⊎ FreeIn (deep xs y) (walked xs q))
both-free p q xs y f g = two-free xs y (occurrences p) (occurrences q) f g

free-walked : (p : Named) (xs : List Var) (y : Var) → Found p xs y
free-walked truth xs y = nothing-free xs y (λ f. f)
free-walked falsity xs y = nothing-free xs y (λ f. f)
free-walked (conjunction p q) xs y =
    both-free p q xs y (free-walked p xs y) (free-walked q xs y)
free-walked (disjunction p q) xs y =
    both-free p q xs y (free-walked p xs y) (free-walked q xs y)
free-walked (implication p q) xs y =
    both-free p q xs y (free-walked p xs y) (free-walked q xs y)
free-walked (negation p) xs y = free-walked p xs y
free-walked (existential x p) xs y = free-walked p (x ∷ xs) y
free-walked (universal x p) xs y = free-walked p (x ∷ xs) y
free-walked (equality a b) xs y = terms-free a b xs y
free-walked (at_most a b) xs y = terms-free a b xs y
free-walked (empty k) xs y = nothing-free xs y (λ f. f)
free-walked (bare_hole h) xs y = nothing-free xs y (λ f. f)
free-walked (node_formula a b p c) xs y =
    two-free xs y (variables_of_term a)
    (variables_of_term b ++ (occurrences p ++ variables_of_term c)) (term-free a xs y)
    (two-free xs y (variables_of_term b) (occurrences p ++ variables_of_term c) (term-free b xs y)
    (two-free xs y (occurrences p) (variables_of_term c) (free-walked p xs y) (term-free c xs y)))
free-walked (one_tree p) xs y = free-walked p xs y
free-walked (one_root p) xs y = free-walked p xs y
free-walked (concatenation side p q) xs y =
    both-free p q xs y (free-walked p xs y) (free-walked q xs y)
free-walked (grove_sum p q) xs y =
    both-free p q xs y (free-walked p xs y) (free-walked q xs y)
free-walked (grove_sum_hole p q) xs y =
    both-free p q xs y (free-walked p xs y) (free-walked q xs y)
free-walked (application h p q) xs y =
    both-free p q xs y (free-walked p xs y) (free-walked q xs y)
free-walked (hole_adjoint p q) xs y =
    both-free p q xs y (free-walked p xs y) (free-walked q xs y)
free-walked (context_adjoint k p q) xs y =
    both-free p q xs y (free-walked p xs y) (free-walked q xs y)
free-walked (same_as a) xs y = term-free a xs y
free-walked (length_is a) xs y = term-free a xs y
free-walked (value_meets s a p) xs y =
    two-free xs y (variables_of_term a) (occurrences p) (term-free a xs y) (free-walked p xs y)

-- each once has what the list has
among-once : (xs : List Var) (y : Var) → is_among y (each_once xs) ≡ is_among y xs
among-once [] y = refl
among-once (x ∷ xs) y = by_test (same_var y x) refl
    ∙ ap (λ b. same_var y x || b) (among-once xs y)
  where
    rest : (k : Var) → same_var y k ≡ true → not (same_var k x) ≡ not (same_var y x)
    rest k e = ap (λ z. not (same_var z x)) (sym (same_var-is y k e))

    by_test : (b : Bool) → same_var y x ≡ b
        → (b || is_among y (without x (each_once xs))) ≡ (b || is_among y (each_once xs))
    by_test true e = refl
    by_test false e =
        any-filter_same (same_var y) (λ k. not (same_var k x)) (not (same_var y x)) rest
        (each_once xs) ∙ ap (λ c. not c && is_among y (each_once xs)) e

-- a variable is in the list exactly where it stands free
pub listed-free : (p : Named) (x : Var)
    → IsTrue (is_among x (free_in_order p)) ↔ FreeIn x (nameless p)
listed-free p x =
    let f : Found p [] x = free-walked p [] x in
    let e : is_among x (free_in_order p) ≡ is_among x (occurrences p) =
    among-once (occurrences p) x in (
      λ h. f.0 (sym e ∙ h),
      λ h. e ∙ f.1 h,
    )

-- a filter keeps the variables apart
filter-apart : (test : Var → Bool) (x : Var) (xs : List Var)
    → AllByRecursion (λ y. same_var x y ≡ false) xs
    → AllByRecursion (λ y. same_var x y ≡ false) (filter test xs)
filter-apart test x [] h = h
filter-apart test x (y ∷ ys) h = by_test (test y) (filter-apart test x ys h.1)
  where
    by_test : (b : Bool) → AllByRecursion (λ y. same_var x y ≡ false) (filter test ys)
        → AllByRecursion (λ y. same_var x y ≡ false)
        (cond b (y ∷ filter test ys) (filter test ys))
    by_test true f = (h.0, f)
    by_test false f = f

filter-distinct : (test : Var → Bool) (xs : List Var) → IsDistinct same_var xs
    → IsDistinct same_var (filter test xs)
filter-distinct test [] h = h
filter-distinct test (x ∷ xs) h =
    by_test (test x) (filter-distinct test xs (IsDistinct-tail same_var x xs h))
  where
    by_test : (b : Bool) → IsDistinct same_var (filter test xs)
        → IsDistinct same_var (cond b (x ∷ filter test xs) (filter test xs))
    by_test true f =
        IsDistinct-cons same_var x (filter test xs)
        (filter-apart test x xs (IsDistinct-head same_var x xs h)) f
    by_test false f = f

without-apart : (x : Var) (xs : List Var)
    → AllByRecursion (λ y. same_var x y ≡ false) (without x xs)
without-apart x [] = tt
without-apart x (y ∷ ys) = by_test (same_var y x) refl (without-apart x ys)
  where
    by_test : (b : Bool) → same_var y x ≡ b
        → AllByRecursion (λ y. same_var x y ≡ false) (without x ys)
        → AllByRecursion (λ y. same_var x y ≡ false)
        (cond (not b) (y ∷ without x ys) (without x ys))
    by_test true e f = f
    by_test false e f = (flipped (same_var x y) refl, f)
      where
        flipped : (c : Bool) → same_var x y ≡ c → c ≡ false
        flipped true h =
            false≢true (sym e ∙ ap (λ z. same_var z x) (sym (same_var-is x y h)) ∙ same_var-refl x)
        flipped false h = refl

-- no variable is there twice
pub listed-once : (xs : List Var) → IsDistinct same_var (each_once xs)
listed-once [] = IsDistinct-from_apart same_var [] (λ i j d h k. absurd (omega arith))
listed-once (x ∷ xs) =
    IsDistinct-cons same_var x (without x (each_once xs)) (without-apart x (each_once xs))
    (filter-distinct (λ y. not (same_var y x)) (each_once xs) (listed-once xs))
