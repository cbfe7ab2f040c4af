-- The written rows are those of the table.
use Rattle.std.proofs.Common.{◌≡◌, ℕ, zero, suc, List, [], ◌∷◌, refl, sym, ap, ◌∙◌}
use Rattle.model_shapes.specs.Sorts.{ValueSort, int_sort, str_sort}
use Rattle.model_shapes.specs.Values.{Name}
use Rattle.model_terms.specs.Variables.{Var, prog, logic, bound, var_sort}
use Rattle.model_terms.specs.VariableTests.{var_eq}
use Rattle.model_terms.specs.Terms.{Term, literal, variable, sum, difference, appended, raised_var, term_with}
use Rattle.model_terms.specs.Computing.{Computes}
use Rattle.model_formulas.specs.Formulas.{Formula, Named}
use Rattle.model_formulas.specs.Substitution.{formula_with, FreeIn, closing, replacing}
use Rattle.model_formulas.specs.Nameless.{nameless, walked, names, naming}
use Rattle.model_formulas.specs.Deciding.{name_or, closing_at, replacing_at}
use Rattle.model_formulas.proofs.Nameless.{then_with, formula-then, walked-names, nameless-closed}
use Rattle.model_formulas.proofs.Renaming.{with-alike}
use Rattle.weakest_laws.specs.Table.{below}

-- PLACES: the variables of binders, the nearest first
abbrev pub Apart : Var → List Var → Type 0
Apart x [] = Unit
Apart x (y ∷ ys) = (y ≡ x → ⊥) × Apart x ys

-- each of them is bound by its own binder
abbrev pub AllApart : List Var → Type 0
AllApart [] = Unit
AllApart (x ∷ xs) = Apart x xs × AllApart xs

-- the variable at a place
abbrev pub IsAt : ℕ → List Var → Var → Type 0
IsAt n [] x = ⊥
IsAt zero (y ∷ ys) x = x ≡ y
IsAt (suc n) (y ∷ ys) x = IsAt n ys x

is-apart : (n : ℕ) (xs : List Var) (x y : Var) → IsAt n xs x → Apart y xs → x ≡ y → ⊥
is-apart n [] x y at a = absurd at
is-apart zero (z ∷ xs) x y at a = λ e. a.0 (sym at ∙ e)
is-apart (suc n) (z ∷ xs) x y at a = is-apart n xs x y at a.1

pub place : (n : ℕ) (xs : List Var) (x : Var) → AllApart xs → IsAt n xs x
    → names xs x ≡ bound n (var_sort x)
place n [] x a at = absurd at
place zero (y ∷ xs) x a at = by_test (var_eq x y)
  where
    by_test : (d : Dec (x ≡ y)) → name_or (names xs x) d ≡ bound zero (var_sort x)
    by_test (yes e) = ap (λ z. bound zero (var_sort z)) (sym e)
    by_test (no m) = absurd (m at)
place (suc n) (y ∷ xs) x a at = by_test (var_eq x y) (place n xs x a.1 at)
  where
    by_test : (d : Dec (x ≡ y)) → names xs x ≡ bound n (var_sort x)
        → name_or (names xs x) d ≡ bound (suc n) (var_sort x)
    by_test (yes e) rec = absurd (is-apart n xs x y at a.0 e)
    by_test (no m) rec = ap raised_var rec

-- the same as a term
pub placed : (n : ℕ) (xs : List Var) (x : Var) → AllApart xs → IsAt n xs x
    → naming xs x ≡ variable (bound n (var_sort x))
placed n xs x a at = ap variable (place n xs x a at)

-- BINDERS OF LOGIC VARIABLES leave a term of a command
abbrev pub AllLogic : List Var → Type 0
AllLogic [] = Unit
AllLogic (logic n s ∷ xs) = AllLogic xs
AllLogic (x ∷ xs) = ⊥

prog-stays : (xs : List Var) → AllLogic xs → (n : Name) (s : ValueSort)
    → names xs (prog n s) ≡ prog n s
prog-stays [] a n s = refl
prog-stays (prog m u ∷ xs) a n s = absurd a
prog-stays (bound i u ∷ xs) a n s = absurd a
prog-stays (logic m u ∷ xs) a n s =
    by_test (var_eq (prog n s) (logic m u)) (prog-stays xs a n s)
  where
    by_test : (d : Dec (prog n s ≡ logic m u)) → names xs (prog n s) ≡ prog n s
        → name_or (names xs (prog n s)) d ≡ prog n s
    by_test (yes e) rec = absurd cc
    by_test (no m) rec = ap raised_var rec

pub plain-stays : (s : ValueSort) (t : Term) (xs : List Var) → AllLogic xs → Computes s t
    → term_with (naming xs) t ≡ t
plain-stays s (literal v) xs a c = refl
plain-stays s (variable (prog n u)) xs a c = ap variable (prog-stays xs a n u)
plain-stays s (variable (logic n u)) xs a c = absurd c
plain-stays s (variable (bound i u)) xs a c = absurd c
plain-stays s (sum t u) xs a c =
    λ j. sum (plain-stays int_sort t xs a c.1 j) (plain-stays int_sort u xs a c.2 j)
plain-stays s (difference t u) xs a c =
    λ j. difference (plain-stays int_sort t xs a c.1 j) (plain-stays int_sort u xs a c.2 j)
plain-stays s (appended t u) xs a c =
    λ j. appended (plain-stays str_sort t xs a c.1 j) (plain-stays str_sort u xs a c.2 j)

-- WHAT IS ASKED FOR
-- the walk below some binders, from the nameless form
pub walked-nameless : (p : Named) (xs : List Var) → walked xs p
    ≡ formula_with (naming xs) (nameless p)
walked-nameless p xs = walked-names p xs ∙ ap (formula_with (naming xs)) (sym (nameless-closed p))

-- a variable under so many binders more
abbrev further : List Var → Var → Var
further [] y = y
further (x ∷ xs) y = raised_var (further xs y)

-- a variable that is none of the binders' is named further out
outside : (xs : List Var) (y : Var) → Apart y xs → names xs y ≡ (further xs y)
outside [] y a = refl
outside (x ∷ xs) y a = by_test (var_eq y x) (outside xs y a.1)
  where
    by_test : (d : Dec (y ≡ x)) → names xs y ≡ further xs y
        → name_or (names xs y) d ≡ raised_var (further xs y)
    by_test (yes e) rec = absurd (a.0 (sym e))
    by_test (no m) rec = ap raised_var rec

-- none of the binders' variables stands free in the formula
abbrev pub NoneFree : List Var → Formula → Type 0
NoneFree xs p = (y : Var) → FreeIn y p → Apart y xs

-- under one binder of a variable that isn't free, a formula is as it is under any
pub under-one : (r : Var) (p : Named) → NoneFree (r ∷ []) (nameless p)
    → walked (r ∷ []) p ≡ below (nameless p)
under-one r p new =
    walked-nameless p (r ∷ [])
    ∙ with-alike (nameless p) (naming (r ∷ [])) (λ y. variable (raised_var y))
    (λ y free. ap variable (outside (r ∷ []) y (new y free)))

module _ (x v : Var) (p : Formula) (q : Named) (is : nameless q ≡ formula_with
    (replacing x (variable v)) p)
  where
    -- under binders, with $v for x
    put-under : (xs : List Var) → walked xs q
        ≡ formula_with (then_with (replacing x (variable v)) (naming xs)) p
    put-under xs =
        walked-nameless q xs ∙ ap (formula_with (naming xs)) is
        ∙ formula-then p (replacing x (variable v)) (naming xs)

    pub put-in : var_sort v ≡ var_sort x → NoneFree (v ∷ []) p
        → walked (v ∷ []) q ≡ formula_with (closing x) p
    put-in sorts new =
        put-under (v ∷ [])
        ∙ with-alike p (then_with (replacing x (variable v)) (naming (v ∷ []))) (closing x)
        (λ y free. by_test y (new y free) (var_eq y x))
      where
        by_test : (y : Var) → Apart y (v ∷ []) → (d : Dec (y ≡ x))
            → term_with (naming (v ∷ [])) (replacing_at (variable v) d) ≡ closing_at d
        by_test y a (yes e) = placed 0 (v ∷ []) v (tt, tt) refl ∙ ap (λ s. variable (bound 0 s))
            sorts
        by_test y a (no n) = ap variable (outside (v ∷ []) y a)

    pub put-below : (m : Var) → (v ≡ m → ⊥) → var_sort v ≡ var_sort x → NoneFree (m ∷ v ∷ []) p
        → walked (m ∷ v ∷ []) q ≡ below (formula_with (closing x) p)
    put-below m differ sorts new =
        put-under (m ∷ v ∷ [])
        ∙ with-alike p (then_with (replacing x (variable v)) (naming (m ∷ v ∷ [])))
        (then_with (closing x) (λ y. variable (raised_var y)))
        (λ y free. by_test y (new y free) (var_eq y x))
        ∙ sym (formula-then p (closing x) (λ y. variable (raised_var y)))
      where
        by_test : (y : Var) → Apart y (m ∷ v ∷ []) → (d : Dec (y ≡ x))
            → term_with (naming (m ∷ v ∷ [])) (replacing_at (variable v) d)
            ≡ term_with (λ y. variable (raised_var y)) (closing_at d)
        by_test y a (yes e) = placed 1 (m ∷ v ∷ []) v ((differ, tt), (tt, tt)) refl
            ∙ ap (λ s. variable (bound 1 s)) sorts
        by_test y a (no n) = ap variable (outside (m ∷ v ∷ []) y a)
