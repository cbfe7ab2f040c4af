-- The list of the free variables: what is found from nothing, and what stands free in the nameless
-- form.
use Rattle.std.proofs.Common.{◌≡◌, refl, sym, ap, ◌∙◌, Bool, true, false, not, cond, List, [], ◌∷◌, ◌++◌, append_assoc, append-nil, ◌||◌}
use Rattle.std.specs.List.{filter}
use Rattle.std.proofs.lemmas.List.Folds.{list_any-append}
use Rattle.model_terms.specs.Variables.{Var}
use Rattle.model_terms.specs.VariableTests.{same_var-is, same_var}
use Rattle.formula_syntax.specs.FreeVariables.{is_among, without, each_once}
use Rattle.formula_syntax.specs.Gathering.{with_each}

-- two filters in either order
filter-pass : (f : Var → Bool) (x : Var) (xs : List Var) → f x ≡ true
    → filter f (x ∷ xs) ≡ x ∷ filter f xs
filter-pass f x xs e = ap (λ b. cond b (x ∷ filter f xs) (filter f xs)) e

filter-fail : (f : Var → Bool) (x : Var) (xs : List Var) → f x ≡ false
    → filter f (x ∷ xs) ≡ filter f xs
filter-fail f x xs e = ap (λ b. cond b (x ∷ filter f xs) (filter f xs)) e

filters-turned : (f g : Var → Bool) (xs : List Var) → filter f (filter g xs)
    ≡ filter g (filter f xs)
filters-turned f g [] = refl
filters-turned f g (x ∷ xs) = by_test (f x) (g x) refl refl (filters-turned f g xs)
  where
    by_test : (b c : Bool) → f x ≡ b → g x ≡ c → filter f (filter g xs) ≡ filter g (filter f xs)
        → filter f (cond c (x ∷ filter g xs) (filter g xs))
        ≡ filter g (cond b (x ∷ filter f xs) (filter f xs))
    by_test true true d e h =
        filter-pass f x (filter g xs) d ∙ ap (λ ys. x ∷ ys) h
        ∙ sym (filter-pass g x (filter f xs) e)
    by_test true false d e h = h ∙ sym (filter-fail g x (filter f xs) e)
    by_test false true d e h = filter-fail f x (filter g xs) d ∙ h
    by_test false false d e h = h

-- a filter leaves each once of what it leaves
filter-once : (f : Var → Bool) (xs : List Var) → each_once (filter f xs) ≡ filter f (each_once xs)
filter-once f [] = refl
filter-once f (x ∷ xs) = by_test (f x) refl (filter-once f xs)
  where
    dropped_first : (y : Var) (ys : List Var) (b : Bool) → same_var y x ≡ b → f x ≡ false
        → filter f ys ≡ filter f (without x ys)
        → filter f (y ∷ ys) ≡ filter f (cond (not b) (y ∷ without x ys) (without x ys))
    dropped_first y ys true s e h =
        filter-fail f y ys (ap f (same_var-is y x s) ∙ e) ∙ h
    dropped_first y ys false s e h = ap (λ zs. cond (f y) (y ∷ zs) zs) h

    dropped : f x ≡ false → (ys : List Var) → filter f ys ≡ filter f (without x ys)
    dropped e [] = refl
    dropped e (y ∷ ys) = dropped_first y ys (same_var y x) refl e (dropped e ys)

    by_test : (b : Bool) → f x ≡ b → each_once (filter f xs) ≡ filter f (each_once xs)
        → each_once (cond b (x ∷ filter f xs) (filter f xs))
        ≡ cond b (x ∷ filter f (without x (each_once xs))) (filter f (without x (each_once xs)))
    by_test true e h =
        ap (λ ys. x ∷ ys) (ap (without x) h
        ∙ filters-turned (λ y. not (same_var y x)) f (each_once xs))
    by_test false e h = h ∙ dropped e (each_once xs)

-- those that weren't found yet
abbrev rest : List Var → List Var → List Var
rest found xs = filter (λ y. not (is_among y found)) xs

rest-one : (found xs : List Var) (x : Var) → rest (found ++ x ∷ []) xs ≡ without x (rest found xs)
rest-one found [] x = refl
rest-one found (y ∷ ys) x = by_test (is_among y found) (same_var y x) refl refl
    (rest-one found ys x)
  where
    by_test : (b c : Bool) → is_among y found ≡ b → same_var y x ≡ c
        → rest (found ++ x ∷ []) ys ≡ without x (rest found ys)
        → rest (found ++ x ∷ []) (y ∷ ys)
        ≡ without x (cond (not b) (y ∷ rest found ys) (rest found ys))
    by_test b c d e h =
        ap (λ a. cond (not a) (y ∷ rest (found ++ x ∷ []) ys) (rest (found ++ x ∷ []) ys))
        (list_any-append (same_var y) found (x ∷ []) ∙ (λ i. d i || (e i || false)))
        ∙ step b c e h
      where
        step : (b c : Bool) → same_var y x ≡ c
            → rest (found ++ x ∷ []) ys ≡ without x (rest found ys)
            → cond (not (b || (c || false))) (y ∷ rest (found ++ x ∷ []) ys)
            (rest (found ++ x ∷ []) ys)
            ≡ without x (cond (not b) (y ∷ rest found ys) (rest found ys))
        step true c e h = h
        step false true e h =
            h ∙ sym (filter-fail (λ z. not (same_var z x)) y (rest found ys) (ap not e))
        step false false e h =
            ap (λ zs. y ∷ zs) h
            ∙ sym (filter-pass (λ z. not (same_var z x)) y (rest found ys) (ap not e))

each-rest : (xs found : List Var) → with_each found xs ≡ found ++ each_once (rest found xs)
each-rest [] found = sym (append-nil found)
each-rest (x ∷ xs) found = by_test (is_among x found) (each-rest xs)
  where
    by_test : (b : Bool) → ((ys : List Var) → with_each ys xs ≡ ys ++ each_once (rest ys xs))
        → with_each (cond b found (found ++ x ∷ [])) xs
        ≡ found ++ each_once (cond (not b) (x ∷ rest found xs) (rest found xs))
    by_test true h = h found
    by_test false h =
        h (found ++ x ∷ []) ∙ append_assoc found (x ∷ []) (each_once (rest (found ++ x ∷ []) xs))
        ∙ ap (λ zs. found ++ x ∷ zs) (ap each_once (rest-one found xs x)
        ∙ filter-once (λ y. not (same_var y x)) (rest found xs))

rest-none : (xs : List Var) → rest [] xs ≡ xs
rest-none [] = refl
rest-none (x ∷ xs) = ap (λ ys. x ∷ ys) (rest-none xs)

-- what is found from nothing is each once
pub found-from-none : (xs : List Var) → with_each [] xs ≡ each_once xs
found-from-none xs = each-rest xs [] ∙ ap each_once (rest-none xs)

pub ruleset order_rules = (found-from-none)
