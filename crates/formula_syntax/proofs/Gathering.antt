-- How the list of the free variables is found step by step.
use Rattle.std.proofs.Common.{◌≡◌, refl, sym, ap, ◌∙◌, ℕ, Bool, true, false, not, cond, List, [], ◌∷◌, ◌++◌, map, ◌||◌, Some, None, bytes_eq}
use Rattle.std.specs.List.{list_any}
use Rattle.std.proofs.lemmas.List.Folds.{list_any-append}
use Rattle.std.proofs.lemmas.Slice.Eq.{bytes_eq-Decides}
use Rattle.std.proofs.lemmas.List.Elements.{filter-append}
use Rattle.model_terms.specs.VariableTests.{same_var, same_var-is}
use Rattle.model_terms.specs.Variables.{Var}
use Rattle.model_shapes.proofs.Tests.{bytes-refl}
use Rattle.model_shapes.proofs.Truth.{false≢true}
use Rattle.formula_syntax.specs.FreeVariables.{is_among, without}
use Rattle.formula_syntax.specs.Gathering.{outside, with_one, with_each, var_text, is_name_of, HasPlaces}
use Rattle.name_table.specs.Found.{found}
use Rattle.name_table.specs.declared.tables.NameTable.{NameTable}

-- binders leave of one list and another what they leave of each
pub outside-append : (xs ys zs : List Var)
    → outside xs (ys ++ zs) ≡ outside xs ys ++ outside xs zs
outside-append [] ys zs = refl
outside-append (x ∷ xs) ys zs =
    ap (outside xs) (filter-append (λ y. not (same_var y x)) ys zs)
    ∙ outside-append xs (without x ys) (without x zs)

each-append : (found xs ys : List Var)
    → with_each found (xs ++ ys) ≡ with_each (with_each found xs) ys
each-append found [] ys = refl
each-append found (x ∷ xs) ys = each-append (with_one found x) xs ys

-- one part behind another
pub parts-in-order : (found xs ys zs : List Var)
    → with_each found (outside xs (ys ++ zs))
    ≡ with_each (with_each found (outside xs ys)) (outside xs zs)
parts-in-order found xs ys zs =
    ap (with_each found) (outside-append xs ys zs)
    ∙ each-append found (outside xs ys) (outside xs zs)

-- binders leave nothing of nothing
pub outside-none : (xs : List Var) → outside xs [] ≡ []
outside-none [] = refl
outside-none (x ∷ xs) = outside-none xs

-- a variable that one of the binders binds
pub outside-bound : (x : Var) (xs : List Var) → is_among x xs ≡ true → outside xs (x ∷ []) ≡ []
outside-bound x [] e = false≢true e
outside-bound x (y ∷ ys) e = by_test (same_var x y) e (outside-bound x ys)
  where
    by_test : (b : Bool) → (b || is_among x ys) ≡ true
        → (is_among x ys ≡ true → outside ys (x ∷ []) ≡ [])
        → outside ys (cond (not b) (x ∷ []) []) ≡ []
    by_test true e f = outside-none ys
    by_test false e f = f e

-- and one that none of them does
pub outside-free : (x : Var) (xs : List Var) → is_among x xs ≡ false
    → outside xs (x ∷ []) ≡ x ∷ []
outside-free x [] e = refl
outside-free x (y ∷ ys) e = by_test (same_var x y) e (outside-free x ys)
  where
    by_test : (b : Bool) → (b || is_among x ys) ≡ false
        → (is_among x ys ≡ false → outside ys (x ∷ []) ≡ x ∷ [])
        → outside ys (cond (not b) (x ∷ []) []) ≡ x ∷ []
    by_test true e f = false≢true (sym e)
    by_test false e f = f e

-- a variable before a part
pub first-in-order : (found xs zs : List Var) (x : Var)
    → with_each found (outside xs (x ∷ zs))
    ≡ with_each (with_each found (outside xs (x ∷ []))) (outside xs zs)
first-in-order found xs zs x = parts-in-order found xs (x ∷ []) zs

-- a bound variable isn't put behind what was found
pub bound-left : (found xs : List Var) (x : Var) → is_among x xs ≡ true
    → with_each found (outside xs (x ∷ [])) ≡ found
bound-left found xs x e = ap (with_each found) (outside-bound x xs e)

-- a test of a list, and of what its items stand for
pub any-seen : {A B : Type 0} (f : A → B) (test : B → Bool) (xs : List A)
    → list_any test (map f xs) ≡ list_any (λ x. test (f x)) xs
any-seen f test [] = refl
any-seen f test (x ∷ xs) = ap (λ b. test (f x) || b) (any-seen f test xs)

-- nor is one that was found
pub found-left : (found xs : List Var) (x : Var) → is_among x xs ≡ false
    → is_among x found ≡ true → with_each found (outside xs (x ∷ [])) ≡ found
found-left found xs x e h =
    ap (with_each found) (outside-free x xs e)
    ∙ ap (λ b. cond b found (found ++ x ∷ [])) h

-- any other one is
pub new-put : (found xs : List Var) (x : Var)
    → is_among x xs ≡ false → is_among x found ≡ false
    → found ++ x ∷ [] ≡ with_each found (outside xs (x ∷ []))
new-put found xs x e h =
    sym (ap (with_each found) (outside-free x xs e)
    ∙ ap (λ b. cond b found (found ++ x ∷ [])) h)

pub ruleset step_rules = (parts-in-order, first-in-order, outside-none)

pub ruleset variable_rules = (bound-left, found-left, new-put)

-- NAMES
-- variables of two names are two
apart : (x y : Var) → bytes_eq (var_text x) (var_text y) ≡ false → same_var x y ≡ false
apart x y e = by_test (same_var x y) refl
  where
    by_test : (b : Bool) → same_var x y ≡ b → same_var x y ≡ false
    by_test true same =
        false≢true (sym e
        ∙ ap (λ z. bytes_eq (var_text x) (var_text z)) (sym (same_var-is x y same))
        ∙ bytes-refl (var_text x))
    by_test false same = same

-- where none has the name of a variable, the variable is none of them
pub not_among : (x : Var) (xs : List Var) → is_name_of (var_text x) xs ≡ false
    → is_among x xs ≡ false
not_among x [] e = refl
not_among x (y ∷ ys) e =
    by_test (bytes_eq (var_text x) (var_text y)) refl e (not_among x ys)
  where
    by_test : (b : Bool) → bytes_eq (var_text x) (var_text y) ≡ b
        → (b || is_name_of (var_text x) ys) ≡ false
        → (is_name_of (var_text x) ys ≡ false → is_among x ys ≡ false)
        → (same_var x y || is_among x ys) ≡ false
    by_test true is f others = false≢true (sym f)
    by_test false is f others = ap (λ b. b || is_among x ys) (apart x y is) ∙ others f

-- one more variable, whose name the table has
pub places_kept : (old new : NameTable ℕ) (xs : List Var) (text : List ℕ) (place : ℕ)
    → HasPlaces old xs
    → ((q : List ℕ) → found new q ≡ cond (bytes_eq q text) (Some place) (found old q))
    → HasPlaces new xs
places_kept old new xs text place has after q none =
    by_test (bytes_eq q text) (sym (after q) ∙ none)
  where
    by_test : (b : Bool) → cond b (Some place) (found old q) ≡ None → is_name_of q xs ≡ false
    by_test true e = absurd (cc)
    by_test false e = has q e

pub places_more : (table : NameTable ℕ) (xs : List Var) (x : Var) → HasPlaces table xs
    → (found table (var_text x) ≡ None → ⊥) → HasPlaces table (xs ++ x ∷ [])
places_more table xs x has there q none = list_any-append (λ y. bytes_eq q (var_text y)) xs (x ∷ [])
    ∙ ap (λ b. b || (bytes_eq q (var_text x) || false)) (has q none)
    ∙ by_test (bytes_eq q (var_text x)) refl
  where
    by_test : (b : Bool) → bytes_eq q (var_text x) ≡ b → (b || false) ≡ false
    by_test true e =
        absurd (there (ap (found table) (sym ((bytes_eq-Decides q (var_text x)).0 e)) ∙ none))
    by_test false e = refl
