-- What the tests of file faults say of variables among others.
use Rattle.std.proofs.Common.{◌≡◌, ◌∙◌, List, [], ◌∷◌, ◌++◌, Bool, true, sym, subst, inl, inr}
use Rattle.std.specs.List.{list_all}
use Rattle.std.proofs.lemmas.List.Folds.{list_any-append}
use Rattle.model_shapes.proofs.Truth.{both_true}
use Rattle.model_terms.specs.VariableTests.{same_var}
use Rattle.model_terms.specs.Variables.{Var}
use Rattle.model_terms.specs.Stores.{ProgVar, as_var}
use Rattle.model_commands.specs.Commands.{Among}
use Rattle.model_commands.specs.SortTests.{stands_in}
use Rattle.model_commands.proofs.Sorting.{left-true, right-true}

-- a variable that stands in one of two lists
pub stands-left : (xs ys : List Var) (x : ProgVar) → stands_in xs x ≡ true
    → stands_in (xs ++ ys) x ≡ true
stands-left xs ys x e =
    list_any-append (same_var (as_var x)) xs ys ∙ left-true (stands_in xs x) (stands_in ys x) e

-- in the second
pub stands-right : (xs ys : List Var) (x : ProgVar) → stands_in ys x ≡ true
    → stands_in (xs ++ ys) x ≡ true
stands-right xs ys x e =
    list_any-append (same_var (as_var x)) xs ys ∙ right-true (stands_in xs x) (stands_in ys x) e

-- what a test of each says of one
pub each-among : (p : ProgVar → Bool) (xs : List ProgVar) → list_all p xs ≡ true → (x : ProgVar)
    → Among xs x → p x ≡ true
each-among p [] e x m = absurd m
each-among p (y ∷ ys) e x (inl q) =
    subst (λ z. p z ≡ true) (sym q) (both_true (p y) (list_all p ys) e).0
each-among p (y ∷ ys) e x (inr m) =
    each-among p ys (both_true (p y) (list_all p ys) e).1 x m
