-- Loops over items that get their sorts, each of which tells whether its variables are settled.
use Rattle.std.proofs.Common.{◌≡◌, ◌∙◌, sym, refl, ap, ℕ, ◌+◌, ◌<◌, ◌≤◌, List, [], ◌∷◌, ◌++◌, length, map, take, Bool, true, false, ◌&&◌, append_assoc}
use Rattle.std.proofs.Math.Bool.{and-true}
use Rattle.std.proofs.Math.ListN.{set}
use Rattle.std.proofs.lemmas.List.{map-append, take_all, take_more_set}
use Rattle.std.proofs.lemmas.List.Folds.{list_all-append}
use Rattle.std.specs.List.{flat_map, list_all}
use Rattle.model_terms.specs.Variables.{Var}

-- one item more that is told of, after it was changed
pub one_told : {X Y : Type 0} (view : X → Y) (p : Y → Bool) (items : List X) (i : ℕ) (item : X)
    (told more : Bool) → i < length items
    → told ≡ list_all p (map view (take i items)) → more ≡ p (view item)
    → (told && more) ≡ list_all p (map view (take (i + 1) (set items i item)))
one_told view p items i item told more lt before now =
    (λ j. before j && now j)
    ∙ (λ j. list_all p (map view (take i items)) && sym (and-true (p (view item))) j)
    ∙ sym (list_all-append p (map view (take i items)) (view item ∷ []))
    ∙ ap (list_all p) (sym (map-append view (take i items) (item ∷ [])))
    ∙ ap (λ z. list_all p (map view z)) (sym (take_more_set items i item lt))

-- a test of each variable of some data, item by item
pub each_item : {Y : Type 0} (p : Var → Bool) (parts : Y → List Var) (ys : List Y)
    → list_all (λ y. list_all p (parts y)) ys ≡ list_all p (flat_map parts ys)
each_item p parts [] = refl
each_item p parts (y ∷ ys) =
    (λ j. list_all p (parts y) && each_item p parts ys j)
    ∙ sym (list_all-append p (parts y) (flat_map parts ys))

-- a test of each of three lists, of which it is told for the first two together
pub last_behind : (p : Var → Bool) (xs ys zs : List Var)
    → list_all p (xs ++ (ys ++ zs)) ≡ (list_all p (xs ++ ys) && list_all p zs)
last_behind p xs ys zs =
    ap (list_all p) (sym (append_assoc xs ys zs)) ∙ list_all-append p (xs ++ ys) zs

-- two tests, of which the second is told only where the first passes
pub then_both : (told more both : Bool) → told ≡ true → both ≡ more → both ≡ (told && more)
then_both told more both e f = f ∙ (λ j. sym e j && more)

pub else_both : (told more both : Bool) → told ≡ false → both ≡ told → both ≡ (told && more)
else_both told more both e f = f ∙ e ∙ (λ j. sym e j && more)

-- all items are told of
pub all_told : {X Y : Type 0} (view : X → Y) (p : Y → Bool) (items : List X) (i : ℕ) (told : Bool)
    → length items ≤ i → told ≡ list_all p (map view (take i items))
    → told ≡ list_all p (map view items)
all_told view p items i told le e = e ∙ ap (λ z. list_all p (map view z)) (take_all i items le)
