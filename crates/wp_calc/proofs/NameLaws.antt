-- Names of the new variables.
use Rattle.std.proofs.Common.{◌≡◌, ◌∙◌, ap, sym, ℕ, ◌≤◌, List, [], length, drop, Some, None}
use Rattle.std.proofs.lemmas.List.{drop-map, drop_all}
use Rattle.std.specs.Prelude.{slice_get}
use Rattle.std.proofs.lemmas.Option.{slice_get-map}
use Rattle.model_weakest.specs.Written.{at, or_empty}
use Rattle.dom_terms.specs.declared.terms.LogicVar.{LogicVar}
use Rattle.wp_calc.specs.Rows.{names_in}

pub name-there : (xs : List LogicVar) (n : ℕ) (x : LogicVar) → slice_get xs n ≡ Some x
    → at (names_in xs) n ≡ x.name
name-there xs n x e =
    ap or_empty (slice_get-map (λ (y : LogicVar). y.name) xs n)
    ∙ ap (λ o. or_empty (elim o [ Some y ↦ Some y.name | None ↦ None ])) e

-- those behind the first ones
pub names-behind : (n : ℕ) (xs : List LogicVar) → names_in (drop n xs) ≡ drop n (names_in xs)
names-behind n xs = sym (drop-map (λ (y : LogicVar). y.name) n xs)

pub none-behind : (n : ℕ) (xs : List LogicVar) → length xs ≤ n → drop n xs ≡ []
none-behind n xs h = drop_all n xs h

pub ruleset name_rules = (name-there)

pub ruleset drop_rules = (names-behind, none-behind)
