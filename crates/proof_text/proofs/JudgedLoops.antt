-- Tests that are told where they pass; where not, it isn't known: two of them, and those of items.
use Rattle.std.proofs.Common.{◌≡◌, ◌∙◌, sym, refl, ap, List, [], ◌∷◌, ◌++◌, Bool, true, false, ◌&&◌}
use Rattle.std.proofs.lemmas.Bool.{OnTrue_at, OnTrue_from}
use Rattle.std.proofs.lemmas.List.Folds.{list_all-append}
use Rattle.std.specs.Bool.{OnTrue}
use Rattle.std.specs.List.{list_all}

-- one item more of which it is told
pub one_judged : {Y : Type 0} (p : Y → Bool) (items : List Y) (item : Y) (told more both : Bool)
    (all : List Y) → both ≡ (told && more) → all ≡ items ++ item ∷ []
    → OnTrue told (list_all p items ≡ true) → OnTrue more (p item ≡ true)
    → OnTrue both (list_all p all ≡ true)
one_judged p items item true true both all e same before now =
    OnTrue_from both _ (λ h. ap (list_all p) same ∙ list_all-append p items (item ∷ [])
    ∙ (λ j. OnTrue_at refl before j && (OnTrue_at refl now j && true)))
one_judged p items item true false both all e same before now =
    OnTrue_from both _ (λ h. let no : false ≡ true = sym e ∙ h in absurd cc)
one_judged p items item false more both all e same before now =
    OnTrue_from both _ (λ h. let no : false ≡ true = sym e ∙ h in absurd cc)

-- two tests of which it is told
pub both_judged : (first second told more both : Bool) → both ≡ (told && more)
    → OnTrue told (first ≡ true) → OnTrue more (second ≡ true)
    → OnTrue both ((first && second) ≡ true)
both_judged first second true true both e before now =
    OnTrue_from both _ (λ h. (λ j. OnTrue_at refl before j && OnTrue_at refl now j))
both_judged first second true false both e before now =
    OnTrue_from both _ (λ h. let no : false ≡ true = sym e ∙ h in absurd cc)
both_judged first second false more both e before now =
    OnTrue_from both _ (λ h. let no : false ≡ true = sym e ∙ h in absurd cc)
