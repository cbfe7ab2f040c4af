-- What is left of a list in a loop over its items.
use Rattle.std.proofs.Common.{◌≡◌, ℕ, ◌+◌, ◌<◌, List, ◌∷◌, length, get_or, drop, sym, ap, ◌∙◌, add-one}
use Rattle.std.proofs.Math.Seq.{drop-cons}

-- the item of this turn and those of the later ones
pub drop_item : {A : Type 0} (items : List A) (i : ℕ) (item : A) → i < length items
    → item ≡ get_or items i item → drop i items ≡ item ∷ drop (i + 1) items
drop_item {A} items i item lt is =
    drop-cons items i item lt ∙ ap (λ (k : ℕ). get_or items i item ∷ drop k items)
    (sym (add-one i)) ∙ ap (λ (z : A). z ∷ drop (i + 1) items) (sym is)
