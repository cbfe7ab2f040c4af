-- Tests of parts: each says yes where none is the first that says no.
use Rattle.std.proofs.Common.{◌≡◌, ◌∙◌, ℕ, Bool, true, false, not, List, [], ◌∷◌, ◌++◌, refl, sym, is_none}
use Rattle.std.specs.List.{list_all, position_from}
use Rattle.std.proofs.lemmas.List.Folds.{list_all-append}
use Rattle.model_shapes.proofs.Truth.{both_true}

abbrev pub AllPass : List Bool → Type 0
AllPass flags = list_all (λ flag. flag) flags ≡ true

pub all-flags : (xs : List Bool) (n : ℕ) → is_none (position_from not n xs) ≡ true → AllPass xs
all-flags [] n e = refl
all-flags (true ∷ xs) n e = all-flags xs _ e
all-flags (false ∷ xs) n e = absurd cc

pub passes-parts : {A : Type 0} (test : A → Bool) (xs ys : List A) → list_all test (xs ++ ys) ≡ true
    → (list_all test xs ≡ true) × (list_all test ys ≡ true)
passes-parts test xs ys e = both_true _ _ (sym (list_all-append test xs ys) ∙ e)
