-- Flags of which none fails: those of two formulas, and those of a formula behind its own.
use Rattle.std.proofs.Common.{◌≡◌, ◌∙◌, ap, ◌+◌, Bool, true, not, List, ◌∷◌, ◌++◌, length, drop, refl, Option, Some, None, is_none}
use Rattle.std.specs.List.{position_from}
use Rattle.std.specs.Option.{option_or}
use Rattle.model_formulas.proofs.FaultPlaces.{place-append, none-anywhere}
use Rattle.declared_sorts.specs.Judged.{none_fails}

none_is : {X : Type 0} (o : Option X) → is_none o ≡ true → o ≡ None
none_is None e = refl
none_is (Some x) e = absurd cc

-- of two lists, one behind the other
pub two_fit : (xs ys : List Bool) → none_fails xs ≡ true → none_fails ys ≡ true
    → none_fails (xs ++ ys) ≡ true
two_fit xs ys e f =
    let first = none_is (position_from not 0 xs) e in
    let second = none_is (position_from not 0 ys) f in
    ap is_none (place-append xs ys 0
    ∙ (λ j. option_or (first j) (position_from not (0 + length xs) ys))
    ∙ none-anywhere ys 0 (0 + length xs) second)

-- one more before those that follow it
pub one_fits : (xs : List Bool) (first : Bool) → xs ≡ first ∷ drop 1 xs → first ≡ true
    → none_fails (drop 1 xs) ≡ true → none_fails xs ≡ true
one_fits xs first same fits e =
    let later = none_is (position_from not 0 (drop 1 xs)) e in
    ap none_fails (same ∙ ap (λ b. b ∷ drop 1 xs) fits)
    ∙ ap is_none (none-anywhere (drop 1 xs) 0 1 later)

pub ruleset judged_rules = (two_fit, one_fits)
