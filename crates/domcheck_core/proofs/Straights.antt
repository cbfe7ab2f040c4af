-- Straight-line commands, by their first part that isn't.
use Rattle.std.proofs.Common.{◌≡◌, ℕ, ◌+◌, Bool, true, false, cond, List, [], ◌∷◌, map, Some, None, refl}
use Rattle.std.specs.Prelude.{not, ◌&&◌}
use Rattle.std.specs.List.{find, list_all, position_from}
use Rattle.model_commands.specs.Commands.{Command}
use Rattle.model_commands.specs.CommandParts.{commands_in}
use Rattle.model_weakest.specs.Straight.{goes_straight, is_straight, first_not_straight, place_not_straight}

module _ {A : Type 0} (test : A → Bool) where
  -- where each passes, none is the first that doesn't
  none-fails : (xs : List A) → list_all test xs ≡ true → find (λ x. not (test x)) xs ≡ None
  none-fails [] e = refl
  none-fails (x ∷ xs) e = first (test x) e (none-fails xs)
    where
      first : (b : Bool) → (b && list_all test xs) ≡ true
          → (list_all test xs ≡ true → find (λ x. not (test x)) xs ≡ None)
          → cond (not b) (Some x) (find (λ x. not (test x)) xs) ≡ None
      first true e later = later e
      first false e later = absurd cc

  -- and the other way round
  all-pass : (xs : List A) → find (λ x. not (test x)) xs ≡ None → list_all test xs ≡ true
  all-pass [] e = refl
  all-pass (x ∷ xs) e = first (test x) e (all-pass xs)
    where
      first : (b : Bool) → cond (not b) (Some x) (find (λ x. not (test x)) xs) ≡ None
          → (find (λ x. not (test x)) xs ≡ None → list_all test xs ≡ true)
          → (b && list_all test xs) ≡ true
      first true e later = later e
      first false e later = absurd cc

  -- where none is the first, none has its place
  no-place : (xs : List A) (n : ℕ) → find (λ x. not (test x)) xs ≡ None
      → position_from not n (map test xs) ≡ None
  no-place [] n e = refl
  no-place (x ∷ xs) n e = first (test x) e (no-place xs (n + 1))
    where
      first : (b : Bool) → cond (not b) (Some x) (find (λ x. not (test x)) xs) ≡ None
          → (find (λ x. not (test x)) xs ≡ None
          → position_from not (n + 1) (map test xs) ≡ None)
          → cond (not b) (Some n) (position_from not (n + 1) (map test xs)) ≡ None
      first true e later = later e
      first false e later = absurd cc

-- a straight-line command has no first part that isn't
pub none-first : (c : Command) → is_straight c ≡ true → first_not_straight c ≡ None
none-first c = none-fails goes_straight (commands_in c)

pub straight-if-none : (c : Command) → first_not_straight c ≡ None → is_straight c ≡ true
straight-if-none c = all-pass goes_straight (commands_in c)

-- one with the place of such a part has one
pub some-first : (c : Command) (part : ℕ) → place_not_straight c ≡ Some part
    → first_not_straight c ≡ None → ⊥
some-first c part e none =
    let no : place_not_straight c ≡ None = no-place goes_straight (commands_in c) 0 none in cc
