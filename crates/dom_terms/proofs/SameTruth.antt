-- Tests that are true together.
use Rattle.std.proofs.Common.{◌≡◌, Bool, true, false, refl, sym}

-- two tests that are true together are the same
pub same_truth : (a b : Bool) → (a ≡ true → b ≡ true) → (b ≡ true → a ≡ true) → a ≡ b
same_truth true b to from = sym (to refl)
same_truth false true to from = from refl
same_truth false false to from = refl
