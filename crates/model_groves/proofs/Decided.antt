-- What the answer of a decision says of the fact that it decides.
use Rattle.std.proofs.Common.{◌≡◌, true, false, refl}
use Rattle.model_groves.specs.Groves.{is_yes}

-- a decision that says yes
pub is-yes : {A : Type 0} (d : Dec A) → is_yes d ≡ true → A
is-yes (yes a) e = a
is-yes (no n) e = absurd (cc)

-- and one of a fact that holds
pub yes-is : {A : Type 0} (d : Dec A) → A → is_yes d ≡ true
yes-is (yes a) x = refl
yes-is (no n) x = absurd (n x)

-- a decision that says no
pub no-is : {A : Type 0} (d : Dec A) → is_yes d ≡ false → A → ⊥
no-is (yes a) e x = absurd (cc)
no-is (no n) e x = n x
