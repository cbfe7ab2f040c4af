-- What holds of a result.
use Rattle.std.proofs.Common.{◌≡◌, ℕ, sym, subst, Result, Ok, Err, IfOk}

-- of a number that is known
pub if_ok_same : {E : Type 0} (r : Result ℕ E) (i : ℕ) → IfOk r (λ n. n ≡ i) → (P : ℕ → Type 0)
    → P i → IfOk r P
if_ok_same (Ok n) i e P p = subst P (sym e) p
if_ok_same (Err f) i e P p = tt
