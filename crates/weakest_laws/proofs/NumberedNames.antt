-- The names with numbers that a formula is written with: none is declared, and they differ where
-- their numbers are so small that each is written with all its digits.
use Rattle.std.proofs.Common.{◌≡◌, ℕ, zero, suc, ◌+◌, ◌^◌, ◌<◌, ◌≤◌, List, [], ◌∷◌, Bool, true, false, ◌||◌, decimal, length, refl, sym, ap, ◌∙◌, arith}
use Rattle.std.proofs.lemmas.Fmt.{decimal_injective}
use Rattle.model_shapes.specs.Values.{Name}
use Rattle.model_shapes.proofs.Tests.{bytes-is}
use Rattle.model_shapes.proofs.Truth.{false≢true}
use Rattle.model_terms.specs.Variables.{Var, prog, logic, bound}
use Rattle.model_formulas.specs.Formulas.{Named}
use Rattle.model_weakest.specs.Written.{numbered, has_name, is_declared, AreNew, no_more, passed, next, at, AreNamed}
use Rattle.weakest_laws.proofs.Avoiding.{named-avoids}
use Rattle.weakest_laws.proofs.NewNames.{Distinct}
use Rattle.weakest_laws.proofs.WrittenCommands.{Left}

-- numbers below this are written with all their digits
abbrev most : ℕ
most = 2 ^ 64

numbered-is : (i j : ℕ) → i < most → j < most → numbered i ≡ numbered j → i ≡ j
numbered-is i j low high e =
    let digits : decimal i ≡ decimal j = cc in decimal_injective i j low high digits

-- DECLARED VARIABLES without the first of a name: one fewer, and those of other names stay
record Without (name : Name) (xs : List Var) : Type 0 where
  rest : List Var
  fewer : length xs ≡ suc (length rest)
  stays : (other : Name) → (name ≡ other → ⊥) → is_declared xs other ≡ true
      → is_declared rest other ≡ true

same-name : (name other : Name) (x : Var) → has_name name x ≡ true → has_name other x ≡ true
    → name ≡ other
same-name name other (logic m s) h k = bytes-is name m h ∙ sym (bytes-is other m k)
same-name name other (prog m s) h k = false≢true h
same-name name other (bound i s) h k = false≢true h

behind : (name other : Name) (x : Var) (xs : List Var) → has_name name x ≡ true
    → (name ≡ other → ⊥) → (b : Bool) → has_name other x ≡ b
    → (b || is_declared xs other) ≡ true → is_declared xs other ≡ true
behind name other x xs h differ true e k = absurd (differ (same-name name other x h e))
behind name other x xs h differ false e k = k

without : (name : Name) (xs : List Var) → is_declared xs name ≡ true → Without name xs
without name [] h = false≢true h
without name (x ∷ xs) h = by_test (has_name name x) refl h (without name xs)
  where
    first_or : (b : Bool) (others rest : Bool) → (others ≡ true → rest ≡ true)
        → (b || others) ≡ true → (b || rest) ≡ true
    first_or true others rest f k = refl
    first_or false others rest f k = f k

    by_test : (b : Bool) → has_name name x ≡ b → (b || is_declared xs name) ≡ true
        → (is_declared xs name ≡ true → Without name xs) → Without name (x ∷ xs)
    by_test true e k rec = record {
      rest = xs;
      fewer = refl;
      stays = λ other differ. behind name other x xs e differ (has_name other x) refl;
    }
    by_test false e k rec = let r : Without name xs = rec k in record {
      rest = x ∷ r.rest;
      fewer = ap suc r.fewer;
      stays = λ other differ. first_or (has_name other x) (is_declared xs other)
          (is_declared r.rest other) (r.stays other differ);
    }

module _ (declared : List Var) where
  -- no name of the list is declared
  pub undeclared : {n : ℕ} {names : List Name} → AreNew declared n names → (k : ℕ)
      → k < length names → is_declared declared (at names k) ≡ false
  undeclared (no_more n) k high = absurd (omega (arith, high))
  undeclared (passed n names is rest) k high = undeclared rest k high
  undeclared (next n names new rest) zero high = new
  undeclared (next n names new rest) (suc k) high = undeclared rest k (omega (arith, high))

  -- a name of the list with its number
  record Numbered (n : ℕ) (names : List Name) (k : ℕ) : Type 0 where
    number : ℕ
    low : n ≤ number
    high : number < most
    is : at names k ≡ numbered number

  -- among these are the declared variables that have a number from this one on
  abbrev Covers : ℕ → List Var → Type 0
  Covers n xs =
      (j : ℕ) → n ≤ j → j < most → is_declared declared (numbered j) ≡ true
      → is_declared xs (numbered j) ≡ true

  further : (n : ℕ) (xs : List Var) → Covers n xs → Covers (suc n) xs
  further n xs c j low = c j (omega (arith, low))

  one-less : (n : ℕ) (xs : List Var) → n < most → Covers n xs
      → (w : Without (numbered n) xs) → Covers (suc n) w.rest
  one-less n xs small c w j low high is =
      w.stays (numbered j)
      (λ e. let same : n ≡ j = numbered-is n j small high e in absurd (omega (arith, low, same)))
      (c j (omega (arith, low)) high is)

  numbers : {n : ℕ} {names : List Name} → AreNew declared n names → (xs : List Var)
      → Covers n xs → n + length xs + length names ≤ most → (k : ℕ) → k < length names
      → Numbered n names k
  numbers (no_more n) xs c small k high = absurd (omega (arith, high))
  numbers (next n names new rest) xs c small zero high =
      record { number = n; low = omega arith; high = omega (arith, small); is = refl }
  numbers (next n names new rest) xs c small (suc k) high =
      let r = numbers rest xs (further n xs c) (omega (arith, small)) k (omega (arith, high)) in
      record { number = r.number; low = omega (arith, r.low); high = r.high; is = r.is }
  numbers (passed n names is rest) xs c small k high =
      let room : n < most = omega (arith, small, high) in
      let w : Without (numbered n) xs = without (numbered n) xs (c n (omega arith) room is) in
      let r = numbers rest w.rest (one-less n xs room c w) (omega (arith, small, w.fewer)) k high in
      record { number = r.number; low = omega (arith, r.low); high = r.high; is = r.is }

  -- no two of the names are equal
  distinct-from : {n : ℕ} {names : List Name} → AreNew declared n names → (xs : List Var)
      → Covers n xs → n + length xs + length names ≤ most → Distinct names
  distinct-from (no_more n) xs c small i j less high e = omega (arith, high)
  distinct-from (passed n names is rest) xs c small i j less high e =
      let room : n < most = omega (arith, small, high, less) in
      let w : Without (numbered n) xs = without (numbered n) xs (c n (omega arith) room is) in
      distinct-from rest w.rest (one-less n xs room c w) (omega (arith, small, w.fewer)) i j less
      high e
  distinct-from (next n names new rest) xs c small i zero less high e = omega (arith, less)
  distinct-from (next n names new rest) xs c small zero (suc j) less high e =
      let r = numbers rest xs (further n xs c) (omega (arith, small)) j (omega (arith, high)) in
      let same : n ≡ r.number = numbered-is n r.number (omega (arith, small)) r.high (e ∙ r.is) in
      omega (arith, same, r.low)
  distinct-from (next n names new rest) xs c small (suc i) (suc j) less high e =
      distinct-from rest xs (further n xs c) (omega (arith, small)) i j (omega (arith, less))
      (omega (arith, high)) e

  pub new-distinct : (n : ℕ) (names : List Name) → AreNew declared n names
      → n + length declared + length names ≤ 2 ^ 64 → Distinct names
  new-distinct n names new small = distinct-from new declared (λ j low high is. is) small

  -- what is asked for avoids them
  pub new-avoided : (n : ℕ) (names : List Name) → AreNew declared n names → (q : Named)
      → AreNamed declared q → Left names 0 q
  new-avoided n names new q are k low high =
      named-avoids declared (at names k) (undeclared new k high) q are.known are.quantified
