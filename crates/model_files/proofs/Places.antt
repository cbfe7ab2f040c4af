-- A place without a fault passes the test of each kind, and the other way round; the same of lists
-- of places.
use Rattle.std.proofs.Common.{◌≡◌, ℕ, ◌∙◌, List, [], ◌∷◌, ◌++◌, Bool, true, false, not, cond, ◌&&◌, refl, Option, Some, None}
use Rattle.std.specs.List.{list_all, find}
use Rattle.model_shapes.proofs.Truth.{both_true}
use Rattle.model_files.specs.FileFaults.{FileKind, version_kind, twice_kind, unknown_kind, sort_kind, constant_kind, results_kind, scope_kind, rule_kind, number_kind, kinds, FileFault, first_kind, Place, fault_or, first_fault_at}

module _ (passes : FileKind → Bool) where
  -- tests none of which fails
  all-passed : (ks : List FileKind) → find (λ k. not (passes k)) ks ≡ None
      → list_all passes ks ≡ true
  all-passed [] e = refl
  all-passed (k ∷ ks) e = first (passes k) e (all-passed ks)
    where
      first : (b : Bool) → cond (not b) (Some k) (find (λ k. not (passes k)) ks) ≡ None
          → (find (λ k. not (passes k)) ks ≡ None → list_all passes ks ≡ true)
          → (b && list_all passes ks) ≡ true
      first true e rec = rec e
      first false e rec = absurd cc

  -- a place without a fault passes the test of each kind
  pub passes-each : first_kind passes ≡ None → (k : FileKind) → passes k ≡ true
  passes-each e =
      let a = both_true (passes version_kind) _ (all-passed kinds e) in
      let b = both_true (passes twice_kind) _ a.1 in
      let c = both_true (passes unknown_kind) _ b.1 in
      let d = both_true (passes sort_kind) _ c.1 in
      let f = both_true (passes constant_kind) _ d.1 in
      let g = both_true (passes results_kind) _ f.1 in
      let h = both_true (passes scope_kind) _ g.1 in
      let l = both_true (passes rule_kind) _ h.1 in
      let m = both_true (passes number_kind) true l.1 in
      λ k. elim k as (λ z. passes z ≡ true) [
        | version_kind ↦ a.0
        | twice_kind ↦ b.0
        | unknown_kind ↦ c.0
        | sort_kind ↦ d.0
        | constant_kind ↦ f.0
        | results_kind ↦ g.0
        | scope_kind ↦ h.0
        | rule_kind ↦ l.0
        | number_kind ↦ m.0
      ]

  none-fails : ((k : FileKind) → passes k ≡ true) → (ks : List FileKind)
      → find (λ k. not (passes k)) ks ≡ None
  none-fails h [] = refl
  none-fails h (k ∷ ks) =
      (λ j. cond (not (h k j)) (Some k) (find (λ k. not (passes k)) ks)) ∙ none-fails h ks

  -- one that passes each has no fault
  pub each-passes : ((k : FileKind) → passes k ≡ true) → first_kind passes ≡ None
  each-passes h = none-fails h kinds

-- a list of places without a fault
or-none : (place : Place) (o : Option FileKind) (later : Option FileFault)
    → fault_or place o later ≡ None → (o ≡ None) × (later ≡ None)
or-none place None later e = (refl, e)
or-none place (Some k) later e = absurd cc

pub first-none : (number at : ℕ) (passes : FileKind → Bool) (rest : List Place)
    → first_fault_at (record { procedure = number; step = at; passes = passes } ∷ rest) ≡ None
    → (first_kind passes ≡ None) × (first_fault_at rest ≡ None)
first-none number at passes rest e =
    or-none (record { procedure = number; step = at; passes = passes }) (first_kind passes)
    (first_fault_at rest) e

pub both-none : (xs ys : List Place) → first_fault_at (xs ++ ys) ≡ None
    → (first_fault_at xs ≡ None) × (first_fault_at ys ≡ None)
both-none [] ys e = (refl, e)
both-none (x ∷ xs) ys e =
    let h = first-none x.procedure x.step x.passes (xs ++ ys) e in
    let r = both-none xs ys h.1 in
    ((λ j. fault_or x (h.0 j) (r.0 j)), r.1)

-- and the other way round
pub none-first : (number at : ℕ) (passes : FileKind → Bool) (rest : List Place)
    → first_kind passes ≡ None → first_fault_at rest ≡ None
    → first_fault_at (record { procedure = number; step = at; passes = passes } ∷ rest) ≡ None
none-first number at passes rest e f =
    λ j. fault_or (record { procedure = number; step = at; passes = passes }) (e j) (f j)

pub none-both : (xs ys : List Place) → first_fault_at xs ≡ None → first_fault_at ys ≡ None
    → first_fault_at (xs ++ ys) ≡ None
none-both [] ys e f = f
none-both (x ∷ xs) ys e f =
    let h = first-none x.procedure x.step x.passes xs e in
    none-first x.procedure x.step x.passes (xs ++ ys) h.0 (none-both xs ys h.1 f)
