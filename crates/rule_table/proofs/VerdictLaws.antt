-- A step has at most one verdict, where the names of a rule's conditions are fixed.
use Rattle.std.proofs.Common.{◌≡◌, ◌⊎◌, ℕ, zero, suc, ◌≤◌, ◌<◌, List, [], ◌∷◌, map, Option, Some, None, refl, sym, ap, ◌∙◌, arith, inl, inr, ⊎_elim}
use Rattle.rule_table.specs.Letters.{Letters}
use Rattle.rule_table.specs.Lines.{Line}
use Rattle.rule_table.specs.Conditions.{Condition}
use Rattle.rule_table.specs.Entries.{Row}
use Rattle.rule_table.specs.Verdicts.{Written, AllHold, first, Concludes, Follows, MeetsFirst, MeetsAll, SomeLine, side_at, Verdict, instance_verdict, shape_verdict, premises_verdict, side_verdict, IsInstance, IsVerdict}
use Rattle.rule_table.specs.Conditions.{SideName, side_of}

-- SOME LINE
some-map : (rows : List Row) (P Q : Line → Type 0) → ((line : Line) → P line → Q line)
    → SomeLine rows P → SomeLine rows Q
some-map [] P Q f m = m
some-map (row ∷ rows) P Q f m =
    ⊎_elim (λ x. inl (x.0, f (row x.0) x.1)) (λ y. inr (some-map rows P Q f y)) m

-- all conditions, or more of them, hold with the first n
all-first : (n : ℕ) (cs : List Condition) → AllHold cs → AllHold (first n cs)
all-first zero cs h = tt
all-first (suc n) [] h = tt
all-first (suc n) (c ∷ cs) h = (h.0, all-first n cs h.1)

more-first : (n m : ℕ) (cs : List Condition) → n ≤ m → AllHold (first m cs) → AllHold (first n cs)
more-first zero m cs le h = tt
more-first (suc n) zero cs le h = absurd (omega arith)
more-first (suc n) (suc m) [] le h = tt
more-first (suc n) (suc m) (c ∷ cs) le h = (h.0, more-first n m cs (omega arith) h.1)

-- an instance has no other verdict
pub instance-alone : (rows : List Row) (w : Written) (v : Verdict) → IsInstance rows w
    → IsVerdict rows w v → v ≡ instance_verdict
instance-alone rows w instance_verdict i m = refl
instance-alone rows w shape_verdict i m =
    absurd (m (some-map rows (MeetsAll w) (Concludes w) (λ line h. h.0.0) i))
instance-alone rows w premises_verdict i m =
    absurd (m.1 (some-map rows (MeetsAll w) (Follows w) (λ line h. h.0) i))
instance-alone rows w (side_verdict name) i m =
    absurd (m.2 (some-map rows (MeetsAll w) (MeetsFirst (suc m.0) w)
    (λ line h. (h.0, all-first (suc m.0) line.conditions h.1)) i))

-- THE NAMES OF THE CONDITIONS
abbrev pub names_of : Line → List SideName
names_of line = map side_of line.conditions

abbrev pub FixedNames : List SideName → List Row → Type 0
FixedNames names [] = Unit
FixedNames names (row ∷ rows) =
    ((letters : Letters) → names_of (row letters) ≡ names) × FixedNames names rows

-- the n-th name
abbrev nth_name : ℕ → List SideName → Option SideName
nth_name n [] = None
nth_name zero (name ∷ names) = Some name
nth_name (suc n) (name ∷ names) = nth_name n names

side-is : (n : ℕ) (cs : List Condition) → side_at n cs ≡ nth_name n (map side_of cs)
side-is n [] = refl
side-is zero (c ∷ cs) = refl
side-is (suc n) (c ∷ cs) = side-is n cs

fixed-side : (names : List SideName) (rows : List Row) → FixedNames names rows → (w : Written)
    (n : ℕ) (name : SideName)
    → SomeLine rows (λ line. MeetsFirst n w line × (side_at n line.conditions ≡ Some name))
    → nth_name n names ≡ Some name
fixed-side names [] fixed w n name m = absurd m
fixed-side names (row ∷ rows) fixed w n name m = ⊎_elim
    (λ x. ap (nth_name n) (sym (fixed.0 x.0)) ∙ sym (side-is n (row x.0).conditions) ∙ x.1.1)
    (λ y. fixed-side names rows fixed.1 w n name y) m

in-order : (n m : ℕ) → (n < m) ⊎ ((n ≡ m) ⊎ (m < n))
in-order zero zero = inr (inl refl)
in-order zero (suc m) = inl (omega arith)
in-order (suc n) zero = inr (inr (omega arith))
in-order (suc n) (suc m) = ⊎_elim
    (λ less. inl (omega (arith, less)))
    (λ o. inr (⊎_elim (λ e. inl (ap suc e)) (λ more. inr (omega (arith, more))) o))
    (in-order n m)

module _ (names : List SideName) (rows : List Row) (fixed : FixedNames names rows) (w : Written)
  where
    -- the first condition that fails is one
    beyond : (n m : ℕ) (name : SideName) → n < m
        → SomeLine rows (λ line. MeetsFirst m w line × (side_at m line.conditions ≡ Some name))
        → SomeLine rows (MeetsFirst (suc n) w)
    beyond n m name less =
        some-map rows _ (MeetsFirst (suc n) w)
        (λ line h. (h.0.0, more-first (suc n) m line.conditions (omega (arith, less)) h.0.1))

    same-side : (name name' : SideName) → IsVerdict rows w (side_verdict name)
        → IsVerdict rows w (side_verdict name') → name ≡ name'
    same-side name name' a b = ⊎_elim
        (λ less. absurd (a.2 (beyond a.0 b.0 name' less b.1)))
        (λ o. ⊎_elim
        (λ e. some-is (sym (fixed-side names rows fixed w a.0 name a.1)
        ∙ ap (λ n. nth_name n names) e ∙ fixed-side names rows fixed w b.0 name' b.1))
        (λ more. absurd (b.2 (beyond b.0 a.0 name more a.1))) o)
        (in-order a.0 b.0)
      where
        some-is : Some name ≡ Some name' → name ≡ name'
        some-is e = cc

    follows : (name : SideName) → IsVerdict rows w (side_verdict name)
        → SomeLine rows (Follows w)
    follows name a = some-map rows _ (Follows w) (λ line h. h.0.0) a.1

    concludes : SomeLine rows (Follows w) → SomeLine rows (Concludes w)
    concludes = some-map rows (Follows w) (Concludes w) (λ line h. h.0)

    -- ONE VERDICT
    pub one-verdict : (v v' : Verdict) → IsVerdict rows w v → IsVerdict rows w v' → v ≡ v'
    one-verdict instance_verdict v' a b = sym (instance-alone rows w v' a b)
    one-verdict v instance_verdict a b = instance-alone rows w v b a
    one-verdict shape_verdict shape_verdict a b = refl
    one-verdict shape_verdict premises_verdict a b = absurd (a b.0)
    one-verdict shape_verdict (side_verdict name) a b = absurd (a (concludes (follows name b)))
    one-verdict premises_verdict shape_verdict a b = absurd (b a.0)
    one-verdict premises_verdict premises_verdict a b = refl
    one-verdict premises_verdict (side_verdict name) a b = absurd (a.1 (follows name b))
    one-verdict (side_verdict name) shape_verdict a b = absurd (b (concludes (follows name a)))
    one-verdict (side_verdict name) premises_verdict a b = absurd (b.1 (follows name a))
    one-verdict (side_verdict name) (side_verdict name') a b =
        ap side_verdict (same-side name name' a b)
