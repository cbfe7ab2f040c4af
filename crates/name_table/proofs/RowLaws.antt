-- What a look-up in a row of names finds, and what it finds after a change.
use Rattle.std.proofs.Common.{◌≡◌, ◌∙◌, sym, refl, ap, ℕ, zero, suc, ◌+◌, ◌<◌, ◌≤◌, List, [], ◌∷◌, ◌++◌, Bool, true, false, cond, Option, Some, None, bytes_eq, length, get_or, arith, Bor}
use Rattle.std.specs.List.{position_or_len}
use Rattle.std.specs.Prelude.{Result, Ok, Err}
use Rattle.std.specs.Result.{OnErr}
use Rattle.std.specs.Map.{lookup}
use Rattle.std.proofs.Math.ListN as list
use Rattle.std.proofs.lemmas.Cmp.{nat_list_eq_equiv}
use Rattle.std.proofs.lemmas.List.Sums.{fails_before_first, passes_at_first}
use Rattle.std.proofs.lemmas.Slice.Eq.{bytes_eq-Decides}
use Rattle.indexmap.specs.IndexMap.{IndexMap, get_by}
use Rattle.name_table.specs.Found.{or_other}

-- names are equal either way round
pub turned : (x y : List ℕ) → bytes_eq x y ≡ bytes_eq y x
turned x y = nat_list_eq_equiv.symm x y

-- two values for two names: a name has one of them at most
two_names : {V : Type 0} (q name key : List ℕ) (v w : Option V) (o : Option V)
    → bytes_eq name key ≡ false
    → cond (bytes_eq q key) w (cond (bytes_eq q name) v o)
    ≡ cond (bytes_eq q name) v (cond (bytes_eq q key) w o)
two_names q name key v w o apart = by_test (bytes_eq q key) (bytes_eq q name) refl refl
  where
    by_test : (a b : Bool) → bytes_eq q key ≡ a → bytes_eq q name ≡ b
        → cond a w (cond b v o) ≡ cond b v (cond a w o)
    by_test true true e f =
        absurd (let same : bytes_eq name key ≡ true =
        (bytes_eq-Decides name key).1 (sym ((bytes_eq-Decides q name).0 f)
        ∙ (bytes_eq-Decides q key).0 e) in (cc))
    by_test true false e f = refl
    by_test false b e f = refl

-- ROWS
module _ {V : Type 0} where
  -- the entry has the name
  abbrev pub has : List ℕ → Bor (List ℕ) × V → Bool
  has name e = bytes_eq name e.0.now

  -- what the row has for the name
  abbrev pub in_row : List (Bor (List ℕ) × V) → List ℕ → Option V
  in_row row name = lookup (λ k. bytes_eq name k.now) row

  -- the value at the first place with the name
  value_at : (name : List ℕ) (row : List (Bor (List ℕ) × V)) (i : ℕ) (d : Bor (List ℕ) × V)
      → d ≡ get_or row i d → i < length row → has name (get_or row i d) ≡ true
      → ((k : ℕ) → k < i → has name (get_or row k d) ≡ false)
      → Some d.1 ≡ in_row row name
  value_at name [] i d is lt here before = absurd (omega arith)
  value_at name (e ∷ row) zero d is lt here before =
      ap (λ (z : Bor (List ℕ) × V). Some z.1) is
      ∙ ap (λ b. cond b (Some e.1) (in_row row name)) (sym here)
  value_at name (e ∷ row) (suc i) d is lt here before =
      value_at name row i d is (omega arith) here (λ k h. before (suc k) (omega arith))
      ∙ ap (λ b. cond b (Some e.1) (in_row row name)) (sym (before zero (omega arith)))

  pub value_at_place : (name : List ℕ) (row : List (Bor (List ℕ) × V)) (i : ℕ)
      (d : Bor (List ℕ) × V) → i ≡ position_or_len (has name) row → i < length row
      → d ≡ get_or row i d → Some d.1 ≡ in_row row name
  value_at_place name row i d e lt is =
      value_at name row i d is lt
      (ap (λ k. has name (get_or row k d)) e
      ∙ passes_at_first (has name) row d (omega arith))
      (λ k h. fails_before_first (has name) row k d (omega arith))

  -- a name that has no place isn't in the row
  pub no_place : (name : List ℕ) (row : List (Bor (List ℕ) × V))
      → length row ≤ position_or_len (has name) row → in_row row name ≡ None
  no_place name [] le = refl
  no_place name (e ∷ row) le = by_test (bytes_eq name e.0.now) refl (no_place name row)
    where
      by_test : (b : Bool) → bytes_eq name e.0.now ≡ b
          → (length row ≤ position_or_len (has name) row → in_row row name ≡ None)
          → cond b (Some e.1) (in_row row name) ≡ None
      by_test true f rest = absurd (let none : suc (length row) ≤ 0 = rw f at le in omega arith)
      by_test false f rest =
          rest (let more : suc (length row) ≤ 1 + position_or_len (has name) row = rw f at le in
          omega arith)

  -- another value at the place of the name
  set_at : (name q : List ℕ) (row : List (Bor (List ℕ) × V)) (i : ℕ) (d : Bor (List ℕ) × V)
      (v : V) → d ≡ get_or row i d → i < length row → has name (get_or row i d) ≡ true
      → ((k : ℕ) → k < i → has name (get_or row k d) ≡ false)
      → in_row (list.set row i (d.0, v)) q ≡ cond (bytes_eq q name) (Some v) (in_row row q)
  set_at name q [] i d v is lt here before = absurd (omega arith)
  set_at name q (e ∷ row) zero d v is lt here before =
      let same : d.0.now ≡ name =
      ap (λ (z : Bor (List ℕ) × V). z.0.now) is ∙ sym ((bytes_eq-Decides name e.0.now).0 here) in
      let key : e.0.now ≡ name = sym ((bytes_eq-Decides name e.0.now).0 here) in
      ap (λ z. cond (bytes_eq q z) (Some v) (in_row row q)) same
      ∙ twice (bytes_eq q name)
      ∙ ap (λ z. cond (bytes_eq q name) (Some v) (cond (bytes_eq q z) (Some e.1) (in_row row q)))
      (sym key)
    where
      twice : (b : Bool) → cond b (Some v) (in_row row q)
          ≡ cond b (Some v) (cond b (Some e.1) (in_row row q))
      twice true = refl
      twice false = refl
  set_at name q (e ∷ row) (suc i) d v is lt here before =
      ap (cond (bytes_eq q e.0.now) (Some e.1))
      (set_at name q row i d v is (omega arith) here (λ k h. before (suc k) (omega arith)))
      ∙ two_names q name e.0.now (Some v) (Some e.1) (in_row row q) (before zero (omega arith))

  pub set_at_place : (name q : List ℕ) (row : List (Bor (List ℕ) × V)) (i : ℕ)
      (d : Bor (List ℕ) × V) (v : V) → i ≡ position_or_len (has name) row
      → i < length row → d ≡ get_or row i d
      → in_row (list.set row i (d.0, v)) q ≡ cond (bytes_eq q name) (Some v) (in_row row q)
  set_at_place name q row i d v e lt is =
      set_at name q row i d v is lt
      (ap (λ k. has name (get_or row k d)) e
      ∙ passes_at_first (has name) row d (omega arith))
      (λ k h. fails_before_first (has name) row k d (omega arith))

  -- a value behind those of a row that hasn't the name
  pub at_end : (key : Bor (List ℕ)) (q : List ℕ) (row : List (Bor (List ℕ) × V)) (v : V)
      → in_row row key.now ≡ None
      → in_row (row ++ (key, v) ∷ []) q ≡ cond (bytes_eq q key.now) (Some v) (in_row row q)
  at_end key q [] v none = refl
  at_end key q (e ∷ row) v none =
      by_test (bytes_eq key.now e.0.now) refl none (at_end key q row v)
    where
      by_test : (b : Bool) → bytes_eq key.now e.0.now ≡ b
          → cond b (Some e.1) (in_row row key.now) ≡ None
          → (in_row row key.now ≡ None → in_row (row ++ (key, v) ∷ []) q
          ≡ cond (bytes_eq q key.now) (Some v) (in_row row q))
          → cond (bytes_eq q e.0.now) (Some e.1) (in_row (row ++ (key, v) ∷ []) q)
          ≡ cond (bytes_eq q key.now) (Some v) (cond (bytes_eq q e.0.now) (Some e.1) (in_row row q))
      by_test true f some more = absurd (cc)
      by_test false f none more =
          ap (cond (bytes_eq q e.0.now) (Some e.1)) (more none)
          ∙ two_names q key.now e.0.now (Some v) (Some e.1) (in_row row q) f

  -- a change in the row
  pub first_changed : (b : Bool) (v : V) (new o p : Option V) → new ≡ cond b (Some v) o
      → or_other new p ≡ cond b (Some v) (or_other o p)
  first_changed true v new o p e = ap (λ z. or_other z p) e
  first_changed false v new o p e = ap (λ z. or_other z p) e

  -- a change behind a row that hasn't the name
  pub other_changed : (name q : List ℕ) (v : V) (row : List (Bor (List ℕ) × V))
      (new p : Option V) → in_row row name ≡ None → new ≡ cond (bytes_eq name q) (Some v) p
      → or_other (in_row row q) new ≡ cond (bytes_eq q name) (Some v) (or_other (in_row row q) p)
  other_changed name q v row new p none e = by_test (bytes_eq q name) refl
    where
      by_test : (b : Bool) → bytes_eq q name ≡ b
          → or_other (in_row row q) new ≡ cond b (Some v) (or_other (in_row row q) p)
      by_test true f =
          let same : q ≡ name = (bytes_eq-Decides q name).0 f in
          ap (λ z. or_other z new) (ap (in_row row) same ∙ none) ∙ e
          ∙ ap (λ z. cond z (Some v) p) (turned name q ∙ f)
      by_test false f =
          ap (or_other (in_row row q)) (e ∙ ap (λ z. cond z (Some v) p) (turned name q ∙ f))

-- an empty table has no name
no_entry : {V : Type 0} (es : List (Bor (List ℕ) × V)) (name : List ℕ) → length es ≡ 0
    → lookup (λ k. bytes_eq name k.now) es ≡ None
no_entry [] name none = refl
no_entry (e ∷ es) name none = absurd (omega arith)

pub no_other : {V S : Type 0} (others : IndexMap (Bor (List ℕ)) V S) (name : List ℕ)
    → length others.entries ≡ 0 → None ≡ get_by (λ k. bytes_eq name k.now) others
no_other others name none = sym (no_entry others.entries name none)

-- what is found in the row, and what isn't there
pub in_first : {V : Type 0} (v : V) (o p : Option V) → Some v ≡ o → Some v ≡ or_other o p
in_first v o p e = ap (λ z. or_other z p) e

pub in_other : {V : Type 0} (r o p : Option V) → o ≡ None → r ≡ p → r ≡ or_other o p
in_other r o p none e = e ∙ ap (λ z. or_other z p) (sym none)

-- what holds, holds where there is an error
pub on_err : {A E P : Type 0} (r : Result A E) → P → OnErr r P
on_err (Ok a) p = tt
on_err (Err e) p = p
