-- Needn't be believed: what holds of each table holds in one way, as a ghost field asks.
use Rattle.std.specs.Prelude.{◌≡◌, ◌<◌, zero, ℕ, Bool, true, false, cond, suc, List, [], ◌∷◌, length, map}
use Rattle.std.specs.Coded.{le_prop}
use native.Mathlib.Nat.{ℕ_set}
use Rattle.std.specs.String.{string_bytes}
use Rattle.std.specs.declared.string.String.{String}
use Rattle.model_shapes.specs.Values.{Name}
use Rattle.formula_table.specs.Growing.{EachWithin}
use Rattle.formula_table.specs.Rows.{TermWithin, FormWithin}
use Rattle.formula_table.specs.Tables.{terms_of, IsTable, HasRows}
use Rattle.formula_table.specs.declared.rows.TermRow.{TermRow}
use Rattle.formula_table.specs.declared.rows.TermRow.TheVariants as t
use Rattle.formula_table.specs.declared.rows.FormRow.{FormRow}

place-prop : (b : Bool) (most i : ℕ) → IsProp (cond b (i < most) (i ≡ zero))
place-prop true most i = Prim.hlevel le_prop
place-prop false most i = Prim.hlevel ℕ_set

form_within-prop : (terms n : ℕ) (r : FormRow) → IsProp (FormWithin terms n r)
form_within-prop terms n r = Prim.hlevel place-prop

term_within-prop : (names n : ℕ) (r : TermRow) → IsProp (TermWithin names n r)
term_within-prop names n (t.Add a b) = Prim.hlevel le_prop
term_within-prop names n (t.Sub a b) = Prim.hlevel le_prop
term_within-prop names n (t.Cat a b) = Prim.hlevel le_prop
term_within-prop names n t.NullNode = Prim.hlevel
term_within-prop names n t.NullList = Prim.hlevel
term_within-prop names n (t.Int i) = Prim.hlevel
term_within-prop names n (t.Str x) = Prim.hlevel le_prop
term_within-prop names n (t.Bool b) = Prim.hlevel
term_within-prop names n (t.Prog x s) = Prim.hlevel le_prop
term_within-prop names n (t.Logic x s) = Prim.hlevel le_prop
term_within-prop names n (t.Bound i s) = Prim.hlevel

each-prop : {R : Type 0} (W : ℕ → R → Type 0) → ((n : ℕ) (r : R) → IsProp (W n r)) → (n : ℕ)
    (rs : List R) → IsProp (EachWithin W n rs)
each-prop W h n [] = Prim.hlevel
each-prop W h n (r ∷ rs) = Prim.hlevel (h, each-prop W h (suc n) rs)

table-prop : (names : List Name) (terms : List TermRow) (forms : List FormRow)
    → IsProp (IsTable names terms forms)
table-prop names terms forms = Prim.hlevel (
  each-prop (TermWithin (length names)) (term_within-prop (length names)) 0 terms,
  each-prop (FormWithin (length (terms_of names terms)))
      (form_within-prop (length (terms_of names terms))) 0 forms,
  ℕ_set,
)

pub rows-prop : {Z : Type 0} (names : List (String Z)) (terms : List TermRow) (forms : List FormRow)
    → IsProp (HasRows names terms forms)
rows-prop names terms forms = table-prop (map string_bytes names) terms forms
