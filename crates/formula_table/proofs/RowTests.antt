-- The test of rows says that they are one row.
use Rattle.std.proofs.Common.{◌≡◌, ◌==◌, true, false, ◌&&◌, refl, ap}
use Rattle.model_shapes.proofs.Truth.{false≢true, both_true}
use Rattle.std.proofs.lemmas.Bool.Decides.{Decides-int_eq}
use Rattle.model_shapes.proofs.Tests.{nat-is, nat-refl}
use Rattle.dom_terms.specs.declared.sorts.ValueSort.{ValueSort}
use Rattle.dom_terms.specs.declared.sorts.ValueSort.TheVariants as v
use Rattle.dom_terms.specs.contracts.sorts.ValueSortPartialEq.TheImpl as vk
use Rattle.dom_terms.specs.declared.sorts.DataSort.{DataSort}
use Rattle.dom_terms.specs.declared.sorts.DataSort.TheVariants as d
use Rattle.dom_terms.specs.contracts.sorts.DataSortPartialEq.TheImpl as dk
use Rattle.dom_terms.specs.declared.sorts.Sort.{Sort}
use Rattle.dom_terms.specs.declared.sorts.Sort.TheVariants as k
use Rattle.dom_terms.specs.contracts.sorts.SortPartialEq.TheImpl as kk
use Rattle.formula_syntax.specs.declared.formulas.Side.{Side}
use Rattle.formula_syntax.specs.declared.formulas.Side.TheVariants as s
use Rattle.formula_syntax.specs.contracts.formulas.SidePartialEq.TheImpl as sk
use Rattle.formula_table.specs.declared.heads.Head.{Head}
use Rattle.formula_table.specs.declared.heads.Head.TheVariants as h
use Rattle.formula_table.specs.contracts.heads.HeadPartialEq.TheImpl as hk
use Rattle.formula_table.specs.declared.rows.TermRow.{TermRow}
use Rattle.formula_table.specs.declared.rows.TermRow.TheVariants as t
use Rattle.formula_table.specs.contracts.rows.TermRowPartialEq.TheImpl as tk
use Rattle.formula_table.specs.declared.rows.FormRow.{FormRow}
use Rattle.formula_table.specs.contracts.rows.FormRowPartialEq.TheImpl as rk

value-same : (a b : ValueSort) → vk.eq-value.it a b ≡ true → a ≡ b
value-same v.Node v.Node e = refl
value-same v.List v.List e = refl
value-same v.Int v.Int e = refl
value-same v.Str v.Str e = refl
value-same v.Bool v.Bool e = refl
value-same a b e = false≢true e

value-refl : (a : ValueSort) → vk.eq-value.it a a ≡ true
value-refl v.Node = refl
value-refl v.List = refl
value-refl v.Int = refl
value-refl v.Str = refl
value-refl v.Bool = refl

data_kind-same : (a b : DataSort) → dk.eq-value.it a b ≡ true → a ≡ b
data_kind-same d.Tree d.Tree e = refl
data_kind-same d.Forest d.Forest e = refl
data_kind-same d.Grove d.Grove e = refl
data_kind-same a b e = false≢true e

data_kind-refl : (a : DataSort) → dk.eq-value.it a a ≡ true
data_kind-refl d.Tree = refl
data_kind-refl d.Forest = refl
data_kind-refl d.Grove = refl

side-same : (a b : Side) → sk.eq-value.it a b ≡ true → a ≡ b
side-same s.Whole s.Whole e = refl
side-same s.HoleLeft s.HoleLeft e = refl
side-same s.HoleRight s.HoleRight e = refl
side-same a b e = false≢true e

side-refl : (a : Side) → sk.eq-value.it a a ≡ true
side-refl s.Whole = refl
side-refl s.HoleLeft = refl
side-refl s.HoleRight = refl

pub kind-same : (a b : Sort) → kk.eq-value.it a b ≡ true → a ≡ b
kind-same (k.Value a) (k.Value b) e = ap k.Value (value-same a b e)
kind-same (k.Shape a) (k.Shape b) e = ap k.Shape (data_kind-same a b e)
kind-same (k.Context a b) (k.Context c f) e =
    let p : (dk.eq-value.it a c ≡ true) × (dk.eq-value.it b f ≡ true) = both_true _ _ e in
    λ j. k.Context (data_kind-same a c p.0 j) (data_kind-same b f p.1 j)
kind-same a b e = false≢true e

kind-refl : (a : Sort) → kk.eq-value.it a a ≡ true
kind-refl (k.Value a) = value-refl a
kind-refl (k.Shape a) = data_kind-refl a
kind-refl (k.Context a b) = λ j. data_kind-refl a j && data_kind-refl b j

head-same : (a b : Head) → hk.eq-value.it a b ≡ true → a ≡ b
head-same h.True h.True e = refl
head-same h.False h.False e = refl
head-same h.And h.And e = refl
head-same h.Or h.Or e = refl
head-same h.Imp h.Imp e = refl
head-same h.Not h.Not e = refl
head-same (h.Exists a) (h.Exists b) e = ap h.Exists (kind-same a b e)
head-same (h.Forall a) (h.Forall b) e = ap h.Forall (kind-same a b e)
head-same h.Eq h.Eq e = refl
head-same h.Le h.Le e = refl
head-same h.EmptyForest h.EmptyForest e = refl
head-same h.EmptyGrove h.EmptyGrove e = refl
head-same (h.Hole a) (h.Hole b) e = ap h.Hole (data_kind-same a b e)
head-same h.Node h.Node e = refl
head-same h.One h.One e = refl
head-same h.Root h.Root e = refl
head-same (h.Join a) (h.Join b) e = ap h.Join (side-same a b e)
head-same h.Plus h.Plus e = refl
head-same h.PlusHole h.PlusHole e = refl
head-same (h.App a) (h.App b) e = ap h.App (data_kind-same a b e)
head-same h.HoleAdj h.HoleAdj e = refl
head-same (h.CtxAdj a) (h.CtxAdj b) e = ap h.CtxAdj (data_kind-same a b e)
head-same h.Var h.Var e = refl
head-same h.Len h.Len e = refl
head-same (h.Is a) (h.Is b) e = ap h.Is (kind-same a b e)
head-same a b e = false≢true e

head-refl : (a : Head) → hk.eq-value.it a a ≡ true
head-refl h.True = refl
head-refl h.False = refl
head-refl h.And = refl
head-refl h.Or = refl
head-refl h.Imp = refl
head-refl h.Not = refl
head-refl (h.Exists a) = kind-refl a
head-refl (h.Forall a) = kind-refl a
head-refl h.Eq = refl
head-refl h.Le = refl
head-refl h.EmptyForest = refl
head-refl h.EmptyGrove = refl
head-refl (h.Hole a) = data_kind-refl a
head-refl h.Node = refl
head-refl h.One = refl
head-refl h.Root = refl
head-refl (h.Join a) = side-refl a
head-refl h.Plus = refl
head-refl h.PlusHole = refl
head-refl (h.App a) = data_kind-refl a
head-refl h.HoleAdj = refl
head-refl (h.CtxAdj a) = data_kind-refl a
head-refl h.Var = refl
head-refl h.Len = refl
head-refl (h.Is a) = kind-refl a

-- ROWS
pub row-same : (r t : FormRow) → rk.eq-value.it r t ≡ true → r ≡ t
row-same r t e =
    let a : (hk.eq-value.it r.head t.head ≡ true)
    × (((r.first == t.first) && ((r.second == t.second) && ((r.third == t.third)
    && ((r.left == t.left) && (r.right == t.right))))) ≡ true) = both_true _ _ e in
    let b : ((r.first == t.first) ≡ true) × (((r.second == t.second) && ((r.third == t.third)
    && ((r.left == t.left) && (r.right == t.right)))) ≡ true) = both_true _ _ a.1 in
    let c : ((r.second == t.second) ≡ true) × (((r.third == t.third)
    && ((r.left == t.left) && (r.right == t.right))) ≡ true) = both_true _ _ b.1 in
    let f : ((r.third == t.third) ≡ true)
    × (((r.left == t.left) && (r.right == t.right)) ≡ true) = both_true _ _ c.1 in
    let g : ((r.left == t.left) ≡ true) × ((r.right == t.right) ≡ true) = both_true _ _ f.1 in
    λ j. record {
      head = head-same r.head t.head a.0 j;
      first = nat-is r.first t.first b.0 j;
      second = nat-is r.second t.second c.0 j;
      third = nat-is r.third t.third f.0 j;
      left = nat-is r.left t.left g.0 j;
      right = nat-is r.right t.right g.1 j;
    }

pub row-refl : (r : FormRow) → rk.eq-value.it r r ≡ true
row-refl r = λ j. head-refl r.head j && (nat-refl r.first j && (nat-refl r.second j
    && (nat-refl r.third j && (nat-refl r.left j && nat-refl r.right j))))

-- ROWS OF TERMS
pub term_row-same : (r s : TermRow) → tk.eq-value.it r s ≡ true → r ≡ s
term_row-same t.NullNode t.NullNode e = refl
term_row-same t.NullList t.NullList e = refl
term_row-same (t.Int a) (t.Int b) e = ap t.Int ((Decides-int_eq a b).0 e)
term_row-same (t.Str x) (t.Str y) e = ap t.Str (nat-is x y e)
term_row-same (t.Bool true) (t.Bool true) e = refl
term_row-same (t.Bool false) (t.Bool false) e = refl
term_row-same (t.Prog x a) (t.Prog y b) e =
    let p : ((x == y) ≡ true) × (vk.eq-value.it a b ≡ true) = both_true _ _ e in
    λ j. t.Prog (nat-is x y p.0 j) (value-same a b p.1 j)
term_row-same (t.Logic x a) (t.Logic y b) e =
    let p : ((x == y) ≡ true) × (kk.eq-value.it a b ≡ true) = both_true _ _ e in
    λ j. t.Logic (nat-is x y p.0 j) (kind-same a b p.1 j)
term_row-same (t.Bound x a) (t.Bound y b) e =
    let p : ((x == y) ≡ true) × (kk.eq-value.it a b ≡ true) = both_true _ _ e in
    λ j. t.Bound (nat-is x y p.0 j) (kind-same a b p.1 j)
term_row-same (t.Add a b) (t.Add c f) e =
    let p : ((a == c) ≡ true) × ((b == f) ≡ true) = both_true _ _ e in
    λ j. t.Add (nat-is a c p.0 j) (nat-is b f p.1 j)
term_row-same (t.Sub a b) (t.Sub c f) e =
    let p : ((a == c) ≡ true) × ((b == f) ≡ true) = both_true _ _ e in
    λ j. t.Sub (nat-is a c p.0 j) (nat-is b f p.1 j)
term_row-same (t.Cat a b) (t.Cat c f) e =
    let p : ((a == c) ≡ true) × ((b == f) ≡ true) = both_true _ _ e in
    λ j. t.Cat (nat-is a c p.0 j) (nat-is b f p.1 j)
term_row-same r s e = false≢true e

pub term_row-refl : (r : TermRow) → tk.eq-value.it r r ≡ true
term_row-refl t.NullNode = refl
term_row-refl t.NullList = refl
term_row-refl (t.Int a) = (Decides-int_eq a a).1 refl
term_row-refl (t.Str x) = nat-refl x
term_row-refl (t.Bool true) = refl
term_row-refl (t.Bool false) = refl
term_row-refl (t.Prog x a) = λ j. nat-refl x j && value-refl a j
term_row-refl (t.Logic x a) = λ j. nat-refl x j && kind-refl a j
term_row-refl (t.Bound x a) = λ j. nat-refl x j && kind-refl a j
term_row-refl (t.Add a b) = λ j. nat-refl a j && nat-refl b j
term_row-refl (t.Sub a b) = λ j. nat-refl a j && nat-refl b j
term_row-refl (t.Cat a b) = λ j. nat-refl a j && nat-refl b j
