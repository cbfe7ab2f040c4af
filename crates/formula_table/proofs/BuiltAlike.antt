-- Formulas that are built alike have one form and the same parts.
use Rattle.std.proofs.Common.{◌≡◌, ℕ, nat_lt, cond, refl, ap}
use Rattle.model_terms.specs.Terms.{Term}
use Rattle.model_formulas.specs.Formulas.{Formula}
use Rattle.dom_terms.specs.Sorts.{data_sort_of, value_sort_of, sort_of}
use Rattle.formula_syntax.specs.Formulas.{side_of}
use Rattle.dom_terms.specs.declared.sorts.DataSort.{DataSort}
use Rattle.dom_terms.specs.declared.sorts.DataSort.TheVariants as d
use Rattle.dom_terms.specs.declared.sorts.ValueSort.{ValueSort}
use Rattle.dom_terms.specs.declared.sorts.ValueSort.TheVariants as v
use Rattle.dom_terms.specs.declared.sorts.Sort.{Sort}
use Rattle.dom_terms.specs.declared.sorts.Sort.TheVariants as s
use Rattle.formula_syntax.specs.declared.formulas.Side.{Side}
use Rattle.formula_syntax.specs.declared.formulas.Side.TheVariants as i
use Rattle.formula_table.specs.Heads.{build, terms_used, parts_used}
use Rattle.formula_table.specs.Rows.{bound_sort}
use Rattle.formula_table.specs.declared.heads.Head.{Head}
use Rattle.formula_table.specs.declared.heads.Head.TheVariants as h

-- SORTS AND SIDES
pub data_sort-one : (a b : DataSort) → data_sort_of a ≡ data_sort_of b → a ≡ b
data_sort-one d.Tree d.Tree e = refl
data_sort-one d.Forest d.Forest e = refl
data_sort-one d.Grove d.Grove e = refl
data_sort-one a b e = absurd cc

pub value_sort-one : (a b : ValueSort) → value_sort_of a ≡ value_sort_of b → a ≡ b
value_sort-one v.Node v.Node e = refl
value_sort-one v.List v.List e = refl
value_sort-one v.Int v.Int e = refl
value_sort-one v.Str v.Str e = refl
value_sort-one v.Bool v.Bool e = refl
value_sort-one a b e = absurd cc

pub sort-one : (a b : Sort) → sort_of a ≡ sort_of b → a ≡ b
sort-one (s.Value a) (s.Value b) e =
    let h : value_sort_of a ≡ value_sort_of b = cc in ap s.Value (value_sort-one a b h)
sort-one (s.Shape a) (s.Shape b) e =
    let h : data_sort_of a ≡ data_sort_of b = cc in ap s.Shape (data_sort-one a b h)
sort-one (s.Context a b) (s.Context c f) e =
    let h : data_sort_of a ≡ data_sort_of c = cc in
    let k : data_sort_of b ≡ data_sort_of f = cc in
    λ j. s.Context (data_sort-one a c h j) (data_sort-one b f k j)
sort-one a b e = absurd cc

pub side-one : (a b : Side) → side_of a ≡ side_of b → a ≡ b
side-one i.Whole i.Whole e = refl
side-one i.HoleLeft i.HoleLeft e = refl
side-one i.HoleRight i.HoleRight e = refl
side-one a b e = absurd cc

-- where it is used the two are equal
abbrev pub IfUsed : ℕ → ℕ → Type 0 → Type 0
IfUsed used place A = cond (nat_lt place used) A (Unit {0})

-- one form and the same terms and parts
pub record Alike (m n : Head) (a a' b b' c c' : Term) (p p' q q' : Formula) : Type 0 where
  pub head : m ≡ n
  pub first : IfUsed (terms_used m) 0 (a ≡ a')
  pub second : IfUsed (terms_used m) 1 (b ≡ b')
  pub third : IfUsed (terms_used m) 2 (c ≡ c')
  pub left : IfUsed (parts_used m) 0 (p ≡ p')
  pub right : IfUsed (parts_used m) 1 (q ≡ q')

module _ (a a' b b' c c' : Term) (p p' q q' : Formula) where
  abbrev Build : Head → Formula
  Build m = build bound_sort m a b c p q

  abbrev Build' : Head → Formula
  Build' m = build bound_sort m a' b' c' p' q'

  pub built-alike : (m n : Head) → Build m ≡ Build' n → Alike m n a a' b b' c c' p p' q q'
  built-alike h.True h.True e = record {
    head = refl;
    first = tt;
    second = tt;
    third = tt;
    left = tt;
    right = tt;
  }
  built-alike h.False h.False e = record {
    head = refl;
    first = tt;
    second = tt;
    third = tt;
    left = tt;
    right = tt;
  }
  built-alike h.And h.And e = record {
    head = refl;
    first = tt;
    second = tt;
    third = tt;
    left = cc;
    right = cc;
  }
  built-alike h.Or h.Or e = record {
    head = refl;
    first = tt;
    second = tt;
    third = tt;
    left = cc;
    right = cc;
  }
  built-alike h.Imp h.Imp e = record {
    head = refl;
    first = tt;
    second = tt;
    third = tt;
    left = cc;
    right = cc;
  }
  built-alike h.Not h.Not e = record {
    head = refl;
    first = tt;
    second = tt;
    third = tt;
    left = cc;
    right = tt;
  }
  built-alike (h.Exists k) (h.Exists j) e = let z : sort_of k ≡ sort_of j = cc in record {
    head = ap h.Exists (sort-one k j z);
    first = tt;
    second = tt;
    third = tt;
    left = cc;
    right = tt;
  }
  built-alike (h.Forall k) (h.Forall j) e = let z : sort_of k ≡ sort_of j = cc in record {
    head = ap h.Forall (sort-one k j z);
    first = tt;
    second = tt;
    third = tt;
    left = cc;
    right = tt;
  }
  built-alike h.Eq h.Eq e = record {
    head = refl;
    first = cc;
    second = cc;
    third = tt;
    left = tt;
    right = tt;
  }
  built-alike h.Le h.Le e = record {
    head = refl;
    first = cc;
    second = cc;
    third = tt;
    left = tt;
    right = tt;
  }
  built-alike h.EmptyForest h.EmptyForest e = record {
    head = refl;
    first = tt;
    second = tt;
    third = tt;
    left = tt;
    right = tt;
  }
  built-alike h.EmptyGrove h.EmptyGrove e = record {
    head = refl;
    first = tt;
    second = tt;
    third = tt;
    left = tt;
    right = tt;
  }
  built-alike (h.Hole k) (h.Hole j) e = let z : data_sort_of k ≡ data_sort_of j = cc in record {
    head = ap h.Hole (data_sort-one k j z);
    first = tt;
    second = tt;
    third = tt;
    left = tt;
    right = tt;
  }
  built-alike h.Node h.Node e = record {
    head = refl;
    first = cc;
    second = cc;
    third = cc;
    left = cc;
    right = tt;
  }
  built-alike h.One h.One e = record {
    head = refl;
    first = tt;
    second = tt;
    third = tt;
    left = cc;
    right = tt;
  }
  built-alike h.Root h.Root e = record {
    head = refl;
    first = tt;
    second = tt;
    third = tt;
    left = cc;
    right = tt;
  }
  built-alike (h.Join k) (h.Join j) e = let z : side_of k ≡ side_of j = cc in record {
    head = ap h.Join (side-one k j z);
    first = tt;
    second = tt;
    third = tt;
    left = cc;
    right = cc;
  }
  built-alike h.Plus h.Plus e = record {
    head = refl;
    first = tt;
    second = tt;
    third = tt;
    left = cc;
    right = cc;
  }
  built-alike h.PlusHole h.PlusHole e = record {
    head = refl;
    first = tt;
    second = tt;
    third = tt;
    left = cc;
    right = cc;
  }
  built-alike (h.App k) (h.App j) e = let z : data_sort_of k ≡ data_sort_of j = cc in record {
    head = ap h.App (data_sort-one k j z);
    first = tt;
    second = tt;
    third = tt;
    left = cc;
    right = cc;
  }
  built-alike h.HoleAdj h.HoleAdj e = record {
    head = refl;
    first = tt;
    second = tt;
    third = tt;
    left = cc;
    right = cc;
  }
  built-alike (h.CtxAdj k) (h.CtxAdj j) e = let z : data_sort_of k ≡ data_sort_of j = cc in record {
    head = ap h.CtxAdj (data_sort-one k j z);
    first = tt;
    second = tt;
    third = tt;
    left = cc;
    right = cc;
  }
  built-alike h.Var h.Var e = record {
    head = refl;
    first = cc;
    second = tt;
    third = tt;
    left = tt;
    right = tt;
  }
  built-alike h.Len h.Len e = record {
    head = refl;
    first = cc;
    second = tt;
    third = tt;
    left = tt;
    right = tt;
  }
  built-alike (h.Is k) (h.Is j) e = let z : sort_of k ≡ sort_of j = cc in record {
    head = ap h.Is (sort-one k j z);
    first = cc;
    second = tt;
    third = tt;
    left = cc;
    right = tt;
  }
  built-alike m n e = absurd cc
