-- Needn't be believed: what the rows of a table stand for.
use Rattle.std.specs.Prelude.{◌≡◌, ℕ, ◌<◌, zero, nat_lt, cond, List, [], get_or}
use Rattle.model_shapes.specs.Sorts.{Sort, shape, tree}
use Rattle.model_shapes.specs.Values.{Name, null, nolist, int, str, boolean}
use Rattle.model_terms.specs.Variables.{prog, logic, bound}
use Rattle.model_terms.specs.Terms.{Term, literal, variable, sum, difference, appended}
use Rattle.model_formulas.specs.Formulas.{Formula, truth}
use Rattle.dom_terms.specs.Sorts.{value_sort_of, sort_of}
use Rattle.formula_table.specs.Heads.{build, terms_used, parts_used}
use Rattle.formula_table.specs.declared.heads.Head.{Head}
use Rattle.formula_table.specs.declared.heads.Head.TheVariants as h
use Rattle.formula_table.specs.declared.rows.TermRow.{TermRow}
use Rattle.formula_table.specs.declared.rows.TermRow.TheVariants as t
use Rattle.formula_table.specs.declared.rows.FormRow.{FormRow}

-- the sort that a quantifier has
abbrev pub bound_sort : Head → Sort
bound_sort (h.Exists s) = sort_of s
bound_sort (h.Forall s) = sort_of s
bound_sort k = shape tree

-- the term of a row, over names and the terms of the rows before it
abbrev pub read_term : List Name → List Term → TermRow → Term
read_term names terms t.NullNode = literal null
read_term names terms t.NullList = literal nolist
read_term names terms (t.Int n) = literal (int n)
read_term names terms (t.Str x) = literal (str (get_or names x []))
read_term names terms (t.Bool b) = literal (boolean b)
read_term names terms (t.Prog x s) = variable (prog (get_or names x []) (value_sort_of s))
read_term names terms (t.Logic x s) = variable (logic (get_or names x []) (sort_of s))
read_term names terms (t.Bound i s) = variable (bound i (sort_of s))
read_term names terms (t.Add a b) =
    sum (get_or terms a (literal null)) (get_or terms b (literal null))
read_term names terms (t.Sub a b) =
    difference (get_or terms a (literal null)) (get_or terms b (literal null))
read_term names terms (t.Cat a b) =
    appended (get_or terms a (literal null)) (get_or terms b (literal null))

-- what stands at a place that is used, and else the same at each
abbrev pub used_at : {A : Type 0} → ℕ → ℕ → A → List A → ℕ → A
used_at used place d xs i = cond (nat_lt place used) (get_or xs i d) d

-- the formula of a row, over the terms and the formulas of the rows before it
abbrev pub read_form : List Term → List Formula → FormRow → Formula
read_form terms forms r = build bound_sort r.head
    (used_at (terms_used r.head) 0 (literal null) terms r.first)
    (used_at (terms_used r.head) 1 (literal null) terms r.second)
    (used_at (terms_used r.head) 2 (literal null) terms r.third)
    (used_at (parts_used r.head) 0 truth forms r.left)
    (used_at (parts_used r.head) 1 truth forms r.right)

-- a place that is used is below the number, and one that isn't is 0
abbrev pub IsPlace : ℕ → ℕ → ℕ → ℕ → Type 0
IsPlace used place most i = cond (nat_lt place used) (i < most) (i ≡ zero)

-- the row's terms and parts are there
pub record FormWithin (terms : ℕ) (n : ℕ) (r : FormRow) : Type 0 where
  pub first : IsPlace (terms_used r.head) 0 terms r.first
  pub second : IsPlace (terms_used r.head) 1 terms r.second
  pub third : IsPlace (terms_used r.head) 2 terms r.third
  pub left : IsPlace (parts_used r.head) 0 n r.left
  pub right : IsPlace (parts_used r.head) 1 n r.right

abbrev pub TermWithin : ℕ → ℕ → TermRow → Type 0
TermWithin names n (t.Str x) = x < names
TermWithin names n (t.Prog x s) = x < names
TermWithin names n (t.Logic x s) = x < names
TermWithin names n (t.Add a b) = (a < n) × (b < n)
TermWithin names n (t.Sub a b) = (a < n) × (b < n)
TermWithin names n (t.Cat a b) = (a < n) × (b < n)
TermWithin names n r = Unit {0}
