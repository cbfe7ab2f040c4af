-- What the row at a number says of what the number stands for.
use Rattle.std.proofs.Common.{◌≡◌, ℕ, zero, ◌+◌, ◌<◌, ◌≤◌, nat_lt, cond, sym, refl, ap, ◌∙◌, subst, arith, List, [], ◌∷◌, length, map, get_or, slice_get, ◌==◌, bytes_eq, Some, None, inl, inr}
use Rattle.std.specs.String.{string_bytes}
use Rattle.std.specs.declared.string.String.{String}
use Rattle.std.proofs.lemmas.Bool.{lt-ltb}
use Rattle.std.proofs.lemmas.Bool.Decides.{eqb_tells}
use Rattle.std.proofs.lemmas.List.{get_or_past, get_or-map, length-map}
use Rattle.std.proofs.lemmas.Option.{slice_get_cases, slice_get_within, get_or_from_slice_get}
use Rattle.model_shapes.specs.Values.{Name, null}
use Rattle.model_terms.specs.Terms.{Term, literal}
use Rattle.model_formulas.specs.Formulas.{Formula, truth}
use Rattle.formula_table.specs.Growing.{grow, EachWithin, Keeps}
use Rattle.formula_table.specs.Heads.{build, terms_used, parts_used}
use Rattle.formula_table.specs.OverNames.{named_row, named_term}
use Rattle.formula_table.specs.Rows.{bound_sort, used_at, read_term, read_form, TermWithin, FormWithin}
use Rattle.formula_table.specs.Tables.{terms_of}
use Rattle.formula_table.specs.Forms.{names_at, terms_at, forms_at, name_at, term_at, form_at}
use Rattle.formula_table.specs.Interning.{IsTerm}
use Rattle.formula_table.specs.declared.heads.Head.{Head}
use Rattle.formula_table.specs.declared.heads.Head.TheVariants as h
use Rattle.formula_table.specs.declared.over_names.Named.{Named}
use Rattle.formula_table.specs.declared.over_names.Named.TheVariants as n
use Rattle.formula_table.specs.declared.rows.TermRow.{TermRow}
use Rattle.formula_table.specs.declared.rows.FormRow.{FormRow}
use Rattle.formula_table.specs.declared.tables.Table.{Table}
use Rattle.formula_table.proofs.Growing.{grow-length, grow-at, within-at}
use Rattle.formula_table.proofs.RowLaws.{form-stays}
use Rattle.formula_table.proofs.TermLaws.{term-stays}

-- ROWS OF EITHER KIND
zero-plus : (i : ℕ) → i ≡ 0 + i
zero-plus i = omega arith

module _ {A R : Type 0} (read : List A → R → A) where
  pub grown-size : (rows : List R) → length (grow read [] rows) ≡ length rows
  grown-size rows =
      let e : length (grow read [] rows) ≡ 0 + length rows = grow-length read [] rows in
      omega (arith, e)

  -- a number past the rows
  pub past-rows : (rows : List R) (i : ℕ) (d : A) → length rows ≤ i
      → get_or (grow read [] rows) i d ≡ d
  past-rows rows i d k = get_or_past (grow read [] rows) i d
      (subst (λ n. n ≤ i) (sym (grown-size rows)) k)

  module _ (W : ℕ → R → Type 0)
      (stable : (done all : List A) (r : R) → Keeps done all → W (length done) r
      → read done r ≡ read all r) (rows : List R) (w : EachWithin W 0 rows) (i : ℕ) (r : R)
      (at : Some r ≡ slice_get rows i) where
    below : i < length rows
    below = slice_get_within rows i r (sym at)

    is : get_or rows i r ≡ r
    is = get_or_from_slice_get rows i r r (sym at)

    pub row-reads : (d : A) → get_or (grow read [] rows) i d ≡ read (grow read [] rows) r
    row-reads d = ap (λ n. get_or (grow read [] rows) n d) (zero-plus i)
        ∙ (grow-at read W stable [] rows w i below d r ∙ ap (read (grow read [] rows)) is)

    pub row-within : W i r
    row-within = subst (λ m. W m r) (sym (zero-plus i))
        (subst (λ s. W (0 + i) s) is (within-at read W 0 rows w i below r))

none-past : {R : Type 0} (rows : List R) (i : ℕ) → None ≡ slice_get rows i → length rows ≤ i
none-past rows i e = elim ((slice_get_cases rows i).1) as (λ _. length rows ≤ i) [
  | inl h ↦ absurd (some h.0 (e ∙ h.2))
  | inr h ↦ h.0
]
  where
    some : {A : Type 0} (x : A) → None ≡ Some x → ⊥
    some x q = cc

-- ROWS OF FORMULAS
-- what a form doesn't use doesn't matter
plainly : (terms : List Term) (forms : List Formula) (m : Head) (a b c i j : ℕ)
    → build bound_sort m (used_at (terms_used m) 0 (literal null) terms a)
    (used_at (terms_used m) 1 (literal null) terms b)
    (used_at (terms_used m) 2 (literal null) terms c)
    (used_at (parts_used m) 0 truth forms i) (used_at (parts_used m) 1 truth forms j)
    ≡ build bound_sort m (get_or terms a (literal null)) (get_or terms b (literal null))
    (get_or terms c (literal null)) (get_or forms i truth) (get_or forms j truth)
plainly terms forms h.True a b c i j = refl
plainly terms forms m a b c i j = refl

-- a part that is used has a place
place-used : (used place n i : ℕ) → cond (nat_lt place used) (i < n) (i ≡ zero) → place < used
    → i < n
place-used used place n i p u =
    subst (λ b. cond b (i < n) (i ≡ zero)) (lt-ltb place used u) p

-- the row of a term over a name reads as that term
pub named-reads : (names : List Name) (terms : List Term) (k : Named) (x : ℕ)
    → read_term names terms (named_row k x) ≡ named_term k (get_or names x [])
named-reads names terms n.Str x = refl
named-reads names terms (n.Prog s) x = refl
named-reads names terms (n.Logic s) x = refl

module _ (t : Table) (i : ℕ) where
  module _ (r : FormRow) (at : Some r ≡ slice_get t.forms.keys i) where
    pub form_row : form_at t i ≡ build bound_sort r.head (term_at t r.first) (term_at t r.second)
        (term_at t r.third) (form_at t r.left) (form_at t r.right)
    unfolding names_at terms_at forms_at
    form_row = row-reads (read_form (terms_at t)) (FormWithin (length (terms_at t)))
        (form-stays (terms_at t)) t.forms.keys t.whole.forms_grown.within i r at truth
        ∙ plainly (terms_at t) (forms_at t) r.head r.first r.second r.third r.left r.right

    pub form_within : FormWithin (length (terms_at t)) i r
    unfolding names_at terms_at
    form_within = row-within (read_form (terms_at t)) (FormWithin (length (terms_at t)))
        (form-stays (terms_at t)) t.forms.keys t.whole.forms_grown.within i r at

    pub left_before : 0 < parts_used r.head → r.left < i
    left_before = place-used (parts_used r.head) 0 i r.left form_within.left

    pub right_before : 1 < parts_used r.head → r.right < i
    right_before = place-used (parts_used r.head) 1 i r.right form_within.right

  pub no_form : None ≡ slice_get t.forms.keys i → form_at t i ≡ truth
  unfolding names_at terms_at forms_at
  no_form e = past-rows (read_form (terms_at t)) t.forms.keys i truth (none-past t.forms.keys i e)

  -- a row of `true`
  pub truth_row : None ≡ slice_get t.forms.keys i → (r : FormRow)
      → r ≡ record { head = h.True; first = 0; second = 0; third = 0; left = 0; right = 0 }
      → form_at t i ≡ build bound_sort r.head (term_at t r.first) (term_at t r.second)
      (term_at t r.third) (form_at t r.left) (form_at t r.right)
  truth_row e r q = subst (λ s. form_at t i ≡ build bound_sort s.head (term_at t s.first)
      (term_at t s.second) (term_at t s.third) (form_at t s.left) (form_at t s.right)) (sym q)
      (no_form e)

  -- ROWS OF TERMS
  module _ (r : TermRow) (at : Some r ≡ slice_get t.terms.keys i) where
    pub term_row : term_at t i ≡ read_term (names_at t) (terms_at t) r
    unfolding names_at terms_at
    term_row = row-reads (read_term (names_at t)) (TermWithin (length (names_at t)))
        (term-stays (names_at t)) t.terms.keys t.whole.terms_grown.within i r at (literal null)

    pub term_within : TermWithin (length (names_at t)) i r
    unfolding names_at terms_at
    term_within = row-within (read_term (names_at t)) (TermWithin (length (names_at t)))
        (term-stays (names_at t)) t.terms.keys t.whole.terms_grown.within i r at

    pub term_there : IsTerm t i (read_term (names_at t) (terms_at t) r)
    unfolding names_at terms_at
    term_there = record {
      there = subst (λ n. i < n) (sym (grown-size (read_term (names_at t)) t.terms.keys))
          (slice_get_within t.terms.keys i r (sym at));
      is = term_row;
    }

  -- the row of a term over a name
  pub named_there : (k : Named) (x : ℕ) (r : TermRow) (y : Name)
      → Some r ≡ slice_get t.terms.keys i → r ≡ named_row k x → name_at t x ≡ y
      → IsTerm t i (named_term k y)
  named_there k x r y at q e = subst (λ a. IsTerm t i a)
      (ap (read_term (names_at t) (terms_at t)) q
      ∙ (named-reads (names_at t) (terms_at t) k x ∙ ap (named_term k) e)) (term_there r at)

  pub no_term : None ≡ slice_get t.terms.keys i → term_at t i ≡ literal null
  unfolding names_at terms_at
  no_term e = past-rows (read_term (names_at t)) t.terms.keys i (literal null)
      (none-past t.terms.keys i e)

-- how many formulas there are
pub form_count : (t : Table) → length t.forms.keys ≡ length (forms_at t)
unfolding forms_at
form_count t = sym (grown-size (read_form (terms_of (map string_bytes t.names.keys) t.terms.keys))
    t.forms.keys)

-- NAMES
-- whether a text is empty
pub is_empty : (x : List ℕ) → (length x == 0) ≡ bytes_eq x []
is_empty [] = refl
is_empty (n ∷ x) = elim (eqb_tells (length (n ∷ x)) 0)
    as (λ _. (length (n ∷ x) == 0) ≡ bytes_eq (n ∷ x) []) [
      | inl h ↦ absurd (omega (arith, h.1))
      | inr h ↦ h.0
    ]

module _ {Z : Type 0} (ks : List (String Z)) (i : ℕ) where
  pub no_name : None ≡ slice_get ks i → get_or (map string_bytes ks) i [] ≡ []
  no_name e = get_or_past (map string_bytes ks) i []
      (subst (λ n. n ≤ i) (sym (length-map ks string_bytes)) (none-past ks i e))

  pub a_name : (x : String Z) → Some x ≡ slice_get ks i
      → get_or (map string_bytes ks) i [] ≡ string_bytes x
  a_name x e = get_or-map string_bytes ks i x [] (slice_get_within ks i x (sym e))
      ∙ ap string_bytes (get_or_from_slice_get ks i x x (sym e))
