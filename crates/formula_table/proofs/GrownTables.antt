-- A table to which a name, a term or a formula is added.
use Rattle.std.proofs.Common.{◌≡◌, ℕ, ◌<◌, ◌≤◌, sym, ap, ◌∙◌, subst, arith, inl, inr, List, [], ◌∷◌, length, map, get_or, append-nil, Result, Ok, Err, IfOk, OnErr}
use Rattle.std.specs.String.{string_bytes}
use Rattle.model_shapes.specs.Values.{Name, null}
use Rattle.model_terms.specs.Terms.{literal}
use Rattle.model_formulas.specs.Formulas.{Formula, truth}
use Rattle.formula_table.specs.Growing.{Different, IsNew, Keeps}
use Rattle.formula_table.specs.Sets.{Follows, Finds, Adds}
use Rattle.formula_table.specs.Rows.{read_term, read_form, TermWithin, FormWithin}
use Rattle.formula_table.specs.Tables.{IsGrown, Interns, IsTable, terms_of, forms_of}
use Rattle.formula_table.specs.Forms.{names_at, terms_at, forms_at, form_at}
use Rattle.formula_table.specs.Interning.{KeepsAll, TermsGrow, IsName, IsTerm, Ends}
use Rattle.formula_table.specs.declared.faults.TableFault.{TableFault}
use Rattle.formula_table.specs.declared.faults.TableFault.TheVariants as f
use Rattle.formula_table.specs.declared.rows.TermRow.{TermRow}
use Rattle.formula_table.specs.declared.rows.FormRow.{FormRow}
use Rattle.formula_table.specs.declared.tables.Table.{Table}
use Rattle.formula_table.proofs.Growing.{different-more, any-default}
use Rattle.formula_table.proofs.TableLaws.{form-added, form-fresh, term-added, with-terms, with-names}
use Rattle.formula_table.proofs.ReadRows.{grown-size, form_count}
use Rattle.formula_table.proofs.Filling.{filled-one, filled-none}

-- LISTS
pub keeps-same : {A : Type 0} (old new : List A) → new ≡ old → Keeps old new
keeps-same old new e = ([], e ∙ sym (append-nil old))

pub follows-keeps : {A : Type 0} (x : A) (old new : List A) → Follows x old new → Keeps old new
follows-keeps x old new (inl e) = keeps-same old new e
follows-keeps x old new (inr h) = (x ∷ [], h.0)

follows-different : {A : Type 0} (x : A) (old new : List A) → Different old → Follows x old new
    → Different new
follows-different x old new d (inl e) = subst (λ l. Different l) (sym e) d
follows-different x old new d (inr h) =
    subst (λ l. Different l) (sym h.0) (different-more old x d h.1)

-- what holds of an answer holds of it otherwise said
if_ok : {A E : Type 0} (r : Result A E) (P Q : A → Type 0) → ((a : A) → P a → Q a) → IfOk r P
    → IfOk r Q
if_ok (Ok a) P Q f h = f a h
if_ok (Err e) P Q f h = tt

-- NAMES
name_found_by : {E : Type 0} (t : Table) (x : Name) (old : List Name) (r : Result ℕ E)
    → IfOk r (Finds x old (map string_bytes t.names.keys)) → IfOk r (λ i. IsName t i x)
unfolding names_at
name_found_by t x old (Ok i) a = record {
  there = a.0;
  is = any-default (map string_bytes t.names.keys) i [] x a.0 ∙ a.1;
}
name_found_by t x old (Err e) a = tt

module _ {E : Type 0} (x : Name) (old new : List Name) where
  pub names_keep : (r : Result ℕ E) → IfOk r (Finds x old new) → OnErr r (new ≡ old)
      → Keeps old new
  names_keep (Ok i) a b = follows-keeps x old new a.2
  names_keep (Err e) a b = keeps-same old new b

  pub names_differ : (r : Result ℕ E) → IfOk r (Finds x old new) → OnErr r (new ≡ old)
      → Different old → Different new
  names_differ (Ok i) a b d = follows-different x old new d a.2
  names_differ (Err e) a b d = subst (λ l. Different l) (sym b) d

-- the table with the names still is one
pub names_table : {E : Type 0} (x : Name) (old new : List Name) (terms : List TermRow)
    (forms : List FormRow) (r : Result ℕ E) → IfOk r (Finds x old new) → OnErr r (new ≡ old)
    → IsTable old terms forms → IsTable new terms forms
names_table x old new terms forms r a b t = (with-names old new terms forms t
    (names_differ x old new r a b t.one_name) (names_keep x old new r a b)).2

module _ (old new : Table) (e : new.terms.keys ≡ old.terms.keys)
    (f : new.forms.keys ≡ old.forms.keys) (m : new.most ≡ old.most) where
  names_grow : Different (map string_bytes new.names.keys)
      → Keeps (map string_bytes old.names.keys) (map string_bytes new.names.keys)
      → TermsGrow old new
  unfolding names_at terms_at forms_at
  names_grow d k =
      let h = with-names (map string_bytes old.names.keys) (map string_bytes new.names.keys)
      old.terms.keys old.forms.keys old.whole d k in
      let a : terms_at new ≡ terms_at old =
      ap (terms_of (map string_bytes new.names.keys)) e ∙ h.0 in
      let b : forms_at new ≡ forms_at old =
      (λ j. forms_of (terms_of (map string_bytes new.names.keys) (e j)) (f j)) ∙ h.1 in
      record {
        keeps = record {
          most = m;
          names = k;
          terms = keeps-same (terms_at old) (terms_at new) a;
          forms = keeps-same (forms_at old) (forms_at new) b;
        };
        forms = b;
      }

  module _ {E : Type 0} (x : Name) (r : Result ℕ E)
      (a : IfOk r (Finds x (map string_bytes old.names.keys) (map string_bytes new.names.keys)))
    where
      pub name_grows : OnErr r (map string_bytes new.names.keys ≡ map string_bytes old.names.keys)
          → TermsGrow old new
      name_grows b = names_grow
          (names_differ x (map string_bytes old.names.keys) (map string_bytes new.names.keys) r a b
          old.whole.one_name)
          (names_keep x (map string_bytes old.names.keys) (map string_bytes new.names.keys) r a b)

      pub name_found : IfOk r (λ i. IsName new i x)
      name_found = name_found_by new x (map string_bytes old.names.keys) r a

-- a table of the same rows, wherever those found last stand
pub rows_stay : (old new : Table) → new.names.keys ≡ old.names.keys
    → new.terms.keys ≡ old.terms.keys → new.forms.keys ≡ old.forms.keys → new.most ≡ old.most
    → TermsGrow old new
unfolding names_at
rows_stay old new n e f m = names_grow old new e f m new.whole.one_name
    (keeps-same (map string_bytes old.names.keys) (map string_bytes new.names.keys)
    (ap (map string_bytes) n))

-- TERMS
module _ (names : List Name) (old new : List TermRow) (forms : List FormRow)
    (row : TermRow) (t : IsTable names old forms)
    (w : TermWithin (length names) (length old) row) where
  -- what becomes of the terms
  added : (i : ℕ) → Finds row old new i
      → Interns (read_term names) (TermWithin (length names)) old new row i
  added i a = term-added names t.one_name old new row t.terms_grown w i a

  module _ {E : Type 0} where
    grown : (r : Result ℕ E) → IfOk r (Finds row old new) → OnErr r (new ≡ old)
        → IsGrown (read_term names) (TermWithin (length names)) new
    grown (Ok i) a b = (added i a).grown
    grown (Err e) a b = subst (λ l. IsGrown (read_term names) (TermWithin (length names)) l) (sym b)
        t.terms_grown

    kept : (r : Result ℕ E) → IfOk r (Finds row old new) → OnErr r (new ≡ old)
        → Keeps (terms_of names old) (terms_of names new)
    kept (Ok i) a b = follows-keeps (read_term names (terms_of names old) row) (terms_of names old)
        (terms_of names new) (added i a).follows
    kept (Err e) a b = keeps-same (terms_of names old) (terms_of names new) (ap (terms_of names) b)

    -- the table with the terms still is one
    terms_table : (r : Result ℕ E) → IfOk r (Finds row old new) → OnErr r (new ≡ old)
        → (forms_of (terms_of names new) forms ≡ forms_of (terms_of names old) forms)
        × IsTable names new forms
    terms_table r a b = with-terms names old new forms t (grown r a b) (kept r a b)

    found : (r : Result ℕ E) → IfOk r (Finds row old new)
        → IfOk r (λ i. (i < length (terms_of names new))
        × (get_or (terms_of names new) i (literal null) ≡ read_term names (terms_of names old) row))
    found (Ok i) a = (added i a).found (literal null)
    found (Err e) a = tt

module _ (t : Table) (row : TermRow)
    (w : TermWithin (length (names_at t)) (length (terms_at t)) row) where
  -- the row's parts are there, as its table's rows are counted
  term_within_rows : TermWithin (length (map string_bytes t.names.keys)) (length t.terms.keys) row
  unfolding names_at terms_at
  term_within_rows = subst (λ n. TermWithin (length (map string_bytes t.names.keys)) n row)
      (grown-size (read_term (map string_bytes t.names.keys)) t.terms.keys) w

  pub with_term : {E : Type 0} (new : List TermRow) (r : Result ℕ E)
      → IfOk r (Finds row t.terms.keys new) → OnErr r (new ≡ t.terms.keys)
      → IsTable (map string_bytes t.names.keys) new t.forms.keys
  with_term new r a b = (terms_table (map string_bytes t.names.keys) t.terms.keys new t.forms.keys
      row t.whole term_within_rows r a b).1

  module _ {E : Type 0} (new : Table) (n : new.names.keys ≡ t.names.keys)
      (f : new.forms.keys ≡ t.forms.keys) (m : new.most ≡ t.most) (r : Result ℕ E)
      (a : IfOk r (Finds row t.terms.keys new.terms.keys)) where
    terms_new : terms_at new ≡ terms_of (map string_bytes t.names.keys) new.terms.keys
    unfolding terms_at
    terms_new j = terms_of (map string_bytes (n j)) new.terms.keys

    pub term_grows : OnErr r (new.terms.keys ≡ t.terms.keys) → TermsGrow t new
    unfolding names_at terms_at forms_at
    term_grows b =
        let h = terms_table (map string_bytes t.names.keys) t.terms.keys new.terms.keys t.forms.keys
        row t.whole term_within_rows r a b in
        let k = kept (map string_bytes t.names.keys) t.terms.keys new.terms.keys t.forms.keys
        row t.whole term_within_rows r a b in
        let g : forms_at new ≡ forms_at t =
        (λ j. forms_of (terms_of (map string_bytes (n j)) new.terms.keys) (f j)) ∙ h.0 in
        record {
          keeps = record {
            most = m;
            names = keeps-same (names_at t) (names_at new) (ap (map string_bytes) n);
            terms = subst (λ l. Keeps (terms_at t) l) (sym terms_new) k;
            forms = keeps-same (forms_at t) (forms_at new) g;
          };
          forms = g;
        }

    pub term_found : IfOk r (λ i. IsTerm new i (read_term (names_at t) (terms_at t) row))
    unfolding names_at terms_at
    term_found = if_ok r _ (λ i. IsTerm new i (read_term (names_at t) (terms_at t) row))
        (λ i h. record {
          there = subst (λ l. i < length l) (sym terms_new) h.0;
          is = ap (λ l. get_or l i (literal null)) terms_new ∙ h.1;
        }) (found (map string_bytes t.names.keys) t.terms.keys new.terms.keys t.forms.keys
        row t.whole term_within_rows r a)

-- FORMULAS
module _ (t : Table) (row : FormRow)
    (w : FormWithin (length (terms_at t)) (length (forms_at t)) row) where
  form_within_rows : FormWithin (length (terms_at t)) (length t.forms.keys) row
  unfolding terms_at forms_at
  form_within_rows = subst (λ n. FormWithin (length (terms_at t)) n row)
      (grown-size (read_form (terms_at t)) t.forms.keys) w

  -- what becomes of the formulas
  form_added : (new : List FormRow) (i : ℕ) → Finds row t.forms.keys new i
      → Interns (read_form (terms_at t)) (FormWithin (length (terms_at t))) t.forms.keys new row i
  unfolding terms_at
  form_added new i a = form-added (terms_at t) t.whole.terms_grown.different t.forms.keys row
      t.whole.forms_grown form_within_rows new i a

  same_rows : (new : List FormRow) → new ≡ t.forms.keys
      → IsGrown (read_form (terms_at t)) (FormWithin (length (terms_at t))) new
  unfolding terms_at
  same_rows new e = subst
      (λ l. IsGrown (read_form (terms_at t)) (FormWithin (length (terms_at t))) l) (sym e)
      t.whole.forms_grown

  -- as the list of formulas is another word for what the rows stand for
  follows_forms : {new : List Formula} → Follows (read_form (terms_at t) (forms_of (terms_at t)
      t.forms.keys) row) (forms_of (terms_at t) t.forms.keys) new
      → Follows (read_form (terms_at t) (forms_at t) row) (forms_at t) new
  unfolding terms_at forms_at
  follows_forms h = h

  found_form : {p : Formula} → p ≡ read_form (terms_at t) (forms_of (terms_at t) t.forms.keys) row
      → p ≡ read_form (terms_at t) (forms_at t) row
  unfolding terms_at forms_at
  found_form h = h

  form_new : IsNew row t.forms.keys → IsNew (read_form (terms_at t) (forms_at t) row) (forms_at t)
  unfolding terms_at forms_at
  form_new = form-fresh (terms_at t) t.whole.terms_grown.different t.forms.keys row
      t.whole.forms_grown form_within_rows

  rows_grown : (new : List FormRow) (r : Result ℕ TableFault) → Adds row t.most t.forms.keys new r
      → IsGrown (read_form (terms_at t)) (FormWithin (length (terms_at t))) new
  rows_grown new (Ok i) a = (form_added new i a).grown
  rows_grown new (Err f.Full) a = same_rows new a.0
  rows_grown new (Err f.OutOfMemory) a = same_rows new a

  pub with_form : (new : List FormRow) (r : Result ℕ TableFault)
      → Adds row t.most t.forms.keys new r
      → IsTable (map string_bytes t.names.keys) t.terms.keys new
  unfolding terms_at
  with_form new r a = record {
    one_name = t.whole.one_name;
    terms_grown = t.whole.terms_grown;
    forms_grown = rows_grown new r a;
  }

  module _ (new : Table) (n : new.names.keys ≡ t.names.keys) (e : new.terms.keys ≡ t.terms.keys)
      (m : new.most ≡ t.most) where
    forms_new : forms_at new ≡ forms_of (terms_at t) new.forms.keys
    unfolding terms_at forms_at
    forms_new j = forms_of (terms_of (map string_bytes (n j)) (e j)) new.forms.keys

    keeps_by : Keeps (forms_at t) (forms_at new) → KeepsAll t new
    unfolding names_at terms_at
    keeps_by k = record {
      most = m;
      names = keeps-same (names_at t) (names_at new) (ap (map string_bytes) n);
      terms = keeps-same (terms_at t) (terms_at new)
          (λ j. terms_of (map string_bytes (n j)) (e j));
      forms = k;
    }

    -- no row more, no formula more
    no_more : new.forms.keys ≡ t.forms.keys → forms_at new ≡ forms_at t
    unfolding terms_at forms_at
    no_more q = forms_new ∙ ap (forms_of (terms_at t)) q

    few_new : length (forms_at new) ≤ t.most
    few_new = let a : length new.forms.keys ≤ new.most = new.few in
        let b : length new.forms.keys ≡ length (forms_at new) = form_count new in
        omega (arith, a, b, m)

    pub form_ends : (r : Result ℕ TableFault) → Adds row t.most t.forms.keys new.forms.keys r
        → Ends t new (read_form (terms_at t) (forms_at t) row ∷ [])
        (read_form (terms_at t) (forms_at t) row) r
    form_ends (Ok i) a =
        let h : Interns (read_form (terms_at t)) (FormWithin (length (terms_at t))) t.forms.keys
        new.forms.keys row i = form_added new.forms.keys i a in
        let s : Follows (read_form (terms_at t) (forms_at t) row) (forms_at t) (forms_at new) =
        subst (λ l. Follows (read_form (terms_at t) (forms_at t) row) (forms_at t) l)
        (sym forms_new) (follows_forms h.follows) in
        let there : i < length (forms_at new) =
        subst (λ l. i < length l) (sym forms_new) (h.found truth).0 in
        let at : form_at new i ≡ read_form (terms_at t) (forms_at t) row =
        ap (λ l. get_or l i truth) forms_new ∙ found_form (h.found truth).1 in
        let g = filled-one t.most (forms_at t) (forms_at new)
        (read_form (terms_at t) (forms_at t) row) s few_new i there at in (
          record {
            keeps = keeps_by (follows-keeps (read_form (terms_at t) (forms_at t) row) (forms_at t)
                (forms_at new) s);
            filled = g.0;
            overfull = g.1;
          },
          record { there = there; is = at },
        )
    form_ends (Err f.Full) a =
        let q : forms_at new ≡ forms_at t = no_more a.0 in
        let g = filled-none t.most (forms_at t) (read_form (terms_at t) (forms_at t) row)
        (form_new a.1) (subst (λ k. t.most ≤ k) (form_count t) a.2) in record {
          keeps = keeps_by (keeps-same (forms_at t) (forms_at new) q);
          filled = q ∙ sym g.0;
          overfull = g.1;
        }
    form_ends (Err f.OutOfMemory) a =
        keeps_by (keeps-same (forms_at t) (forms_at new) (no_more a))
