-- How the steps of interning a formula follow one another.
use Rattle.std.proofs.Common.{◌≡◌, ℕ, zero, ◌<◌, ◌≤◌, Bool, true, false, nat_lt, cond, sym, refl, ap, ◌∙◌, subst, arith, List, [], ◌∷◌, ◌++◌, length, get_or, Result, Ok, Err, IsErrAnd}
use Rattle.model_shapes.specs.Values.{null}
use Rattle.model_terms.specs.Terms.{Term, literal}
use Rattle.model_formulas.specs.Formulas.{Formula, truth}
use Rattle.formula_table.specs.Heads.{build, terms_used, parts_used}
use Rattle.formula_table.specs.Rows.{bound_sort, used_at, read_form, FormWithin}
use Rattle.formula_table.specs.Forms.{terms_at, forms_at}
use Rattle.formula_table.specs.Interning.{KeepsAll, TermsGrow, IsTerm, StandsFor, TermPlace, PartPlace, IsRow, Fills, Ends, filled, overfull}
use Rattle.dom_terms.specs.declared.sorts.Sort.{Sort}
use Rattle.formula_table.specs.declared.heads.Head.{Head}
use Rattle.formula_table.specs.declared.heads.Head.TheVariants as h
use Rattle.formula_table.specs.declared.faults.TableFault.{TableFault}
use Rattle.formula_table.specs.declared.faults.TableFault.TheVariants as f
use Rattle.formula_table.specs.declared.rows.FormRow.{FormRow}
use Rattle.formula_table.specs.declared.tables.Table.{Table}
use Rattle.formula_table.proofs.Filling.{filled-more, filled-stop, full-length}
use Rattle.formula_table.proofs.ReadRows.{form_count}
use Rattle.formula_table.proofs.KeptNumbers.{keeps_all-trans}

-- ROWS
term-place : (t : Table) (b : Bool) (i : ℕ) (a : Term)
    → cond b (IsTerm t i a) ((i ≡ zero) × (a ≡ literal null))
    → (cond b (get_or (terms_at t) i (literal null)) (literal null) ≡ a)
    × cond b (i < length (terms_at t)) (i ≡ zero)
term-place t true i a h = (h.is, h.there)
term-place t false i a h = (sym h.1, h.0)

part-place : (t : Table) (b : Bool) (i : ℕ) (p : Formula)
    → cond b (StandsFor t i p) ((i ≡ zero) × (p ≡ truth))
    → (cond b (get_or (forms_at t) i truth) truth ≡ p)
    × cond b (i < length (forms_at t)) (i ≡ zero)
part-place t true i p h = (h.is, h.there)
part-place t false i p h = (sym h.1, h.0)

module _ (t : Table) (row : FormRow) (a b c : Term) (p q : Formula) (h : IsRow t row a b c p q)
  where
    pub row_reads : read_form (terms_at t) (forms_at t) row ≡ build bound_sort row.head a b c p q
    row_reads =
        let x : used_at (terms_used row.head) 0 (literal null) (terms_at t) row.first ≡ a =
        (term-place t (nat_lt 0 (terms_used row.head)) row.first a h.first).0 in
        let y : used_at (terms_used row.head) 1 (literal null) (terms_at t) row.second ≡ b =
        (term-place t (nat_lt 1 (terms_used row.head)) row.second b h.second).0 in
        let z : used_at (terms_used row.head) 2 (literal null) (terms_at t) row.third ≡ c =
        (term-place t (nat_lt 2 (terms_used row.head)) row.third c h.third).0 in
        let u : used_at (parts_used row.head) 0 truth (forms_at t) row.left ≡ p =
        (part-place t (nat_lt 0 (parts_used row.head)) row.left p h.left).0 in
        let v : used_at (parts_used row.head) 1 truth (forms_at t) row.right ≡ q =
        (part-place t (nat_lt 1 (parts_used row.head)) row.right q h.right).0 in
        λ j. build bound_sort row.head (x j) (y j) (z j) (u j) (v j)

    pub row_within : FormWithin (length (terms_at t)) (length (forms_at t)) row
    row_within = record {
      first = (term-place t (nat_lt 0 (terms_used row.head)) row.first a h.first).1;
      second = (term-place t (nat_lt 1 (terms_used row.head)) row.second b h.second).1;
      third = (term-place t (nat_lt 2 (terms_used row.head)) row.third c h.third).1;
      left = (part-place t (nat_lt 0 (parts_used row.head)) row.left p h.left).1;
      right = (part-place t (nat_lt 1 (parts_used row.head)) row.right q h.right).1;
    }

-- what a row's number is that of
pub row_ends : (t new : Table) (row : FormRow) (a b c : Term) (p q : Formula)
    → IsRow t row a b c p q → (r : Result ℕ TableFault)
    → Ends t new (read_form (terms_at t) (forms_at t) row ∷ [])
    (read_form (terms_at t) (forms_at t) row) r
    → Ends t new (build bound_sort row.head a b c p q ∷ []) (build bound_sort row.head a b c p q) r
row_ends t new row a b c p q h r e =
    subst (λ x. Ends t new (x ∷ []) x r) (row_reads t row a b c p q h) e

-- STEPS
module _ (old mid new : Table) (ps qs : List Formula) (k : Fills old mid ps false) where
  more : (stops : Bool) → Fills mid new qs stops → Fills old new (ps ++ qs) stops
  more stops l =
      let h : (filled old.most (forms_at old) (ps ++ qs)
      ≡ filled old.most (filled old.most (forms_at old) ps) qs)
      × (overfull old.most (forms_at old) (ps ++ qs)
      ≡ overfull old.most (filled old.most (forms_at old) ps) qs) =
      filled-more old.most (forms_at old) ps qs k.overfull in record {
        keeps = keeps_all-trans old mid new k.keeps l.keeps;
        filled = l.filled ∙ ((λ j. filled (k.keeps.most j) (k.filled j) qs) ∙ sym h.0);
        overfull = h.1 ∙ (sym (λ j. overfull (k.keeps.most j) (k.filled j) qs) ∙ l.overfull);
      }

  -- one list of formulas and then another
  pub then_ends : (p : Formula) (r : Result ℕ TableFault) → Ends mid new qs p r
      → Ends old new (ps ++ qs) p r
  then_ends p (Ok i) e = (more false e.0, e.1)
  then_ends p (Err f.Full) e = more true e
  then_ends p (Err f.OutOfMemory) e = keeps_all-trans old mid new k.keeps e

-- where the first stops nothing follows
pub stop_ends : (old new : Table) (ps qs : List Formula) (p q : Formula) (e : TableFault)
    → Ends old new ps p (Err e) → Ends old new (ps ++ qs) q (Err e)
stop_ends old new ps qs p q f.Full k =
    let h : (filled old.most (forms_at old) (ps ++ qs) ≡ filled old.most (forms_at old) ps)
    × (overfull old.most (forms_at old) (ps ++ qs) ≡ true) =
    filled-stop old.most (forms_at old) ps qs k.overfull in
    record { keeps = k.keeps; filled = k.filled ∙ sym h.0; overfull = h.1 }
stop_ends old new ps qs p q f.OutOfMemory k = k

-- the same at a `?`
pub stop_at : (old new : Table) (ps qs : List Formula) (p q : Formula) (e : TableFault)
    (r : Result ℕ TableFault) → IsErrAnd r (λ f. f ≡ e) → Ends old new ps p (Err e)
    → Ends old new (ps ++ qs) q r
stop_at old new ps qs p q e (Ok i) h k = absurd h
stop_at old new ps qs p q e (Err f) h k =
    subst (λ g. Ends old new (ps ++ qs) q (Err g)) (sym h) (stop_ends old new ps qs p q e k)

-- and where memory is refused
pub refused_at : (old new : Table) (ps : List Formula) (p : Formula) (r : Result ℕ TableFault)
    → IsErrAnd r (λ g. g ≡ f.OutOfMemory) → KeepsAll old new → Ends old new ps p r
refused_at old new ps p (Ok i) h k = absurd h
refused_at old new ps p (Err e) h k = subst (λ g. Ends old new ps p (Err g)) (sym h) k

-- a table that is full has as many formulas as it may have
pub full_at : {A : Type 0} (old new : Table) (ps : List Formula) (p : Formula) (e : TableFault)
    (r : Result A TableFault) → IsErrAnd r (λ g. g ≡ e) → Ends old new ps p (Err e)
    → r ≡ Err f.Full → length (forms_at new) ≡ new.most
full_at old new ps p e (Ok i) h k q = absurd h
full_at old new ps p f.Full (Err g) h k q =
    let few : length old.forms.keys ≤ old.most = old.few in
    let count : length old.forms.keys ≡ length (forms_at old) = form_count old in
    let full : length (filled old.most (forms_at old) ps) ≡ old.most =
    full-length old.most (forms_at old) ps (omega (arith, few, count)) k.overfull in
    ap length k.filled ∙ (full ∙ sym k.keeps.most)
full_at old new ps p f.OutOfMemory (Err g) h k q = absurd cc

-- terms that were added first change nothing
module _ (old mid new : Table) (g : TermsGrow old mid) (ps : List Formula) where
  grown : (stops : Bool) → Fills mid new ps stops → Fills old new ps stops
  grown stops k = record {
    keeps = keeps_all-trans old mid new g.keeps k.keeps;
    filled = k.filled ∙ (λ j. filled (g.keeps.most j) (g.forms j) ps);
    overfull = sym (λ j. overfull (g.keeps.most j) (g.forms j) ps) ∙ k.overfull;
  }

  pub grown_ends : (p : Formula) (r : Result ℕ TableFault) → Ends mid new ps p r
      → Ends old new ps p r
  grown_ends p (Ok i) e = (grown false e.0, e.1)
  grown_ends p (Err f.Full) e = grown true e
  grown_ends p (Err f.OutOfMemory) e = keeps_all-trans old mid new g.keeps e

-- THE ROWS OF THE FORMS
module _ (t : Table) (m : Head) where
  pub leaf_row : terms_used m ≡ 0 → parts_used m ≡ 0
      → IsRow t (record { head = m; first = 0; second = 0; third = 0; left = 0; right = 0 })
      (literal null) (literal null) (literal null) truth truth
  leaf_row e f = record {
    first = subst (λ u. TermPlace u 0 t 0 (literal null)) (sym e) (refl, refl);
    second = subst (λ u. TermPlace u 1 t 0 (literal null)) (sym e) (refl, refl);
    third = subst (λ u. TermPlace u 2 t 0 (literal null)) (sym e) (refl, refl);
    left = subst (λ u. PartPlace u 0 t 0 truth) (sym f) (refl, refl);
    right = subst (λ u. PartPlace u 1 t 0 truth) (sym f) (refl, refl);
  }

  pub about_row : (i : ℕ) (a : Term) → terms_used m ≡ 1 → parts_used m ≡ 0 → IsTerm t i a
      → IsRow t (record { head = m; first = i; second = 0; third = 0; left = 0; right = 0 })
      a (literal null) (literal null) truth truth
  about_row i a e f h = record {
    first = subst (λ u. TermPlace u 0 t i a) (sym e) h;
    second = subst (λ u. TermPlace u 1 t 0 (literal null)) (sym e) (refl, refl);
    third = subst (λ u. TermPlace u 2 t 0 (literal null)) (sym e) (refl, refl);
    left = subst (λ u. PartPlace u 0 t 0 truth) (sym f) (refl, refl);
    right = subst (λ u. PartPlace u 1 t 0 truth) (sym f) (refl, refl);
  }

  pub comparing_row : (i j : ℕ) (a b : Term) → terms_used m ≡ 2 → parts_used m ≡ 0
      → IsTerm t i a → IsTerm t j b
      → IsRow t (record { head = m; first = i; second = j; third = 0; left = 0; right = 0 })
      a b (literal null) truth truth
  comparing_row i j a b e f h k = record {
    first = subst (λ u. TermPlace u 0 t i a) (sym e) h;
    second = subst (λ u. TermPlace u 1 t j b) (sym e) k;
    third = subst (λ u. TermPlace u 2 t 0 (literal null)) (sym e) (refl, refl);
    left = subst (λ u. PartPlace u 0 t 0 truth) (sym f) (refl, refl);
    right = subst (λ u. PartPlace u 1 t 0 truth) (sym f) (refl, refl);
  }

  pub above_row : (i : ℕ) (p : Formula) → terms_used m ≡ 0 → parts_used m ≡ 1 → StandsFor t i p
      → IsRow t (record { head = m; first = 0; second = 0; third = 0; left = i; right = 0 })
      (literal null) (literal null) (literal null) p truth
  above_row i p e f h = record {
    first = subst (λ u. TermPlace u 0 t 0 (literal null)) (sym e) (refl, refl);
    second = subst (λ u. TermPlace u 1 t 0 (literal null)) (sym e) (refl, refl);
    third = subst (λ u. TermPlace u 2 t 0 (literal null)) (sym e) (refl, refl);
    left = subst (λ u. PartPlace u 0 t i p) (sym f) h;
    right = subst (λ u. PartPlace u 1 t 0 truth) (sym f) (refl, refl);
  }

  pub joining_row : (i j : ℕ) (p q : Formula) → terms_used m ≡ 0 → parts_used m ≡ 2
      → StandsFor t i p → StandsFor t j q
      → IsRow t (record { head = m; first = 0; second = 0; third = 0; left = i; right = j })
      (literal null) (literal null) (literal null) p q
  joining_row i j p q e f h k = record {
    first = subst (λ u. TermPlace u 0 t 0 (literal null)) (sym e) (refl, refl);
    second = subst (λ u. TermPlace u 1 t 0 (literal null)) (sym e) (refl, refl);
    third = subst (λ u. TermPlace u 2 t 0 (literal null)) (sym e) (refl, refl);
    left = subst (λ u. PartPlace u 0 t i p) (sym f) h;
    right = subst (λ u. PartPlace u 1 t j q) (sym f) k;
  }

pub meeting_row : (t : Table) (s : Sort) (i j : ℕ) (a : Term) (p : Formula) → IsTerm t i a
    → StandsFor t j p
    → IsRow t (record { head = h.Is s; first = i; second = 0; third = 0; left = j; right = 0 })
    a (literal null) (literal null) p truth
meeting_row t s i j a p x y =
    record {
      first = x;
      second = (refl, refl);
      third = (refl, refl);
      left = y;
      right = (refl, refl);
    }

pub node_row : (t : Table) (i j k l : ℕ) (a b c : Term) (p : Formula) → IsTerm t i a → IsTerm t j b
    → IsTerm t k c → StandsFor t l p
    → IsRow t (record { head = h.Node; first = i; second = j; third = k; left = l; right = 0 })
    a b c p truth
node_row t i j k l a b c p x y z u =
    record { first = x; second = y; third = z; left = u; right = (refl, refl) }
