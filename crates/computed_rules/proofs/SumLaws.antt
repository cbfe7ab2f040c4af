-- What the linear forms of the program stand for, as they grow.
use Rattle.std.proofs.Common.{◌≡◌, ◌∙◌, refl, sym, ap, subst, List, [], ◌∷◌, ◌++◌, ℕ, Bool, true, false, ◌&&◌, cond, ℤ, pos, ◌+ℤ◌, neg_ℤ, Option, Some, unwrap_or, bytes_eq, Result, Ok, Err}
use Rattle.std.specs.Prelude.{int_le, int_lt, OnOk}
use Rattle.std.specs.List.{list_all}
use Rattle.std.proofs.Math.IntN.{+ℤ_idr, +ℤ_assoc}
use Rattle.model_shapes.proofs.Truth.{false≢true, both_true}
use Rattle.model_shapes.proofs.Tests.{bytes-is, bytes-refl, same_value_sort-is, same_sort-is}
use Rattle.model_shapes.specs.Sorts.{ValueSort, Sort, value, int_sort}
use Rattle.model_shapes.specs.Tests.{int_eq, same_value_sort, same_sort}
use Rattle.model_terms.specs.Variables.{prog, logic, bound}
use Rattle.model_terms.specs.Terms.{Term, literal, variable, sum, difference, appended}
use Rattle.model_terms.specs.TermSorts.{has_sort, both_have}
use Rattle.rule_table.specs.Linear.{Form, times, plain, multiple, rest, coefficient, constant, none_counts, is_constant, at_least_zero, is_zero, below_zero}
use Rattle.computed_rules.specs.Forms.{StandsFor, Adds, cancels_in, count_in}
use Rattle.computed_rules.specs.Linear.{Comparison, is_integral, total, weighed, shortfall}
use Rattle.computed_rules.specs.Sums.{cancel_in}
use Rattle.computed_rules.specs.declared.forms.LinearForm.{LinearForm}
use Rattle.computed_rules.proofs.FormLaws.{coefficient-append, constant-append, none-append, rest-least, rest-zero}

-- ONE COUNT MORE
bytes-apart : (x y : List ℕ) → bytes_eq x y ≡ false → bytes_eq y x ≡ false
bytes-apart x y e = by_test (bytes_eq y x) refl
  where
    by_test : (b : Bool) → bytes_eq y x ≡ b → b ≡ false
    by_test false h = refl
    by_test true h =
        false≢true (sym e ∙ ap (bytes_eq x) (bytes-is y x h) ∙ bytes-refl x)

pub count-more : (found found' : List ℕ → Option ℤ) (name : List ℕ) (count number : ℤ)
    → count ≡ unwrap_or (found name) (pos 0) +ℤ number
    → ((other : List ℕ) → found' other ≡ cond (bytes_eq name other) (Some count) (found other))
    → (other : List ℕ)
    → unwrap_or (found' other) (pos 0)
    ≡ unwrap_or (found other) (pos 0) +ℤ cond (bytes_eq other name) number (pos 0)
count-more found found' name count number e has other = by_test (bytes_eq name other) refl
  where
    by_test : (b : Bool) → bytes_eq name other ≡ b
        → unwrap_or (found' other) (pos 0)
        ≡ unwrap_or (found other) (pos 0) +ℤ cond (bytes_eq other name) number (pos 0)
    by_test true h =
        let same : name ≡ other = bytes-is name other h in
        ap (λ o. unwrap_or o (pos 0))
        (has other ∙ ap (λ b. cond b (Some count) (found other)) h)
        ∙ e
        ∙ (λ i. unwrap_or (found (same i)) (pos 0)
        +ℤ cond (sym (ap (λ z. bytes_eq z name) (sym same) ∙ bytes-refl name) i) number (pos 0))
    by_test false h =
        ap (λ o. unwrap_or o (pos 0))
        (has other ∙ ap (λ b. cond b (Some count) (found other)) h)
        ∙ sym (+ℤ_idr (unwrap_or (found other) (pos 0)))
        ∙ (λ i. unwrap_or (found other) (pos 0)
        +ℤ cond (sym (bytes-apart name other h) i) number (pos 0))

-- FORMS ADDED
pub adds-nothing : (form : LinearForm) → Adds form form []
adds-nothing form = record {
  progs = λ name. sym (+ℤ_idr (count_in form.progs name));
  logics = λ name. sym (+ℤ_idr (count_in form.logics name));
  constant_is = sym (+ℤ_idr form.constant);
}

added : (a b c x y z : ℤ) → b ≡ a +ℤ x → c ≡ b +ℤ y → z ≡ x +ℤ y → c ≡ a +ℤ z
added a b c x y z e f g = f ∙ ap (λ w. w +ℤ y) e ∙ +ℤ_assoc a x y ∙ ap (λ w. a +ℤ w) (sym g)

pub adds-both : (a b c : LinearForm) (f g : Form) → Adds a b f → Adds b c g → Adds a c (f ++ g)
adds-both a b c f g h k = record {
  progs = λ name. added (count_in a.progs name) (count_in b.progs name) (count_in c.progs name)
      (coefficient (prog name int_sort) f) (coefficient (prog name int_sort) g)
      (coefficient (prog name int_sort) (f ++ g)) (h.progs name) (k.progs name)
      (coefficient-append (prog name int_sort) f g);
  logics = λ name.
      added (count_in a.logics name) (count_in b.logics name) (count_in c.logics name)
      (coefficient (logic name (value int_sort)) f) (coefficient (logic name (value int_sort)) g)
      (coefficient (logic name (value int_sort)) (f ++ g)) (h.logics name) (k.logics name)
      (coefficient-append (logic name (value int_sort)) f g);
  constant_is = added a.constant b.constant c.constant (constant f) (constant g)
      (constant (f ++ g)) h.constant_is k.constant_is (constant-append f g);
}

pub stands-more : (a b : LinearForm) (f g : Form) → StandsFor a f → Adds a b g
    → StandsFor b (f ++ g)
stands-more a b f g h k = record {
  progs = λ name. k.progs name
      ∙ ap (λ z. z +ℤ coefficient (prog name int_sort) g) (h.progs name)
      ∙ sym (coefficient-append (prog name int_sort) f g);
  logics = λ name. k.logics name
      ∙ ap (λ z. z +ℤ coefficient (logic name (value int_sort)) g) (h.logics name)
      ∙ sym (coefficient-append (logic name (value int_sort)) f g);
  constant_is = k.constant_is ∙ ap (λ z. z +ℤ constant g) h.constant_is
      ∙ sym (constant-append f g);
}

-- a number
pub adds-number : (a b : LinearForm) (n m : ℤ) → n ≡ m
    → ((name : List ℕ) → count_in b.progs name ≡ count_in a.progs name)
    → ((name : List ℕ) → count_in b.logics name ≡ count_in a.logics name)
    → b.constant ≡ a.constant +ℤ n → Adds a b (plain m ∷ [])
adds-number a b n m e p l c = record {
  progs = λ name. p name ∙ sym (+ℤ_idr (count_in a.progs name));
  logics = λ name. l name ∙ sym (+ℤ_idr (count_in a.logics name));
  constant_is = c ∙ ap (λ z. a.constant +ℤ z) (e ∙ sym (+ℤ_idr m));
}

-- a test beside one that holds
and-true : (b : Bool) → (b && true) ≡ b
and-true true = refl
and-true false = refl

-- what a part counts at a name, where it is of the sort
counted : (n : ℤ) (same sorted : Bool) → sorted ≡ true
    → cond same n (pos 0) ≡ cond (same && sorted) n (pos 0) +ℤ pos 0
counted n same sorted e =
    ap (λ z. cond z n (pos 0)) (sym (ap (λ z. same && z) e ∙ and-true same))
    ∙ sym (+ℤ_idr (cond (same && sorted) n (pos 0)))

-- a program variable
pub adds-prog : (a b : LinearForm) (x : List ℕ) (s : ValueSort) (n : ℤ)
    → same_value_sort int_sort s ≡ true
    → ((name : List ℕ) → count_in b.progs name
    ≡ count_in a.progs name +ℤ cond (bytes_eq name x) n (pos 0))
    → ((name : List ℕ) → count_in b.logics name ≡ count_in a.logics name)
    → b.constant ≡ a.constant → Adds a b (times n (prog x s) ∷ [])
adds-prog a b x s n e p l c = record {
  progs = λ name. p name
      ∙ ap (λ z. count_in a.progs name +ℤ z)
      (counted n (bytes_eq name x) (same_value_sort int_sort s) e);
  logics = λ name. l name ∙ sym (+ℤ_idr (count_in a.logics name));
  constant_is = c ∙ sym (+ℤ_idr a.constant);
}

-- a logic variable
pub adds-logic : (a b : LinearForm) (x : List ℕ) (s : Sort) (n : ℤ)
    → same_sort (value int_sort) s ≡ true
    → ((name : List ℕ) → count_in b.progs name ≡ count_in a.progs name)
    → ((name : List ℕ) → count_in b.logics name
    ≡ count_in a.logics name +ℤ cond (bytes_eq name x) n (pos 0))
    → b.constant ≡ a.constant → Adds a b (times n (logic x s) ∷ [])
adds-logic a b x s n e p l c = record {
  progs = λ name. p name ∙ sym (+ℤ_idr (count_in a.progs name));
  logics = λ name. l name
      ∙ ap (λ z. count_in a.logics name +ℤ z)
      (counted n (bytes_eq name x) (same_sort (value int_sort) s) e);
  constant_is = c ∙ sym (+ℤ_idr a.constant);
}

-- WHAT CANCELS
pub cancels-is : (form : LinearForm) (f : Form) → StandsFor form f → (a : ℤ) (t : Term)
    → has_sort int_sort t ≡ true → cancels_in form t ≡ none_counts (multiple a t) f
cancels-is form f h a (literal v) e = refl
cancels-is form f h a (variable (prog name s)) e =
    ap (λ z. int_eq z (pos 0))
    (h.progs name ∙ ap (λ z. coefficient (prog name z) f) (same_value_sort-is int_sort s e))
    ∙ sym (and-true (int_eq (coefficient (prog name s) f) (pos 0)))
cancels-is form f h a (variable (logic name s)) e =
    ap (λ z. int_eq z (pos 0))
    (h.logics name ∙ ap (λ z. coefficient (logic name z) f) (same_sort-is (value int_sort) s e))
    ∙ sym (and-true (int_eq (coefficient (logic name s) f) (pos 0)))
cancels-is form f h a (variable (bound i s)) e = false≢true e
cancels-is form f h a (sum s t) e =
    let g : (has_sort int_sort s ≡ true) × (has_sort int_sort t ≡ true) =
    both_true (has_sort int_sort s) (has_sort int_sort t) e in
    (λ i. cancels-is form f h a s g.0 i && cancels-is form f h a t g.1 i)
    ∙ sym (none-append (multiple a s) (multiple a t) f)
cancels-is form f h a (difference s t) e =
    let g : (has_sort int_sort s ≡ true) × (has_sort int_sort t ≡ true) =
    both_true (has_sort int_sort s) (has_sort int_sort t) e in
    (λ i. cancels-is form f h a s g.0 i && cancels-is form f h (neg_ℤ a) t g.1 i)
    ∙ sym (none-append (multiple a s) (multiple (neg_ℤ a) t) f)
cancels-is form f h a (appended s t) e = false≢true e

pub cancel-is : (form : LinearForm) (f : Form) → StandsFor form f → (cs : List Comparison)
    → list_all is_integral cs ≡ true → cancel_in form cs ≡ none_counts (total cs) f
cancel-is form f h [] e = refl
cancel-is form f h (c ∷ cs) e =
    let g : (is_integral c ≡ true) × (list_all is_integral cs ≡ true) =
    both_true (is_integral c) (list_all is_integral cs) e in
    let k : (has_sort int_sort c.left ≡ true) × (has_sort int_sort c.right ≡ true) =
    both_true (has_sort int_sort c.left) (has_sort int_sort c.right) g.0 in
    (λ i. (cancels-is form f h c.number c.right k.1 i
    && cancels-is form f h (neg_ℤ c.number) c.left k.0 i) && cancel-is form f h cs g.1 i)
    ∙ ap (λ z. z && none_counts (total cs) f)
    (sym (none-append (multiple c.number c.right) (multiple (neg_ℤ c.number) c.left) f))
    ∙ sym (none-append (weighed c) (total cs) f)

-- WHAT THE SUM GIVES
pub given-false : (cs : List Comparison) → list_all is_integral cs ≡ true → (form : LinearForm)
    → StandsFor form (total cs)
    → (cancel_in form cs && int_lt form.constant (pos 0)) ≡ below_zero (total cs)
given-false cs integral form stands =
    λ i. cancel-is form (total cs) stands cs integral i && int_lt (stands.constant_is i) (pos 0)

module _ (cs : List Comparison) (integral : list_all is_integral cs ≡ true) (e f : Term)
    (sorted : both_have int_sort e f ≡ true) (form : LinearForm)
    (stands : StandsFor form (shortfall e f (total cs))) where
  all-cancel : (cancel_in form cs && (cancels_in form e && cancels_in form f))
      ≡ is_constant (shortfall e f (total cs))
  all-cancel =
      let k : (has_sort int_sort e ≡ true) × (has_sort int_sort f ≡ true) =
      both_true (has_sort int_sort e) (has_sort int_sort f) sorted in
      (λ i. cancel-is form (shortfall e f (total cs)) stands cs integral i
      && (cancels-is form (shortfall e f (total cs)) stands (pos 1) e k.0 i
      && cancels-is form (shortfall e f (total cs)) stands (neg_ℤ (pos 1)) f k.1 i))
      ∙ ap (λ z. none_counts (total cs) (shortfall e f (total cs)) && z)
      (sym (none-append (multiple (pos 1) e) (multiple (neg_ℤ (pos 1)) f)
      (shortfall e f (total cs))))
      ∙ sym (none-append (total cs) (multiple (pos 1) (difference e f))
      (shortfall e f (total cs)))

  pub given-order : ((cancel_in form cs && (cancels_in form e && cancels_in form f))
      && int_le form.constant (pos 0)) ≡ at_least_zero (rest e f (total cs))
  given-order =
      (λ i. all-cancel i && int_le (stands.constant_is i) (pos 0))
      ∙ sym (rest-least e f (total cs))

  pub given-equation : ((cancel_in form cs && (cancels_in form e && cancels_in form f))
      && int_eq form.constant (pos 0)) ≡ is_zero (rest e f (total cs))
  given-equation =
      (λ i. all-cancel i && int_eq (stands.constant_is i) (pos 0))
      ∙ sym (rest-zero e f (total cs))

-- TERMS ADDED
pub on-ok : {A E P Q : Type 0} (r : Result A E) → (P → Q) → OnOk r P → OnOk r Q
on-ok (Ok a) f p = f p
on-ok (Err e) f p = tt

pub adds-sum : (a b c : LinearForm) (n : ℤ) (s t whole : Term) → whole ≡ sum s t
    → Adds a b (multiple n s) → Adds b c (multiple n t) → Adds a c (multiple n whole)
adds-sum a b c n s t whole e h k =
    subst (λ z. Adds a c (multiple n z)) (sym e)
    (adds-both a b c (multiple n s) (multiple n t) h k)

pub adds-difference : (a b c : LinearForm) (n m : ℤ) (s t whole : Term) → whole ≡ difference s t
    → m ≡ neg_ℤ n → Adds a b (multiple n s) → Adds b c (multiple m t)
    → Adds a c (multiple n whole)
adds-difference a b c n m s t whole e g h k =
    subst (λ z. Adds a c (multiple n z)) (sym e)
    (adds-both a b c (multiple n s) (multiple (neg_ℤ n) t) h
    (subst (λ z. Adds b c (multiple z t)) g k))
