-- The verdict on a step by the row linear, found from what is written.
use Rattle.std.proofs.Common.{◌≡◌, refl, sym, ap, ◌∙◌, subst, inl, inr, ◌&&◌, List, [], ◌∷◌, ◌++◌, Option, Some, None, codes, append_assoc, append-nil, map}
use Rattle.model_shapes.proofs.Truth.{false≢true}
use Rattle.model_shapes.specs.Sorts.{Sort, DataSort, value, int_sort}
use Rattle.model_commands.specs.Commands.{Command}
use Rattle.model_shapes.specs.Values.{int, null}
use Rattle.model_terms.specs.Terms.{Term, literal}
use Rattle.model_formulas.specs.Formulas.{Formula, conjunction, at_most, equality, falsity}
use Rattle.model_commands.specs.Theories.{Judgement, entails, triple}
use Rattle.rule_table.specs.Linear.{Weighed, order, equation, both_of, comparisons, numbers, sides, sum_of, rest, are_fair, equations_alone, at_least_zero, below_zero, is_zero}
use Rattle.rule_table.specs.Letters.{Letters}
use Rattle.rule_table.specs.Conditions.{TermAt, of_sort, tested, coefficient_side, sum_side}
use Rattle.rule_table.specs.Entries.{Row}
use Rattle.rule_table.specs.Verdicts.{Written, Concludes, AllMet, Verdict, IsVerdict}
use Rattle.rule_table.specs.Entailments as Te
use Rattle.rule_table.proofs.SomeLetters.{readings_of, plain_letters, left_in, right_in, is_entailment}
use Rattle.rule_table.proofs.Decisions.{test_holds, both_hold, at_sort, all_at_sort, Form, an_order, an_equation, just_false, another, Kind, order_kind, equation_kind, false_kind, other_kind, kind_of, form_of}
use Rattle.rule_table.proofs.Determined.{Each_line, refuted, Like, Determined, verdict_on, none_cited}

-- two weighed parts
abbrev joined : Weighed → Option (Weighed × List Term) → Option (Weighed × List Term)
joined v None = None
joined v (Some w) = Some (both_of v w.0, w.1)

abbrev and_then : Option (Weighed × List Term) → (List Term → Option (Weighed × List Term))
    → Option (Weighed × List Term)
and_then None f = None
and_then (Some v) f = joined v.0 (f v.1)

-- the comparisons of a formula with the first numbers, and the numbers that are left
abbrev pub weighed : Formula → List Term → Option (Weighed × List Term)
weighed (conjunction p q) ts = and_then (weighed p ts) (λ us. weighed q us)
weighed (at_most l r) (literal (int a) ∷ ts) = Some (order a l r, ts)
weighed (equality l r) (literal (int a) ∷ ts) = Some (equation a l r, ts)
weighed p ts = None

some-pair : (v w : Weighed) (ts us : List Term)
    → ◌≡◌ {A = Option (Weighed × List Term)} (Some (v, ts)) (Some (w, us))
    → (v ≡ w) × (ts ≡ us)
some-pair v w ts us e =
    let h : ◌≡◌ {A = Weighed × List Term} (v, ts) (w, us) = cc in
    (ap (λ z. z.0) h, ap (λ z. z.1) h)

-- it finds all
weighed-all : (w : Weighed) (ts : List Term)
    → weighed (comparisons w) (numbers w ++ ts) ≡ Some (w, ts)
weighed-all (order a l r) ts = refl
weighed-all (equation a l r) ts = refl
weighed-all (both_of v w) ts =
    ap (λ z. and_then (weighed (comparisons v) z) (λ us. weighed (comparisons w) us))
    (append_assoc (numbers v) (numbers w) ts)
    ∙ ap (λ z. and_then z (λ us. weighed (comparisons w) us)) (weighed-all v (numbers w ++ ts))
    ∙ ap (joined v) (weighed-all w ts)

pub weighed-each : (w : Weighed) (p : Formula) (ts : List Term) → comparisons w ≡ p
    → numbers w ≡ ts → weighed p ts ≡ Some (w, [])
weighed-each w p ts e n =
    (λ i. weighed (sym e i) ((sym n ∙ sym (append-nil (numbers w))) i)) ∙ weighed-all w []

-- and what it finds is there
pub weighed-there : (p : Formula) (ts : List Term) (w : Weighed) (us : List Term)
    → weighed p ts ≡ Some (w, us) → (comparisons w ≡ p) × (numbers w ++ us ≡ ts)
weighed-there (conjunction p q) ts w us e =
    by_first (weighed p ts) e (λ v vs h. weighed-there p ts v vs h)
    (λ vs v rest h. weighed-there q vs v rest h)
  where
    by_second : (v : Weighed) (vs : List Term) (o : Option (Weighed × List Term))
        → joined v o ≡ Some (w, us) → (comparisons v ≡ p) × (numbers v ++ vs ≡ ts)
        → ((u : Weighed) (rest : List Term) → o ≡ Some (u, rest)
        → (comparisons u ≡ q) × (numbers u ++ rest ≡ vs))
        → (comparisons w ≡ conjunction p q) × (numbers w ++ us ≡ ts)
    by_second v vs None e f g = absurd cc
    by_second v vs (Some u) e f g =
        let s : (both_of v u.0 ≡ w) × (u.1 ≡ us) = some-pair (both_of v u.0) w u.1 us e in
        let h : both_of v u.0 ≡ w = s.0 in
        let k : u.1 ≡ us = s.1 in
        let m : (comparisons u.0 ≡ q) × (numbers u.0 ++ u.1 ≡ vs) = g u.0 u.1 refl in (
          ap comparisons (sym h) ∙ (λ i. conjunction (f.0 i) (m.0 i)),
          (λ i. numbers (sym h i) ++ sym k i) ∙ append_assoc (numbers v) (numbers u.0) u.1
              ∙ ap (λ z. numbers v ++ z) m.1 ∙ f.1,
        )

    by_first : (o : Option (Weighed × List Term)) → and_then o (λ us. weighed q us) ≡ Some (w, us)
        → ((v : Weighed) (vs : List Term) → o ≡ Some (v, vs)
        → (comparisons v ≡ p) × (numbers v ++ vs ≡ ts))
        → ((vs : List Term) (u : Weighed) (rest : List Term) → weighed q vs ≡ Some (u, rest)
        → (comparisons u ≡ q) × (numbers u ++ rest ≡ vs))
        → (comparisons w ≡ conjunction p q) × (numbers w ++ us ≡ ts)
    by_first None e f g = absurd cc
    by_first (Some v) e f g = by_second v.0 v.1 (weighed q v.1) e (f v.0 v.1 refl) (g v.1)
weighed-there (at_most l r) (literal (int a) ∷ ts) w us e =
    let s : (order a l r ≡ w) × (ts ≡ us) = some-pair (order a l r) w ts us e in
    let h : order a l r ≡ w = s.0 in
    let k : ts ≡ us = s.1 in
    (ap comparisons (sym h), (λ i. numbers (sym h i) ++ sym k i))
weighed-there (equality l r) (literal (int a) ∷ ts) w us e =
    let s : (equation a l r ≡ w) × (ts ≡ us) = some-pair (equation a l r) w ts us e in
    let h : equation a l r ≡ w = s.0 in
    let k : ts ≡ us = s.1 in
    (ap comparisons (sym h), (λ i. numbers (sym h i) ++ sym k i))
weighed-there p ts w us e = absurd cc

module _ (ts : List Term) (o : Option (List Judgement)) (p q : Formula) (s : Sort) where
  -- what is written
  abbrev written : Written
  written = record { arguments = ts; premises = o; conclusion = entails p q s }

  abbrev rows : List Row
  rows = Te.linear_order ∷ Te.linear_equation ∷ Te.linear_false ∷ []

  -- a choice that concludes has the comparisons that are read
  read : (l : Letters) (b : Formula) → numbers l.W ≡ ts
      → entails (comparisons l.W) b l.s ≡ entails p q s → weighed p ts ≡ Some (l.W, [])
  read l b n e = weighed-each l.W p ts (ap left_in e) n

  same_W : (w : Weighed) → weighed p ts ≡ Some (w, []) → (l : Letters) (b : Formula)
      → numbers l.W ≡ ts → entails (comparisons l.W) b l.s ≡ entails p q s → l.W ≡ w
  same_W w h l b n e = (some-pair l.W w [] [] (sym (read l b n e) ∙ h)).0

  -- no choice concludes
  abbrev shape : ((l : Letters) (b : Formula) → numbers l.W ≡ ts
      → AllMet (map (of_sort (value int_sort)) (sides l.W))
      → entails (comparisons l.W) b l.s ≡ entails p q s → ⊥)
      → (v : Verdict) × IsVerdict rows written v
  shape f =
      refuted rows written (
        (λ l c. f l (at_most l.E l.F) c.0 c.1 c.2),
        ((λ l c. f l (equality l.E l.F) c.0 c.1.1.1 c.2), ((λ l c. f l falsity c.0 c.1 c.2), tt)),
      )

  -- heads
  not_order : {X : Type 0} (k : Kind) → kind_of q ≡ k → (order_kind ≡ k → ⊥) → (l : Letters)
      → entails (comparisons l.W) (at_most l.E l.F) l.s ≡ entails p q s → X
  not_order k h n l e = absurd (n (ap (λ j. kind_of (right_in j)) e ∙ h))

  not_equation : {X : Type 0} (k : Kind) → kind_of q ≡ k → (equation_kind ≡ k → ⊥) → (l : Letters)
      → entails (comparisons l.W) (equality l.E l.F) l.s ≡ entails p q s → X
  not_equation k h n l e = absurd (n (ap (λ j. kind_of (right_in j)) e ∙ h))

  not_false : {X : Type 0} (k : Kind) → kind_of q ≡ k → (false_kind ≡ k → ⊥) → (l : Letters)
      → entails (comparisons l.W) falsity l.s ≡ entails p q s → X
  not_false k h n l e = absurd (n (ap (λ j. kind_of (right_in j)) e ∙ h))

  -- where the comparisons are read, and are comparisons of integers
  module _ (w : Weighed) (h : weighed p ts ≡ Some (w, []))
      (ints : AllMet (map (of_sort (value int_sort)) (sides w))) where
    there : (comparisons w ≡ p) × (numbers w ++ [] ≡ ts)
    there = weighed-there p ts w [] h

    all_numbers : numbers w ≡ ts
    all_numbers = sym (append-nil (numbers w)) ∙ there.1

    abbrev chosen : Term → Term → Letters
    chosen a b = record plain_letters { W = w; E = a; F = b; s = s }

    pub by_order : (a b : Term) → q ≡ at_most a b
        → Determined rows written (Te.linear_order (chosen a b))
    by_order a b e = record {
      found = inl (chosen a b, (all_numbers, ints, (λ i. entails (there.0 i) (sym e i) s)));
      alone = (
        (λ l c. here l c.0 c.2),
        (
          (λ l c. not_equation order_kind (ap kind_of e) (λ x. cc) l c.2),
          ((λ l c. not_false order_kind (ap kind_of e) (λ x. cc) l c.2), tt),
        ),
      );
    }
      where
        here : (l : Letters) → numbers l.W ≡ ts
            → entails (comparisons l.W) (at_most l.E l.F) l.s ≡ entails p q s
            → Like (Te.linear_order (chosen a b)) (Te.linear_order l)
        here l n c =
            let u : ◌≡◌ {A = Formula} (at_most l.E l.F) (at_most a b) = ap right_in c ∙ e in
            let f : l.E ≡ a = cc in
            let g : l.F ≡ b = cc in
            let k : l.W ≡ w = same_W w h l (at_most l.E l.F) n c in (
              refl,
              (λ i. tested coefficient_side (are_fair (k i))
                  ∷ tested sum_side (at_least_zero (rest (f i) (g i) (sum_of (k i)))) ∷ []),
            )

    pub by_equation : (a b : Term) → q ≡ equality a b → TermAt (value int_sort) a
        → TermAt (value int_sort) b → Determined rows written (Te.linear_equation (chosen a b))
    by_equation a b e ta tb = record {
      found =
          inr
          (inl
          (chosen a b, (all_numbers, (ta, (tb, ints)), (λ i. entails (there.0 i) (sym e i) s))));
      alone = (
        (λ l c. not_order equation_kind (ap kind_of e) (λ x. cc) l c.2),
        (
          (λ l c. here l c.0 c.2),
          ((λ l c. not_false equation_kind (ap kind_of e) (λ x. cc) l c.2), tt),
        ),
      );
    }
      where
        here : (l : Letters) → numbers l.W ≡ ts
            → entails (comparisons l.W) (equality l.E l.F) l.s ≡ entails p q s
            → Like (Te.linear_equation (chosen a b)) (Te.linear_equation l)
        here l n c =
            let u : ◌≡◌ {A = Formula} (equality l.E l.F) (equality a b) = ap right_in c ∙ e in
            let f : l.E ≡ a = cc in
            let g : l.F ≡ b = cc in
            let k : l.W ≡ w = same_W w h l (equality l.E l.F) n c in (
              refl,
              (λ i. tested coefficient_side (are_fair (k i))
                  ∷ tested sum_side
                  (is_zero (rest (f i) (g i) (sum_of (k i))) && equations_alone (k i)) ∷ []),
            )

    pub by_false : q ≡ falsity
        → Determined rows written (Te.linear_false (chosen (literal null) (literal null)))
    by_false e = record {
      found =
          inr
          (inr
          (inl (
            chosen (literal null) (literal null),
            (all_numbers, ints, (λ i. entails (there.0 i) (sym e i) s)),
          )));
      alone = (
        (λ l c. not_order false_kind (ap kind_of e) (λ x. cc) l c.2),
        (
          (λ l c. not_equation false_kind (ap kind_of e) (λ x. cc) l c.2),
          ((λ l c. here l c.0 c.2), tt),
        ),
      );
    }
      where
        here : (l : Letters) → numbers l.W ≡ ts
            → entails (comparisons l.W) falsity l.s ≡ entails p q s
            → Like (Te.linear_false (chosen (literal null) (literal null))) (Te.linear_false l)
        here l n c =
            let k : l.W ≡ w = same_W w h l falsity n c in (
              refl,
              (λ i. tested coefficient_side (are_fair (k i)) ∷ tested sum_side
                  (below_zero (sum_of (k i))) ∷ []),
            )

    pub not_sorted : (a b : Term) → q ≡ equality a b
        → (TermAt (value int_sort) a → TermAt (value int_sort) b → ⊥)
        → Each_line rows (λ line. Concludes written line → ⊥)
    not_sorted a b e n = (
      (λ l c. not_order equation_kind (ap kind_of e) (λ x. cc) l c.2),
      (
        (λ l c. here l c.1.0 c.1.1.0 c.2),
        ((λ l c. not_false equation_kind (ap kind_of e) (λ x. cc) l c.2), tt),
      ),
    )
      where
        here : (l : Letters) → TermAt (value int_sort) l.E → TermAt (value int_sort) l.F
            → entails (comparisons l.W) (equality l.E l.F) l.s ≡ entails p q s → ⊥
        here l te tf c =
            let u : ◌≡◌ {A = Formula} (equality l.E l.F) (equality a b) = ap right_in c ∙ e in
            let f : l.E ≡ a = cc in
            let g : l.F ≡ b = cc in
            n (subst (TermAt (value int_sort)) f te) (subst (TermAt (value int_sort)) g tf)

    pub not_another : kind_of q ≡ other_kind → Each_line rows (λ line. Concludes written line → ⊥)
    not_another e = (
      (λ l c. not_order other_kind e (λ x. cc) l c.2),
      (
        (λ l c. not_equation other_kind e (λ x. cc) l c.2),
        ((λ l c. not_false other_kind e (λ x. cc) l c.2), tt),
      ),
    )

    -- by the form of B
    abbrev equation_sorted : (a b : Term) → q ≡ equality a b
        → Dec (TermAt (value int_sort) a × TermAt (value int_sort) b)
        → (v : Verdict) × IsVerdict rows written v
    equation_sorted a b e (no n) = refuted rows written (not_sorted a b e (λ ta tb. n (ta, tb)))
    equation_sorted a b e (yes t) =
        verdict_on rows written (Te.linear_equation (chosen a b)) (by_equation a b e t.0 t.1)
        (none_cited o) (
          test_holds (are_fair w),
          (test_holds (is_zero (rest a b (sum_of w)) && equations_alone w), tt),
        )

    abbrev by_form : Form q → (v : Verdict) × IsVerdict rows written v
    by_form (an_order a b e) =
        verdict_on rows written (Te.linear_order (chosen a b)) (by_order a b e) (none_cited o)
        (test_holds (are_fair w), (test_holds (at_least_zero (rest a b (sum_of w))), tt))
    by_form (an_equation a b e) =
        equation_sorted a b e (both_hold (at_sort int_sort a) (at_sort int_sort b))
    by_form (just_false e) =
        verdict_on rows written (Te.linear_false (chosen (literal null) (literal null)))
        (by_false e)
        (none_cited o) (test_holds (are_fair w), (test_holds (below_zero (sum_of w)), tt))
    by_form (another e) = refuted rows written (not_another e)

  -- by the comparisons
  pub no_integers : (w : Weighed) → weighed p ts ≡ Some (w, [])
      → (AllMet (map (of_sort (value int_sort)) (sides w)) → ⊥) → (l : Letters) (b : Formula)
      → numbers l.W ≡ ts → AllMet (map (of_sort (value int_sort)) (sides l.W))
      → entails (comparisons l.W) b l.s ≡ entails p q s → ⊥
  no_integers w h n l b m ints e =
      n (subst (λ v. AllMet (map (of_sort (value int_sort)) (sides v))) (same_W w h l b m e) ints)

  pub not_read : weighed p ts ≡ None → (l : Letters) (b : Formula) → numbers l.W ≡ ts
      → AllMet (map (of_sort (value int_sort)) (sides l.W))
      → entails (comparisons l.W) b l.s ≡ entails p q s → ⊥
  not_read h l b n ints e = let g : weighed p ts ≡ Some (l.W, []) = read l b n e in cc

  pub numbers_left : (w : Weighed) (t : Term) (us : List Term) → weighed p ts ≡ Some (w, t ∷ us)
      → (l : Letters) (b : Formula) → numbers l.W ≡ ts
      → AllMet (map (of_sort (value int_sort)) (sides l.W))
      → entails (comparisons l.W) b l.s ≡ entails p q s → ⊥
  numbers_left w t us h l b n ints e =
      let g : [] ≡ t ∷ us = (some-pair l.W w [] (t ∷ us) (sym (read l b n e) ∙ h)).1 in cc

  abbrev by_integers : (w : Weighed) → weighed p ts ≡ Some (w, [])
      → Dec (AllMet (map (of_sort (value int_sort)) (sides w)))
      → (v : Verdict) × IsVerdict rows written v
  by_integers w h (no n) = shape (no_integers w h n)
  by_integers w h (yes ints) = by_form w h ints (form_of q)

  abbrev all_read : (w : Weighed) (us : List Term) → weighed p ts ≡ Some (w, us)
      → (v : Verdict) × IsVerdict rows written v
  all_read w [] h = by_integers w h (all_at_sort int_sort (sides w))
  all_read w (t ∷ us) h = shape (numbers_left w t us h)

  abbrev by_reading : (r : Option (Weighed × List Term)) → weighed p ts ≡ r
      → (v : Verdict) × IsVerdict rows written v
  by_reading None h = shape (not_read h)
  by_reading (Some r) h = all_read r.0 r.1 h

-- THE VERDICT, from the arguments, the citations and the judgement
pub no_triple : (p : Formula) (c : Command) (q : Formula) (d : DataSort) (ts : List Term)
    (o : Option (List Judgement)) → Each_line (readings_of (codes "linear"))
    (λ line. Concludes (record { arguments = ts; premises = o; conclusion = triple p c q d }) line
    → ⊥)
no_triple p c q d ts o =
    ((λ l m. differ m.2), ((λ l m. differ m.2), ((λ l m. differ m.2), tt)))
  where
    differ : {a b : Formula} {s : Sort} → entails a b s ≡ triple p c q d → ⊥
    differ e = false≢true (sym (ap is_entailment e))

abbrev pub linear_verdict : (ts : List Term) (o : Option (List Judgement)) (j : Judgement)
    → (v : Verdict) × IsVerdict (readings_of (codes "linear"))
    (record { arguments = ts; premises = o; conclusion = j }) v
linear_verdict ts o (entails p q s) = by_reading ts o p q s (weighed p ts) refl
linear_verdict ts o (triple p c q d) =
    refuted (readings_of (codes "linear"))
    (record { arguments = ts; premises = o; conclusion = triple p c q d }) (no_triple p c q d ts o)
