-- Where the test of the row eq_subst says yes, the two formulas are one formula with either of two
-- terms for a new variable.
use Rattle.std.proofs.Common.{◌≡◌, ◌⊎◌, ℕ, zero, suc, refl, sym, ap, ◌∙◌, subst, inl, inr, ⊎_elim, Bool, true, false, ◌&&◌, ◌||◌, List}
use Rattle.model_shapes.proofs.Truth.{false≢true, both_true}
use Rattle.model_shapes.specs.Sorts.{Sort}
use Rattle.model_shapes.specs.Tests.{same_sort, same_data_sort}
use Rattle.model_terms.specs.Variables.{Var, prog, logic, bound}
use Rattle.model_shapes.proofs.Tests.{same_data_sort-is, same_sort-is}
use Rattle.model_terms.specs.Terms.{Term, literal, variable, sum, difference, appended, raised, InTerm, Substitution, under_binder, term_with}
use Rattle.model_formulas.specs.Formulas.{Formula, truth, falsity, conjunction, disjunction, implication, negation, existential, universal, equality, at_most, empty, bare_hole, node_formula, one_tree, one_root, concatenation, grove_sum, grove_sum_hole, application, hole_adjoint, context_adjoint, same_as, length_is, value_meets}
use Rattle.model_formulas.specs.SameFormulas.{same_term, same_side}
use Rattle.model_formulas.specs.Substitution.{FreeIn, formula_with}
use Rattle.model_formulas.proofs.SameFormulas.{term-is, same_side-is}
use Rattle.rule_table.specs.Occurrences.{AsFormula}
use Rattle.rule_table.proofs.Replaced.{same_or, replaced_term, replaced}

either_true : {P : Type 0} (x y : Bool) → (x || y) ≡ true → (x ≡ true → P) → (y ≡ true → P) → P
either_true true y h f g = f refl
either_true false y h f g = g h

-- a logic variable
module _ (name : List ℕ) (sort : Sort) where
  -- a substitution of a term for it, which keeps every other variable
  pub record Keeps (a : Term) (f : Substitution) : Type 0 where
    pub gives : f (logic name sort) ≡ a
    pub elsewhere : (y : Var) → (y ≡ logic name sort → ⊥) → f y ≡ variable y

  keeps-under : (a : Term) (f : Substitution) → Keeps a f → Keeps (raised a) (under_binder f)
  keeps-under a f k = record { gives = ap raised k.gives; elsewhere = at }
    where
      not_bound : (i : ℕ) (s : Sort) → bound i s ≡ logic name sort → ⊥
      not_bound i s q = cc

      at : (y : Var) → (y ≡ logic name sort → ⊥) → under_binder f y ≡ variable y
      at (prog n s) h = ap raised (k.elsewhere (prog n s) h)
      at (logic n s) h = ap raised (k.elsewhere (logic n s) h)
      at (bound zero s) h = refl
      at (bound (suc i) s) h = ap raised (k.elsewhere (bound i s) (not_bound i s))

  -- a term without the variable
  kept : (a : Term) (f : Substitution) → Keeps a f → (t : Term) → (InTerm (logic name sort) t → ⊥)
      → term_with f t ≡ t
  kept a f k (literal v) n = refl
  kept a f k (variable y) n = k.elsewhere y (λ q. n (sym q))
  kept a f k (sum t u) n =
      λ i. sum (kept a f k t (λ m. n (inl m)) i) (kept a f k u (λ m. n (inr m)) i)
  kept a f k (difference t u) n =
      λ i. difference (kept a f k t (λ m. n (inl m)) i) (kept a f k u (λ m. n (inr m)) i)
  kept a f k (appended t u) n =
      λ i. appended (kept a f k t (λ m. n (inl m)) i) (kept a f k u (λ m. n (inr m)) i)

  -- a term that is the one with the first for the variable, and the other with the second
  pub record TermPlace (a b t u : Term) : Type 0 where
    pub place : Term
    pub first : (f : Substitution) → Keeps a f → term_with f place ≡ t
    pub second : (g : Substitution) → Keeps b g → term_with g place ≡ u

  module _ (a b : Term) where
    whole_term : (t u : Term) → same_or a b t u ≡ true → (InTerm (logic name sort) t → ⊥)
        → TermPlace a b t u
    whole_term t u h n =
        either_true (same_term t u) (same_term t a && same_term u b) h same replaces
      where
        same : same_term t u ≡ true → TermPlace a b t u
        same q = record {
          place = t;
          first = λ f k. kept a f k t n;
          second = λ g k. kept b g k t n ∙ term-is t u q;
        }

        replaces : (same_term t a && same_term u b) ≡ true → TermPlace a b t u
        replaces q =
            let r : (same_term t a ≡ true) × (same_term u b ≡ true) =
            both_true (same_term t a) (same_term u b) q in
            record {
              place = variable (logic name sort);
              first = λ f k. k.gives ∙ sym (term-is t a r.0);
              second = λ g k. k.gives ∙ sym (term-is u b r.1);
            }

    term_place : (t u : Term) → replaced_term a b t u ≡ true → (InTerm (logic name sort) t → ⊥)
        → TermPlace a b t u
    term_place (sum t t') (sum u u') h n =
        either_true (same_or a b (sum t t') (sum u u'))
        (replaced_term a b t u && replaced_term a b t' u') h
        (λ q. whole_term (sum t t') (sum u u') q n)
        (λ q. let r : (replaced_term a b t u ≡ true) × (replaced_term a b t' u' ≡ true) =
        both_true (replaced_term a b t u) (replaced_term a b t' u') q in
        parts (term_place t u r.0 (λ m. n (inl m))) (term_place t' u' r.1 (λ m. n (inr m))))
      where
        parts : TermPlace a b t u → TermPlace a b t' u' → TermPlace a b (sum t t') (sum u u')
        parts m m' = record {
          place = sum m.place m'.place;
          first = λ f k. λ i. sum (m.first f k i) (m'.first f k i);
          second = λ g k. λ i. sum (m.second g k i) (m'.second g k i);
        }
    term_place (difference t t') (difference u u') h n =
        either_true (same_or a b (difference t t') (difference u u'))
        (replaced_term a b t u && replaced_term a b t' u') h
        (λ q. whole_term (difference t t') (difference u u') q n)
        (λ q. let r : (replaced_term a b t u ≡ true) × (replaced_term a b t' u' ≡ true) =
        both_true (replaced_term a b t u) (replaced_term a b t' u') q in
        parts (term_place t u r.0 (λ m. n (inl m))) (term_place t' u' r.1 (λ m. n (inr m))))
      where
        parts : TermPlace a b t u → TermPlace a b t' u'
            → TermPlace a b (difference t t') (difference u u')
        parts m m' = record {
          place = difference m.place m'.place;
          first = λ f k. λ i. difference (m.first f k i) (m'.first f k i);
          second = λ g k. λ i. difference (m.second g k i) (m'.second g k i);
        }
    term_place (appended t t') (appended u u') h n =
        either_true (same_or a b (appended t t') (appended u u'))
        (replaced_term a b t u && replaced_term a b t' u') h
        (λ q. whole_term (appended t t') (appended u u') q n)
        (λ q. let r : (replaced_term a b t u ≡ true) × (replaced_term a b t' u' ≡ true) =
        both_true (replaced_term a b t u) (replaced_term a b t' u') q in
        parts (term_place t u r.0 (λ m. n (inl m))) (term_place t' u' r.1 (λ m. n (inr m))))
      where
        parts : TermPlace a b t u → TermPlace a b t' u'
            → TermPlace a b (appended t t') (appended u u')
        parts m m' = record {
          place = appended m.place m'.place;
          first = λ f k. λ i. appended (m.first f k i) (m'.first f k i);
          second = λ g k. λ i. appended (m.second g k i) (m'.second g k i);
        }
    term_place t u h n = whole_term t u h n

  -- a formula that is the one with the first term for the variable, and the other with the second
  pub record Place (a b : Term) (p q : Formula) : Type 0 where
    pub place : Formula
    pub first : (f : Substitution) → Keeps a f → formula_with f place ≡ p
    pub second : (g : Substitution) → Keeps b g → formula_with g place ≡ q
    pub in_terms : AsFormula (logic name sort) place → ⊥

  -- of parts
  module _ (a b : Term) where
    atom : (p : Formula) → ((f : Substitution) → formula_with f p ≡ p)
        → (AsFormula (logic name sort) p → ⊥) → Place a b p p
    atom p with_any apart = record {
      place = p;
      first = λ f k. with_any f;
      second = λ g k. with_any g;
      in_terms = apart;
    }

    one : (C : Formula → Formula)
        → ((f : Substitution) (p : Formula) → formula_with f (C p) ≡ C (formula_with f p))
        → ((p : Formula) → AsFormula (logic name sort) (C p) → AsFormula (logic name sort) p)
        → (p q : Formula) → Place a b p q → Place a b (C p) (C q)
    one C inside within p q m = record {
      place = C m.place;
      first = λ f k. inside f m.place ∙ ap C (m.first f k);
      second = λ g k. inside g m.place ∙ ap C (m.second g k);
      in_terms = λ n. m.in_terms (within m.place n);
    }

    two : (C : Formula → Formula → Formula)
        → ((f : Substitution) (p q : Formula)
        → formula_with f (C p q) ≡ C (formula_with f p) (formula_with f q))
        → ((p q : Formula) → AsFormula (logic name sort) (C p q)
        → AsFormula (logic name sort) p ⊎ AsFormula (logic name sort) q)
        → (p q p' q' : Formula) → Place a b p p' → Place a b q q' → Place a b (C p q) (C p' q')
    two C inside within p q p' q' m m' = record {
      place = C m.place m'.place;
      first = λ f k. inside f m.place m'.place ∙ (λ i. C (m.first f k i) (m'.first f k i));
      second = λ g k. inside g m.place m'.place ∙ (λ i. C (m.second g k i) (m'.second g k i));
      in_terms = λ n. ⊎_elim m.in_terms m'.in_terms (within m.place m'.place n);
    }

    under : (C : Sort → Formula → Formula) → ((f : Substitution) (s : Sort) (p : Formula)
        → formula_with f (C s p) ≡ C s (formula_with (under_binder f) p))
        → ((s : Sort) (p : Formula) → AsFormula (logic name sort) (C s p)
        → AsFormula (logic name sort) p)
        → (s : Sort) (p q : Formula) → Place (raised a) (raised b) p q → Place a b (C s p) (C s q)
    under C inside within s p q m = record {
      place = C s m.place;
      first = λ f k. inside f s m.place ∙ ap (C s) (m.first (under_binder f) (keeps-under a f k));
      second = λ g k. inside g s m.place ∙ ap (C s) (m.second (under_binder g) (keeps-under b g k));
      in_terms = λ n. m.in_terms (within s m.place n);
    }

    terms : (C : Term → Term → Formula) → ((f : Substitution) (t u : Term)
        → formula_with f (C t u) ≡ C (term_with f t) (term_with f u))
        → ((t u : Term) → AsFormula (logic name sort) (C t u) → ⊥)
        → (t u t' u' : Term) → TermPlace a b t t' → TermPlace a b u u'
        → Place a b (C t u) (C t' u')
    terms C inside apart t u t' u' m m' = record {
      place = C m.place m'.place;
      first = λ f k. inside f m.place m'.place ∙ (λ i. C (m.first f k i) (m'.first f k i));
      second = λ g k. inside g m.place m'.place ∙ (λ i. C (m.second g k i) (m'.second g k i));
      in_terms = apart m.place m'.place;
    }

  -- THE TEST GIVES A PLACE
  pub place_of : (p q : Formula) (a b : Term) → replaced a b p q ≡ true
      → (FreeIn (logic name sort) p → ⊥) → Place a b p q
  place_of truth truth a b h n = atom a b truth (λ f. refl) (λ m. m)
  place_of falsity falsity a b h n = atom a b falsity (λ f. refl) (λ m. m)
  place_of (conjunction p q) (conjunction p' q') a b h n =
      let r : (replaced a b p p' ≡ true) × (replaced a b q q' ≡ true) =
      both_true (replaced a b p p') (replaced a b q q') h in
      two a b conjunction (λ f p q. refl) (λ p q m. m) p q p' q'
      (place_of p p' a b r.0 (λ m. n (inl m))) (place_of q q' a b r.1 (λ m. n (inr m)))
  place_of (disjunction p q) (disjunction p' q') a b h n =
      let r : (replaced a b p p' ≡ true) × (replaced a b q q' ≡ true) =
      both_true (replaced a b p p') (replaced a b q q') h in
      two a b disjunction (λ f p q. refl) (λ p q m. m) p q p' q'
      (place_of p p' a b r.0 (λ m. n (inl m))) (place_of q q' a b r.1 (λ m. n (inr m)))
  place_of (implication p q) (implication p' q') a b h n =
      let r : (replaced a b p p' ≡ true) × (replaced a b q q' ≡ true) =
      both_true (replaced a b p p') (replaced a b q q') h in
      two a b implication (λ f p q. refl) (λ p q m. m) p q p' q'
      (place_of p p' a b r.0 (λ m. n (inl m))) (place_of q q' a b r.1 (λ m. n (inr m)))
  place_of (negation p) (negation q) a b h n =
      one a b negation (λ f p. refl) (λ p m. m) p q (place_of p q a b h n)
  place_of (existential s p) (existential s' q) a b h n =
      let r : (same_sort s s' ≡ true) × (replaced (raised a) (raised b) p q ≡ true) =
      both_true (same_sort s s') (replaced (raised a) (raised b) p q) h in
      subst (λ z. Place a b (existential s p) (existential z q)) (same_sort-is s s' r.0)
      (under a b existential (λ f s p. refl) (λ s p m. m) s p q
      (place_of p q (raised a) (raised b) r.1 n))
  place_of (universal s p) (universal s' q) a b h n =
      let r : (same_sort s s' ≡ true) × (replaced (raised a) (raised b) p q ≡ true) =
      both_true (same_sort s s') (replaced (raised a) (raised b) p q) h in
      subst (λ z. Place a b (universal s p) (universal z q)) (same_sort-is s s' r.0)
      (under a b universal (λ f s p. refl) (λ s p m. m) s p q
      (place_of p q (raised a) (raised b) r.1 n))
  place_of (equality t u) (equality t' u') a b h n =
      let r : (replaced_term a b t t' ≡ true) × (replaced_term a b u u' ≡ true) =
      both_true (replaced_term a b t t') (replaced_term a b u u') h in
      terms a b equality (λ f t u. refl) (λ t u m. m) t u t' u'
      (term_place a b t t' r.0 (λ m. n (inl m))) (term_place a b u u' r.1 (λ m. n (inr m)))
  place_of (at_most t u) (at_most t' u') a b h n =
      let r : (replaced_term a b t t' ≡ true) × (replaced_term a b u u' ≡ true) =
      both_true (replaced_term a b t t') (replaced_term a b u u') h in
      terms a b at_most (λ f t u. refl) (λ t u m. m) t u t' u'
      (term_place a b t t' r.0 (λ m. n (inl m))) (term_place a b u u' r.1 (λ m. n (inr m)))
  place_of (empty k) (empty k') a b h n =
      subst (λ z. Place a b (empty k) (empty z)) (same_data_sort-is k k' h)
      (atom a b (empty k) (λ f. refl) (λ m. m))
  place_of (bare_hole k) (bare_hole k') a b h n =
      subst (λ z. Place a b (bare_hole k) (bare_hole z)) (same_data_sort-is k k' h)
      (atom a b (bare_hole k) (λ f. refl) (λ m. m))
  place_of (node_formula t i p l) (node_formula t' i' p' l') a b h n =
      let r : (replaced_term a b t t' ≡ true)
      × ((replaced_term a b i i' && (replaced a b p p' && replaced_term a b l l')) ≡ true) =
      both_true (replaced_term a b t t')
      (replaced_term a b i i' && (replaced a b p p' && replaced_term a b l l')) h in
      let s : (replaced_term a b i i' ≡ true)
      × ((replaced a b p p' && replaced_term a b l l') ≡ true) =
      both_true (replaced_term a b i i') (replaced a b p p' && replaced_term a b l l') r.1 in
      let w : (replaced a b p p' ≡ true) × (replaced_term a b l l' ≡ true) =
      both_true (replaced a b p p') (replaced_term a b l l') s.1 in
      at_node (term_place a b t t' r.0 (λ m. n (inl m)))
      (term_place a b i i' s.0 (λ m. n (inr (inl m))))
      (place_of p p' a b w.0 (λ m. n (inr (inr (inl m)))))
      (term_place a b l l' w.1 (λ m. n (inr (inr (inr m)))))
    where
      at_node : TermPlace a b t t' → TermPlace a b i i' → Place a b p p' → TermPlace a b l l'
          → Place a b (node_formula t i p l) (node_formula t' i' p' l')
      at_node c d e g = record {
        place = node_formula c.place d.place e.place g.place;
        first =
            λ f k. λ j. node_formula (c.first f k j) (d.first f k j) (e.first f k j)
            (g.first f k j);
        second =
            λ f k. λ j. node_formula (c.second f k j) (d.second f k j) (e.second f k j)
            (g.second f k j);
        in_terms = e.in_terms;
      }
  place_of (one_tree p) (one_tree q) a b h n =
      one a b one_tree (λ f p. refl) (λ p m. m) p q (place_of p q a b h n)
  place_of (one_root p) (one_root q) a b h n =
      one a b one_root (λ f p. refl) (λ p m. m) p q (place_of p q a b h n)
  place_of (concatenation k p q) (concatenation k' p' q') a b h n =
      let s : (same_side k k' ≡ true) × ((replaced a b p p' && replaced a b q q') ≡ true) =
      both_true (same_side k k') (replaced a b p p' && replaced a b q q') h in
      let r : (replaced a b p p' ≡ true) × (replaced a b q q' ≡ true) =
      both_true (replaced a b p p') (replaced a b q q') s.1 in
      subst (λ z. Place a b (concatenation k p q) (concatenation z p' q')) (same_side-is k k' s.0)
      (two a b (concatenation k) (λ f p q. refl) (λ p q m. m) p q p' q'
      (place_of p p' a b r.0 (λ m. n (inl m))) (place_of q q' a b r.1 (λ m. n (inr m))))
  place_of (grove_sum p q) (grove_sum p' q') a b h n =
      let r : (replaced a b p p' ≡ true) × (replaced a b q q' ≡ true) =
      both_true (replaced a b p p') (replaced a b q q') h in
      two a b grove_sum (λ f p q. refl) (λ p q m. m) p q p' q'
      (place_of p p' a b r.0 (λ m. n (inl m))) (place_of q q' a b r.1 (λ m. n (inr m)))
  place_of (grove_sum_hole p q) (grove_sum_hole p' q') a b h n =
      let r : (replaced a b p p' ≡ true) × (replaced a b q q' ≡ true) =
      both_true (replaced a b p p') (replaced a b q q') h in
      two a b grove_sum_hole (λ f p q. refl) (λ p q m. m) p q p' q'
      (place_of p p' a b r.0 (λ m. n (inl m))) (place_of q q' a b r.1 (λ m. n (inr m)))
  place_of (application k p q) (application k' p' q') a b h n =
      let s : (same_data_sort k k' ≡ true) × ((replaced a b p p' && replaced a b q q') ≡ true) =
      both_true (same_data_sort k k') (replaced a b p p' && replaced a b q q') h in
      let r : (replaced a b p p' ≡ true) × (replaced a b q q' ≡ true) =
      both_true (replaced a b p p') (replaced a b q q') s.1 in
      subst (λ z. Place a b (application k p q) (application z p' q')) (same_data_sort-is k k' s.0)
      (two a b (application k) (λ f p q. refl) (λ p q m. m) p q p' q'
      (place_of p p' a b r.0 (λ m. n (inl m))) (place_of q q' a b r.1 (λ m. n (inr m))))
  place_of (hole_adjoint p q) (hole_adjoint p' q') a b h n =
      let r : (replaced a b p p' ≡ true) × (replaced a b q q' ≡ true) =
      both_true (replaced a b p p') (replaced a b q q') h in
      two a b hole_adjoint (λ f p q. refl) (λ p q m. m) p q p' q'
      (place_of p p' a b r.0 (λ m. n (inl m))) (place_of q q' a b r.1 (λ m. n (inr m)))
  place_of (context_adjoint k p q) (context_adjoint k' p' q') a b h n =
      let s : (same_data_sort k k' ≡ true) × ((replaced a b p p' && replaced a b q q') ≡ true) =
      both_true (same_data_sort k k') (replaced a b p p' && replaced a b q q') h in
      let r : (replaced a b p p' ≡ true) × (replaced a b q q' ≡ true) =
      both_true (replaced a b p p') (replaced a b q q') s.1 in
      subst (λ z. Place a b (context_adjoint k p q) (context_adjoint z p' q'))
      (same_data_sort-is k k' s.0)
      (two a b (context_adjoint k) (λ f p q. refl) (λ p q m. m) p q p' q'
      (place_of p p' a b r.0 (λ m. n (inl m))) (place_of q q' a b r.1 (λ m. n (inr m))))
  place_of (same_as t) (same_as u) a b h n =
      subst (λ z. Place a b (same_as t) (same_as z)) (term-is t u h) (record {
        place = same_as t;
        first = λ f k. ap same_as (kept a f k t n);
        second = λ g k. ap same_as (kept b g k t n);
        in_terms = n;
      })
  place_of (length_is t) (length_is u) a b h n = at_length (term_place a b t u h n)
    where
      at_length : TermPlace a b t u → Place a b (length_is t) (length_is u)
      at_length m = record {
        place = length_is m.place;
        first = λ f k. ap length_is (m.first f k);
        second = λ g k. ap length_is (m.second g k);
        in_terms = λ m. m;
      }
  place_of (value_meets s t p) (value_meets s' t' q) a b h n =
      let r : (same_sort s s' ≡ true) × ((same_term t t' && replaced a b p q) ≡ true) =
      both_true (same_sort s s') (same_term t t' && replaced a b p q) h in
      let w : (same_term t t' ≡ true) × (replaced a b p q ≡ true) =
      both_true (same_term t t') (replaced a b p q) r.1 in
      at_is (same_sort-is s s' r.0) (term-is t t' w.0) (place_of p q a b w.1 (λ m. n (inr m)))
    where
      at_is : s ≡ s' → t ≡ t' → Place a b p q → Place a b (value_meets s t p) (value_meets s' t' q)
      at_is e d m = record {
        place = value_meets s t m.place;
        first = λ f k. λ i. value_meets s (kept a f k t (λ l. n (inl l)) i) (m.first f k i);
        second =
            λ g k. λ i. value_meets (e i) ((kept b g k t (λ l. n (inl l)) ∙ d) i) (m.second g k i);
        in_terms = ⊎_elim (λ l. n (inl l)) m.in_terms;
      }
  place_of p q a b h n = false≢true h
