-- A tree of comparisons and the list of them: reading finds it, and what is tested is the same.
use Rattle.std.proofs.Common.{◌≡◌, ◌∙◌, refl, sym, ap, List, [], ◌∷◌, ◌++◌, map, Option, Some, None, Bool, true, false, ◌&&◌, append_assoc, append-nil}
use Rattle.std.specs.List.{flat_map, list_all}
use Rattle.std.proofs.lemmas.List.Folds.{list_all-append}
use Rattle.model_shapes.proofs.Truth.{both_true}
use Rattle.model_shapes.specs.Sorts.{value, int_sort}
use Rattle.model_shapes.specs.Values.{int}
use Rattle.model_terms.specs.Terms.{Term, literal}
use Rattle.model_terms.specs.TermSorts.{has_sort, both_have}
use Rattle.model_formulas.specs.Formulas.{Formula, conjunction, equality, at_most}
use Rattle.rule_table.specs.Conditions.{of_sort}
use Rattle.rule_table.specs.Linear as model
use Rattle.rule_table.specs.Linear.{Weighed, order, equation, both_of, comparisons, numbers, sides}
use Rattle.rule_table.specs.Verdicts.{AllMet}
use Rattle.computed_rules.specs.Linear.{Comparison, Reading, and_then, read, is_integral, is_fair, is_equation, weighed, total}

-- THE COMPARISONS OF A TREE OF THEM
abbrev pub listed : Weighed → List Comparison
listed (order a l r) = record { number = a; is_order = true; left = l; right = r } ∷ []
listed (equation a l r) = record { number = a; is_order = false; left = l; right = r } ∷ []
listed (both_of v w) = listed v ++ listed w

-- reading finds them
pub read-all : (w : Weighed) (cs : List Comparison) (ts : List Term)
    → read cs (comparisons w) (numbers w ++ ts) ≡ Some (cs ++ listed w, ts)
read-all (order a l r) cs ts = refl
read-all (equation a l r) cs ts = refl
read-all (both_of v w) cs ts =
    ap (λ z. and_then (read cs (comparisons v) z) (λ ds us. read ds (comparisons w) us))
    (append_assoc (numbers v) (numbers w) ts)
    ∙ ap (λ z. and_then z (λ ds us. read ds (comparisons w) us))
    (read-all v cs (numbers w ++ ts))
    ∙ read-all w (cs ++ listed v) ts
    ∙ ap (λ z. Some (z, ts)) (append_assoc cs (listed v) (listed w))

-- and what it finds is there
pub record Found (cs : List Comparison) (p : Formula) (ts : List Term) (r : Reading) : Type 0 where
  pub tree : Weighed
  pub formula : comparisons tree ≡ p
  pub arguments : numbers tree ++ r.1 ≡ ts
  pub behind : cs ++ listed tree ≡ r.0

found_at : (cs : List Comparison) (p : Formula) (ts us : List Term) (r : Reading) (w : Weighed)
    → comparisons w ≡ p → numbers w ++ us ≡ ts
    → ◌≡◌ {A = Option Reading} (Some (cs ++ listed w, us)) (Some r) → Found cs p ts r
found_at cs p ts us r w e n h =
    let same : ◌≡◌ {A = Reading} (cs ++ listed w, us) r = cc in
    record {
      tree = w;
      formula = e;
      arguments = ap (λ z. numbers w ++ z) (sym (ap (λ (z : Reading). z.1) same)) ∙ n;
      behind = ap (λ (z : Reading). z.0) same;
    }

pub read-found : (cs : List Comparison) (p : Formula) (ts : List Term) (r : Reading)
    → read cs p ts ≡ Some r → Found cs p ts r
read-found cs (conjunction p q) ts r e =
    by_first (read cs p ts) e (λ s h. read-found cs p ts s h)
    (λ ds us h. read-found ds q us r h)
  where
    both : (s : Reading) → Found cs p ts s → Found s.0 q s.1 r → Found cs (conjunction p q) ts r
    both s f g = record {
      tree = both_of f.tree g.tree;
      formula = λ i. conjunction (f.formula i) (g.formula i);
      arguments = append_assoc (numbers f.tree) (numbers g.tree) r.1
          ∙ ap (λ z. numbers f.tree ++ z) g.arguments ∙ f.arguments;
      behind = sym (append_assoc cs (listed f.tree) (listed g.tree))
          ∙ ap (λ z. z ++ listed g.tree) f.behind ∙ g.behind;
    }

    by_first : (o : Option Reading) → and_then o (λ ds us. read ds q us) ≡ Some r
        → ((s : Reading) → o ≡ Some s → Found cs p ts s)
        → ((ds : List Comparison) (us : List Term) → read ds q us ≡ Some r → Found ds q us r)
        → Found cs (conjunction p q) ts r
    by_first None h f g = absurd cc
    by_first (Some s) h f g = both s (f s refl) (g s.0 s.1 h)
read-found cs (at_most l t) (literal (int a) ∷ ts) r e =
    found_at cs (at_most l t) (literal (int a) ∷ ts) ts r (order a l t) refl refl e
read-found cs (equality l t) (literal (int a) ∷ ts) r e =
    found_at cs (equality l t) (literal (int a) ∷ ts) ts r (equation a l t) refl refl e
read-found cs p ts r e = absurd cc

-- WHAT IS TESTED OF A TREE OF COMPARISONS is tested of the list of them
flat_map-append : {A B : Type 0} (f : A → List B) (xs ys : List A)
    → flat_map f (xs ++ ys) ≡ flat_map f xs ++ flat_map f ys
flat_map-append f [] ys = refl
flat_map-append f (x ∷ xs) ys =
    ap (λ z. f x ++ z) (flat_map-append f xs ys)
    ∙ sym (append_assoc (f x) (flat_map f xs) (flat_map f ys))

and-true : (b : Bool) → (b && true) ≡ b
and-true true = refl
and-true false = refl

pub fair-listed : (w : Weighed) → list_all is_fair (listed w) ≡ model.are_fair w
fair-listed (order a l r) = and-true _
fair-listed (equation a l r) = and-true _ ∙ and-true (model.in_range a)
fair-listed (both_of v w) =
    list_all-append is_fair (listed v) (listed w) ∙ (λ i. fair-listed v i && fair-listed w i)

pub equations-listed : (w : Weighed) → list_all is_equation (listed w) ≡ model.equations_alone w
equations-listed (order a l r) = and-true _
equations-listed (equation a l r) = refl
equations-listed (both_of v w) =
    list_all-append is_equation (listed v) (listed w)
    ∙ (λ i. equations-listed v i && equations-listed w i)

pub total-listed : (w : Weighed) → total (listed w) ≡ model.sum_of w
total-listed (order a l r) = append-nil _
total-listed (equation a l r) = append-nil _
total-listed (both_of v w) =
    flat_map-append weighed (listed v) (listed w)
    ∙ (λ i. total-listed v i ++ total-listed w i)

-- integers
abbrev pub Ints : List Term → Type 0
Ints ts = AllMet (map (of_sort (value int_sort)) ts)

ints-both : (xs ys : List Term) → Ints xs → Ints ys → Ints (xs ++ ys)
ints-both [] ys a b = b
ints-both (x ∷ xs) ys a b = (a.0, ints-both xs ys a.1 b)

ints-first : (xs ys : List Term) → Ints (xs ++ ys) → Ints xs
ints-first [] ys a = tt
ints-first (x ∷ xs) ys a = (a.0, ints-first xs ys a.1)

ints-second : (xs ys : List Term) → Ints (xs ++ ys) → Ints ys
ints-second [] ys a = a
ints-second (x ∷ xs) ys a = ints-second xs ys a.1

pair-ints : (l r : Term) → (both_have int_sort l r && true) ≡ true → Ints (l ∷ r ∷ [])
pair-ints l r e =
    let h : (has_sort int_sort l ≡ true) × (has_sort int_sort r ≡ true) =
    both_true (has_sort int_sort l) (has_sort int_sort r)
    (sym (and-true (both_have int_sort l r)) ∙ e) in (h.0, (h.1, tt))

ints-pair : (l r : Term) → Ints (l ∷ r ∷ []) → (both_have int_sort l r && true) ≡ true
ints-pair l r h = λ i. (h.0 i && h.1.0 i) && true

pub listed-ints : (w : Weighed) → list_all is_integral (listed w) ≡ true → Ints (sides w)
listed-ints (order a l r) e = pair-ints l r e
listed-ints (equation a l r) e = pair-ints l r e
listed-ints (both_of v w) e =
    let h : (list_all is_integral (listed v) ≡ true) × (list_all is_integral (listed w) ≡ true) =
    both_true (list_all is_integral (listed v)) (list_all is_integral (listed w))
    (sym (list_all-append is_integral (listed v) (listed w)) ∙ e) in
    ints-both (sides v) (sides w) (listed-ints v h.0) (listed-ints w h.1)

pub ints-listed : (w : Weighed) → Ints (sides w) → list_all is_integral (listed w) ≡ true
ints-listed (order a l r) h = ints-pair l r h
ints-listed (equation a l r) h = ints-pair l r h
ints-listed (both_of v w) h =
    list_all-append is_integral (listed v) (listed w)
    ∙ (λ i. ints-listed v (ints-first (sides v) (sides w) h) i
    && ints-listed w (ints-second (sides v) (sides w) h) i)
