-- Going over the parts of a grove decides which formulas that can be watched it meets.
use Rattle.std.proofs.Common.{◌≡◌, inl, inr, ⊎_elim, Bool, true, false, ◌&&◌, ◌||◌, ◌==◌, cond, refl, sym, ap, subst, ◌∙◌, arith, ℕ, List, ◌∷◌, ◌++◌, pos, ◌+ℤ◌, ◌-ℤ◌, int_le, IsTrue}
use Rattle.std.specs.List.{list_any, list_all}
use Rattle.model_shapes.specs.Sorts.{Sort, shape, DataSort, tree, forest, grove}
use Rattle.model_shapes.specs.Values.{Name, Value, node_number, list_number, int, str}
use Rattle.model_shapes.specs.Trees.{Trees, none, node, hole, beside, width, decided, trees_eq}
use Rattle.model_shapes.specs.Shapes.{Shaped, SameAt}
use Rattle.model_shapes.specs.Things.{Thing, val, trees, Fits}
use Rattle.model_shapes.proofs.Truth.{false≢true, both_true}
use Rattle.model_shapes.proofs.Tests.{same_value-is, same_value-refl, nat-is}
use Rattle.model_shapes.proofs.Basics.{holes-beside, root_uses-beside}
use Rattle.model_shapes.proofs.Shapes.{same-Shaped, left-WellFormed, right-WellFormed, IsList}
use Rattle.model_terms.specs.Variables.{Var, prog, logic, bound, var_sort}
use Rattle.model_terms.specs.VariableTests.{same_var, same_var-is, var_eq}
use Rattle.model_terms.specs.Terms.{Term, literal, variable, sum, difference, appended}
use Rattle.model_terms.specs.TermSorts.{variables_of_term, is_program}
use Rattle.model_terms.proofs.Computing.{all-append}
use Rattle.model_shapes.specs.Sorts.{ValueSort}
use Rattle.model_formulas.specs.Formulas.{Named, whole, truth, falsity, conjunction, disjunction, implication, negation, existential, equality, at_most, empty, node_formula, one_tree, one_root, concatenation, grove_sum, length_is}
use Rattle.model_formulas.specs.WellSorted.{flags}
use Rattle.model_formulas.specs.Setting.{setting}
use Rattle.model_formulas.specs.Satisfaction.{Environment, Meets, meaning_of, number_of, text_meant, Classically, IfNode, SomeThing, SomeShape}
use Rattle.model_formulas.proofs.Closed.{closed}
use Rattle.model_formulas.proofs.Nameless.{closed_form}
use Rattle.model_formulas.proofs.Quantified.{exists-means, met-alike}
use Rattle.model_watch.specs.Watchable.{is_anchored, may_be_sought, is_given, is_root, watch_flags}
use Rattle.model_watch.specs.Watching.{Somewhere, StandsAt, Among, Values, any_cut, any_root, at_one_node, same_thing, is_bare, holds}
use Rattle.model_watch.proofs.Deciding.{Decides, surely, decides_as, both, either, follows, denied, either_true, any_some, some_any}
use Rattle.model_watch.proofs.Ways.{cut_some, some_cut, root_some, some_root, root_first, root_found}
use Rattle.model_watch.proofs.Anchors.{somewhere_left, somewhere_right, same_somewhere, setting_same, setting_other, anchored}

-- environments that agree on the program variables and on some others
pub record Agree (xs : List Var) (e f : Environment) : Type 0 where
  pub programs : (name : Name) (s : ValueSort) → e (prog name s) ≡ f (prog name s)
  pub others : (y : Var) → list_any (same_var y) xs ≡ true → e y ≡ f y

-- give the same meaning to terms over these
plain_meaning : (a : Term) (e f : Environment) → list_all is_program (variables_of_term a) ≡ true
    → ((name : Name) (s : ValueSort) → e (prog name s) ≡ f (prog name s))
    → meaning_of e a ≡ meaning_of f a
plain_meaning (literal v) e f h g = refl
plain_meaning (variable (prog x s)) e f h g = g x s
plain_meaning (variable (logic x s)) e f h g = false≢true h
plain_meaning (variable (bound i s)) e f h g = false≢true h
plain_meaning (sum a b) e f h g =
    let w = all-append is_program (variables_of_term a) (variables_of_term b) h in
    λ j. val (int (number_of (plain_meaning a e f w.0 g j) +ℤ number_of (plain_meaning b e f w.1 g
    j)))
plain_meaning (difference a b) e f h g =
    let w = all-append is_program (variables_of_term a) (variables_of_term b) h in
    λ j. val (int (number_of (plain_meaning a e f w.0 g j) -ℤ number_of (plain_meaning b e f w.1 g
    j)))
plain_meaning (appended a b) e f h g =
    let w = all-append is_program (variables_of_term a) (variables_of_term b) h in
    λ j. val (str (text_meant (plain_meaning a e f w.0 g j) ++ text_meant (plain_meaning b e f w.1
    g j)))

given_meaning : (xs : List Var) (a : Term) (e f : Environment) → is_given xs a ≡ true
    → Agree xs e f → meaning_of e a ≡ meaning_of f a
given_meaning xs (variable (logic x s)) e f h g = g.others (logic x s) h
given_meaning xs (variable (prog x s)) e f h g = g.programs x s
given_meaning xs (variable (bound i s)) e f h g = false≢true h
given_meaning xs (literal v) e f h g = refl
given_meaning xs (sum a b) e f h g = plain_meaning (sum a b) e f h g.programs
given_meaning xs (difference a b) e f h g = plain_meaning (difference a b) e f h g.programs
given_meaning xs (appended a b) e f h g = plain_meaning (appended a b) e f h g.programs

-- with one more variable set alike
agree_setting : (xs : List Var) (x : Var) (v : Thing) (e f : Environment) → Agree xs e f
    → Agree (x ∷ xs) (setting x v e) (setting x v f)
agree_setting xs x v e f g = record {
  programs = λ name s. at (prog name s) (λ n. g.programs name s) (var_eq (prog name s) x);
  others = λ y h. at y (λ n. g.others y (left y h n)) (var_eq y x);
}
  where
    at : (y : Var) → ((y ≡ x → ⊥) → e y ≡ f y) → Dec (y ≡ x) → setting x v e y ≡ setting x v f y
    at y h (yes q) = setting_same x y v e q ∙ sym (setting_same x y v f q)
    at y h (no n) = setting_other x y v e n ∙ (h n ∙ sym (setting_other x y v f n))

    left : (y : Var) → list_any (same_var y) (x ∷ xs) ≡ true → (y ≡ x → ⊥)
        → list_any (same_var y) xs ≡ true
    left y h n = ⊎_elim (λ q. absurd (n (same_var-is y x q))) (λ q. q)
        (either_true (same_var y x) (list_any (same_var y) xs) h)

-- the test of things
is_value : Thing → Bool
is_value (val v) = true
is_value (trees r) = false

thing_decides : (x y : Thing) → Decides (same_thing x y) (x ≡ y)
unfolding is_value
thing_decides (val v) (val w) = record {
  so = λ h. ap val (same_value-is v w h);
  back = λ q. subst (λ z. same_thing (val v) z ≡ true) q (same_value-refl v);
}
thing_decides (trees a) (trees b) = by_case (trees_eq a b)
  where
    by_case : (d : Dec (a ≡ b)) → Decides (decided d true false) (trees a ≡ trees b)
    by_case (yes e) = record { so = λ h. ap trees e; back = λ h. refl }
    by_case (no n) = record {
      so = λ h. false≢true h;
      back = λ q. absurd (n (ap inside q));
    }
      where
        inside : Thing → Trees
        inside (val v) = none
        inside (trees r) = r
thing_decides (val v) (trees b) = record {
  so = λ h. false≢true h;
  back = λ q. subst (λ z. is_value z ≡ true) q refl;
}
thing_decides (trees a) (val w) = record {
  so = λ h. false≢true h;
  back = λ q. subst (λ z. is_value z ≡ true) (sym q) refl;
}

bare_decides : (r : Trees) → Decides (is_bare r) (r ≡ none)
bare_decides none = record { so = λ h. refl; back = λ q. refl }
bare_decides (node s i k l r) = record {
  so = λ h. false≢true h;
  back = λ q. subst (λ z. is_bare z ≡ true) (sym q) refl;
}
bare_decides (hole r) = record {
  so = λ h. false≢true h;
  back = λ q. subst (λ z. is_bare z ≡ true) (sym q) refl;
}

node_decides : (test : Name → ℕ → Trees → ℕ → Bool) (P : Name → ℕ → Trees → ℕ → Type 0) (r : Trees)
    → ((s : Name) (i : ℕ) (k : Trees) (l : ℕ) → r ≡ node s i k l none
    → Decides (test s i k l) (P s i k l))
    → Decides (at_one_node test r) (IfNode r P)
node_decides test P none h = record { so = λ e. false≢true e; back = λ x. absurd x }
node_decides test P (hole r) h = record { so = λ e. false≢true e; back = λ x. absurd x }
node_decides test P (node s i k l none) h = h s i k l refl
node_decides test P (node s i k l (hole r)) h =
    record { so = λ e. false≢true e; back = λ x. absurd x }
node_decides test P (node s i k l (node s' i' k' l' r)) h =
    record { so = λ e. false≢true e; back = λ x. absurd x }

-- one root with nothing beside it
one_decides : (k : DataSort) (r : Trees) → Shaped (shape k) r
    → Decides (width r == 1) (Shaped (shape tree) r)
one_decides k r w = record {
  so = λ e. record {
    well_formed = w.well_formed;
    width_fits = nat-is (width r) 1 e;
    holes_fit = w.holes_fit;
  };
  back = λ t. subst (λ z. (z == 1) ≡ true) (sym t.width_fits) refl;
}

-- the children of a node
kids_shaped : (s : Name) (i : ℕ) (k : Trees) (l : ℕ) (d : DataSort)
    → Shaped (shape d) (node s i k l none) → Shaped (shape forest) k
kids_shaped s i k l d w = record {
  well_formed = record {
    nodes_once = λ n. omega (arith, w.well_formed.nodes_once n);
    lists_once = λ n. omega (arith, w.well_formed.lists_once n);
    no_node_zero = omega (arith, w.well_formed.no_node_zero);
    no_list_zero = omega (arith, w.well_formed.no_list_zero);
  };
  width_fits = tt;
  holes_fit = omega (arith, w.holes_fit);
}

-- the two parts of a list of roots
parts_shaped : (k : DataSort) → IsList k → (a b : Trees) → Shaped (shape k) (beside a b)
    → Shaped (shape k) a × Shaped (shape k) b
parts_shaped k n a b w = (
  record {
    well_formed = left-WellFormed a b w.well_formed;
    width_fits = n (width a);
    holes_fit = omega (arith, w.holes_fit, holes-beside a b);
  },
  record {
    well_formed = right-WellFormed a b w.well_formed;
    width_fits = n (width b);
    holes_fit = omega (arith, w.holes_fit, holes-beside a b);
  },
)

some_decides : (s : Sort) (values : List Value) (test : Value → Bool) (M : Thing → Type 0)
    → ((w : Value) → Decides (test w) (M (val w)))
    → ((w : Value) → Among values w → Fits s (val w))
    → ((v : Thing) → Fits s v → M v → Classically ((w : Value) × (v ≡ val w) × Among values w))
    → Decides (list_any test values) (SomeThing s M)
some_decides s values test M d fits found = record {
  so = λ e n. let x = any_some test values e in n (val x.0, fits x.0 x.1, (d x.0).so x.2);
  back = λ m. surely (list_any test values) (λ n. m (λ c. found c.0 c.1 c.2 (λ g.
      n (some_any test values g.0 g.2 ((d g.0).back (subst M g.1 c.2))))));
}

cuts_decide : (P Q : Trees → Type 0) (p q : Trees → Bool) (r : Trees) → Shaped (shape forest) r
    → ((a b : Trees) → r ≡ beside a b → Shaped (shape forest) a → Decides (p a) (P a))
    → ((a b : Trees) → r ≡ beside a b → Shaped (shape forest) b → Decides (q b) (Q b))
    → Decides (any_cut (λ a b. p a && q b) r) (SomeShape (shape forest) λ a.
    SomeShape (shape forest) λ b. (r ≡ beside a b) × P a × Q b)
cuts_decide P Q p q r w dp dq = record {
  so = λ e n. let x = cut_some (λ a b. p a && q b) r e in
      let y = parts_shaped forest (λ m. tt) x.0 x.1 (subst (Shaped (shape forest)) x.2 w) in
      let z = both_true (p x.0) (q x.1) x.3 in
      n (
        x.0,
        y.0,
        λ m. m (
          x.1,
          y.1,
          (
            x.2,
            (dp x.0 x.1 x.2 y.0).so z.0,
            (dq x.0 x.1 x.2 y.1).so
                z.1,
          ),
        ),
      );
  back = λ m. surely (any_cut (λ a b. p a && q b) r) (λ n. m (λ a. a.2 (λ b. n (
      subst (λ z. any_cut (λ c d. p c && q d) z ≡ true) (sym b.2.0)
      (some_cut (λ c d. p c && q d) a.0 b.0
      ((both (dp a.0 b.0 b.2.0 a.1) (λ u. dq a.0 b.0 b.2.0 b.1)).back (b.2.1, b.2.2)))))));
}

roots_decide : (P Q : Trees → Type 0) (p q : Trees → Bool) (r : Trees) → Shaped (shape grove) r
    → ((a b : Trees) → SameAt grove r (beside a b) → Shaped (shape grove) a → Decides (p a) (P a))
    → ((a b : Trees) → SameAt grove r (beside a b) → Shaped (shape grove) b → Decides (q b) (Q b))
    → ((a : Trees) → P a → width a ≡ 1)
    → ((a b : Trees) → SameAt grove a b → Q a → Q b)
    → Decides (any_root (λ a b. p a && q b) r) (SomeShape (shape grove) λ a.
    SomeShape (shape grove) λ b. SameAt grove r (beside a b) × P a × Q b)
roots_decide P Q p q r w dp dq one same = record {
  so = λ e n. let x = root_some (λ a b. p a && q b) r e in
      let g : SameAt grove r (beside x.1 (beside x.0 x.2)) =
      subst (λ z. SameAt grove z (beside x.1 (beside x.0 x.2))) (sym x.3) (root_first x.0 x.1 x.2)
      in
      let y = parts_shaped grove (λ m. tt) x.1 (beside x.0 x.2)
      (same-Shaped (shape grove) r (beside x.1 (beside x.0 x.2)) g w) in
      let z = both_true (p x.1) (q (beside x.0 x.2)) x.5 in
      n (
        x.1,
        y.0,
        λ m. m (
          beside x.0 x.2,
          y.1,
          (
            g,
            (dp x.1 (beside x.0 x.2) g y.0).so z.0,
            (dq x.1 (beside x.0 x.2) g y.1).so z.1,
          ),
        ),
      );
  back = λ m. surely (any_root (λ a b. p a && q b) r) (λ n. m (λ a. a.2 (λ b. n (
      let x = root_found r a.0 b.0 (one a.0 b.2.1) b.2.0 in
      let g : SameAt grove r (beside a.0 (beside x.0 x.1)) =
      subst (λ z. SameAt grove z (beside a.0 (beside x.0 x.1))) (sym x.2) (root_first x.0 a.0 x.1)
      in
      let y = parts_shaped grove (λ k. tt) a.0 (beside x.0 x.1)
      (same-Shaped (shape grove) r (beside a.0 (beside x.0 x.1)) g w) in
      subst (λ z. any_root (λ c d. p c && q d) z ≡ true) (sym x.2)
      (some_root (λ c d. p c && q d) x.0 a.0 x.1 (one a.0 b.2.1)
      ((both (dp a.0 (beside x.0 x.1) g a.1) (λ u. dq a.0 (beside x.0 x.1) g y.1)).back
      (b.2.1, same b.0 (beside x.0 x.1) x.3 b.2.2)))))));
}

-- the parts of a grove may be told in either order
flipped : (P Q : Trees → Type 0) (r : Trees)
    → (SomeShape (shape grove) λ a. SomeShape (shape grove) λ b.
    SameAt grove r (beside a b) × P a × Q b)
    → SomeShape (shape grove) λ a. SomeShape (shape grove) λ b.
    SameAt grove r (beside a b) × Q a × P b
flipped P Q r m = λ n. m (λ a. a.2 (λ b. n (
  b.0,
  b.1,
  λ o. o (
    a.0,
    a.1,
    (
      λ u. omega (arith, b.2.0 u, root_uses-beside u a.0 b.0, root_uses-beside u b.0 a.0),
      b.2.2,
      b.2.1,
    ),
  ),
)))

by_test : {A : Type 0} {x y : Bool} (b : Bool) → (b ≡ true → Decides x A)
    → (b ≡ false → Decides y A) → Decides (cond b x y) A
by_test true f g = f refl
by_test false f g = g refl

root_alone : (p : Named) (f : Environment) (t : Trees) → is_root p ≡ true
    → Meets (closed_form p) f (shape grove) t → width t ≡ 1
root_alone (one_root p) f t h m = m.0.width_fits
root_alone p f t h m = absurd (false≢true {P = ⊥} h)

term_decides : (xs : List Var) (x : Thing) (a : Term) (e f : Environment) → is_given xs a ≡ true
    → Agree xs e f → Decides (same_thing x (meaning_of e a)) (x ≡ meaning_of f a)
term_decides xs x a e f h g = subst (λ z. Decides (same_thing x (meaning_of e a)) (x ≡ z))
    (given_meaning xs a e f h g) (thing_decides x (meaning_of e a))

-- the parts of a grove of which one is a root
sum_decides : (p q : Named) (f : Environment) (r : Trees) (hp hq : Trees → Bool)
    → Shaped (shape grove) r → (is_root p || is_root q) ≡ true
    → ((a b : Trees) → SameAt grove r (beside a b) → Shaped (shape grove) a
    → Decides (hp a) (Meets (closed_form p) f (shape grove) a))
    → ((a b : Trees) → SameAt grove r (beside a b) → Shaped (shape grove) a
    → Decides (hq a) (Meets (closed_form q) f (shape grove) a))
    → Decides (cond (is_root p) (any_root (λ a b. hp a && hq b) r)
    (any_root (λ a b. hq a && hp b) r))
    (SomeShape (shape grove) λ a. SomeShape (shape grove) λ b. SameAt grove r (beside a b)
    × Meets (closed_form p) f (shape grove) a × Meets (closed_form q) f (shape grove) b)
sum_decides p q f r hp hq w h dp dq = by_test (is_root p)
    (λ o. roots_decide (Meets (closed_form p) f (shape grove))
    (Meets (closed_form q) f (shape grove)) hp hq r w dp (λ a b s. dq b a (turned a b s))
    (λ t. root_alone p f t o) (closed (closed_form q) f (shape grove)))
    (λ o. decides_as
    (flipped (Meets (closed_form q) f (shape grove)) (Meets (closed_form p) f (shape grove)) r)
    (flipped (Meets (closed_form p) f (shape grove)) (Meets (closed_form q) f (shape grove)) r)
    (roots_decide (Meets (closed_form q) f (shape grove))
    (Meets (closed_form p) f (shape grove)) hq hp r w dq (λ a b s. dp b a (turned a b s))
    (λ t. root_alone q f t (second o)) (closed (closed_form p) f (shape grove))))
  where
    turned : (a b : Trees) → SameAt grove r (beside a b) → SameAt grove r (beside b a)
    turned a b s u = omega (arith, s u, root_uses-beside u a b, root_uses-beside u b a)

    second : is_root p ≡ false → is_root q ≡ true
    second o = ⊎_elim (λ y. absurd (false≢true {P = ⊥} (sym o ∙ y))) (λ y. y)
        (either_true (is_root p) (is_root q) h)

all_two : (xs ys : List Bool) → list_all (λ b. b) (xs ++ ys) ≡ true
    → (list_all (λ b. b) xs ≡ true) × (list_all (λ b. b) ys ≡ true)
all_two = all-append (λ b. b)

all_true : List Bool → Type 0
all_true xs = list_all (λ b. b) xs ≡ true

module _ (values : Sort → List Value) (entire : Trees) (given : Values values entire) where
  -- what stands at a node of a part stands at one of the whole
  abbrev pub Part : Trees → Type 0
  Part r = (v : Thing) → Somewhere (StandsAt v) r → Somewhere (StandsAt v) entire

  pub decides : (p : Named) (xs : List Var) (e f : Environment) (k : DataSort) (r : Trees)
      → list_all (λ b. b) (watch_flags xs p) ≡ true
      → list_all (λ b. b) (flags p (shape k)) ≡ true
      → Agree xs e f → Shaped (shape k) r → Part r
      → Decides (holds values p e r) (Meets (closed_form p) f (shape k) r)
  decides truth xs e f k r hw hs g w i = record { so = λ h. tt; back = λ h. refl }
  decides falsity xs e f k r hw hs g w i = record { so = λ h. false≢true h; back = λ h. absurd h }
  decides (conjunction p q) xs e f k r hw hs g w i =
      let a = all_two (watch_flags xs p) (watch_flags xs q) hw in
      let b = all_two (flags p (shape k)) (flags q (shape k)) hs in
      both (decides p xs e f k r a.0 b.0 g w i) (λ m. decides q xs e f k r a.1 b.1 g w i)
  decides (disjunction p q) xs e f k r hw hs g w i =
      let a = all_two (watch_flags xs p) (watch_flags xs q) hw in
      let b = all_two (flags p (shape k)) (flags q (shape k)) hs in
      either (decides p xs e f k r a.0 b.0 g w i) (decides q xs e f k r a.1 b.1 g w i)
  decides (implication p q) xs e f k r hw hs g w i =
      let a = all_two (watch_flags xs p) (watch_flags xs q) hw in
      let b = all_two (flags p (shape k)) (flags q (shape k)) hs in
      follows (decides p xs e f k r a.0 b.0 g w i) (decides q xs e f k r a.1 b.1 g w i)
  decides (negation p) xs e f k r hw hs g w i = denied (decides p xs e f k r hw hs g w i)
  decides (existential x p) xs e f k r hw hs g w i =
      let a = both_true (may_be_sought x && is_anchored x p)
      (list_all (λ b. b) (watch_flags (x ∷ xs) p)) hw in
      let c = both_true (may_be_sought x) (is_anchored x p) a.0 in
      let b = both_true _ (list_all (λ b. b) (flags p (shape k))) hs in
      let y = met-alike (shape k) r (exists-means x (closed_form p) f) in
      decides_as y.1 y.0
      (some_decides (var_sort x) (values (var_sort x)) (λ v. holds values p (setting x (val v) e) r)
      (λ v. Meets (closed_form p) (setting x v f) (shape k) r)
      (λ v. decides p (x ∷ xs) (setting x (val v) e) (setting x (val v) f) k r a.1 b.1
      (agree_setting xs x (val v) e f g) w i)
      (given.fit x c.0)
      (λ v o m n. anchored p x v f (shape k) r c.1 m (λ s. n (given.all x c.0 v o (i v s)))))
  decides (equality a b) xs e f k r hw hs g w i =
      let h = both_true (is_given xs a && is_given xs b) true hw in
      let j = both_true (is_given xs a) (is_given xs b) h.0 in
      subst (λ z. Decides (same_thing (meaning_of e a) (meaning_of e b)) (z ≡ meaning_of f b))
      (given_meaning xs a e f j.0 g)
      (subst (λ z. Decides (same_thing (meaning_of e a) (meaning_of e b)) (meaning_of e a ≡ z))
      (given_meaning xs b e f j.1 g) (thing_decides (meaning_of e a) (meaning_of e b)))
  decides (at_most a b) xs e f k r hw hs g w i =
      let h = both_true (is_given xs a && is_given xs b) true hw in
      let j = both_true (is_given xs a) (is_given xs b) h.0 in
      subst (λ z. Decides (int_le (number_of (meaning_of e a)) (number_of (meaning_of e b)))
      (IsTrue (int_le (number_of z) (number_of (meaning_of f b)))))
      (given_meaning xs a e f j.0 g)
      (subst (λ z. Decides (int_le (number_of (meaning_of e a)) (number_of (meaning_of e b)))
      (IsTrue (int_le (number_of (meaning_of e a)) (number_of z))))
      (given_meaning xs b e f j.1 g) (record { so = λ q. q; back = λ q. q }))
  decides (empty d) xs e f k r hw hs g w i = bare_decides r
  decides (node_formula name number p list) xs e f k r hw hs g w i =
      let h = both_true (is_given xs name && (is_given xs number && is_given xs list))
      (list_all (λ b. b) (watch_flags xs p)) hw in
      let j = both_true (is_given xs name) (is_given xs number && is_given xs list) h.0 in
      let n = both_true (is_given xs number) (is_given xs list) j.1 in
      let b = both_true _ (list_all (λ b. b) (flags p (shape forest))) hs in
      node_decides _ _ r (λ s o kids l q. decides_as
      (λ m. (m.0, m.1.0, m.1.1.0, m.1.1.1)) (λ m. (m.0, (m.1, (m.2, m.3))))
      (both (term_decides xs (val (str s)) name e f j.0 g)
      (λ u. both (term_decides xs (val (node_number o)) number e f n.0 g)
      (λ u. both (term_decides xs (val (list_number l)) list e f n.1 g)
      (λ u. decides p xs e f forest kids h.1 b.1 g
      (kids_shaped s o kids l k (subst (Shaped (shape k)) q w))
      (λ v m. i v (subst (Somewhere (StandsAt v)) (sym q) (inr (inl m)))))))))
  decides (one_tree p) xs e f k r hw hs g w i =
      let b = both_true _ (list_all (λ b. b) (flags p (shape tree))) hs in
      both (one_decides k r w) (λ t. decides p xs e f tree r hw b.1 g t i)
  decides (one_root p) xs e f k r hw hs g w i =
      let b = both_true _ (list_all (λ b. b) (flags p (shape tree))) hs in
      both (one_decides k r w) (λ t. decides p xs e f tree r hw b.1 g t i)
  decides (concatenation whole p q) xs e f forest r hw hs g w i =
      let a = all_two (watch_flags xs p) (watch_flags xs q) hw in
      let b = all_two (flags p (shape forest)) (flags q (shape forest)) hs in
      cuts_decide (Meets (closed_form p) f (shape forest)) (Meets (closed_form q) f (shape forest))
      (holds values p e) (holds values q e) r w
      (λ c d o t. decides p xs e f forest c a.0 b.0 g t
      (λ v m. i v (subst (Somewhere (StandsAt v)) (sym o) (somewhere_left (StandsAt v) c d m))))
      (λ c d o t. decides q xs e f forest d a.1 b.1 g t
      (λ v m. i v (subst (Somewhere (StandsAt v)) (sym o) (somewhere_right (StandsAt v) c d m))))
  decides (concatenation whole p q) xs e f tree r hw hs g w i = absurd (false≢true {P = ⊥} hs)
  decides (concatenation whole p q) xs e f grove r hw hs g w i = absurd (false≢true {P = ⊥} hs)
  decides (grove_sum p q) xs e f grove r hw hs g w i =
      let a = both_true (is_root p || is_root q)
      (list_all (λ b. b) (watch_flags xs p ++ watch_flags xs q)) hw in
      let c = all_two (watch_flags xs p) (watch_flags xs q) a.1 in
      let b = all_two (flags p (shape grove)) (flags q (shape grove)) hs in
      sum_decides p q f r (holds values p e) (holds values q e) w a.0
      (λ x y o t. decides p xs e f grove x c.0 b.0 g t
      (λ v m. i v (same_somewhere (StandsAt v) grove r (beside x y) o
      (somewhere_left (StandsAt v) x y m))))
      (λ x y o t. decides q xs e f grove x c.1 b.1 g t
      (λ v m. i v (same_somewhere (StandsAt v) grove r (beside x y) o
      (somewhere_left (StandsAt v) x y m))))
  decides (grove_sum p q) xs e f tree r hw hs g w i = absurd (false≢true {P = ⊥} hs)
  decides (grove_sum p q) xs e f forest r hw hs g w i = absurd (false≢true {P = ⊥} hs)
  decides (length_is a) xs e f k r hw hs g w i =
      let h = both_true (is_given xs a) true hw in
      term_decides xs (val (int (pos (width r)))) a e f h.0 g
  decides p xs e f k r hw hs g w i = absurd (false≢true {P = ⊥} hw)
