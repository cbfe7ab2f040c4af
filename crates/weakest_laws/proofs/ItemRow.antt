-- The row of item.
use Rattle.std.proofs.Common.{◌≡◌, ◌⊎◌, ℕ, ◌≤◌, ℤ, pos, negsuc, int_le, IsTrue, List, true, inl, inr, refl, sym, ap, ◌∙◌, subst, ⊎_elim, arith, leb-true, le-leb}
use mathlib.Core.HLevel.{dec→stable}
use Rattle.model_shapes.specs.Shapes.{holes, Shaped}
use Rattle.model_shapes.specs.Sorts.{ValueSort, value, shape, tree, forest, grove, node_sort, list_sort, str_sort, int_sort}
use Rattle.model_shapes.specs.Tests.{value_eq}
use Rattle.model_shapes.specs.Things.{val}
use Rattle.model_shapes.specs.Trees.{Trees, none, node, width, WellFormed}
use Rattle.model_shapes.specs.Values.{Value, FitsValue, null, nolist, node_number, list_number, int, str, boolean}
use Rattle.model_shapes.proofs.Basics.{beside_assoc, width-beside}
use Rattle.model_shapes.proofs.Shapes.{right-WellFormed}
use Rattle.model_terms.specs.Variables.{prog, bound}
use Rattle.model_terms.specs.Terms.{Term, literal}
use Rattle.model_terms.specs.Stores.{ProgVar, sort_of, Store, set, lookup, value_of}
use Rattle.model_terms.proofs.StoreLaws.{value-fits}
use Rattle.model_formulas.specs.Formulas.{Formula, truth, node_formula, conjunction, disjunction, equality, at_most, length_is}
use Rattle.model_formulas.specs.Satisfaction.{Environment, Meets, choosing, meaning_of, number_of}
use Rattle.model_commands.specs.Commands.{list_item}
use Rattle.model_commands.specs.Sorting.{Sorted}
use Rattle.model_commands.specs.SortTests.{is_sorted, BodiesSorted}
use Rattle.model_commands.specs.Theories.{Procedures}
use Rattle.model_commands.proofs.Sorting.{sorted-command}
use Rattle.model_groves.specs.Groves.{listed, list_at, item_of, number_at}
use Rattle.model_groves.specs.Picks.{Pick}
use Rattle.model_machine.specs.Fitting.{Fine}
use Rattle.model_machine.specs.Machine.{run, no_list}
use Rattle.model_machine.proofs.Fine.{move-fine}
use Rattle.entailment_laws.proofs.Plain.{val-is}
use Rattle.triple_laws.proofs.Finding.{number-in}
use Rattle.triple_laws.proofs.Moving.{child-list}
use Rattle.model_weakest.specs.Weakest.{MeetsWith}
use Rattle.weakest_laws.specs.Table.{at, str_var, list_var, node_var, int_var, among, anywhere, some_str, some_list, some_node, some_int, has_item, weakest}
use Rattle.weakest_laws.proofs.Taking.{some-thing, taken, take, value-is, stands-for}
use Rattle.weakest_laws.proofs.Cutting.{Cut, cut, node-Shaped, positive-node, positive-list, found-list, Child, child-at}
use Rattle.weakest_laws.proofs.Rows.{any_pick, on-the-same, reading-lands, meets-same, Read, read-off, Located, located_in, locate, list-there, there}
use Rattle.weakest_laws.proofs.Families.{ChildMet, child-met, child-meets}
use Rattle.weakest_laws.proofs.ReadRows.{env, Landing, stable-at}

-- an integer that is no place of the children names none of them
no-item : (z : ℤ) (k : Trees) → holes k ≡ 0
    → IsTrue (int_le z (negsuc 0)) ⊎ IsTrue (int_le (pos (width k)) z) → item_of (int z) k ≡ null
no-item (pos n) k none-open (inl h) = absurd cc
no-item (pos n) k none-open (inr h) = ⊎_elim
    (λ c. absurd (omega (
      arith,
      leb-true (width k) n h,
      ap width c.is,
      width-beside c.before (node c.name c.number c.kids c.list c.after),
      c.place,
    )))
    (λ x. x.1) (child-at n k none-open)
no-item (negsuc n) k none-open h = refl

module _ (ps : Procedures) (bodies : BodiesSorted ps) (q : Formula) (e : Environment) (st : Store)
    (g : Trees) (fine : Fine st g) (x : ProgVar) (t f : Term)
    (fits : is_sorted ps (list_item x t f) ≡ true)
  where
    so : Sorted ps (list_item x t f)
    so = sorted-command ps (list_item x t f) fits

    abbrev here : Environment
    here = env ps bodies q e st g fine

    abbrev whole-formed : WellFormed g
    whole-formed = fine.whole.well_formed

    abbrev Lands-here : Pick → Type 0
    Lands-here = Landing ps bodies q e st g fine (list_item x t f)

    -- the formulas of the child, and of a place outside
    abbrev child : Formula
    child = node_formula (str_var 1) (at 4 (value (sort_of x))) truth (list_var 0)

    abbrev outside_of : Formula
    outside_of = disjunction (at_most f (literal (int (negsuc 0)))) (at_most (int_var 0) f)

    abbrev there_is : Formula
    there_is =
        some_str (some_node (some_str (some_list (anywhere (node_formula (str_var 3) (node_var 2)
        (among (length_is f) child) t)))))

    abbrev there_is_none : Formula
    there_is_none =
        conjunction
        (some_str (some_node (some_int (conjunction
        (anywhere (node_formula (str_var 2) (node_var 1) (length_is (int_var 0)) t)) outside_of))))
        (equality (at 0 (value (sort_of x))) (literal null))

    module _ (k : Pick) (w : Value) (mq : MeetsWith q e (set x w st) g) where
      with_child : (e' : Environment) → ((z : List ℕ) (u : ValueSort)
          → e' (prog z u) ≡ val (lookup st z u)) → e' (bound 4 (value (sort_of x))) ≡ val w
          → (o : Located (str_var 3) (node_var 2) (among (length_is f) child) t e' g)
          → ChildMet (length_is f) (str_var 1) (at 4 (value (sort_of x))) truth (list_var 0) e'
          o.kids → Lands-here k
      with_child e' agree is-w o y =
          on-the-same ps q e k (run (list_item x t f)) st g (located_in o) whole-formed o.same
          (reading-lands ps q e (list_at (value_of st t) (located_in o)) no_list
          (λ s i k l. item_of (value_of st f) k) x st (located_in o) o.name o.number o.kids o.list w
          (list-there (str_var 3) (node_var 2) (among (length_is f) child) t e' g whole-formed o
          st agree so.1)
          (item-is ∙ val-is (node_number y.number) w (y.number_is ∙ is-w))
          (meets-same q e (set x w st) g (located_in o) o.same mq))
        where
          place-is : value_of st f ≡ int (pos (width y.left))
          place-is = value-is int_sort f st e' agree so.2 y.left_meets

          item-is : item_of (value_of st f) o.kids ≡ node_number y.number
          item-is =
              ap (λ v. item_of v o.kids) place-is
              ∙ ap (number_at (width y.left)) (y.is
              ∙ beside_assoc y.left (node y.name y.number y.below y.list none) y.right)
              ∙ number-in y.left y.name y.number y.below y.list y.right y.left_shaped.holes_fit

      below : Meets there_is (choosing (val w) here) (shape grove) g → Lands-here k
      below m =
          stable-at ps bodies q e st g fine (list_item x t f) k (λ n. m (λ ys. ys.2 (λ yi.
          yi.2 (λ yt. yt.2 (λ ym.
          let e' : Environment =
          choosing ym.0 (choosing yt.0 (choosing yi.0 (choosing ys.0 (choosing (val w) here)))) in
          locate ⊥ (λ h. h (λ b. b)) truth (str_var 3) (node_var 2)
          (among (length_is f) child) t e' g ym.2 (λ o z.
          child-met ⊥ (λ h. h (λ b. b)) (length_is f) (str_var 1) (at 4 (value (sort_of x))) truth
          (list_var 0) e' o.kids o.kids_meet (λ y. n (with_child e' (λ z u. refl) refl o y))))))))

      outside : (e' : Environment) → ((z : List ℕ) (u : ValueSort)
          → e' (prog z u) ≡ val (lookup st z u)) → val w ≡ val null
          → (o : Located (str_var 2) (node_var 1) (length_is (int_var 0)) t e' g)
          → Meets outside_of e' (shape grove) g → Lands-here k
      outside e' agree is-null o m =
          on-the-same ps q e k (run (list_item x t f)) st g (located_in o) whole-formed o.same
          (reading-lands ps q e (list_at (value_of st t) (located_in o)) no_list
          (λ s i k l. item_of (value_of st f) k) x st (located_in o) o.name o.number o.kids o.list w
          (list-there (str_var 2) (node_var 1) (length_is (int_var 0)) t e' g whole-formed o st
          agree so.1)
          (none-there (value_of st f) refl (value-fits int_sort f st so.2 fine.proper)
          ∙ sym (val-is w null is-null))
          (meets-same q e (set x w st) g (located_in o) o.same mq))
        where
          place : (z : ℤ) → value_of st f ≡ int z → number_of (meaning_of e' f) ≡ z
          place z is = ap number_of (sym (stands-for int_sort f st e' agree so.2 is))

          none-there : (v : Value) → value_of st f ≡ v → FitsValue int_sort v
              → item_of v o.kids ≡ null
          none-there (int z) is fits =
              dec→stable (value_eq (item_of (int z) o.kids) null) (λ n. m (λ c.
              n (no-item z o.kids
              (child-list o.name o.number o.kids o.list o.shaped).holes_fit (⊎_elim
              (λ a. inl (subst (λ y. IsTrue (int_le y (negsuc 0))) (place z is) a))
              (λ a. inr (subst (λ y. IsTrue (int_le y z)) (sym (ap number_of o.kids_meet))
              (subst (λ y. IsTrue (int_le (number_of (meaning_of e' (int_var 0))) y)) (place z is)
              a))) c))))
          none-there null is fits = absurd fits
          none-there nolist is fits = absurd fits
          none-there (node_number n) is fits = absurd fits
          none-there (list_number n) is fits = absurd fits
          none-there (str t) is fits = absurd fits
          none-there (boolean b) is fits = absurd fits

      absent : Meets there_is_none (choosing (val w) here) (shape grove) g → Lands-here k
      absent m =
          stable-at ps bodies q e st g fine (list_item x t f) k (λ n. m.0 (λ ys. ys.2 (λ yi.
          yi.2 (λ yn.
          let e' : Environment =
          choosing yn.0 (choosing yi.0 (choosing ys.0 (choosing (val w) here))) in
          locate ⊥ (λ h. h (λ b. b)) truth (str_var 2) (node_var 1) (length_is (int_var 0)) t e' g
          yn.2.0 (λ o z. n (outside e' (λ z u. refl) m.1 o yn.2.1))))))

    pub item-lands : MeetsWith (weakest (list_item x t f) q) e st g → (k : Pick) → Lands-here k
    item-lands m k =
        taken e st (Lands-here k) (stable-at ps bodies q e st g fine (list_item x t f) k) x
        (has_item x t f) q (shape grove) g m (λ w h mp mq.
        stable-at ps bodies q e st g fine (list_item x t f) k (λ n. mp (λ o.
        ⊎_elim (λ a. n (below k w mq a)) (λ b. n (absent k w mq b)) o)))

    -- BACK
    module _ (s : List ℕ) (i : ℕ) (kids : Trees) (l : ℕ) (c : Cut g s i kids l)
        (names : value_of st t ≡ list_number l)
      where
        shaped : Shaped (shape tree) (node s i kids l none)
        shaped = node-Shaped g fine.whole s i kids l c

        list-is : (e' : Environment) → ((z : List ℕ) (u : ValueSort)
            → e' (prog z u) ≡ val (lookup st z u)) → val (list_number l) ≡ meaning_of e' t
        list-is e' agree =
            stands-for list_sort t st e' agree so.1 names

        at-child : (n : ℕ) → value_of st f ≡ int (pos n) → Child n kids
            → (w : Value) → number_at n kids ≡ w
            → FitsValue (sort_of x) w → MeetsWith q e (set x w st) g
            → MeetsWith (weakest (list_item x t f) q) e st g
        at-child n place y w is h mq =
            take e st x (has_item x t f) q (shape grove) g w h
            (λ n. n (inl
            (some-thing (value str_sort) (val (str s)) tt
            (some-thing (value node_sort) (val (node_number i))
            (positive-node s i kids l none shaped.well_formed)
            (some-thing (value str_sort) (val (str y.name)) tt
            (some-thing (value list_sort) (val (list_number y.list)) child-list-fits
            (there g fine.whole s i kids l c (str_var 3) (node_var 2) (among (length_is f) child) t
            e' refl refl (list-is e' (λ z u. refl)) kids-meet)))))))
            mq
          where
            child-list-fits : FitsValue list_sort (list_number y.list)
            child-list-fits = positive-list y.name y.number y.kids y.list y.after
                (right-WellFormed y.before (node y.name y.number y.kids y.list y.after)
                (subst WellFormed y.is (child-list s i kids l shaped).well_formed))

            e' : Environment
            e' = choosing (val (list_number y.list)) (choosing (val (str y.name))
                (choosing (val (node_number i)) (choosing (val (str s))
                (choosing (val w) here))))

            kids-meet : Meets (among (length_is f) child) e' (shape forest) kids
            kids-meet =
                subst (Meets (among (length_is f) child) e' (shape forest)) (sym y.is)
                (child-meets y.before y.name y.number y.kids y.list y.after
                (subst (Shaped (shape forest)) y.is (child-list s i kids l shaped)) (length_is f)
                (str_var 1) (at 4 (value (sort_of x))) (list_var 0) e'
                (ap (λ z. val (int (pos z))) y.place
                ∙ stands-for int_sort f st e' (λ z u. refl) so.2 place) refl
                (ap val (sym y.read ∙ is)) refl)

        at-none : (z : ℤ) → value_of st f ≡ int z
            → IsTrue (int_le z (negsuc 0)) ⊎ IsTrue (int_le (pos (width kids)) z)
            → (w : Value) → w ≡ null → FitsValue (sort_of x) w → MeetsWith q e (set x w st) g
            → MeetsWith (weakest (list_item x t f) q) e st g
        at-none z is out w is-null h mq =
            take e st x (has_item x t f) q (shape grove) g w h
            (λ n. n (inr (
              some-thing (value str_sort) (val (str s)) tt
                  (some-thing (value node_sort) (val (node_number i))
                  (positive-node s i kids l none shaped.well_formed)
                  (some-thing (value int_sort) (val (int (pos (width kids)))) tt
                  (its-length, no-place))),
              ap val is-null,
            )))
            mq
          where
            e' : Environment
            e' = choosing (val (int (pos (width kids)))) (choosing (val (node_number i))
                (choosing (val (str s)) (choosing (val w) here)))

            place : number_of (meaning_of e' f) ≡ z
            place = ap number_of (sym (stands-for int_sort f st e' (λ y u. refl) so.2 is))

            its-length : Meets (anywhere (node_formula (str_var 2) (node_var 1)
                (length_is (int_var 0)) t)) e' (shape grove) g
            its-length =
                there g fine.whole s i kids l c (str_var 2) (node_var 1) (length_is (int_var 0)) t
                e' refl refl (list-is e' (λ z u. refl)) refl

            no-place : Meets outside_of e' (shape grove) g
            no-place = λ n. n (⊎_elim
                (λ a. inl (subst (λ y. IsTrue (int_le y (negsuc 0))) (sym place) a))
                (λ a. inr (subst (λ y. IsTrue (int_le (pos (width kids)) y)) (sym place) a)) out)

        by_place : (v : Value) → value_of st f ≡ v → FitsValue int_sort v
            → FitsValue (sort_of x) (item_of v kids)
            → MeetsWith q e (set x (item_of v kids) st) g
            → MeetsWith (weakest (list_item x t f) q) e st g
        by_place (int (pos n)) place fv h mq = by_child (child-at n kids
            (child-list s i kids l shaped).holes_fit)
          where
            by_child : Child n kids ⊎ ((width kids ≤ n) × (number_at n kids ≡ null))
                → MeetsWith (weakest (list_item x t f) q) e st g
            by_child (inl y) = at-child n place y (number_at n kids) refl h mq
            by_child (inr y) =
                at-none (pos n) place (inr (le-leb (width kids) n y.0)) (number_at n kids) y.1 h mq
        by_place (int (negsuc n)) place fv h mq =
            at-none (negsuc n) place (inl (le-leb 0 n (omega arith))) null refl h mq
        by_place null place fv h mq = absurd fv
        by_place nolist place fv h mq = absurd fv
        by_place (node_number n) place fv h mq = absurd fv
        by_place (list_number n) place fv h mq = absurd fv
        by_place (str z) place fv h mq = absurd fv
        by_place (boolean b) place fv h mq = absurd fv

    pub item-meets : ((k : Pick) → Lands-here k)
        → MeetsWith (weakest (list_item x t f) q) e st g
    item-meets h =
        let r : Read ps q e (list_at (value_of st t) g) (λ s i k l. item_of (value_of st f) k) x st
        g = read-off ps q e (list_at (value_of st t) g) no_list
        (λ s i k l. item_of (value_of st f) k) x st g
        (move-fine ps bodies any_pick (run (list_item x t f)) st g fits fine) (h any_pick) in
        let y = found-list (value_of st t) g r.name r.number r.kids r.list r.rest r.is in
        by_place r.name r.number r.kids r.list
        (cut (listed r.list) g fine.whole.holes_fit r.name r.number r.kids r.list r.rest y.1) y.0
        (value_of st f) refl (value-fits int_sort f st so.2 fine.proper) r.fits r.meets
