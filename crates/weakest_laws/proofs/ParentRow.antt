-- The row of parentNode.
use Rattle.std.proofs.Common.{◌≡◌, ℕ, List, true, inl, inr, refl, sym, ap, ◌∙◌, subst, ⊎_elim, arith}
use Rattle.model_shapes.specs.Shapes.{SameAt, Shaped, OneHole}
use Rattle.model_shapes.specs.Sorts.{ValueSort, value, shape, tree, forest, grove, node_sort, list_sort, str_sort}
use Rattle.model_shapes.specs.Things.{val}
use Rattle.model_shapes.specs.Trees.{Trees, none, node, hole, beside, fill, WellFormed}
use Rattle.model_shapes.specs.Values.{Value, FitsValue, null, node_number, list_number, str}
use Rattle.model_shapes.proofs.Basics.{fill-no_hole}
use Rattle.model_shapes.proofs.Shapes.{same-WellFormed, right-WellFormed}
use Rattle.model_terms.specs.Variables.{prog, bound}
use Rattle.model_terms.specs.Terms.{Term, literal}
use Rattle.model_terms.specs.Stores.{ProgVar, sort_of, Store, set, lookup, value_of}
use Rattle.model_formulas.specs.Formulas.{Formula, whole, truth, node_formula, conjunction, equality, one_root, grove_sum}
use Rattle.model_formulas.specs.Satisfaction.{Environment, Meets, choosing}
use Rattle.model_commands.specs.Commands.{parent_node}
use Rattle.model_commands.specs.Sorting.{Sorted}
use Rattle.model_commands.specs.SortTests.{is_sorted, BodiesSorted}
use Rattle.model_commands.specs.Theories.{Procedures}
use Rattle.model_commands.proofs.Sorting.{sorted-command}
use Rattle.model_groves.specs.Groves.{nodes_where, parental, node_at, first_number, has_root}
use Rattle.model_groves.specs.Picks.{Pick}
use Rattle.model_groves.proofs.Groves.{those-pass, Roots}
use Rattle.model_machine.specs.Fitting.{Fine}
use Rattle.model_machine.specs.Machine.{run, no_node}
use Rattle.model_machine.proofs.Fine.{move-fine}
use Rattle.entailment_laws.proofs.Plain.{val-is}
use Rattle.triple_laws.proofs.Finding.{parent_tree, found-in, child-found, parent-found}
use Rattle.triple_laws.proofs.Moving.{child-list, wide, split_at}
use Rattle.triple_laws.proofs.NodesMet.{NodeMet, node-met}
use Rattle.triple_laws.proofs.ReadAxioms.{no-parent-of}
use Rattle.model_weakest.specs.Weakest.{MeetsWith}
use Rattle.weakest_laws.specs.Table.{at, str_var, list_var, among, anywhere, some_str, some_list, has_parent, weakest}
use Rattle.weakest_laws.proofs.Taking.{some-thing, taken, take, value-is, stands-for}
use Rattle.weakest_laws.proofs.Cutting.{Cut, cut, node-Shaped, positive-list, Root, root-of}
use Rattle.weakest_laws.proofs.Rows.{any_pick, on-the-same, reading-lands, meets-same, Located, locate, there}
use Rattle.weakest_laws.proofs.Families.{ChildMet, child-met, child-meets, Orphan, orphan, root-first, others-shaped}
use Rattle.weakest_laws.proofs.ReadRows.{env, Landing, stable-at, NodeRead, node-read}

module _ (ps : Procedures) (bodies : BodiesSorted ps) (q : Formula) (e : Environment) (st : Store)
    (g : Trees) (fine : Fine st g) (x : ProgVar) (t : Term)
    (fits : is_sorted ps (parent_node x t) ≡ true)
  where
    so : Sorted ps (parent_node x t)
    so = sorted-command ps (parent_node x t) fits

    abbrev here : Environment
    here = env ps bodies q e st g fine

    abbrev whole-formed : WellFormed g
    whole-formed = fine.whole.well_formed

    abbrev Lands-here : Pick → Type 0
    Lands-here = Landing ps bodies q e st g fine (parent_node x t)

    -- the formulas of a child and of a root with the number
    abbrev child : Formula
    child = node_formula (str_var 2) t truth (list_var 0)

    abbrev root : Formula
    root = node_formula (str_var 1) t truth (list_var 0)

    abbrev below_parent : Formula
    below_parent =
        some_str (some_str (some_list (some_list (anywhere (node_formula (str_var 3)
        (at 4 (value (sort_of x))) (among truth child) (list_var 1))))))

    abbrev at_root : Formula
    at_root =
        conjunction (some_str (some_list (grove_sum (one_root root) truth)))
        (equality (at 0 (value (sort_of x))) (literal null))

    module _ (k : Pick) (w : Value) (mq : MeetsWith q e (set x w st) g) where
      -- a parent is found
      with_parent : (e' : Environment) → ((z : List ℕ) (u : ValueSort)
          → e' (prog z u) ≡ val (lookup st z u)) → e' (bound 4 (value (sort_of x))) ≡ val w
          → (o : Located (str_var 3) (at 4 (value (sort_of x))) (among truth child) (list_var 1) e'
          g)
          → ChildMet truth (str_var 2) t truth (list_var 0) e' o.kids → Lands-here k
      with_parent e' agree is-w o y =
          on-the-same ps q e k (run (parent_node x t)) st g family whole-formed same
          (reading-lands ps q e (node_at (value_of st t) family) no_node
          (λ s i k l. first_number (nodes_where (parental i) family)) x st family y.name y.number
          y.below y.list w found
          (ap first_number parent-is ∙ val-is (node_number o.number) w (o.number_is ∙ is-w))
          (meets-same q e (set x w st) g family same mq))
        where
          family : Trees
          family = fill o.outside (parent_tree o.name o.number y.left
              (node y.name y.number y.below y.list none) y.right o.list)

          same : SameAt grove g family
          same = subst (λ z. SameAt grove g (fill o.outside (node o.name o.number z o.list none)))
              y.is o.same

          family-formed : WellFormed family
          family-formed = same-WellFormed grove g family same whole-formed

          found : node_at (value_of st t) family ≡ node y.name y.number y.below y.list none
          found =
              ap (λ v. node_at v family) (value-is node_sort t st e' agree so.1 y.number_is)
              ∙ child-found o.outside o.outside_shaped.holes_fit.one o.name o.number y.left y.right
              o.list y.name y.number y.below y.list y.left_shaped.holes_fit
              y.right_shaped.holes_fit family-formed

          parent-is : nodes_where (parental y.number) family
              ≡ parent_tree o.name o.number y.left (node y.name y.number y.below y.list none)
              y.right o.list
          parent-is =
              parent-found o.outside o.outside_shaped.holes_fit.one o.name o.number y.left y.right
              o.list y.name y.number y.below y.list y.left_shaped.holes_fit
              y.right_shaped.holes_fit family-formed

      below : Meets below_parent (choosing (val w) here) (shape grove) g → Lands-here k
      below m =
          stable-at ps bodies q e st g fine (parent_node x t) k (λ n. m (λ ys. ys.2 (λ yt.
          yt.2 (λ yl. yl.2 (λ ym.
          let e' : Environment =
          choosing ym.0 (choosing yl.0 (choosing yt.0 (choosing ys.0 (choosing (val w) here)))) in
          locate ⊥ (λ h. h (λ b. b)) truth (str_var 3) (at 4 (value (sort_of x)))
          (among truth child) (list_var 1) e' g ym.2 (λ o z.
          child-met ⊥ (λ h. h (λ b. b)) truth (str_var 2) t truth (list_var 0) e' o.kids
          o.kids_meet (λ y. n (with_parent e' (λ z u. refl) refl o y))))))))

      -- a root has none
      with_root : (e' : Environment) → ((z : List ℕ) (u : ValueSort)
          → e' (prog z u) ≡ val (lookup st z u)) → val w ≡ val null → (a b : Trees)
          → Shaped (shape tree) a → Shaped (shape grove) b → SameAt grove g (beside a b)
          → Meets root e' (shape tree) a → Lands-here k
      with_root e' agree is-null a b wa wb same m =
          on-the-same ps q e k (run (parent_node x t)) st g there_g whole-formed same'
          (reading-lands ps q e (node_at (value_of st t) there_g) no_node
          (λ s i k l. first_number (nodes_where (parental i) there_g)) x st there_g y.name y.number
          y.kids y.list w found (none-of ∙ sym (val-is w null is-null))
          (meets-same q e (set x w st) g there_g same' mq))
        where
          y : NodeMet (str_var 1) t truth (list_var 0) e' a
          y = node-met (str_var 1) t truth (list_var 0) e' a m

          there_g : Trees
          there_g = fill (hole b) (node y.name y.number y.kids y.list none)

          same' : SameAt grove g there_g
          same' = subst (SameAt grove g) ((λ i. beside (y.is i) b)
              ∙ ap (beside (node y.name y.number y.kids y.list none))
              (sym (fill-no_hole b (node y.name y.number y.kids y.list none) wb.holes_fit))) same

          one : OneHole grove grove (hole b)
          one = record { one = omega (arith, wb.holes_fit); stands = refl }

          there-formed : WellFormed there_g
          there-formed = same-WellFormed grove g there_g same' whole-formed

          found : node_at (value_of st t) there_g ≡ node y.name y.number y.kids y.list none
          found =
              ap (λ v. node_at v there_g) (value-is node_sort t st e' agree so.1 y.number_is)
              ∙ found-in (hole b) y.name y.number y.kids y.list one.one there-formed

          none-of : first_number (nodes_where (parental y.number) there_g) ≡ null
          none-of = no-parent-of (hole b) one y.name y.number y.kids y.list there-formed

      rooted : Meets at_root (choosing (val w) here) (shape grove) g → Lands-here k
      rooted m =
          stable-at ps bodies q e st g fine (parent_node x t) k (λ n. m.0 (λ yt. yt.2 (λ ym.
          ym.2 (λ a. a.2 (λ b.
          n (with_root (choosing ym.0 (choosing yt.0 (choosing (val w) here))) (λ z u. refl) m.1
          a.0 b.0 b.2.1.0 b.1 b.2.0 b.2.1.1))))))

    pub parent-lands : MeetsWith (weakest (parent_node x t) q) e st g → (k : Pick) → Lands-here k
    parent-lands m k =
        taken e st (Lands-here k) (stable-at ps bodies q e st g fine (parent_node x t) k) x
        (has_parent x t) q (shape grove) g m (λ w f mp mq.
        stable-at ps bodies q e st g fine (parent_node x t) k (λ n. mp (λ o.
        ⊎_elim (λ a. n (below k w mq a)) (λ b. n (rooted k w mq b)) o)))

    -- BACK
    abbrev read : List ℕ → ℕ → Trees → ℕ → Value
    read s i k l = first_number (nodes_where (parental i) g)

    module _ (r : NodeRead ps bodies q e st g fine (value_of st t) read x) where
      at-parent : (s : List ℕ) (i : ℕ) (kids : Trees) (l : ℕ) (rest : Trees)
          → nodes_where (parental r.number) g ≡ node s i kids l rest
          → has_root r.number kids ≡ true
          → FitsValue (sort_of x) (node_number i) → MeetsWith q e (set x (node_number i) st) g
          → MeetsWith (weakest (parent_node x t) q) e st g
      at-parent s i kids l rest is h f mq =
          take e st x (has_parent x t) q (shape grove) g (node_number i) f
          (λ n. n (inl
          (some-thing (value str_sort) (val (str s)) tt
          (some-thing (value str_sort) (val (str c.name)) tt
          (some-thing (value list_sort) (val (list_number l))
          (positive-list s i kids l none parent-shaped.well_formed)
          (some-thing (value list_sort) (val (list_number c.list)) child-list-fits
          (there g fine.whole s i kids l cutting (str_var 3) (at 4 (value (sort_of x)))
          (among truth child) (list_var 1) e' refl refl refl kids-meet)))))))
          mq
        where
          cutting : Cut g s i kids l
          cutting = cut (parental r.number) g fine.whole.holes_fit s i kids l rest is

          parent-shaped : Shaped (shape tree) (node s i kids l none)
          parent-shaped = node-Shaped g fine.whole s i kids l cutting

          c : Root r.number kids
          c = root-of r.number kids h

          child-list-fits : FitsValue list_sort (list_number c.list)
          child-list-fits = positive-list c.name r.number c.kids c.list c.after
              (right-WellFormed c.before (node c.name r.number c.kids c.list c.after)
              (subst WellFormed c.is (child-list s i kids l parent-shaped).well_formed))

          e' : Environment
          e' = choosing (val (list_number c.list)) (choosing (val (list_number l))
              (choosing (val (str c.name)) (choosing (val (str s))
              (choosing (val (node_number i)) here))))

          kids-meet : Meets (among truth child) e' (shape forest) kids
          kids-meet =
              subst (Meets (among truth child) e' (shape forest)) (sym c.is)
              (child-meets c.before c.name r.number c.kids c.list c.after
              (subst (Shaped (shape forest)) c.is (child-list s i kids l parent-shaped)) truth
              (str_var 2) t (list_var 0) e' tt refl
              (stands-for node_sort t st e' (λ z u. refl) so.1 r.names) refl)

      at-no-parent : nodes_where (parental r.number) g ≡ none → FitsValue (sort_of x) null
          → MeetsWith q e (set x null st) g → MeetsWith (weakest (parent_node x t) q) e st g
      at-no-parent is f mq =
          take e st x (has_parent x t) q (shape grove) g null f
          (λ n. n (inr (
            some-thing (value str_sort) (val (str r.name)) tt
                (some-thing (value list_sort) (val (list_number r.list))
                (positive-list r.name r.number r.kids r.list none r.shaped.well_formed)
                root-meets),
            refl,
          )))
          mq
        where
          o : Orphan g r.name r.number r.kids r.list
          o = orphan r.number g is r.name r.number r.kids r.list none refl r.here

          w : Shaped (shape grove) (beside o.before (node r.name r.number r.kids r.list o.after))
          w = subst (Shaped (shape grove)) o.is fine.whole

          e' : Environment
          e' = choosing (val (list_number r.list)) (choosing (val (str r.name))
              (choosing (val null) here))

          alone : Trees
          alone = node r.name r.number r.kids r.list none

          root-meets : Meets (grove_sum (one_root root) truth) e' (shape grove) g
          root-meets =
              split_at whole (shape grove) g (Meets (one_root root) e') (Meets truth e') alone
              (beside o.before o.after) (wide grove alone (λ v. cc) r.shaped)
              (others-shaped o.before r.name r.number r.kids r.list o.after w)
              (subst (λ z. SameAt grove z (beside alone (beside o.before o.after))) (sym o.is)
              (root-first o.before r.name r.number r.kids r.list o.after w)) (
                r.shaped,
                (
                  refl,
                  stands-for node_sort t st e' (λ z u. refl) so.1 r.names,
                  refl,
                  tt,
                ),
              ) tt

      by_parent : (p : Trees) → nodes_where (parental r.number) g ≡ p
          → Roots (parental r.number) p → MeetsWith (weakest (parent_node x t) q) e st g
      by_parent none is pass =
          at-no-parent is (subst (λ z. FitsValue (sort_of x) (first_number z)) is r.fits_there)
          (subst (λ z. MeetsWith q e (set x (first_number z) st) g) is r.meets)
      by_parent (hole p) is pass = absurd pass
      by_parent (node s i kids l rest) is pass =
          at-parent s i kids l rest is pass.0
          (subst (λ z. FitsValue (sort_of x) (first_number z)) is r.fits_there)
          (subst (λ z. MeetsWith q e (set x (first_number z) st) g) is r.meets)

    pub parent-meets : ((k : Pick) → Lands-here k)
        → MeetsWith (weakest (parent_node x t) q) e st g
    parent-meets h =
        let r : NodeRead ps bodies q e st g fine (value_of st t) read x =
        node-read ps bodies q e st g fine (value_of st t) read x
        (move-fine ps bodies any_pick (run (parent_node x t)) st g fits fine) (h any_pick) in
        by_parent r (nodes_where (parental r.number) g) refl (those-pass (parental r.number) g)
