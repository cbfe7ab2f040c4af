-- The row of insertBefore.
use Rattle.std.proofs.Common.{◌≡◌, inl, inr, ⊎_elim, ℕ, ◌≤◌, ◌*◌, List, [], Bool, true, false, cond, refl, sym, ap, ◌∙◌, subst, arith}
use mathlib.Core.HLevel.{Stable}
use Rattle.model_shapes.specs.Shapes.{holes, SameAt, Shaped}
use Rattle.model_shapes.specs.Sorts.{value, shape, context, tree, forest, grove, node_sort, list_sort, str_sort}
use Rattle.model_shapes.specs.Things.{Thing, val, trees, Fits}
use Rattle.model_shapes.specs.Trees.{Trees, none, node, hole, beside, fill, width, node_uses, WellFormed}
use Rattle.model_shapes.specs.Values.{Value, null, nolist, node_number, list_number, int, str, boolean}
use Rattle.model_shapes.proofs.Basics.{node_uses-fill, holes-beside, beside_assoc}
use Rattle.model_shapes.proofs.Filling.{fill-left, inner-WellFormed}
use Rattle.model_shapes.proofs.Representatives.{representative}
use Rattle.model_shapes.proofs.Shapes.{SameAt-sym, SameAt-trans, SameAt-eq, same-Shaped, same-node_uses, same-WellFormed, left-Shaped-shape, right-Shaped-shape}
use Rattle.model_terms.specs.Terms.{Term}
use Rattle.model_terms.specs.Stores.{Store, lookup, value_of}
use Rattle.model_formulas.specs.Formulas.{Formula, whole, node_formula, same_as, one_tree, conjunction, concatenation, value_meets}
use Rattle.model_formulas.specs.Satisfaction.{Environment, Meets, choosing, with_store, meaning_of}
use Rattle.model_formulas.proofs.Stable.{stable}
use Rattle.std.proofs.Math.Decide.{ℕ_discrete}
use Rattle.model_commands.specs.Commands.{insert_before}
use Rattle.model_commands.specs.Sorting.{Sorted}
use Rattle.model_commands.specs.SortTests.{is_sorted}
use Rattle.model_commands.specs.Theories.{Procedures}
use Rattle.model_commands.proofs.Sorting.{sorted-command}
use Rattle.model_groves.specs.Groves.{nodes_where, numbered, node_at, is_yes, without, has_root, adding_before, positive}
use Rattle.model_groves.specs.Picks.{Pick}
use Rattle.model_groves.proofs.Decided.{no-is}
use Rattle.model_groves.proofs.Groves.{node-taken-out, same-after, those-beside, adding_before-beside, width-numbered, found-number}
use Rattle.model_shapes.proofs.Narrow.{narrow}
use Rattle.model_machine.specs.Fitting.{Fine}
use Rattle.model_machine.specs.Machine.{run, move, becomes, faults, cycle, self_ref, not_child, appending, inserting, inserting_at}
use Rattle.model_machine.proofs.Fine.{FoundNode, found-node, inserted-shaped, not-positive}
use Rattle.entailment_laws.proofs.Pieces.{put_in}
use Rattle.triple_laws.proofs.Finding.{parent_tree, found-in, has_root-in}
use Rattle.triple_laws.proofs.Here.{Found, uses-here}
use Rattle.triple_laws.proofs.Moving.{found, child-list, wide, split_at}
use Rattle.triple_laws.proofs.OneStep.{Lands}
use Rattle.model_weakest.specs.Weakest.{MeetsWith}
use Rattle.weakest_laws.specs.Table.{at, str_var, list_var, standing, and_tree, appended, inserted_at, taken_out, some_tree, weakest}
use Rattle.weakest_laws.proofs.Taking.{some-thing, value-is, stands-for}
use Rattle.weakest_laws.proofs.Cutting.{Cut, cut, outside-Shaped, node-Shaped, positive-list, Root, root-of}
use Rattle.weakest_laws.proofs.TakenOut.{is-no, root-stays, less-Shaped, cut-less, found-less}
use Rattle.weakest_laws.proofs.Rows.{any_pick, on-the-same, stable-landing, meets-same, Located, located_in, locate}
use Rattle.weakest_laws.proofs.MovedNodes.{taken, put-before, child-used}
use Rattle.weakest_laws.proofs.Moved.{moved-in, move-out, Numbered, some-tree-met, some-tree-meets, OutOf, taken-out-met, taken-out-meets}
use Rattle.weakest_laws.proofs.AppendRow.{same-name, same-number, same-list, append-lands, append-meets}

module _ (ps : Procedures) (q : Formula) (e : Environment) (st : Store) (g : Trees)
    (fine : Fine st g) (a b d : Term) (fits : is_sorted ps (insert_before a b d) ≡ true)
  where
    so : Sorted ps (insert_before a b d)
    so = sorted-command ps (insert_before a b d) fits

    abbrev here : Environment
    here = with_store (lookup st) e

    abbrev J : Store → Trees → Type 0
    J = MeetsWith q e

    abbrev Landing : Pick → Type 0
    Landing k = Lands J (move ps k (run (insert_before a b d)) st g)

    stable-here : (k : Pick) → Stable (Landing k)
    stable-here k = stable-landing ps q e (move ps k (run (insert_before a b d)) st g)

    -- under the binders of $r $c $s $q $p $l $u $w
    abbrev under : Trees → Thing → Thing → Thing → Thing → Thing → Thing → Thing → Environment
    under r c s f p l u w =
        choosing w (choosing u (choosing l (choosing p (choosing f (choosing s (choosing c
        (choosing (trees r) here)))))))

    abbrev inside_before : Formula
    inside_before =
        concatenation whole (and_tree (same_as (at 4 (shape forest))) 0)
        (same_as (at 3 (shape forest)))

    abbrev inside_after : Formula
    inside_after =
        concatenation whole (and_tree (and_tree (same_as (at 4 (shape forest))) 1) 0)
        (same_as (at 3 (shape forest)))

    abbrev before : Formula
    before = standing 6 5 a inside_before 2

    abbrev after : Formula
    after = standing 6 5 a inside_after 2

    abbrev says : Formula
    says =
        conjunction
        (conjunction
        (conjunction (taken_out (at 1 (shape tree)) before)
        (value_meets (shape tree) (at 1 (shape tree)) (some_tree b)))
        (value_meets (shape tree) (at 0 (shape tree)) (some_tree d)))
        (value_meets (shape grove) (at 7 (shape grove)) after)

    module _ (k : Pick) (r : Trees) (mq : MeetsWith q e st r) (c : Trees) (s : Thing) (f p : Trees)
        (wf : Shaped (shape forest) f) (wp : Shaped (shape forest) p) (l : Thing) (u w : Trees)
      where
        abbrev its : Environment
        its = under r (trees c) s (trees f) (trees p) l (trees u) (trees w)

        module _ (o : OutOf before u its g) (v : Numbered st b u) (z : Numbered st d w)
            (n : Located (str_var 5) a inside_before (list_var 2) its (fill o.around none))
            (mc : SameAt grove n.outside c) (kids : n.kids ≡ beside (beside f w) p)
            (n' : Located (str_var 5) a inside_after (list_var 2) its r)
            (mc' : SameAt grove n'.outside c)
            (kids' : n'.kids ≡ beside (beside (beside f u) w) p)
          where
            abbrev moved : Trees
            moved = node v.name v.number v.kids v.list none

            abbrev next : Trees
            next = node z.name z.number z.kids z.list none

            abbrev old : Trees
            old = parent_tree n.name n.number f next p n.list

            abbrev new : Trees
            new = parent_tree n.name n.number (beside f moved) next p n.list

            abbrev start : Trees
            start = fill o.around moved

            abbrev one : holes n.outside ≡ 1
            one = n.outside_shaped.holes_fit.one

            same-start : SameAt grove g start
            same-start = subst (λ x. SameAt grove g (fill o.around x)) v.is o.same

            start-formed : WellFormed start
            start-formed = same-WellFormed grove g start same-start fine.whole.well_formed

            left : without v.number start ≡ fill o.around none
            left = taken o.around o.one v.name v.number v.kids v.list start-formed

            old-is : node n.name n.number n.kids n.list none ≡ old
            old-is = ap (λ x. node n.name n.number x n.list none)
                (kids ∙ ap (λ x. beside (beside f x) p) z.is)

            rest-same : SameAt grove (without v.number start) (fill n.outside old)
            rest-same =
                subst (λ x. SameAt grove x (fill n.outside old)) (sym left)
                (subst (λ x. SameAt grove (fill o.around none) (fill n.outside x)) old-is n.same)

            rest-formed : WellFormed (fill n.outside old)
            rest-formed =
                same-WellFormed grove (without v.number start) (fill n.outside old) rest-same
                (subst WellFormed (sym left) o.emptied.well_formed)

            -- the node after the move is the one that $r has
            new-is : new ≡ node n'.name n'.number n'.kids n'.list none
            new-is =
                λ i. node (same-name n.name n'.name (n.name_is ∙ sym n'.name_is) i)
                (same-number n.number n'.number (n.number_is ∙ sym n'.number_is) i)
                (((λ j. beside (beside (beside f (sym v.is j)) (sym z.is j)) p) ∙ sym kids') i)
                (same-list n.list n'.list (n.list_is ∙ sym n'.list_is) i) none

            abbrev landed : Trees
            landed = adding_before z.number moved (without v.number start)

            end-same : SameAt grove r landed
            end-same =
                SameAt-trans grove r (fill n.outside new) landed
                (SameAt-trans grove r (located_in n') (fill n.outside new) n'.same
                (subst (λ x. SameAt grove (located_in n') (fill n.outside x)) (sym new-is)
                (fill-left grove n'.outside n.outside (node n'.name n'.number n'.kids n'.list none)
                (SameAt-trans grove n'.outside c n.outside mc' (SameAt-sym grove n.outside c mc)))))
                (SameAt-sym grove landed (fill n.outside new)
                (SameAt-trans grove landed
                (adding_before z.number moved (fill n.outside old)) (fill n.outside new)
                (same-after (adding_before z.number moved) (adding_before-beside z.number moved)
                (without v.number start) (fill n.outside old) rest-same)
                (SameAt-eq grove (adding_before z.number moved (fill n.outside old))
                (fill n.outside new)
                (put-before n.outside one n.name n.number f p n.list z.name z.number z.kids z.list
                wf.holes_fit wp.holes_fit rest-formed moved))))

            moved-found : nodes_where (numbered v.number) start ≡ moved
            moved-found =
                found-in o.around v.name v.number v.kids v.list o.one start-formed

            -- the parent is found without the tree
            parent-there : nodes_where (numbered n.number) (without v.number start) ≡ old
            parent-there =
                narrow (nodes_where (numbered n.number) (without v.number start))
                (nodes_where (numbered n.number) (fill n.outside old))
                (omega (
                  arith,
                  width-numbered n.number (without v.number start),
                  same-node_uses n.number grove (without v.number start) (fill n.outside old)
                      rest-same,
                  rest-formed.nodes_once n.number,
                ))
                (same-after (nodes_where (numbered n.number)) (those-beside (numbered n.number))
                (without v.number start) (fill n.outside old) rest-same)
                ∙ found-in n.outside n.name n.number (beside (beside f next) p) n.list one
                rest-formed

            next-used : 1 ≤ node_uses z.number (without v.number start)
            next-used =
                omega (
                  arith,
                  same-node_uses z.number grove (without v.number start) (fill n.outside old)
                      rest-same,
                  node_uses-fill z.number n.outside old,
                  ap (λ x. x * node_uses z.number old) one,
                  child-used n.outside one n.name n.number f p n.list z.name z.number z.kids z.list
                      wf.holes_fit wp.holes_fit rest-formed,
                )

            gone : node_uses v.number (without v.number start) ≡ 0
            gone =
                omega (
                  arith,
                  node-taken-out v.number v.number start,
                  start-formed.nodes_once v.number,
                  ap (node_uses v.number) moved-found,
                  uses-here v.name v.number v.kids v.list,
                )

            not-before-itself : v.number ≡ z.number → ⊥
            not-before-itself y =
                omega (
                  arith,
                  gone,
                  ap (λ x. node_uses x (without v.number start)) y,
                  next-used,
                )

            -- the parent stands outside the tree
            parent-used : 1 ≤ node_uses n.number (without v.number start)
            parent-used =
                omega (
                  arith,
                  width-numbered n.number (without v.number start),
                  ap width parent-there,
                )

            not-round : node_uses n.number moved ≡ 0
            not-round =
                omega (
                  arith,
                  node-taken-out n.number v.number start,
                  start-formed.nodes_once n.number,
                  ap (node_uses n.number) moved-found,
                  parent-used,
                )

            found-parent : Found n.number start
            found-parent =
                found n.number start
                (omega (arith, node-taken-out n.number v.number start, parent-used))

            the-parent : FoundNode (node_number n.number) start found-parent.name n.number
                found-parent.kids found-parent.list found-parent.rest
            the-parent =
                found-node (node_number n.number) start start-formed found-parent.name n.number
                found-parent.kids found-parent.list found-parent.rest found-parent.is

            found-next : Found z.number start
            found-next =
                found z.number start
                (omega (arith, node-taken-out z.number v.number start, next-used))

            kids-without : without v.number found-parent.kids ≡ beside (beside f next) p
            kids-without =
                let same : node found-parent.name n.number (without v.number found-parent.kids)
                found-parent.list none ≡ old =
                sym (found-less v.number start
                (same-Shaped (shape grove) g start same-start fine.whole) found-parent.name n.number
                found-parent.kids found-parent.list the-parent.here
                (ap (node_uses n.number) moved-found ∙ not-round)) ∙ parent-there in cc

            among : has_root z.number found-parent.kids ≡ true
            among =
                sym (root-stays z.number v.number found-parent.kids not-before-itself)
                ∙ ap (has_root z.number) (kids-without ∙ beside_assoc f next p)
                ∙ has_root-in f z.name z.number z.kids z.list p

            -- no test of the machine fails
            is-move : inserting (nodes_where (numbered n.number) start)
                (nodes_where (numbered v.number) start) (nodes_where (numbered z.number) start) st
                start ≡ becomes [] st landed
            is-move =
                (λ y. inserting (the-parent.here y) (moved-found y) (found-next.is y) st start)
                ∙ (λ y. cond (is-no (ℕ_discrete v.number z.number) not-before-itself y)
                (faults self_ref) (cond (positive (not-round y)) (faults cycle)
                (cond (among y) (becomes [] st landed) (faults not_child))))

            parent-is : value_of st a ≡ node_number n.number
            parent-is =
                value-is node_sort a st its (λ z u. refl) so.0 n.number_is

            with_all : Landing k
            with_all =
                on-the-same ps q e k (run (insert_before a b d)) st g start fine.whole.well_formed
                same-start
                (subst (Lands J)
                (sym (λ y. inserting_at (z.names y) (node_at (parent-is y) start)
                (node_at (v.names y) start) st start))
                (subst (Lands J) (sym is-move) (refl, meets-same q e st r landed end-same mq)))

    with_things : (k : Pick) (r : Trees) → MeetsWith q e st r → (c s f p l u w : Thing)
        → Fits (context tree grove) c → Fits (shape forest) f → Fits (shape forest) p
        → Fits (shape tree) u → Fits (shape tree) w
        → Meets says (under r c s f p l u w) (shape grove) g → Landing k
    with_things k r mq (val x) s f p l u w fc ff fp fu fw m = absurd fc
    with_things k r mq (trees c) s (val x) p l u w fc ff fp fu fw m = absurd ff
    with_things k r mq (trees c) s (trees f) (val x) l u w fc ff fp fu fw m = absurd fp
    with_things k r mq (trees c) s (trees f) (trees p) l (val x) w fc ff fp fu fw m = absurd fu
    with_things k r mq (trees c) s (trees f) (trees p) l (trees u) (val x) fc ff fp fu fw m =
        absurd fw
    with_things k r mq (trees c) s (trees f) (trees p) l (trees u) (trees w) fc ff fp fu fw m =
        taken-out-met 1 before u its' g fine.whole.well_formed (Landing k) (stable-here k) refl
        m.0.0.0
        (λ o. some-tree-met st b so.1 its' (λ z w. refl) (Landing k) (stable-here k) u m.0.0.1
        (λ v. some-tree-met st d so.2 its' (λ z w. refl) (Landing k) (stable-here k) w m.0.1
        (λ z.
        locate (Landing k) (stable-here k) (same_as (at 6 (context tree grove))) (str_var 5) a
        inside_before (list_var 2) its' (fill o.around none) o.meets (λ n mc.
        locate (Landing k) (stable-here k) (same_as (at 6 (context tree grove))) (str_var 5) a
        inside_after (list_var 2) its' r m.1 (λ n' mc'.
        stable-here k (λ no. n.kids_meet (λ x1. x1.2 (λ x2. x2.2.1 (λ x3. x3.2 (λ x4.
        n'.kids_meet (λ y1. y1.2 (λ y2. y2.2.1 (λ y3. y3.2 (λ y4. y4.2.1 (λ y5. y5.2 (λ y6.
        no (with_all k r mq c s f p ff fp l u w o v z n mc
        (x2.2.0 ∙ (λ i. beside ((x4.2.0 ∙ (λ j. beside (x4.2.1 j) (x4.2.2.1 j))) i) (x2.2.2 i)))
        n' mc'
        (y2.2.0 ∙ (λ i. beside ((y4.2.0 ∙ (λ j. beside
        ((y6.2.0 ∙ (λ h. beside (y6.2.1 h) (y6.2.2.1 h))) j) (y4.2.2.1 j))) i)
        (y2.2.2 i))))))))))))))))))))
      where
        its' : Environment
        its' = under r (trees c) s (trees f) (trees p) l (trees u) (trees w)

    -- before null it is appendChild
    last-lands : value_of st d ≡ null → (r : Trees) → Shaped (shape grove) r
        → Meets (appended a b) (choosing (trees r) here) (shape grove) g → MeetsWith q e st r
        → (k : Pick) → Landing k
    last-lands is r wr m mq k =
        subst (λ v. Lands J (inserting_at v (node_at (value_of st a) g) (node_at (value_of st b) g)
        st g)) (sym is)
        (append-lands ps q e st g fine a b (so.0, so.1)
        (move-out e st (appended a b) q g r wr m mq) k)

    pub insert-lands : MeetsWith (weakest (insert_before a b d) q) e st g → (k : Pick)
        → Landing k
    insert-lands m k =
        moved-in e st (Landing k) (stable-here k)
        (inserted_at a b d) q g m (λ r wr mp mq. stable-here k (λ n. mp (λ o. ⊎_elim
        (λ x. n (last-lands
        (value-is node_sort d st (choosing (trees r) here) (λ z u. refl) so.2 (sym x.0)) r wr x.1
        mq k))
        (λ x. x (λ c. c.2 (λ s. s.2 (λ f. f.2 (λ p. p.2 (λ l. l.2 (λ u. u.2 (λ w.
        n (with_things k r mq c.0 s.0 f.0 p.0 l.0 u.0 w.0 c.1 f.1 p.1 u.1 w.1 w.2)))))))))
        o)))

    -- BACK
    last-meets : value_of st d ≡ null
        → ((k : Pick) → Lands J (appending (node_at (value_of st a) g) (node_at (value_of st b) g)
        st g))
        → MeetsWith (weakest (insert_before a b d) q) e st g
    last-meets is h =
        moved-in e st (MeetsWith (weakest (insert_before a b d) q) e st g)
        (stable (weakest (insert_before a b d) q) here (shape grove) g) (appended a b) q g
        (append-meets ps q e st g fine a b (so.0, so.1) h)
        (λ r wr mp mq. move-out e st (inserted_at a b d) q g r wr (λ n. n (inl (
          sym (stands-for node_sort d st (choosing (trees r) here) (λ z u. refl) so.2 is),
          mp,
        ))) mq)

    module _ (s : List ℕ) (i : ℕ) (k : Trees) (l : ℕ) (s' : List ℕ) (j : ℕ) (k' : Trees) (l' : ℕ)
        (t : ℕ)
        (a-is : value_of st a ≡ node_number i)
        (a-there : nodes_where (numbered i) g ≡ node s i k l none)
        (b-is : value_of st b ≡ node_number j)
        (b-there : nodes_where (numbered j) g ≡ node s' j k' l' none)
        (d-is : value_of st d ≡ node_number t)
        (not-itself : is_yes (ℕ_discrete j t) ≡ false)
        (apart : node_uses i (node s' j k' l' none) ≡ 0)
        (child : has_root t k ≡ true)
        (mq : MeetsWith q e st (adding_before t (node s' j k' l' none) (without j g)))
      where
        abbrev tree_moved : Trees
        tree_moved = node s' j k' l' none

        abbrev less : Trees
        less = without j g

        out : Cut g s' j k' l'
        out = cut (numbered j) g fine.whole.holes_fit s' j k' l' none b-there

        out-formed : WellFormed (fill out.outside tree_moved)
        out-formed = subst WellFormed out.is fine.whole.well_formed

        less-is : less ≡ fill out.outside none
        less-is = ap (without j) out.is ∙ taken out.outside out.one s' j k' l' out-formed

        less-shaped : Shaped (shape grove) less
        less-shaped = less-Shaped j g fine.whole

        moved-shaped : Shaped (shape tree) tree_moved
        moved-shaped = node-Shaped g fine.whole s' j k' l' out

        abbrev kids_left : Trees
        kids_left = without j k

        -- the parent without the tree
        at-parent : Cut less s i kids_left l
        at-parent = cut-less j g fine.whole s i k l a-there (ap (node_uses i) b-there ∙ apart)

        parent-outside : Shaped (context tree grove) at-parent.outside
        parent-outside = outside-Shaped less less-shaped s i kids_left l at-parent

        parent-shaped : Shaped (shape tree) (node s i kids_left l none)
        parent-shaped = node-Shaped less less-shaped s i kids_left l at-parent

        y : Root t kids_left
        y = root-of t kids_left
            (root-stays t j k (no-is (ℕ_discrete j t) not-itself) ∙ child)

        abbrev beyond : Trees
        beyond = node y.name t y.kids y.list none

        kids-are : kids_left ≡ beside (beside y.before beyond) y.after
        kids-are = y.is ∙ sym (beside_assoc y.before beyond y.after)

        kids-shaped : Shaped (shape forest) (beside (beside y.before beyond) y.after)
        kids-shaped =
            subst (Shaped (shape forest)) kids-are (child-list s i kids_left l parent-shaped)

        kids-holes : holes (beside (beside y.before beyond) y.after) ≡ 0
        kids-holes = kids-shaped.holes_fit

        front-holes : holes (beside y.before beyond) ≡ 0
        front-holes = omega (arith, kids-holes, holes-beside (beside y.before beyond) y.after)

        after-holes : holes y.after ≡ 0
        after-holes = omega (arith, kids-holes, holes-beside (beside y.before beyond) y.after)

        before-holes : holes y.before ≡ 0
        before-holes = omega (arith, front-holes, holes-beside y.before beyond)

        beyond-holes : holes beyond ≡ 0
        beyond-holes = omega (arith, front-holes, holes-beside y.before beyond)

        is-there : less ≡ fill at-parent.outside (parent_tree s i y.before beyond y.after l)
        is-there = at-parent.is ∙ ap (λ z. fill at-parent.outside (node s i z l none)) kids-are

        formed-there : WellFormed (fill at-parent.outside
            (parent_tree s i y.before beyond y.after l))
        formed-there = subst WellFormed is-there less-shaped.well_formed

        abbrev parent_after : Trees
        parent_after = parent_tree s i (beside y.before tree_moved) beyond y.after l

        abbrev end : Trees
        end = fill at-parent.outside parent_after

        end-is : adding_before t tree_moved less ≡ end
        end-is =
            ap (adding_before t tree_moved) is-there
            ∙ put-before at-parent.outside at-parent.one s i y.before y.after l y.name t y.kids
            y.list before-holes after-holes formed-there tree_moved

        end-shaped : Shaped (shape grove) end
        end-shaped =
            subst (Shaped (shape grove)) end-is
            (inserted-shaped t j tree_moved g b-there fine.whole)

        after-shaped : Shaped (shape tree) parent_after
        after-shaped = record {
          well_formed =
              inner-WellFormed at-parent.outside parent_after at-parent.one end-shaped.well_formed;
          width_fits = refl;
          holes_fit = omega (
            arith,
            holes-beside (beside (beside y.before tree_moved) beyond) y.after,
            holes-beside (beside y.before tree_moved) beyond,
            holes-beside y.before tree_moved,
            before-holes,
            beyond-holes,
            after-holes,
            moved-shaped.holes_fit,
          );
        }

        new-kids : Shaped (shape forest)
            (beside (beside (beside y.before tree_moved) beyond) y.after)
        new-kids = child-list s i (beside (beside (beside y.before tree_moved) beyond) y.after) l
            after-shaped

        three-holes : holes (beside (beside y.before tree_moved) beyond) ≡ 0
        three-holes = omega (
          arith,
          holes-beside (beside y.before tree_moved) beyond,
          holes-beside y.before tree_moved,
          before-holes,
          beyond-holes,
          moved-shaped.holes_fit,
        )

        three-shaped : Shaped (shape forest) (beside (beside y.before tree_moved) beyond)
        three-shaped =
            left-Shaped-shape forest (beside (beside y.before tree_moved) beyond) y.after (λ n. tt)
            three-holes new-kids.well_formed

        two-shaped : Shaped (shape forest) (beside y.before tree_moved)
        two-shaped =
            left-Shaped-shape forest (beside y.before tree_moved) beyond (λ n. tt)
            (omega (arith, holes-beside y.before tree_moved, before-holes, moved-shaped.holes_fit))
            three-shaped.well_formed

        front-shaped : Shaped (shape forest) (beside y.before beyond)
        front-shaped =
            left-Shaped-shape forest (beside y.before beyond) y.after (λ n. tt) front-holes
            kids-shaped.well_formed

        before-shaped : Shaped (shape forest) y.before
        before-shaped =
            left-Shaped-shape forest y.before beyond (λ n. tt) before-holes front-shaped.well_formed

        rest-shaped : Shaped (shape forest) y.after
        rest-shaped =
            right-Shaped-shape forest (beside y.before beyond) y.after (λ n. tt) after-holes
            kids-shaped.well_formed

        beyond-forest : Shaped (shape forest) beyond
        beyond-forest =
            right-Shaped-shape forest y.before beyond (λ n. tt) beyond-holes
            front-shaped.well_formed

        beyond-shaped : Shaped (shape tree) beyond
        beyond-shaped = record {
          well_formed = beyond-forest.well_formed;
          width_fits = refl;
          holes_fit = beyond-holes;
        }

        module _ (c : Trees) (same : SameAt grove at-parent.outside c)
            (fc : Fits (context tree grove) (trees c))
          where
            abbrev chosen : Environment
            chosen =
                under end (trees c) (val (str s)) (trees y.before) (trees y.after)
                (val (list_number l)) (trees tree_moved) (trees beyond)

            number : val (node_number i) ≡ meaning_of chosen a
            number =
                stands-for node_sort a st chosen (λ z u. refl) so.0 a-is

            before-meets : Meets before chosen (shape grove) less
            before-meets =
                put_in tree (shape grove) less (same_as (at 6 (context tree grove)))
                (node_formula (str_var 5) a inside_before (list_var 2)) chosen
                at-parent.outside (node s i kids_left l none) parent-outside parent-shaped
                (SameAt-eq grove less (fill at-parent.outside (node s i kids_left l none))
                at-parent.is) same (
                  refl,
                  number,
                  refl,
                  split_at whole (shape forest) kids_left
                      (Meets (and_tree (same_as (at 4 (shape forest))) 0) chosen)
                      (Meets (same_as (at 3 (shape forest))) chosen)
                      (beside y.before beyond) y.after front-shaped rest-shaped kids-are
                      (split_at whole (shape forest) (beside y.before beyond)
                      (Meets (same_as (at 4 (shape forest))) chosen)
                      (Meets (one_tree (same_as (at 0 (shape tree)))) chosen) y.before beyond
                      before-shaped beyond-forest refl refl (beyond-shaped, refl)) refl,
                )

            -- the children after the move: two of them, three, and all
            two-meet : Meets (and_tree (same_as (at 4 (shape forest))) 1) chosen (shape forest)
                (beside y.before tree_moved)
            two-meet =
                split_at whole (shape forest) (beside y.before tree_moved)
                (Meets (same_as (at 4 (shape forest))) chosen)
                (Meets (one_tree (same_as (at 1 (shape tree)))) chosen) y.before tree_moved
                before-shaped (wide forest tree_moved (λ v. cc) moved-shaped) refl refl
                (moved-shaped, refl)

            three-meet : Meets (and_tree (and_tree (same_as (at 4 (shape forest))) 1) 0) chosen
                (shape forest) (beside (beside y.before tree_moved) beyond)
            three-meet =
                split_at whole (shape forest) (beside (beside y.before tree_moved) beyond)
                (Meets (and_tree (same_as (at 4 (shape forest))) 1) chosen)
                (Meets (one_tree (same_as (at 0 (shape tree)))) chosen)
                (beside y.before tree_moved) beyond two-shaped beyond-forest refl two-meet
                (beyond-shaped, refl)

            all-meet : Meets inside_after chosen (shape forest)
                (beside (beside (beside y.before tree_moved) beyond) y.after)
            all-meet =
                split_at whole (shape forest)
                (beside (beside (beside y.before tree_moved) beyond) y.after)
                (Meets (and_tree (and_tree (same_as (at 4 (shape forest))) 1) 0) chosen)
                (Meets (same_as (at 3 (shape forest))) chosen)
                (beside (beside y.before tree_moved) beyond) y.after three-shaped rest-shaped refl
                three-meet refl

            after-meets : Meets after chosen (shape grove) end
            after-meets =
                put_in tree (shape grove) end (same_as (at 6 (context tree grove)))
                (node_formula (str_var 5) a inside_after (list_var 2)) chosen
                at-parent.outside parent_after parent-outside after-shaped
                (SameAt-eq grove end end refl) same (refl, number, refl, all-meet)

            out-meets : Meets (taken_out (at 1 (shape tree)) before) chosen (shape grove) g
            out-meets =
                taken-out-meets 1 before chosen g fine.whole s' j k' l' out refl
                (subst (Meets before chosen (shape grove)) less-is before-meets)

            child-meets : Meets (some_tree b) chosen (shape tree) tree_moved
            child-meets =
                some-tree-meets st b so.1 chosen (λ z u. refl) s' j k' l' moved-shaped b-is

            next-meets : Meets (some_tree d) chosen (shape tree) beyond
            next-meets =
                some-tree-meets st d so.2 chosen (λ z u. refl) y.name t y.kids y.list
                beyond-shaped d-is

            meets-with : MeetsWith (weakest (insert_before a b d) q) e st g
            meets-with =
                move-out e st (inserted_at a b d) q g end end-shaped
                (λ no. no (inr
                (some-thing (context tree grove) (trees c) fc
                (some-thing (value str_sort) (val (str s)) tt
                (some-thing (shape forest) (trees y.before) before-shaped
                (some-thing (shape forest) (trees y.after) rest-shaped
                (some-thing (value list_sort) (val (list_number l))
                (positive-list s i kids_left l none parent-shaped.well_formed)
                (some-thing (shape tree) (trees tree_moved) moved-shaped
                (some-thing (shape tree) (trees beyond) beyond-shaped
                (((out-meets, child-meets), next-meets), after-meets))))))))))
                (subst (MeetsWith q e st) end-is mq)

        meets-all : MeetsWith (weakest (insert_before a b d) q) e st g
        meets-all =
            let (c, same, fc) = representative (context tree grove) at-parent.outside
            parent-outside in meets-with c same fc

    by_nodes : (t : ℕ) → value_of st d ≡ node_number t → (x y z : Trees)
        → node_at (value_of st a) g ≡ x → node_at (value_of st b) g ≡ y
        → nodes_where (numbered t) g ≡ z
        → Lands J (inserting x y z st g) → MeetsWith (weakest (insert_before a b d) q) e st g
    by_nodes t dt none y z ex ey ez h = absurd h
    by_nodes t dt (hole x) y z ex ey ez h = absurd h
    by_nodes t dt (node s i k l r) none z ex ey ez h = absurd h
    by_nodes t dt (node s i k l r) (hole y) z ex ey ez h = absurd h
    by_nodes t dt (node s i k l r) (node s' j k' l' r') none ex ey ez h = absurd h
    by_nodes t dt (node s i k l r) (node s' j k' l' r') (hole z) ex ey ez h = absurd h
    by_nodes t dt (node s i k l r) (node s' j k' l' r') (node s'' n k'' l'' r'') ex ey ez h =
        with_number (found-number t g s'' n k'' l'' r'' ez)
      where
        fa : FoundNode (value_of st a) g s i k l r
        fa = found-node (value_of st a) g fine.whole.well_formed s i k l r ex

        fb : FoundNode (value_of st b) g s' j k' l' r'
        fb = found-node (value_of st b) g fine.whole.well_formed s' j k' l' r' ey

        by_tests : value_of st d ≡ node_number n → (x y z : Bool) → is_yes (ℕ_discrete j n) ≡ x
            → positive (node_uses i (node s' j k' l' none)) ≡ y → has_root n k ≡ z
            → Lands J (cond x (faults self_ref) (cond y (faults cycle)
            (cond z (becomes [] st (adding_before n (node s' j k' l' none) (without j g)))
            (faults not_child))))
            → MeetsWith (weakest (insert_before a b d) q) e st g
        by_tests dn true y z ex ey ez m = absurd m
        by_tests dn false true z ex ey ez m = absurd m
        by_tests dn false false false ex ey ez m = absurd m
        by_tests dn false false true ex ey ez m =
            meets-all s i k l s' j k' l' n fa.number fa.here fb.number fb.here dn ex
            (not-positive (node_uses i (node s' j k' l' none)) ey) ez m.1

        with_number : t ≡ n → MeetsWith (weakest (insert_before a b d) q) e st g
        with_number is =
            by_tests (dt ∙ ap node_number is) (is_yes (ℕ_discrete j n))
            (positive (node_uses i (node s' j k' l' none))) (has_root n k) refl refl refl h

    none-there : (x y : Trees) → Lands J (inserting x y none st g) → ⊥
    none-there none y h = h
    none-there (hole x) y h = h
    none-there (node s i k l r) none h = h
    none-there (node s i k l r) (hole y) h = h
    none-there (node s i k l r) (node s' j k' l' r') h = h

    by_value : (v : Value) → value_of st d ≡ v
        → ((k : Pick) → Lands J (inserting_at v (node_at (value_of st a) g)
        (node_at (value_of st b) g) st g))
        → MeetsWith (weakest (insert_before a b d) q) e st g
    by_value null is h = last-meets is h
    by_value (node_number t) is h =
        by_nodes t is (node_at (value_of st a) g) (node_at (value_of st b) g)
        (nodes_where (numbered t) g) refl refl refl (h any_pick)
    by_value nolist is h = absurd (none-there _ _ (h any_pick))
    by_value (list_number t) is h = absurd (none-there _ _ (h any_pick))
    by_value (int z) is h = absurd (none-there _ _ (h any_pick))
    by_value (str z) is h = absurd (none-there _ _ (h any_pick))
    by_value (boolean z) is h = absurd (none-there _ _ (h any_pick))

    pub insert-meets : ((k : Pick) → Landing k)
        → MeetsWith (weakest (insert_before a b d) q) e st g
    insert-meets h = by_value (value_of st d) refl h
