-- The row of appendChild.
use Rattle.std.proofs.Common.{◌≡◌, ℕ, ◌≤◌, ◌*◌, List, [], Bool, true, false, cond, refl, sym, ap, ◌∙◌, subst, arith}
use mathlib.Core.HLevel.{Stable}
use Rattle.model_shapes.specs.Shapes.{SameAt, Shaped}
use Rattle.model_shapes.specs.Sorts.{value, shape, context, tree, forest, grove, node_sort, list_sort, str_sort}
use Rattle.model_shapes.specs.Things.{Thing, val, trees, Fits}
use Rattle.model_shapes.specs.Trees.{Trees, none, node, hole, beside, fill, node_uses, WellFormed}
use Rattle.model_shapes.specs.Values.{node_number, list_number, str}
use Rattle.model_shapes.proofs.Basics.{node_uses-fill, holes-beside}
use Rattle.model_shapes.proofs.Filling.{fill-left, inner-WellFormed}
use Rattle.model_shapes.proofs.Representatives.{representative}
use Rattle.model_shapes.proofs.Shapes.{SameAt-sym, SameAt-trans, SameAt-eq, same-node_uses, same-WellFormed}
use Rattle.model_terms.specs.Terms.{Term}
use Rattle.model_terms.specs.Stores.{Store, lookup, value_of}
use Rattle.model_formulas.specs.Formulas.{Formula, whole, node_formula, same_as, one_tree, conjunction, value_meets}
use Rattle.model_formulas.specs.Satisfaction.{Environment, Meets, choosing, with_store, meaning_of}
use Rattle.model_commands.specs.Commands.{append_child}
use Rattle.model_commands.specs.Sorting.{Sorted}
use Rattle.model_commands.specs.Theories.{Procedures}
use Rattle.model_groves.specs.Groves.{nodes_where, numbered, node_at, without, adding, positive}
use Rattle.model_groves.specs.Picks.{Pick}
use Rattle.model_groves.proofs.Groves.{node-taken-out, node-those-le, same-after, adding-beside}
use Rattle.model_machine.specs.Fitting.{Fine}
use Rattle.model_machine.specs.Machine.{run, move, becomes, faults, cycle, appending}
use Rattle.model_machine.proofs.Fine.{FoundNode, found-node, appended-shaped, not-positive}
use Rattle.entailment_laws.proofs.Pieces.{put_in}
use Rattle.triple_laws.proofs.Finding.{found-in}
use Rattle.triple_laws.proofs.Here.{Found, uses-here}
use Rattle.triple_laws.proofs.Moving.{found, child-list, wide, split_at}
use Rattle.triple_laws.proofs.OneStep.{Lands}
use Rattle.model_weakest.specs.Weakest.{MeetsWith}
use Rattle.weakest_laws.specs.Table.{at, str_var, list_var, standing, and_tree, appended, taken_out, some_tree, weakest}
use Rattle.weakest_laws.proofs.Taking.{some-thing, value-is, stands-for}
use Rattle.weakest_laws.proofs.Cutting.{Cut, cut, outside-Shaped, node-Shaped, positive-list}
use Rattle.weakest_laws.proofs.TakenOut.{less-Shaped}
use Rattle.weakest_laws.proofs.Rows.{any_pick, on-the-same, stable-landing, meets-same, Located, located_in, locate}
use Rattle.weakest_laws.proofs.MovedNodes.{taken, added}
use Rattle.weakest_laws.proofs.Moved.{moved-in, move-out, Numbered, some-tree-met, some-tree-meets, OutOf, taken-out-met, taken-out-meets}

pub same-name : (a b : List ℕ) → val (str a) ≡ val (str b) → a ≡ b
same-name a b e = cc

pub same-number : (a b : ℕ) → val (node_number a) ≡ val (node_number b) → a ≡ b
same-number a b e = cc

pub same-list : (a b : ℕ) → val (list_number a) ≡ val (list_number b) → a ≡ b
same-list a b e = cc

module _ (ps : Procedures) (q : Formula) (e : Environment) (st : Store) (g : Trees)
    (fine : Fine st g) (a b : Term) (so : Sorted ps (append_child a b))
  where
    abbrev here : Environment
    here = with_store (lookup st) e

    abbrev J : Store → Trees → Type 0
    J = MeetsWith q e

    abbrev Landing : Pick → Type 0
    Landing k = Lands J (move ps k (run (append_child a b)) st g)

    stable-here : (k : Pick) → Stable (Landing k)
    stable-here k = stable-landing ps q e (move ps k (run (append_child a b)) st g)

    -- under the binders of $r $c $s $q $l $u
    abbrev under : Trees → Thing → Thing → Thing → Thing → Thing → Environment
    under r c s f l u =
        choosing u (choosing l (choosing f (choosing s (choosing c (choosing (trees r) here)))))

    -- before the move without the tree, and after it
    abbrev before : Formula
    before = standing 4 3 a (same_as (at 2 (shape forest))) 1

    abbrev after : Formula
    after = standing 4 3 a (and_tree (same_as (at 2 (shape forest))) 0) 1

    abbrev inside_after : Formula
    inside_after = and_tree (same_as (at 2 (shape forest))) 0

    abbrev says : Formula
    says =
        conjunction
        (conjunction (taken_out (at 0 (shape tree)) before)
        (value_meets (shape tree) (at 0 (shape tree)) (some_tree b)))
        (value_meets (shape grove) (at 5 (shape grove)) after)

    module _ (k : Pick) (r : Trees) (mq : MeetsWith q e st r) (c : Trees) (s : Thing) (f : Trees)
        (l : Thing) (u : Trees)
      where
        abbrev its : Environment
        its = under r (trees c) s (trees f) l (trees u)

        module _ (o : OutOf before u its g) (v : Numbered st b u)
            (p : Located (str_var 3) a (same_as (at 2 (shape forest))) (list_var 1) its
            (fill o.around none)) (mc : SameAt grove p.outside c)
            (p' : Located (str_var 3) a inside_after (list_var 1) its r)
            (mc' : SameAt grove p'.outside c) (kids' : p'.kids ≡ beside f u)
          where
            abbrev moved : Trees
            moved = node v.name v.number v.kids v.list none

            abbrev old : Trees
            old = node p.name p.number p.kids p.list none

            abbrev new : Trees
            new = node p.name p.number (beside p.kids moved) p.list none

            abbrev start : Trees
            start = fill o.around moved

            same-start : SameAt grove g start
            same-start = subst (λ z. SameAt grove g (fill o.around z)) v.is o.same

            start-formed : WellFormed start
            start-formed = same-WellFormed grove g start same-start fine.whole.well_formed

            left : without v.number start ≡ fill o.around none
            left = taken o.around o.one v.name v.number v.kids v.list start-formed

            rest-formed : WellFormed (fill p.outside old)
            rest-formed =
                same-WellFormed grove (fill o.around none) (fill p.outside old) p.same
                o.emptied.well_formed

            parent-used : 1 ≤ node_uses p.number (without v.number start)
            parent-used =
                omega (
                  arith,
                  ap (node_uses p.number) left,
                  same-node_uses p.number grove (fill o.around none) (fill p.outside old) p.same,
                  node_uses-fill p.number p.outside old,
                  ap (λ z. z * node_uses p.number old) p.outside_shaped.holes_fit.one,
                  uses-here p.name p.number p.kids p.list,
                )

            -- the node after the move is the one that $r has
            new-is : new ≡ node p'.name p'.number p'.kids p'.list none
            new-is =
                λ i. node (same-name p.name p'.name (p.name_is ∙ sym p'.name_is) i)
                (same-number p.number p'.number (p.number_is ∙ sym p'.number_is) i)
                ((ap (λ z. beside z moved) p.kids_meet ∙ ap (beside f) (sym v.is) ∙ sym kids') i)
                (same-list p.list p'.list (p.list_is ∙ sym p'.list_is) i) none

            abbrev landed : Trees
            landed = adding p.number moved (without v.number start)

            end-same : SameAt grove r landed
            end-same =
                SameAt-trans grove r (fill p.outside new) landed
                (SameAt-trans grove r (located_in p') (fill p.outside new) p'.same
                (subst (λ z. SameAt grove (located_in p') (fill p.outside z)) (sym new-is)
                (fill-left grove p'.outside p.outside (node p'.name p'.number p'.kids p'.list none)
                (SameAt-trans grove p'.outside c p.outside mc' (SameAt-sym grove p.outside c mc)))))
                (SameAt-sym grove landed (fill p.outside new)
                (SameAt-trans grove landed
                (adding p.number moved (fill p.outside old)) (fill p.outside new)
                (same-after (adding p.number moved) (adding-beside p.number moved)
                (without v.number start) (fill p.outside old)
                (subst (λ z. SameAt grove z (fill p.outside old)) (sym left) p.same))
                (SameAt-eq grove (adding p.number moved (fill p.outside old)) (fill p.outside new)
                (added p.outside p.outside_shaped.holes_fit.one p.name p.number p.kids p.list
                rest-formed moved))))

            moved-found : nodes_where (numbered v.number) start ≡ moved
            moved-found =
                found-in o.around v.name v.number v.kids v.list o.one start-formed

            parent-is : value_of st a ≡ node_number p.number
            parent-is =
                value-is node_sort a st its (λ z u. refl) so.0 p.number_is

            -- the parent stands outside the tree
            not-round : node_uses p.number moved ≡ 0
            not-round =
                omega (
                  arith,
                  node-taken-out p.number v.number start,
                  start-formed.nodes_once p.number,
                  ap (node_uses p.number) moved-found,
                  parent-used,
                )

            found-parent : Found p.number start
            found-parent =
                found p.number start
                (omega (arith, node-taken-out p.number v.number start, parent-used))

            -- no test of the machine fails
            is-move : appending (node_at (value_of st a) start) (node_at (value_of st b) start) st
                start ≡ becomes [] st landed
            is-move =
                (λ y. appending (node_at (parent-is y) start) (node_at (v.names y) start) st start)
                ∙ (λ y. appending (found-parent.is y) (moved-found y) st start)
                ∙ (λ y. cond (positive (not-round y)) (faults cycle) (becomes [] st landed))

            with_all : Landing k
            with_all =
                on-the-same ps q e k (run (append_child a b)) st g start fine.whole.well_formed
                same-start
                (subst (Lands J) (sym is-move) (refl, meets-same q e st r landed end-same mq))

    with_things : (k : Pick) (r : Trees) → MeetsWith q e st r → (c s f l u : Thing)
        → Fits (context tree grove) c → Fits (shape forest) f → Fits (shape tree) u
        → Meets says (under r c s f l u) (shape grove) g → Landing k
    with_things k r mq (val x) s f l u fc ff fu m = absurd fc
    with_things k r mq (trees c) s (val x) l u fc ff fu m = absurd ff
    with_things k r mq (trees c) s (trees f) l (val x) fc ff fu m = absurd fu
    with_things k r mq (trees c) s (trees f) l (trees u) fc ff fu m =
        taken-out-met 0 before u its' g fine.whole.well_formed (Landing k) (stable-here k) refl
        m.0.0
        (λ o. some-tree-met st b so.1 its' (λ z w. refl) (Landing k) (stable-here k) u m.0.1 (λ v.
        locate (Landing k) (stable-here k) (same_as (at 4 (context tree grove))) (str_var 3) a
        (same_as (at 2 (shape forest))) (list_var 1) its' (fill o.around none) o.meets (λ p mc.
        locate (Landing k) (stable-here k) (same_as (at 4 (context tree grove))) (str_var 3) a
        inside_after (list_var 1) its' r m.1 (λ p' mc'.
        stable-here k (λ n. p'.kids_meet (λ x. x.2 (λ y.
        n (with_all k r mq c s f l u o v p mc p' mc'
        (y.2.0 ∙ (λ i. beside (y.2.1 i) (y.2.2.1 i)))))))))))
      where
        its' : Environment
        its' = under r (trees c) s (trees f) l (trees u)

    pub append-lands : MeetsWith (weakest (append_child a b) q) e st g → (k : Pick) → Landing k
    append-lands m k =
        moved-in e st (Landing k) (stable-here k) (appended a b) q g m (λ r wr mp mq.
        stable-here k (λ n. mp (λ c. c.2 (λ s. s.2 (λ f. f.2 (λ l. l.2 (λ u.
        n (with_things k r mq c.0 s.0 f.0 l.0 u.0 c.1 f.1 u.1 u.2))))))))

    -- BACK
    module _ (s : List ℕ) (i : ℕ) (k : Trees) (l : ℕ) (s' : List ℕ) (j : ℕ) (k' : Trees) (l' : ℕ)
        (a-is : value_of st a ≡ node_number i)
        (a-there : nodes_where (numbered i) g ≡ node s i k l none)
        (b-is : value_of st b ≡ node_number j)
        (b-there : nodes_where (numbered j) g ≡ node s' j k' l' none)
        (apart : node_uses i (node s' j k' l' none) ≡ 0)
        (mq : MeetsWith q e st (adding i (node s' j k' l' none) (without j g)))
      where
        abbrev tree_moved : Trees
        tree_moved = node s' j k' l' none

        abbrev less : Trees
        less = without j g

        out : Cut g s' j k' l'
        out = cut (numbered j) g fine.whole.holes_fit s' j k' l' none b-there

        out-formed : WellFormed (fill out.outside tree_moved)
        out-formed = subst WellFormed out.is fine.whole.well_formed

        less-is : less ≡ fill out.outside none
        less-is = ap (without j) out.is ∙ taken out.outside out.one s' j k' l' out-formed

        less-shaped : Shaped (shape grove) less
        less-shaped = less-Shaped j g fine.whole

        used : 1 ≤ node_uses i less
        used =
            omega (
              arith,
              node-taken-out i j g,
              ap (node_uses i) b-there,
              apart,
              node-those-le i (numbered i) g,
              ap (node_uses i) a-there,
              uses-here s i k l,
            )

        f : Found i less
        f = found i less used

        at-parent : Cut less f.name i f.kids f.list
        at-parent =
            cut (numbered i) less less-shaped.holes_fit f.name i f.kids f.list f.rest f.is

        parent-outside : Shaped (context tree grove) at-parent.outside
        parent-outside = outside-Shaped less less-shaped f.name i f.kids f.list at-parent

        parent-shaped : Shaped (shape tree) (node f.name i f.kids f.list none)
        parent-shaped = node-Shaped less less-shaped f.name i f.kids f.list at-parent

        moved-shaped : Shaped (shape tree) tree_moved
        moved-shaped = node-Shaped g fine.whole s' j k' l' out

        abbrev parent_after : Trees
        parent_after = node f.name i (beside f.kids tree_moved) f.list none

        abbrev end : Trees
        end = fill at-parent.outside parent_after

        end-is : adding i tree_moved less ≡ end
        end-is =
            ap (adding i tree_moved) at-parent.is
            ∙ added at-parent.outside at-parent.one f.name i f.kids f.list
            (subst WellFormed at-parent.is less-shaped.well_formed) tree_moved

        end-shaped : Shaped (shape grove) end
        end-shaped =
            subst (Shaped (shape grove)) end-is
            (appended-shaped i j tree_moved g b-there fine.whole)

        after-shaped : Shaped (shape tree) parent_after
        after-shaped = record {
          well_formed =
              inner-WellFormed at-parent.outside parent_after at-parent.one end-shaped.well_formed;
          width_fits = refl;
          holes_fit = omega (
            arith,
            holes-beside f.kids tree_moved,
            parent-shaped.holes_fit,
            moved-shaped.holes_fit,
          );
        }

        module _ (c : Trees) (same : SameAt grove at-parent.outside c)
            (fc : Fits (context tree grove) (trees c))
          where
            abbrev chosen : Environment
            chosen =
                under end (trees c) (val (str f.name)) (trees f.kids) (val (list_number f.list))
                (trees tree_moved)

            number : val (node_number i) ≡ meaning_of chosen a
            number =
                stands-for node_sort a st chosen (λ z u. refl) so.0 a-is

            before-meets : Meets before chosen (shape grove) less
            before-meets =
                put_in tree (shape grove) less (same_as (at 4 (context tree grove)))
                (node_formula (str_var 3) a (same_as (at 2 (shape forest))) (list_var 1)) chosen
                at-parent.outside (node f.name i f.kids f.list none) parent-outside parent-shaped
                (SameAt-eq grove less (fill at-parent.outside (node f.name i f.kids f.list none))
                at-parent.is) same (refl, number, refl, refl)

            kids-meet : Meets inside_after chosen (shape forest) (beside f.kids tree_moved)
            kids-meet =
                split_at whole (shape forest) (beside f.kids tree_moved)
                (Meets (same_as (at 2 (shape forest))) chosen)
                (Meets (one_tree (same_as (at 0 (shape tree)))) chosen) f.kids tree_moved
                (child-list f.name i f.kids f.list parent-shaped)
                (wide forest tree_moved (λ v. cc) moved-shaped) refl refl (moved-shaped, refl)

            after-meets : Meets after chosen (shape grove) end
            after-meets =
                put_in tree (shape grove) end (same_as (at 4 (context tree grove)))
                (node_formula (str_var 3) a inside_after (list_var 1)) chosen
                at-parent.outside parent_after parent-outside after-shaped
                (SameAt-eq grove end end refl) same (refl, number, refl, kids-meet)

            out-meets : Meets (taken_out (at 0 (shape tree)) before) chosen (shape grove) g
            out-meets =
                taken-out-meets 0 before chosen g fine.whole s' j k' l' out refl
                (subst (Meets before chosen (shape grove)) less-is before-meets)

            child-meets : Meets (some_tree b) chosen (shape tree) tree_moved
            child-meets =
                some-tree-meets st b so.1 chosen (λ z u. refl) s' j k' l' moved-shaped b-is

            meets-with : MeetsWith (weakest (append_child a b) q) e st g
            meets-with =
                move-out e st (appended a b) q g end end-shaped
                (some-thing (context tree grove) (trees c) fc
                (some-thing (value str_sort) (val (str f.name)) tt
                (some-thing (shape forest) (trees f.kids)
                (child-list f.name i f.kids f.list parent-shaped)
                (some-thing (value list_sort) (val (list_number f.list))
                (positive-list f.name i f.kids f.list none parent-shaped.well_formed)
                (some-thing (shape tree) (trees tree_moved) moved-shaped
                (((out-meets, child-meets), after-meets)))))))
                (subst (MeetsWith q e st) end-is mq)

        meets-all : MeetsWith (weakest (append_child a b) q) e st g
        meets-all =
            let (c, same, fc) = representative (context tree grove) at-parent.outside
            parent-outside in meets-with c same fc

    by_nodes : (x y : Trees) → node_at (value_of st a) g ≡ x → node_at (value_of st b) g ≡ y
        → Lands J (appending x y st g) → MeetsWith (weakest (append_child a b) q) e st g
    by_nodes none y ex ey h = absurd h
    by_nodes (hole x) y ex ey h = absurd h
    by_nodes (node s i k l r) none ex ey h = absurd h
    by_nodes (node s i k l r) (hole y) ex ey h = absurd h
    by_nodes (node s i k l r) (node s' j k' l' r') ex ey h =
        by_test (positive (node_uses i (node s' j k' l' none))) refl h
      where
        fa : FoundNode (value_of st a) g s i k l r
        fa = found-node (value_of st a) g fine.whole.well_formed s i k l r ex

        fb : FoundNode (value_of st b) g s' j k' l' r'
        fb = found-node (value_of st b) g fine.whole.well_formed s' j k' l' r' ey

        by_test : (c : Bool) → positive (node_uses i (node s' j k' l' none)) ≡ c
            → Lands J (cond c (faults cycle)
            (becomes [] st (adding i (node s' j k' l' none) (without j g))))
            → MeetsWith (weakest (append_child a b) q) e st g
        by_test true z m = absurd m
        by_test false z m =
            meets-all s i k l s' j k' l' fa.number fa.here fb.number fb.here
            (not-positive (node_uses i (node s' j k' l' none)) z) m.1

    pub append-meets : ((k : Pick) → Landing k) → MeetsWith (weakest (append_child a b) q) e st g
    append-meets h =
        by_nodes (node_at (value_of st a) g) (node_at (value_of st b) g) refl refl (h any_pick)
