-- The row of removeChild.
use Rattle.std.proofs.Common.{◌≡◌, ℕ, List, [], Bool, true, false, cond, refl, sym, ap, ◌∙◌, subst, arith}
use mathlib.Core.HLevel.{Stable}
use Rattle.model_shapes.specs.Shapes.{holes, SameAt, Shaped}
use Rattle.model_shapes.specs.Sorts.{value, shape, context, tree, forest, grove, node_sort, list_sort, str_sort}
use Rattle.model_shapes.specs.Things.{Thing, val, trees, Fits}
use Rattle.model_shapes.specs.Trees.{Trees, none, node, hole, beside, fill, WellFormed}
use Rattle.model_shapes.specs.Values.{node_number, list_number, str}
use Rattle.model_shapes.proofs.Basics.{holes-beside, beside_assoc}
use Rattle.model_shapes.proofs.Filling.{fill-left, inner-WellFormed}
use Rattle.model_shapes.proofs.Representatives.{representative}
use Rattle.model_shapes.proofs.Shapes.{SameAt-sym, SameAt-trans, SameAt-eq, SameAt-beside, same-WellFormed, left-Shaped-shape, right-Shaped-shape}
use Rattle.model_terms.specs.Terms.{Term}
use Rattle.model_terms.specs.Stores.{Store, lookup, value_of}
use Rattle.model_formulas.specs.Formulas.{Formula, whole, node_formula, same_as, one_tree, one_root, conjunction, concatenation, grove_sum, value_meets}
use Rattle.model_formulas.specs.Satisfaction.{Environment, Meets, choosing, with_store, meaning_of}
use Rattle.model_commands.specs.Commands.{remove_child}
use Rattle.model_commands.specs.Sorting.{Sorted}
use Rattle.model_commands.specs.SortTests.{is_sorted}
use Rattle.model_commands.specs.Theories.{Procedures}
use Rattle.model_commands.proofs.Sorting.{sorted-command}
use Rattle.model_groves.specs.Groves.{nodes_where, numbered, node_at, without, has_root}
use Rattle.model_groves.specs.Picks.{Pick}
use Rattle.model_machine.specs.Fitting.{Fine}
use Rattle.model_machine.specs.Machine.{run, move, becomes, faults, not_child, removing}
use Rattle.model_machine.proofs.Fine.{FoundNode, found-node, removed-shaped}
use Rattle.entailment_laws.proofs.Pieces.{put_in}
use Rattle.triple_laws.proofs.Finding.{parent_tree}
use Rattle.triple_laws.proofs.Moving.{child-list, wide, split_at}
use Rattle.triple_laws.proofs.OneStep.{Lands}
use Rattle.model_weakest.specs.Weakest.{MeetsWith}
use Rattle.weakest_laws.specs.Table.{at, str_var, list_var, standing, and_tree, removed, some_tree, weakest}
use Rattle.weakest_laws.proofs.Taking.{some-thing, value-is, stands-for}
use Rattle.weakest_laws.proofs.Cutting.{Cut, cut, outside-Shaped, node-Shaped, positive-list, Root, root-of}
use Rattle.weakest_laws.proofs.Rows.{any_pick, on-the-same, stable-landing, meets-same, Located, located_in, locate}
use Rattle.weakest_laws.proofs.MovedNodes.{parent-there, out-there, is-child, less}
use Rattle.weakest_laws.proofs.Moved.{moved-in, move-out, Numbered, some-tree-met, some-tree-meets}
use Rattle.weakest_laws.proofs.AppendRow.{same-name, same-number, same-list}

module _ (ps : Procedures) (q : Formula) (e : Environment) (st : Store) (g : Trees)
    (fine : Fine st g) (a b : Term) (fits : is_sorted ps (remove_child a b) ≡ true)
  where
    so : Sorted ps (remove_child a b)
    so = sorted-command ps (remove_child a b) fits

    abbrev here : Environment
    here = with_store (lookup st) e

    abbrev J : Store → Trees → Type 0
    J = MeetsWith q e

    abbrev Landing : Pick → Type 0
    Landing k = Lands J (move ps k (run (remove_child a b)) st g)

    stable-here : (k : Pick) → Stable (Landing k)
    stable-here k = stable-landing ps q e (move ps k (run (remove_child a b)) st g)

    -- under the binders of $r $c $s $q $p $l $u
    abbrev under : Trees → Thing → Thing → Thing → Thing → Thing → Thing → Environment
    under r c s f p l u =
        choosing u (choosing l (choosing p (choosing f (choosing s (choosing c
        (choosing (trees r) here))))))

    -- the children before the move, and after it
    abbrev inside_before : Formula
    inside_before =
        concatenation whole (and_tree (same_as (at 3 (shape forest))) 0)
        (same_as (at 2 (shape forest)))

    abbrev inside_after : Formula
    inside_after =
        concatenation whole (same_as (at 3 (shape forest))) (same_as (at 2 (shape forest)))

    abbrev after : Formula
    after =
        grove_sum (standing 5 4 a inside_after 1) (one_root (same_as (at 0 (shape tree))))

    abbrev says : Formula
    says =
        conjunction
        (conjunction (standing 5 4 a inside_before 1)
        (value_meets (shape tree) (at 0 (shape tree)) (some_tree b)))
        (value_meets (shape grove) (at 6 (shape grove)) after)

    module _ (k : Pick) (r : Trees) (mq : MeetsWith q e st r) (c : Trees) (s : Thing) (f p : Trees)
        (wf : Shaped (shape forest) f) (wp : Shaped (shape forest) p) (l : Thing) (u : Trees)
      where
        abbrev its : Environment
        its = under r (trees c) s (trees f) (trees p) l (trees u)

        module _ (v : Numbered st b u)
            (o : Located (str_var 4) a inside_before (list_var 1) its g)
            (mc : SameAt grove o.outside c) (kids : o.kids ≡ beside (beside f u) p)
            (x : Trees) (same-r : SameAt grove r (beside x u))
            (o' : Located (str_var 4) a inside_after (list_var 1) its x)
            (mc' : SameAt grove o'.outside c) (kids' : o'.kids ≡ beside f p)
          where
            abbrev moved : Trees
            moved = node v.name v.number v.kids v.list none

            abbrev start : Trees
            start = fill o.outside (parent_tree o.name o.number f moved p o.list)

            abbrev new : Trees
            new = node o.name o.number (beside f p) o.list none

            same-start : SameAt grove g start
            same-start =
                subst (λ z. SameAt grove g (fill o.outside (node o.name o.number z o.list none)))
                (kids ∙ ap (λ z. beside (beside f z) p) v.is) o.same

            start-formed : WellFormed start
            start-formed = same-WellFormed grove g start same-start fine.whole.well_formed

            abbrev one : holes o.outside ≡ 1
            one = o.outside_shaped.holes_fit.one

            left : without v.number start ≡ fill o.outside new
            left =
                less o.outside one o.name o.number f p o.list v.name v.number v.kids v.list
                wf.holes_fit wp.holes_fit start-formed

            new-is : new ≡ node o'.name o'.number o'.kids o'.list none
            new-is =
                λ i. node (same-name o.name o'.name (o.name_is ∙ sym o'.name_is) i)
                (same-number o.number o'.number (o.number_is ∙ sym o'.number_is) i)
                (sym kids' i)
                (same-list o.list o'.list (o.list_is ∙ sym o'.list_is) i) none

            -- what is left of the grove is the part of $r
            rest-same : SameAt grove x (without v.number start)
            rest-same =
                subst (SameAt grove x) (sym left)
                (SameAt-trans grove x (located_in o') (fill o.outside new) o'.same
                (subst (λ z. SameAt grove (located_in o') (fill o.outside z)) (sym new-is)
                (fill-left grove o'.outside o.outside (node o'.name o'.number o'.kids o'.list none)
                (SameAt-trans grove o'.outside c o.outside mc' (SameAt-sym grove o.outside c mc)))))

            end-same : SameAt grove r (beside (without v.number start) moved)
            end-same =
                SameAt-trans grove r (beside x u) (beside (without v.number start) moved) same-r
                (SameAt-beside grove x u (without v.number start) moved rest-same
                (SameAt-eq grove u moved v.is))

            parent-is : value_of st a ≡ node_number o.number
            parent-is =
                value-is node_sort a st its (λ z u. refl) so.0 o.number_is

            parent-found : nodes_where (numbered o.number) start
                ≡ parent_tree o.name o.number f moved p o.list
            parent-found =
                parent-there o.outside one o.name o.number f p o.list v.name v.number v.kids v.list
                wf.holes_fit wp.holes_fit start-formed

            moved-found : nodes_where (numbered v.number) start ≡ moved
            moved-found =
                out-there o.outside one o.name o.number f p o.list v.name v.number v.kids v.list
                wf.holes_fit wp.holes_fit start-formed

            among : has_root v.number (beside (beside f moved) p) ≡ true
            among =
                is-child o.outside one o.name o.number f p o.list v.name v.number v.kids v.list
                wf.holes_fit wp.holes_fit start-formed

            -- no test of the machine fails
            is-move : removing (node_at (value_of st a) start) (node_at (value_of st b) start) st
                start ≡ becomes [] st (beside (without v.number start) moved)
            is-move =
                (λ y. removing (node_at (parent-is y) start) (node_at (v.names y) start) st start)
                ∙ (λ y. removing (parent-found y) (moved-found y) st start)
                ∙ (λ y. cond (among y) (becomes [] st (beside (without v.number start) moved))
                (faults not_child))

            with_all : Landing k
            with_all =
                on-the-same ps q e k (run (remove_child a b)) st g start fine.whole.well_formed
                same-start
                (subst (Lands J) (sym is-move)
                (refl, meets-same q e st r (beside (without v.number start) moved) end-same mq))

    with_things : (k : Pick) (r : Trees) → MeetsWith q e st r → (c s f p l u : Thing)
        → Fits (context tree grove) c → Fits (shape forest) f → Fits (shape forest) p
        → Fits (shape tree) u → Meets says (under r c s f p l u) (shape grove) g → Landing k
    with_things k r mq (val x) s f p l u fc ff fp fu m = absurd fc
    with_things k r mq (trees c) s (val x) p l u fc ff fp fu m = absurd ff
    with_things k r mq (trees c) s (trees f) (val x) l u fc ff fp fu m = absurd fp
    with_things k r mq (trees c) s (trees f) (trees p) l (val x) fc ff fp fu m = absurd fu
    with_things k r mq (trees c) s (trees f) (trees p) l (trees u) fc ff fp fu m =
        some-tree-met st b so.1 its' (λ z w. refl) (Landing k) (stable-here k) u m.0.1 (λ v.
        locate (Landing k) (stable-here k) (same_as (at 5 (context tree grove))) (str_var 4) a
        inside_before (list_var 1) its' g m.0.0 (λ o mc.
        stable-here k (λ n. m.1 (λ x. x.2 (λ y.
        locate ⊥ (λ h. h (λ b. b)) (same_as (at 5 (context tree grove))) (str_var 4) a
        inside_after (list_var 1) its' x.0 y.2.1 (λ o' mc'.
        o.kids_meet (λ d. d.2 (λ d'. d'.2.1 (λ d1. d1.2 (λ d2.
        o'.kids_meet (λ b1. b1.2 (λ b2.
        n (with_all k r mq c s f p ff fp l u v o mc
        (d'.2.0 ∙ (λ i. beside ((d2.2.0 ∙ (λ j. beside (d2.2.1 j) (d2.2.2.1 j))) i) (d'.2.2 i)))
        x.0 (subst (λ z. SameAt grove r (beside x.0 z)) y.2.2.1 y.2.0) o' mc'
        (b2.2.0 ∙ (λ i. beside (b2.2.1 i) (b2.2.2 i))))))))))))))))
      where
        its' : Environment
        its' = under r (trees c) s (trees f) (trees p) l (trees u)

    pub remove-lands : MeetsWith (weakest (remove_child a b) q) e st g → (k : Pick) → Landing k
    remove-lands m k =
        moved-in e st (Landing k) (stable-here k) (removed a b) q g m (λ r wr mp mq.
        stable-here k (λ n. mp (λ c. c.2 (λ s. s.2 (λ f. f.2 (λ p. p.2 (λ l. l.2 (λ u.
        n (with_things k r mq c.0 s.0 f.0 p.0 l.0 u.0 c.1 f.1 p.1 u.1 u.2)))))))))

    -- BACK
    module _ (s : List ℕ) (i : ℕ) (k : Trees) (l : ℕ) (s' : List ℕ) (j : ℕ) (k' : Trees) (l' : ℕ)
        (a-is : value_of st a ≡ node_number i)
        (a-there : nodes_where (numbered i) g ≡ node s i k l none)
        (b-is : value_of st b ≡ node_number j)
        (b-there : nodes_where (numbered j) g ≡ node s' j k' l' none)
        (child : has_root j k ≡ true)
        (mq : MeetsWith q e st (beside (without j g) (node s' j k' l' none)))
      where
        abbrev tree_moved : Trees
        tree_moved = node s' j k' l' none

        at-parent : Cut g s i k l
        at-parent = cut (numbered i) g fine.whole.holes_fit s i k l none a-there

        parent-outside : Shaped (context tree grove) at-parent.outside
        parent-outside = outside-Shaped g fine.whole s i k l at-parent

        parent-shaped : Shaped (shape tree) (node s i k l none)
        parent-shaped = node-Shaped g fine.whole s i k l at-parent

        y : Root j k
        y = root-of j k child

        abbrev found_child : Trees
        found_child = node y.name j y.kids y.list none

        kids-are : k ≡ beside (beside y.before found_child) y.after
        kids-are = y.is ∙ sym (beside_assoc y.before found_child y.after)

        kids-shaped : Shaped (shape forest) (beside (beside y.before found_child) y.after)
        kids-shaped = subst (Shaped (shape forest)) kids-are (child-list s i k l parent-shaped)

        kids-holes : holes (beside (beside y.before found_child) y.after) ≡ 0
        kids-holes = kids-shaped.holes_fit

        before-holes : holes y.before ≡ 0
        before-holes =
            omega (
              arith,
              kids-holes,
              holes-beside (beside y.before found_child) y.after,
              holes-beside y.before found_child,
            )

        front-holes : holes (beside y.before found_child) ≡ 0
        front-holes =
            omega (arith, kids-holes, holes-beside (beside y.before found_child) y.after)

        after-holes : holes y.after ≡ 0
        after-holes =
            omega (arith, kids-holes, holes-beside (beside y.before found_child) y.after)

        is-there : g ≡ fill at-parent.outside (parent_tree s i y.before found_child y.after l)
        is-there =
            at-parent.is ∙ ap (λ z. fill at-parent.outside (node s i z l none)) kids-are

        formed-there : WellFormed (fill at-parent.outside
            (parent_tree s i y.before found_child y.after l))
        formed-there = subst WellFormed is-there fine.whole.well_formed

        -- the child of the parent is the tree that was found
        child-is : found_child ≡ tree_moved
        child-is =
            sym (ap (nodes_where (numbered j)) is-there
            ∙ out-there at-parent.outside at-parent.one s i y.before y.after l y.name j y.kids
            y.list before-holes after-holes formed-there)
            ∙ b-there

        moved-shaped : Shaped (shape tree) tree_moved
        moved-shaped =
            node-Shaped g fine.whole s' j k' l'
            (cut (numbered j) g fine.whole.holes_fit s' j k' l' none b-there)

        abbrev parent_after : Trees
        parent_after = node s i (beside y.before y.after) l none

        less-is : without j g ≡ fill at-parent.outside parent_after
        less-is =
            ap (without j) is-there
            ∙ less at-parent.outside at-parent.one s i y.before y.after l y.name j y.kids y.list
            before-holes after-holes formed-there

        abbrev part : Trees
        part = fill at-parent.outside parent_after

        abbrev end : Trees
        end = beside part tree_moved

        end-is : beside (without j g) tree_moved ≡ end
        end-is = ap (λ z. beside z tree_moved) less-is

        end-shaped : Shaped (shape grove) end
        end-shaped =
            subst (Shaped (shape grove)) end-is (removed-shaped j tree_moved g b-there fine.whole)

        part-shaped : Shaped (shape grove) part
        part-shaped =
            left-Shaped-shape grove part tree_moved (λ n. tt)
            (omega (arith, holes-beside part tree_moved, end-shaped.holes_fit))
            end-shaped.well_formed

        after-shaped : Shaped (shape tree) parent_after
        after-shaped = record {
          well_formed = inner-WellFormed at-parent.outside parent_after at-parent.one
              part-shaped.well_formed;
          width_fits = refl;
          holes_fit = omega (arith, holes-beside y.before y.after, before-holes, after-holes);
        }

        front-shaped : Shaped (shape forest) (beside y.before found_child)
        front-shaped =
            left-Shaped-shape forest (beside y.before found_child) y.after (λ n. tt) front-holes
            kids-shaped.well_formed

        before-shaped : Shaped (shape forest) y.before
        before-shaped =
            left-Shaped-shape forest y.before found_child (λ n. tt) before-holes
            front-shaped.well_formed

        rest-shaped : Shaped (shape forest) y.after
        rest-shaped =
            right-Shaped-shape forest (beside y.before found_child) y.after (λ n. tt) after-holes
            kids-shaped.well_formed

        module _ (c : Trees) (same : SameAt grove at-parent.outside c)
            (fc : Fits (context tree grove) (trees c))
          where
            abbrev chosen : Environment
            chosen =
                under end (trees c) (val (str s)) (trees y.before) (trees y.after)
                (val (list_number l)) (trees tree_moved)

            number : val (node_number i) ≡ meaning_of chosen a
            number =
                stands-for node_sort a st chosen (λ z u. refl) so.0 a-is

            before-meets : Meets (standing 5 4 a inside_before 1) chosen (shape grove) g
            before-meets =
                put_in tree (shape grove) g (same_as (at 5 (context tree grove)))
                (node_formula (str_var 4) a inside_before (list_var 1)) chosen
                at-parent.outside (node s i k l none) parent-outside parent-shaped
                (SameAt-eq grove g (fill at-parent.outside (node s i k l none)) at-parent.is) same (
                  refl,
                  number,
                  refl,
                  split_at whole (shape forest) k
                      (Meets (and_tree (same_as (at 3 (shape forest))) 0) chosen)
                      (Meets (same_as (at 2 (shape forest))) chosen)
                      (beside y.before found_child) y.after front-shaped rest-shaped kids-are
                      (split_at whole (shape forest) (beside y.before found_child)
                      (Meets (same_as (at 3 (shape forest))) chosen)
                      (Meets (one_tree (same_as (at 0 (shape tree)))) chosen) y.before tree_moved
                      before-shaped (wide forest tree_moved (λ v. cc) moved-shaped)
                      (ap (beside y.before) child-is) refl (moved-shaped, refl)) refl,
                )

            after-meets : Meets after chosen (shape grove) end
            after-meets =
                split_at whole (shape grove) end
                (Meets (standing 5 4 a inside_after 1) chosen)
                (Meets (one_root (same_as (at 0 (shape tree)))) chosen) part tree_moved part-shaped
                (wide grove tree_moved (λ v. cc) moved-shaped) (SameAt-eq grove end end refl)
                (put_in tree (shape grove) part (same_as (at 5 (context tree grove)))
                (node_formula (str_var 4) a inside_after (list_var 1)) chosen
                at-parent.outside parent_after parent-outside after-shaped
                (SameAt-eq grove part part refl) same (
                  refl,
                  number,
                  refl,
                  split_at whole (shape forest) (beside y.before y.after)
                      (Meets (same_as (at 3 (shape forest))) chosen)
                      (Meets (same_as (at 2 (shape forest))) chosen) y.before y.after before-shaped
                      rest-shaped refl refl refl,
                ))
                (moved-shaped, refl)

            child-meets : Meets (some_tree b) chosen (shape tree) tree_moved
            child-meets =
                some-tree-meets st b so.1 chosen (λ z u. refl) s' j k' l' moved-shaped b-is

            meets-with : MeetsWith (weakest (remove_child a b) q) e st g
            meets-with =
                move-out e st (removed a b) q g end end-shaped
                (some-thing (context tree grove) (trees c) fc
                (some-thing (value str_sort) (val (str s)) tt
                (some-thing (shape forest) (trees y.before) before-shaped
                (some-thing (shape forest) (trees y.after) rest-shaped
                (some-thing (value list_sort) (val (list_number l))
                (positive-list s i k l none parent-shaped.well_formed)
                (some-thing (shape tree) (trees tree_moved) moved-shaped
                ((before-meets, child-meets), after-meets)))))))
                (subst (MeetsWith q e st) end-is mq)

        meets-all : MeetsWith (weakest (remove_child a b) q) e st g
        meets-all =
            let (c, same, fc) = representative (context tree grove) at-parent.outside
            parent-outside in meets-with c same fc

    by_nodes : (x y : Trees) → node_at (value_of st a) g ≡ x → node_at (value_of st b) g ≡ y
        → Lands J (removing x y st g) → MeetsWith (weakest (remove_child a b) q) e st g
    by_nodes none y ex ey h = absurd h
    by_nodes (hole x) y ex ey h = absurd h
    by_nodes (node s i k l r) none ex ey h = absurd h
    by_nodes (node s i k l r) (hole y) ex ey h = absurd h
    by_nodes (node s i k l r) (node s' j k' l' r') ex ey h = by_test (has_root j k) refl h
      where
        fa : FoundNode (value_of st a) g s i k l r
        fa = found-node (value_of st a) g fine.whole.well_formed s i k l r ex

        fb : FoundNode (value_of st b) g s' j k' l' r'
        fb = found-node (value_of st b) g fine.whole.well_formed s' j k' l' r' ey

        by_test : (c : Bool) → has_root j k ≡ c
            → Lands J (cond c (becomes [] st (beside (without j g) (node s' j k' l' none)))
            (faults not_child))
            → MeetsWith (weakest (remove_child a b) q) e st g
        by_test false z m = absurd m
        by_test true z m = meets-all s i k l s' j k' l' fa.number fa.here fb.number fb.here z m.1

    pub remove-meets : ((k : Pick) → Landing k) → MeetsWith (weakest (remove_child a b) q) e st g
    remove-meets h =
        by_nodes (node_at (value_of st a) g) (node_at (value_of st b) g) refl refl (h any_pick)
