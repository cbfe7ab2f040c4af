-- The axiom remove holds in every context.
use Rattle.std.proofs.Common.{◌≡◌, ℕ, ◌≤◌, ◌+◌, List, [], true, false, cond, refl, sym, ap, ◌∙◌, subst, arith}
use Rattle.std.proofs.Math.Decide.{ℕ_discrete}
use mathlib.Core.HLevel.{Stable}
use Rattle.model_shapes.specs.Shapes.{holes, Shaped, SameAt}
use Rattle.model_shapes.specs.Sorts.{shape, context, tree, forest, grove, node_sort}
use Rattle.model_shapes.specs.Trees.{Trees, none, node, beside, fill, node_uses, WellFormed}
use Rattle.model_shapes.specs.Values.{node_number}
use Rattle.model_shapes.proofs.Basics.{node_uses-beside, beside_assoc, beside-none, holes-beside, fill-fill}
use Rattle.model_shapes.proofs.Filling.{fill-right, put-Shaped, inner-WellFormed}
use Rattle.model_shapes.proofs.Shapes.{left-WellFormed, SameAt-sym, SameAt-eq, same-Shaped}
use Rattle.model_formulas.specs.Formulas.{grove_sum, Formula, node_formula, application, concatenation, whole, one_root, conjunction, equality}
use Rattle.model_formulas.specs.Satisfaction.{Environment, Meets, Proper, with_store}
use Rattle.model_terms.specs.Terms.{Term}
use Rattle.model_commands.specs.Commands.{remove_child}
use Rattle.model_commands.specs.SortTests.{is_sorted, BodiesSorted}
use Rattle.model_groves.specs.Groves.{nodes_where, numbered, node_at, without, has_root}
use Rattle.model_machine.specs.ClassicalTriples.{Ends, Stands}
use Rattle.model_groves.specs.Picks.{Pick}
use Rattle.model_machine.specs.Machine.{beginning, run, runs, becomes, faults, not_child, removing}
use Rattle.model_commands.specs.Sorting.{Sorted}
use Rattle.model_commands.proofs.Sorting.{sorted-command}
use Rattle.model_groves.specs.Groves.{is_yes}
use Rattle.model_terms.specs.Stores.{Store, lookup, value_of}
use Rattle.model_commands.specs.Theories.{Procedures}
use Rattle.model_machine.proofs.Fine.{removed-shaped}
use Rattle.model_groves.proofs.Groves.{without-beside}
use Rattle.model_groves.proofs.InContext.{without-none, without-fill, not-here, context-apart}
use Rattle.model_commands.proofs.StoreLaws.{proper-store}
use Rattle.triple_laws.proofs.Finding.{has_root-in, child-found, parent_tree, found-in}
use Rattle.triple_laws.proofs.Here.{uses-here, without-here}
use Rattle.entailment_laws.proofs.Pieces.{put_in}
use Rattle.triple_laws.proofs.Moving.{wide, one-inside, split_at, on-same, swap-root}
use Rattle.triple_laws.proofs.NodesMet.{holding_child, ParentMet, parent-met, valued, NodeMet, node-met}
use Rattle.triple_laws.proofs.OneStep.{Lands, one-step, stable-ends}

-- where the tree is a child of the node, it is moved to the roots
removing-lands : (J : Store → Trees → Type 0) (i j : ℕ) (s : List ℕ) (k : Trees) (l : ℕ)
    (t : List ℕ) (q : Trees) (m : ℕ) (st : Store) (g : Trees)
    → nodes_where (numbered i) g ≡ node s i k l none
    → nodes_where (numbered j) g ≡ node t j q m none → has_root j k ≡ true
    → J st (beside (without j g) (node t j q m none))
    → Lands J (removing (nodes_where (numbered i) g) (nodes_where (numbered j) g) st g)
removing-lands J i j s k l t q m st g e e' c h =
    subst (λ z. Lands J (removing z (nodes_where (numbered j) g) st g)) (sym e)
    (subst (λ z. Lands J (removing (node s i k l none) z st g)) (sym e')
    (subst (λ b. Lands J (cond b (becomes [] st (beside (without j g) (node t j q m none)))
    (faults not_child)))
    (sym c) (refl, h)))

module _ (ps : Procedures) (bodies : BodiesSorted ps) (k : Formula) (a b s i : Term) (p : Formula)
    (t j : Term) (q : Formula) (m : Term) (r : Formula) (l : Term)
    (fits : is_sorted ps (remove_child a b) ≡ true) (e : Environment) (st : Store)
    (pr : Proper (with_store (lookup st) e))
  where
    -- what its terms are
    so : Sorted ps (remove_child a b)
    so = sorted-command ps (remove_child a b) fits

    abbrev env : Environment
    env = with_store (lookup st) e

    abbrev child : Formula
    child = node_formula t j q m

    abbrev left_behind : Formula
    left_behind = application tree k (node_formula s i (concatenation whole p r) l)

    abbrev post : Formula
    post = grove_sum left_behind (one_root child)

    -- c1 stands in c round the parent
    module _ (c : Trees) (wc : Shaped (context grove grove) c) (c1 : Trees)
        (wc1 : Shaped (context tree grove) c1) (mk : Meets k env (context tree grove) c1)
        (n : Trees)
        (y : ParentMet s i p t j q m r l env n) (z : NodeMet t j q m env y.child)
      where
        abbrev out : Trees
        out = node z.name z.number z.kids z.list none

        abbrev full : Trees
        full = parent_tree y.name y.number y.left out y.right y.list

        abbrev less : Trees
        less = node y.name y.number (beside y.left y.right) y.list none

        abbrev start : Trees
        start = fill (fill c c1) full

        module _ (w : Shaped (shape grove) start) (wn : Shaped (shape tree) full)
            (wu : Shaped (shape tree) out) (mu : Meets child env (shape tree) out)
          where
            one : holes (fill c c1) ≡ 1
            one = one-inside tree grove grove c c1 wc wc1

            parent-there : nodes_where (numbered y.number) start ≡ full
            parent-there =
                found-in (fill c c1) y.name y.number (beside (beside y.left out) y.right) y.list one
                w.well_formed

            out-there : nodes_where (numbered z.number) start ≡ out
            out-there =
                child-found (fill c c1) one y.name y.number y.left y.right y.list z.name z.number
                z.kids
                z.list y.left_shaped.holes_fit y.right_shaped.holes_fit w.well_formed

            among : has_root z.number (beside (beside y.left out) y.right) ≡ true
            among =
                ap (has_root z.number) (beside_assoc y.left out y.right)
                ∙ has_root-in y.left z.name z.number z.kids z.list y.right

            uses : node_uses z.number (beside (beside y.left out) y.right)
                ≡ (node_uses z.number y.left + node_uses z.number out) + node_uses z.number y.right
            uses =
                omega (
                  arith,
                  node_uses-beside z.number (beside y.left out) y.right,
                  node_uses-beside z.number y.left out,
                )

            used : 1 ≤ node_uses z.number out
            used = uses-here z.name z.number z.kids z.list

            differ : is_yes (ℕ_discrete z.number y.number) ≡ false
            differ =
                not-here z.number y.number (omega (
                  arith,
                  uses,
                  used,
                  wn.well_formed.nodes_once
                      z.number,
                ))

            left-free : node_uses z.number y.left ≡ 0
            left-free = omega (arith, uses, used, wn.well_formed.nodes_once z.number)

            right-free : node_uses z.number y.right ≡ 0
            right-free = omega (arith, uses, used, wn.well_formed.nodes_once z.number)

            kids-without : without z.number (beside (beside y.left out) y.right)
                ≡ beside y.left y.right
            kids-without =
                without-beside z.number (beside y.left out) y.right
                ∙ ap (λ v. beside v (without z.number y.right)) (without-beside z.number y.left out)
                ∙ (λ v. beside (beside (without-none z.number y.left left-free v)
                (without-here z.name z.number z.kids z.list v))
                (without-none z.number y.right right-free v))
                ∙ ap (λ v. beside v y.right) (beside-none y.left)

            full-without : without z.number full ≡ less
            full-without =
                ap (λ v. cond v none (node y.name y.number (without z.number
                (beside (beside y.left out) y.right)) y.list none)) differ
                ∙ ap (λ v. node y.name y.number v y.list none) kids-without

            removed : without z.number start ≡ fill c (fill c1 less)
            removed =
                without-fill z.number full (fill c c1)
                (context-apart z.number (fill c c1) full one w.well_formed
                (omega (arith, uses, used)))
                ∙ ap (fill (fill c c1)) full-without ∙ fill-fill c c1 less

            end-same : SameAt grove (beside (without z.number start) out)
                (fill c (beside (fill c1 less) out))
            end-same =
                subst (λ v. SameAt grove (beside v out) (fill c (beside (fill c1 less) out)))
                (sym removed)
                (swap-root c (fill c1 less) out wc.holes_fit)

            end-whole : Shaped (shape grove) (fill c (beside (fill c1 less) out))
            end-whole =
                same-Shaped (shape grove) (beside (without z.number start) out)
                (fill c (beside (fill c1 less) out)) end-same
                (removed-shaped z.number out start out-there w)

            both-formed : WellFormed (beside (fill c1 less) out)
            both-formed = inner-WellFormed c (beside (fill c1 less) out) wc.holes_fit.one
                end-whole.well_formed

            part-formed : WellFormed (fill c1 less)
            part-formed = left-WellFormed (fill c1 less) out both-formed

            less-Shaped : Shaped (shape tree) less
            less-Shaped = record {
              well_formed = inner-WellFormed c1 less wc1.holes_fit.one part-formed;
              width_fits = refl;
              holes_fit = omega (
                arith,
                holes-beside y.left y.right,
                y.left_shaped.holes_fit,
                y.right_shaped.holes_fit,
              );
            }

            part-Shaped : Shaped (shape grove) (fill c1 less)
            part-Shaped = put-Shaped tree grove c1 less wc1 less-Shaped part-formed

            kids-meet : Meets (concatenation whole p r) env (shape forest) (beside y.left y.right)
            kids-meet =
                split_at whole (shape forest) (beside y.left y.right) (Meets p env) (Meets r env)
                y.left
                y.right y.left_shaped y.right_shaped refl y.left_meets y.right_meets

            part-meets : Meets left_behind env (shape grove) (fill c1 less)
            part-meets =
                put_in tree (shape grove) (fill c1 less) k (node_formula s i
                (concatenation whole p r) l) env
                c1 less wc1 less-Shaped (SameAt-eq grove (fill c1 less) (fill c1 less) refl) mk
                (y.name_is, y.number_is, y.list_is, kids-meet)

            both-meet : Meets post env (shape grove) (beside (fill c1 less) out)
            both-meet =
                split_at whole (shape grove) (beside (fill c1 less) out) (Meets left_behind env)
                (Meets (one_root child) env) (fill c1 less) out part-Shaped
                (wide grove out (λ v. cc) wu)
                (SameAt-eq grove (beside (fill c1 less) out) (beside (fill c1 less) out) refl)
                part-meets (wu, mu)

            end-stands : Stands grove c post e st (beside (without z.number start) out)
            end-stands = λ v. v (
              beside (fill c1 less) out,
              record {
                well_formed = both-formed;
                width_fits = tt;
                holes_fit = omega (
                  arith,
                  holes-beside
                      (fill c1 less) out,
                  part-Shaped.holes_fit,
                  wu.holes_fit,
                );
              },
              (end-same, both-meet),
            )

            remove-lands : Lands (Stands grove c post e)
                (removing (nodes_where (numbered y.number) start)
                (nodes_where (numbered z.number) start) st start)
            remove-lands =
                removing-lands (Stands grove c post e) y.number z.number y.name
                (beside (beside y.left out) y.right) y.list z.name z.kids z.list st start
                parent-there
                out-there among end-stands

    pub remove-sound : (d : Trees) → Shaped (shape grove) d
        → Meets (conjunction (conjunction (application tree k (holding_child s i p t j q m r l))
        (equality a i)) (equality b j)) env (shape grove) d
        → (c : Trees) → Shaped (context grove grove) c → Shaped (shape grove) (fill c d)
        → (picks : List Pick)
        → Ends ⊥ (Stands grove c post e) (runs ps picks
        (beginning (remove_child a b) st (fill c d)))
    remove-sound d wd mt c wc w picks = stable-goal (λ n. mt.0.0 (λ x. x.2 (λ y.
        n (with_parent x.0 x.1 y.0 y.1 y.2.0 y.2.1
        (parent-met _ stable-goal s i p t j q m r l env y.0 y.2.2)))))
      where
        stable-goal : Stable (Ends ⊥ (Stands grove c post e)
            (runs ps picks (beginning (remove_child a b) st (fill c d))))
        stable-goal = stable-ends grove c post e
            (runs ps picks (beginning (remove_child a b) st (fill c d)))

        with_child : (c1 : Trees) → Shaped (context tree grove) c1 → (n : Trees)
            → Shaped (shape tree) n → SameAt grove d (fill c1 n)
            → Meets k env (context tree grove) c1 → ParentMet s i p t j q m r l env n
            → Ends ⊥ (Stands grove c post e) (runs ps picks
            (beginning (remove_child a b) st (fill c d)))
        with_child c1 wc1 n wn same mk y =
            on-same ps bodies grove c post e (remove_child a b) st (fill c d) start' picks fits
            (proper-store st e pr) whole-there (SameAt-sym grove (fill c d) start' same-there)
            (one-step ps (Stands grove c post e) picks (run (remove_child a b)) st start' (λ pick.
            subst (λ v. Lands (Stands grove c post e) (removing (node_at v start')
            (node_at (value_of st b) start') st start'))
            (sym (valued node_sort a i (node_number y.number) st e so.0 y.number_is mt.0.1))
            (subst (λ v. Lands (Stands grove c post e)
            (removing (node_at (node_number y.number) start') (node_at v start') st start'))
            (sym (valued node_sort b j (node_number z.number) st e so.1 z.number_is mt.1))
            (remove-lands c wc c1 wc1 mk n y z whole-there (subst (Shaped (shape tree)) is wn)
            (subst (Shaped (shape tree)) z.is y.child_shaped)
            (subst (Meets child env (shape tree)) z.is y.child_meets)))))
          where
            z : NodeMet t j q m env y.child
            z = node-met t j q m env y.child y.child_meets

            full' : Trees
            full' = parent_tree y.name y.number y.left (node z.name z.number z.kids z.list none)
                y.right y.list

            is : n ≡ full'
            is = y.is ∙ ap (λ v. parent_tree y.name y.number y.left v y.right y.list) z.is

            start' : Trees
            start' = fill (fill c c1) full'

            same-there : SameAt grove (fill c d) start'
            same-there =
                subst (λ v. SameAt grove (fill c d) (fill (fill c c1) v)) is
                (subst (SameAt grove (fill c d)) (sym (fill-fill c c1 n))
                (fill-right grove grove c d (fill c1 n) wc.holes_fit same))

            whole-there : Shaped (shape grove) start'
            whole-there = same-Shaped (shape grove) (fill c d) start' same-there w

        with_parent : (c1 : Trees) → Shaped (context tree grove) c1 → (n : Trees)
            → Shaped (shape tree) n → SameAt grove d (fill c1 n)
            → Meets k env (context tree grove) c1
            → ((ParentMet s i p t j q m r l env n
            → Ends ⊥ (Stands grove c post e) (runs ps picks
            (beginning (remove_child a b) st (fill c d))))
            → Ends ⊥ (Stands grove c post e) (runs ps picks
            (beginning (remove_child a b) st (fill c d))))
            → Ends ⊥ (Stands grove c post e) (runs ps picks
            (beginning (remove_child a b) st (fill c d)))
        with_parent c1 wc1 n wn same mk met = met (λ y. with_child c1 wc1 n wn same mk y)
