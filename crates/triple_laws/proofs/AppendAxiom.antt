-- The axiom append holds in every context.
use Rattle.std.proofs.Common.{◌≡◌, ℕ, ◌≤◌, ◌*◌, List, [], cond, refl, sym, ap, ◌∙◌, subst, arith, true}
use mathlib.Core.HLevel.{Stable}
use Rattle.model_shapes.specs.Shapes.{holes, Shaped, SameAt}
use Rattle.model_shapes.specs.Sorts.{DataSort, shape, context, tree, forest, grove, node_sort}
use Rattle.model_shapes.specs.Trees.{Trees, none, node, beside, fill, node_uses, WellFormed}
use Rattle.model_shapes.specs.Values.{Value, null, node_number}
use Rattle.model_shapes.proofs.Basics.{node_uses-fill, holes-beside, fill-fill}
use Rattle.model_shapes.proofs.Filling.{fill-right, put-Shaped, inner-WellFormed}
use Rattle.model_shapes.proofs.Shapes.{SameAt-sym, SameAt-trans, SameAt-eq, same-Shaped, same-node_uses, same-WellFormed}
use Rattle.model_formulas.specs.Formulas.{Formula, node_formula, application, hole_adjoint, empty, concatenation, whole, one_tree, one_root, conjunction, equality}
use Rattle.model_formulas.specs.Satisfaction.{Environment, Meets, Proper, meaning_of, with_store}
use Rattle.model_terms.specs.Terms.{Term, literal}
use Rattle.model_terms.specs.Computing.{Computes}
use Rattle.model_shapes.specs.Things.{val}
use Rattle.model_commands.specs.Commands.{Command, append_child, insert_before}
use Rattle.model_commands.specs.SortTests.{is_sorted, BodiesSorted}
use Rattle.model_groves.specs.Groves.{nodes_where, numbered, node_at, without, adding, positive}
use Rattle.model_machine.specs.ClassicalTriples.{Ends, Stands}
use Rattle.model_groves.specs.Picks.{Pick}
use Rattle.model_machine.specs.Machine.{beginning, run, runs, becomes, faults, cycle, appending, inserting_at, move}
use Rattle.model_commands.specs.Sorting.{Sorted}
use Rattle.model_commands.proofs.Sorting.{sorted-command}
use Rattle.model_terms.specs.Stores.{Store, lookup, value_of}
use Rattle.model_commands.specs.Theories.{Procedures}
use Rattle.model_machine.proofs.Fine.{appended-shaped}
use Rattle.model_groves.proofs.Groves.{node-taken-out, same-after, adding-beside}
use Rattle.model_groves.proofs.InContext.{without-fill, adding-fill, context-apart}
use Rattle.model_commands.proofs.StoreLaws.{proper-store}
use Rattle.triple_laws.proofs.Finding.{found-in}
use Rattle.triple_laws.proofs.Here.{Found, uses-here, own-uses, without-here, adding-here}
use Rattle.entailment_laws.proofs.Pieces.{put_in}
use Rattle.triple_laws.proofs.Moving.{found, child-list, wide, nothing-Shaped, emptied-WellFormed, one-inside, split_at, on-same}
use Rattle.triple_laws.proofs.NodesMet.{valued, NodeMet, node-met}
use Rattle.triple_laws.proofs.OneStep.{Lands, one-step, stable-ends}

-- one tree, alone in a forest or in a grove
abbrev pub alone_at : DataSort → Formula → Formula
alone_at tree p = p
alone_at forest p = one_tree p
alone_at grove p = one_root p

pub alone-meets : (h : DataSort) (p : Formula) (e : Environment) (u : Trees) → (h ≡ tree → ⊥)
    → Meets (alone_at h p) e (shape h) u → Shaped (shape tree) u × Meets p e (shape tree) u
alone-meets tree p e u n m = absurd (n refl)
alone-meets forest p e u n m = m
alone-meets grove p e u n m = m

-- where the node is in use without the tree, the tree is moved to its children
appending-lands : (J : Store → Trees → Type 0) (i j : ℕ) (t : List ℕ) (q : Trees) (m : ℕ)
    (st : Store) (g : Trees) → WellFormed g → nodes_where (numbered j) g ≡ node t j q m none
    → 1 ≤ node_uses i (without j g) → J st (adding i (node t j q m none) (without j g))
    → Lands J (appending (nodes_where (numbered i) g) (nodes_where (numbered j) g) st g)
appending-lands J i j t q m st g w e used h =
    let f : Found i g = found i g (omega (arith, node-taken-out i j g)) in
    subst (λ z. Lands J (appending z (nodes_where (numbered j) g) st g)) (sym f.is)
    (subst (λ z. Lands J (appending (node f.name i f.kids f.list f.rest) z st g)) (sym e)
    (subst (λ b. Lands J (cond b (faults cycle) (becomes [] st (adding i moved (without j g)))))
    (sym (ap positive zero-uses)) (refl, h)))
  where
    moved : Trees
    moved = node t j q m none

    zero-uses : node_uses i (node t j q m none) ≡ 0
    zero-uses = omega (arith, node-taken-out i j g, w.nodes_once i, ap (node_uses i) e)

module _ (ps : Procedures) (bodies : BodiesSorted ps) (h d : DataSort) (not-tree : h ≡ tree → ⊥)
    (k : Formula) (s i : Term) (p : Formula) (l t j : Term) (q : Formula) (m : Term)
    (cmd : Command) (fits : is_sorted ps cmd ≡ true) (e : Environment) (st : Store)
    (pr : Proper (with_store (lookup st) e))
    -- the command moves a tree to the end of the children of a node
    (moves : (x v : ℕ) → val (node_number x) ≡ meaning_of (with_store (lookup st) e) i
    → val (node_number v) ≡ meaning_of (with_store (lookup st) e) j → (g : Trees) (pick : Pick)
    → move ps pick (run cmd) st g
    ≡ appending (node_at (node_number x) g) (node_at (node_number v) g) st g)
  where
    abbrev env : Environment
    env = with_store (lookup st) e

    abbrev child : Formula
    child = node_formula t j q m

    abbrev post : Formula
    post = application tree k (node_formula s i (concatenation whole p (one_tree child)) l)

    -- c1 stands in c round the moved tree; where it is empty it is c2 round the parent
    module _ (c : Trees) (wc : Shaped (context d grove) c) (c1 : Trees)
        (wc1 : Shaped (context h d) c1) (c2 : Trees) (wc2 : Shaped (context tree d) c2)
        (mk : Meets k env (context tree d) c2) (u n : Trees) (v : NodeMet t j q m env u)
        (x : NodeMet s i p l env n)
      where
        abbrev moved : Trees
        moved = node v.name v.number v.kids v.list none

        abbrev old : Trees
        old = node x.name x.number x.kids x.list none

        abbrev new : Trees
        new = node x.name x.number (beside x.kids moved) x.list none

        abbrev start : Trees
        start = fill (fill c c1) moved

        abbrev rest : Trees
        rest = fill (fill c c1) none

        module _ (same : SameAt d (fill c1 none) (fill c2 old)) (w : Shaped (shape grove) start)
            (wu : Shaped (shape tree) moved) (wn : Shaped (shape tree) old)
            (mu : Meets child env (shape tree) moved)
          where
            one : holes (fill c c1) ≡ 1
            one = one-inside h d grove c c1 wc wc1

            two : holes (fill c c2) ≡ 1
            two = one-inside tree d grove c c2 wc wc2

            taken : without v.number start ≡ rest
            taken =
                without-fill v.number moved (fill c c1)
                (context-apart v.number (fill c c1) moved one w.well_formed
                (uses-here v.name v.number v.kids v.list))
                ∙ ap (fill (fill c c1)) (without-here v.name v.number v.kids v.list)

            rest-same : SameAt grove rest (fill (fill c c2) old)
            rest-same =
                subst (λ z. SameAt grove z (fill (fill c c2) old)) (sym (fill-fill c c1 none))
                (subst (SameAt grove (fill c (fill c1 none))) (sym (fill-fill c c2 old))
                (fill-right d grove c (fill c1 none) (fill c2 old) wc.holes_fit same))

            rest-formed : WellFormed (fill (fill c c2) old)
            rest-formed =
                same-WellFormed grove rest (fill (fill c c2) old) rest-same
                (emptied-WellFormed (fill c c1) moved one w.well_formed)

            parent-used : 1 ≤ node_uses x.number (without v.number start)
            parent-used =
                omega (
                  arith,
                  ap (node_uses x.number) taken,
                  same-node_uses x.number grove rest (fill (fill c c2) old) rest-same,
                  node_uses-fill x.number (fill c c2) old,
                  ap (λ z. z * node_uses x.number old) two,
                  uses-here x.name x.number x.kids x.list,
                )

            outside : node_uses x.number (fill c c2) ≡ 0
            outside =
                context-apart x.number (fill c c2) old two rest-formed
                (uses-here x.name x.number x.kids x.list)

            no-kid : node_uses x.number x.kids ≡ 0
            no-kid =
                omega (
                  arith,
                  own-uses x.name x.number x.kids x.list,
                  wn.well_formed.nodes_once
                      x.number,
                )

            end-same : SameAt grove (adding x.number moved (without v.number start))
                (fill c (fill c2 new))
            end-same =
                SameAt-trans grove (adding x.number moved (without v.number start))
                (adding x.number moved (fill (fill c c2) old)) (fill c (fill c2 new))
                (same-after (adding x.number moved) (adding-beside x.number moved)
                (without v.number start)
                (fill (fill c c2) old)
                (subst (λ z. SameAt grove z (fill (fill c c2) old)) (sym taken) rest-same))
                (SameAt-eq grove (adding x.number moved (fill (fill c c2) old))
                (fill c (fill c2 new))
                (adding-fill x.number old moved (fill c c2) outside
                ∙ ap (fill (fill c c2)) (adding-here x.name x.number x.kids x.list moved no-kid)
                ∙ fill-fill c c2 new))

            moved-found : nodes_where (numbered v.number) start ≡ moved
            moved-found = found-in (fill c c1) v.name v.number v.kids v.list one w.well_formed

            end-whole : Shaped (shape grove) (fill c (fill c2 new))
            end-whole =
                same-Shaped (shape grove) (adding x.number moved (without v.number start))
                (fill c (fill c2 new)) end-same (appended-shaped x.number v.number moved start
                moved-found w)

            inner-formed : WellFormed (fill c2 new)
            inner-formed = inner-WellFormed c (fill c2 new) wc.holes_fit.one end-whole.well_formed

            new-Shaped : Shaped (shape tree) new
            new-Shaped = record {
              well_formed = inner-WellFormed c2 new wc2.holes_fit.one inner-formed;
              width_fits = refl;
              holes_fit = omega (arith, holes-beside x.kids moved, wn.holes_fit, wu.holes_fit);
            }

            kids-meet : Meets (concatenation whole p (one_tree child)) env (shape forest)
                (beside x.kids moved)
            kids-meet =
                split_at whole (shape forest) (beside x.kids moved) (Meets p env)
                (Meets (one_tree child) env)
                x.kids moved (child-list x.name x.number x.kids x.list wn)
                (wide forest moved (λ z. cc) wu) refl x.kids_meet (wu, mu)

            end-stands : Stands d c post e st (adding x.number moved (without v.number start))
            end-stands = λ z. z (
              fill c2 new,
              put-Shaped tree d c2 new wc2 new-Shaped inner-formed,
              (
                end-same,
                put_in tree (shape d) (fill c2 new) k
                    (node_formula s i (concatenation whole p (one_tree child)) l) env c2 new wc2
                    new-Shaped
                    (SameAt-eq d (fill c2 new) (fill c2 new) refl) mk
                    (x.name_is, x.number_is, x.list_is, kids-meet),
              ),
            )

            append-lands : Lands (Stands d c post e)
                (appending (nodes_where (numbered x.number) start)
                (nodes_where (numbered v.number) start) st start)
            append-lands =
                appending-lands (Stands d c post e) x.number v.number v.name v.kids v.list st start
                w.well_formed moved-found parent-used end-stands

    abbrev hole_round_parent : Formula
    hole_round_parent = hole_adjoint (empty h) (application tree k (node_formula s i p l))

    to-the-end-sound : (r : Trees) → Shaped (shape d) r
        → Meets (application h hole_round_parent (alone_at h child)) env (shape d) r
        → (c : Trees) → Shaped (context d grove) c → Shaped (shape grove) (fill c r)
        → (picks : List Pick)
        → Ends ⊥ (Stands d c post e) (runs ps picks (beginning cmd st (fill c r)))
    to-the-end-sound r wr mt c wc w picks = stable-goal (λ n. mt (λ x. x.2 (λ y.
        n (with_parts x.0 x.1 y.0 y.1 y.2.0 y.2.1 (alone-meets h child env y.0 not-tree y.2.2)))))
      where
        stable-goal : Stable (Ends ⊥ (Stands d c post e) (runs ps picks
            (beginning cmd st (fill c r))))
        stable-goal = stable-ends d c post e (runs ps picks
            (beginning cmd st (fill c r)))

        with_parts : (c1 : Trees) → Shaped (context h d) c1 → (u : Trees) → Shaped (shape h) u
            → SameAt d r (fill c1 u) → Meets hole_round_parent env (context h d) c1
            → Shaped (shape tree) u × Meets child env (shape tree) u
            → Ends ⊥ (Stands d c post e) (runs ps picks
            (beginning cmd st (fill c r)))
        with_parts c1 wc1 u wu samer adj mu = stable-goal (λ n.
            adj none (nothing-Shaped h not-tree) refl emptied (λ x. x.2 (λ y.
            n (with_parent x.0 x.1 y.0 y.1 y.2.0 y.2.1 (node-met s i p l env y.0 y.2.2)))))
          where
            start-same : SameAt grove (fill c r) (fill (fill c c1) u)
            start-same =
                subst (SameAt grove (fill c r)) (sym (fill-fill c c1 u))
                (fill-right d grove c r (fill c1 u) wc.holes_fit samer)

            start-whole : Shaped (shape grove) (fill (fill c c1) u)
            start-whole = same-Shaped (shape grove) (fill c r) (fill (fill c c1) u) start-same w

            inner-whole : WellFormed (fill c1 u)
            inner-whole =
                inner-WellFormed c (fill c1 u) wc.holes_fit.one
                (subst WellFormed (fill-fill c c1 u) start-whole.well_formed)

            emptied : Shaped (shape d) (fill c1 none)
            emptied =
                put-Shaped h d c1 none wc1 (nothing-Shaped h not-tree)
                (emptied-WellFormed c1 u wc1.holes_fit.one inner-whole)

            v : NodeMet t j q m env u
            v = node-met t j q m env u mu.1

            with_parent : (c2 : Trees) → Shaped (context tree d) c2 → (n : Trees)
                → Shaped (shape tree) n → SameAt d (fill c1 none) (fill c2 n)
                → Meets k env (context tree d) c2 → NodeMet s i p l env n
                → Ends ⊥ (Stands d c post e) (runs ps picks
                (beginning cmd st (fill c r)))
            with_parent c2 wc2 n wn same mk x =
                let at : Trees = node v.name v.number v.kids v.list none in
                let g : Trees = fill (fill c c1) at in
                let whole-at : Shaped (shape grove) g =
                subst (λ z. Shaped (shape grove) (fill (fill c c1) z)) v.is start-whole in
                on-same ps bodies d c post e cmd st (fill c r) g picks fits
                (proper-store st e pr) whole-at (SameAt-sym grove (fill c r) g
                (subst (λ z. SameAt grove (fill c r) (fill (fill c c1) z)) v.is start-same))
                (one-step ps (Stands d c post e) picks (run cmd) st g (λ pick.
                subst (Lands (Stands d c post e))
                (sym (moves x.number v.number x.number_is v.number_is g pick))
                (append-lands c wc c1 wc1 c2 wc2 mk u n v x
                (subst (λ z. SameAt d (fill c1 none) (fill c2 z)) x.is same) whole-at
                (subst (Shaped (shape tree)) v.is mu.0) (subst (Shaped (shape tree)) x.is wn)
                (subst (Meets child env (shape tree)) v.is mu.1))))

-- appendChild and, before null, insertBefore
module _ (ps : Procedures) (bodies : BodiesSorted ps) (h d : DataSort) (not-tree : h ≡ tree → ⊥)
    (k : Formula) (a b s i : Term) (p : Formula) (l t j : Term) (q : Formula) (m : Term)
    (e : Environment) (st : Store) (pr : Proper (with_store (lookup st) e))
  where
    abbrev around_parent : Formula
    around_parent = application h (hole_adjoint (empty h) (application tree k
        (node_formula s i p l))) (alone_at h (node_formula t j q m))

    abbrev at_the_end : Formula
    at_the_end = application tree k (node_formula s i (concatenation whole p
        (one_tree (node_formula t j q m))) l)

    -- what two terms name
    two-named : (x v : ℕ) → Computes node_sort a → Computes node_sort b
        → val (node_number x) ≡ meaning_of (with_store (lookup st) e) i
        → meaning_of (with_store (lookup st) e) a ≡ meaning_of (with_store (lookup st) e) i
        → val (node_number v) ≡ meaning_of (with_store (lookup st) e) j
        → meaning_of (with_store (lookup st) e) b ≡ meaning_of (with_store (lookup st) e) j
        → (value_of st a ≡ node_number x) × (value_of st b ≡ node_number v)
    two-named x v ca cb xi ai vj bj = (
      valued node_sort a i (node_number x) st e ca xi ai,
      valued node_sort b j (node_number v) st e cb vj bj,
    )

    pub append-sound : is_sorted ps (append_child a b) ≡ true → (r : Trees) → Shaped (shape d) r
        → Meets (conjunction (conjunction around_parent (equality a i)) (equality b j))
        (with_store (lookup st) e) (shape d) r
        → (c : Trees) → Shaped (context d grove) c → Shaped (shape grove) (fill c r)
        → (picks : List Pick)
        → Ends ⊥ (Stands d c at_the_end e)
        (runs ps picks (beginning (append_child a b) st (fill c r)))
    append-sound fits r wr mt =
        to-the-end-sound ps bodies h d not-tree k s i p l t j q m (append_child a b) fits e st pr
        (λ x v xi vj g pick.
        let so = sorted-command ps (append_child a b) fits in
        let n = two-named x v so.0 so.1 xi mt.0.1 vj mt.1 in
        λ y. appending (node_at (n.0 y) g) (node_at (n.1 y) g) st g) r wr mt.0.0

    pub last-sound : (f : Term) → is_sorted ps (insert_before a b f) ≡ true → (r : Trees)
        → Shaped (shape d) r
        → Meets (conjunction (conjunction (conjunction around_parent (equality a i))
        (equality b j)) (equality f (literal null))) (with_store (lookup st) e) (shape d) r
        → (c : Trees) → Shaped (context d grove) c → Shaped (shape grove) (fill c r)
        → (picks : List Pick)
        → Ends ⊥ (Stands d c at_the_end e)
        (runs ps picks (beginning (insert_before a b f) st (fill c r)))
    last-sound f fits r wr mt =
        to-the-end-sound ps bodies h d not-tree k s i p l t j q m (insert_before a b f) fits e st
        pr (λ x v xi vj g pick.
        let so = sorted-command ps (insert_before a b f) fits in
        let n = two-named x v so.0 so.1 xi mt.0.0.1 vj mt.0.1 in
        let o : value_of st f ≡ null = valued node_sort f (literal null) null st e so.2 refl mt.1 in
        λ y. inserting_at (o y) (node_at (n.0 y) g) (node_at (n.1 y) g) st g) r wr mt.0.0.0
