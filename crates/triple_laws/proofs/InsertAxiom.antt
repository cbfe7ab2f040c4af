-- The axiom insert_before holds in every context.
use Rattle.std.proofs.Common.{◌≡◌, ◌≢◌, ℕ, ◌≤◌, ◌+◌, ◌*◌, List, [], Bool, true, false, cond, ◌||◌, refl, sym, ap, ◌∙◌, subst, arith}
use Rattle.std.proofs.Math.Decide.{ℕ_discrete}
use mathlib.Core.HLevel.{Stable}
use Rattle.model_shapes.specs.Shapes.{holes, Shaped, SameAt}
use Rattle.model_shapes.specs.Sorts.{DataSort, shape, context, tree, forest, grove, node_sort}
use Rattle.model_shapes.specs.Things.{val}
use Rattle.model_shapes.specs.Trees.{Trees, none, node, hole, beside, fill, width, node_uses, WellFormed}
use Rattle.model_shapes.specs.Values.{node_number}
use Rattle.model_shapes.proofs.Basics.{node_uses-fill, node_uses-beside, holes-beside, fill-fill, beside_assoc}
use Rattle.model_shapes.proofs.Filling.{fill-right, put-Shaped, inner-WellFormed}
use Rattle.model_shapes.proofs.Narrow.{narrow}
use Rattle.model_shapes.proofs.Shapes.{SameAt-sym, SameAt-trans, SameAt-eq, same-Shaped, same-node_uses, same-WellFormed, left-Shaped}
use Rattle.model_formulas.specs.Formulas.{Formula, node_formula, application, hole_adjoint, empty, concatenation, whole, one_tree, conjunction, equality}
use Rattle.model_formulas.specs.Satisfaction.{Environment, Meets, Proper, meaning_of, with_store}
use Rattle.model_terms.specs.Terms.{Term}
use Rattle.model_terms.specs.Stores.{Store, lookup, value_of}
use Rattle.model_commands.specs.Commands.{insert_before}
use Rattle.model_commands.specs.SortTests.{is_sorted, BodiesSorted}
use Rattle.model_commands.specs.Sorting.{Sorted}
use Rattle.model_commands.specs.Theories.{Procedures}
use Rattle.model_commands.proofs.Sorting.{sorted-command}
use Rattle.model_commands.proofs.StoreLaws.{proper-store}
use Rattle.model_groves.specs.Groves.{is_yes, nodes_where, numbered, node_at, has_root, without, adding_before, positive}
use Rattle.model_groves.specs.Picks.{Pick}
use Rattle.model_groves.proofs.Decided.{is-yes}
use Rattle.model_groves.proofs.Groves.{those-beside, without-beside, node-taken-out, same-after, adding_before-beside, width-numbered}
use Rattle.model_groves.proofs.InContext.{not-here, without-fill, adding_before-fill, adding_before-none, context-apart}
use Rattle.model_machine.specs.ClassicalTriples.{Ends, Stands}
use Rattle.model_machine.specs.Machine.{beginning, run, runs, becomes, faults, cycle, not_child, self_ref, inserting, inserting_at, move}
use Rattle.model_machine.proofs.Fine.{inserted-shaped}
use Rattle.entailment_laws.proofs.Pieces.{put_in}
use Rattle.triple_laws.proofs.AppendAxiom.{alone_at, alone-meets}
use Rattle.triple_laws.proofs.Finding.{parent_tree, found-in, has_root-in}
use Rattle.triple_laws.proofs.Here.{Found, uses-here, own-uses, without-here, before-here}
use Rattle.triple_laws.proofs.Moving.{found, child-list, wide, nothing-Shaped, emptied-WellFormed, one-inside, split_at, on-same}
use Rattle.triple_laws.proofs.NodesMet.{valued, holding_child, NodeMet, node-met, ParentMet, parent-met}
use Rattle.triple_laws.proofs.OneStep.{Lands, one-step, stable-ends}

-- WHERE A TREE IS TAKEN OUT: a root that is left was one before
or-later : (a b c : Bool) → (b ≡ true → c ≡ true) → (a || b) ≡ true → (a || c) ≡ true
or-later true b c h e = refl
or-later false b c h e = h e

skips-one : (a c : Bool) → c ≡ true → (a || c) ≡ true
skips-one true c e = refl
skips-one false c e = e

root-before : (q j : ℕ) (a : Trees) → has_root q (without j a) ≡ true → has_root q a ≡ true
root-before q j none e = e
root-before q j (hole r) e = root-before q j r e
root-before q j (node s i k l r) e = by_test (is_yes (ℕ_discrete j i)) e (root-before q j r)
  where
    by_test : (c : Bool)
        → has_root q (cond c (without j r) (node s i (without j k) l (without j r))) ≡ true
        → (has_root q (without j r) ≡ true → has_root q r ≡ true)
        → (is_yes (ℕ_discrete q i) || has_root q r) ≡ true
    by_test true e rec = skips-one (is_yes (ℕ_discrete q i)) (has_root q r) (rec e)
    by_test false e rec =
        or-later (is_yes (ℕ_discrete q i)) (has_root q (without j r)) (has_root q r) rec e

none-found : (n : ℕ) (a : Trees) → node_uses n a ≡ 0 → nodes_where (numbered n) a ≡ none
none-found n none o = refl
none-found n (hole r) o = none-found n r o
none-found n (node s i k l r) o =
    ap (λ b. cond b (node s i k l (nodes_where (numbered n) r))
    (beside (nodes_where (numbered n) k) (nodes_where (numbered n) r))) (not-here n i (omega arith))
    ∙ (λ y. beside (none-found n k (omega arith) y) (none-found n r (omega arith) y))

-- a node outside the tree is found as before, without the tree
found-without : (i j : ℕ) (g : Trees) → node_uses i (nodes_where (numbered j) g) ≡ 0
    → nodes_where (numbered i) (without j g) ≡ without j (nodes_where (numbered i) g)
found-without i j none o = refl
found-without i j (hole r) o = found-without i j r o
found-without i j (node s m k l r) o =
    by_test (is_yes (ℕ_discrete j m)) refl o (found-without i j k) (found-without i j r)
  where
    -- the node is that of the tree
    taken : node_uses i (node s m k l (nodes_where (numbered j) r)) ≡ 0
        → (node_uses i (nodes_where (numbered j) r) ≡ 0
        → nodes_where (numbered i) (without j r) ≡ without j (nodes_where (numbered i) r))
        → nodes_where (numbered i) (without j r)
        ≡ without j (nodes_where (numbered i) (node s m k l r))
    taken o later =
        later (omega arith)
        ∙ sym (ap (without j) (ap (λ b. cond b (node s m k l (nodes_where (numbered i) r))
        (beside (nodes_where (numbered i) k) (nodes_where (numbered i) r)))
        (not-here i m (omega arith))
        ∙ ap (λ z. beside z (nodes_where (numbered i) r)) (none-found i k (omega arith))))

    -- or another
    left : is_yes (ℕ_discrete j m) ≡ false
        → node_uses i (beside (nodes_where (numbered j) k) (nodes_where (numbered j) r)) ≡ 0
        → (node_uses i (nodes_where (numbered j) k) ≡ 0
        → nodes_where (numbered i) (without j k) ≡ without j (nodes_where (numbered i) k))
        → (node_uses i (nodes_where (numbered j) r) ≡ 0
        → nodes_where (numbered i) (without j r) ≡ without j (nodes_where (numbered i) r))
        → (b : Bool) → cond b (node s m (without j k) l (nodes_where (numbered i) (without j r)))
        (beside (nodes_where (numbered i) (without j k)) (nodes_where (numbered i) (without j r)))
        ≡ without j (cond b (node s m k l (nodes_where (numbered i) r))
        (beside (nodes_where (numbered i) k) (nodes_where (numbered i) r)))
    left e o kids later true =
        ap (node s m (without j k) l) (later (omega (
          arith,
          node_uses-beside i (nodes_where (numbered j) k) (nodes_where (numbered j) r),
        )))
        ∙ sym (ap (λ b. cond b (without j (nodes_where (numbered i) r))
        (node s m (without j k) l (without j (nodes_where (numbered i) r)))) e)
    left e o kids later false =
        (λ y. beside (kids (omega (
          arith,
          node_uses-beside i (nodes_where (numbered j) k) (nodes_where (numbered j) r),
        )) y) (later (omega (
          arith,
          node_uses-beside i (nodes_where (numbered j) k) (nodes_where (numbered j) r),
        )) y))
        ∙ sym (without-beside j (nodes_where (numbered i) k) (nodes_where (numbered i) r))

    by_test : (c : Bool) → is_yes (ℕ_discrete j m) ≡ c
        → node_uses i (cond c (node s m k l (nodes_where (numbered j) r))
        (beside (nodes_where (numbered j) k) (nodes_where (numbered j) r))) ≡ 0
        → (node_uses i (nodes_where (numbered j) k) ≡ 0
        → nodes_where (numbered i) (without j k) ≡ without j (nodes_where (numbered i) k))
        → (node_uses i (nodes_where (numbered j) r) ≡ 0
        → nodes_where (numbered i) (without j r) ≡ without j (nodes_where (numbered i) r))
        → nodes_where (numbered i)
        (cond c (without j r) (node s m (without j k) l (without j r)))
        ≡ without j (nodes_where (numbered i) (node s m k l r))
    by_test true e o kids later = taken o later
    by_test false e o kids later = left e o kids later (is_yes (ℕ_discrete i m))

-- a parent whose children, but for the tree, are these, and the tree isn't round it
kids-without : (j : ℕ) (s : List ℕ) (i : ℕ) (k : Trees) (l : ℕ) (r : Trees) (s' : List ℕ)
    (i' : ℕ) (k' : Trees) (l' : ℕ) → is_yes (ℕ_discrete j i) ≡ false
    → without j (node s i k l r) ≡ node s' i' k' l' none → without j k ≡ k'
kids-without j s i k l r s' i' k' l' n e =
    let same : node s i (without j k) l (without j r) ≡ node s' i' k' l' none =
    sym (ap (λ b. cond b (without j r) (node s i (without j k) l (without j r))) n) ∙ e in cc

-- two numbers that differ
differ : (a b : ℕ) → (a ≡ b → ⊥) → is_yes (ℕ_discrete a b) ≡ false
differ a b n = by_test (ℕ_discrete a b)
  where
    by_test : (d : Dec (a ≡ b)) → is_yes d ≡ false
    by_test (yes e) = absurd (n e)
    by_test (no m) = refl

-- THE STEP: the tree is moved before the next child
inserting-lands : (J : Store → Trees → Type 0) (i j q : ℕ) (t : List ℕ) (u : Trees) (m : ℕ)
    (st : Store) (g : Trees) (s : List ℕ) (kids : Trees) (l : ℕ) → WellFormed g
    → nodes_where (numbered j) g ≡ node t j u m none
    → nodes_where (numbered i) (without j g) ≡ node s i kids l none → has_root q kids ≡ true
    → 1 ≤ node_uses q (without j g)
    → J st (adding_before q (node t j u m none) (without j g))
    → Lands J (inserting (nodes_where (numbered i) g) (nodes_where (numbered j) g)
    (nodes_where (numbered q) g) st g)
inserting-lands J i j q t u m st g s kids l w e there root used h =
    let f : Found i g = found i g (omega (arith, node-taken-out i j g, parent-used)) in
    let o : Found q g = found q g (omega (arith, node-taken-out q j g)) in
    let among : has_root q f.kids ≡ true =
    root-before q j f.kids (subst (λ z. has_root q z ≡ true)
    (sym (kids-without j f.name i f.kids f.list f.rest s i kids l not-parent
    (sym (found-without i j g outside ∙ ap (without j) f.is) ∙ there))) root) in
    subst (λ z. Lands J (inserting z (nodes_where (numbered j) g) (nodes_where (numbered q) g)
    st g)) (sym f.is)
    (subst (λ z. Lands J (inserting (node f.name i f.kids f.list f.rest) z
    (nodes_where (numbered q) g) st g)) (sym e)
    (subst (λ z. Lands J (inserting (node f.name i f.kids f.list f.rest) moved z st g)) (sym o.is)
    (subst (λ b. Lands J (cond b (faults self_ref)
    (cond (positive (node_uses i moved)) (faults cycle)
    (cond (has_root q f.kids) (becomes [] st after) (faults not_child))))) (sym not-itself)
    (subst (λ b. Lands J (cond b (faults cycle)
    (cond (has_root q f.kids) (becomes [] st after) (faults not_child))))
    (sym (ap positive zero-uses))
    (subst (λ b. Lands J (cond b (becomes [] st after) (faults not_child))) (sym among)
    (refl, h))))))
  where
    moved : Trees
    moved = node t j u m none

    after : Trees
    after = adding_before q moved (without j g)

    parent-used : 1 ≤ node_uses i (without j g)
    parent-used = omega (
      arith,
      width-numbered i (without j g),
      ap width there,
    )

    zero-uses : node_uses i moved ≡ 0
    zero-uses =
        omega (arith, node-taken-out i j g, w.nodes_once i, ap (node_uses i) e, parent-used)

    outside : node_uses i (nodes_where (numbered j) g) ≡ 0
    outside = ap (node_uses i) e ∙ zero-uses

    gone : node_uses j (without j g) ≡ 0
    gone = omega (
      arith,
      node-taken-out j j g,
      w.nodes_once j,
      ap (node_uses j) e,
      uses-here t j u m,
    )

    not-parent : is_yes (ℕ_discrete j i) ≡ false
    not-parent = differ j i (λ y. omega (
      arith,
      gone,
      ap (λ z. node_uses z (without j g)) y,
      parent-used,
    ))

    not-itself : is_yes (ℕ_discrete j q) ≡ false
    not-itself = differ j q (λ y. omega (arith, gone, ap (λ z. node_uses z (without j g)) y, used))

module _ (ps : Procedures) (bodies : BodiesSorted ps) (h d : DataSort) (not-tree : h ≡ tree → ⊥)
    (k : Formula) (a b f s i : Term) (p : Formula) (y v : Term) (x : Formula) (n : Term)
    (r : Formula) (l t j : Term) (q : Formula) (m : Term)
    (fits : is_sorted ps (insert_before a b f) ≡ true) (e : Environment) (st : Store)
    (pr : Proper (with_store (lookup st) e))
  where
    so : Sorted ps (insert_before a b f)
    so = sorted-command ps (insert_before a b f) fits

    abbrev env : Environment
    env = with_store (lookup st) e

    abbrev child : Formula
    child = node_formula t j q m

    abbrev next : Formula
    next = node_formula y v x n

    abbrev before : Formula
    before = holding_child s i p y v x n r l

    abbrev behind : Formula
    behind = holding_child s i (concatenation whole p (one_tree child)) y v x n r l

    abbrev post : Formula
    post = application tree k behind

    -- c1 stands in c round the moved tree; where it is empty it is c2 round the parent
    module _ (c : Trees) (wc : Shaped (context d grove) c) (c1 : Trees)
        (wc1 : Shaped (context h d) c1) (c2 : Trees) (wc2 : Shaped (context tree d) c2)
        (mk : Meets k env (context tree d) c2) (u : Trees) (z : NodeMet t j q m env u)
        (o : Trees) (parent : ParentMet s i p y v x n r l env o)
        (ref : NodeMet y v x n env parent.child)
      where
        abbrev moved : Trees
        moved = node z.name z.number z.kids z.list none

        abbrev beyond : Trees
        beyond = node ref.name ref.number ref.kids ref.list none

        abbrev old : Trees
        old = parent_tree parent.name parent.number parent.left beyond parent.right parent.list

        abbrev new : Trees
        new = parent_tree parent.name parent.number (beside parent.left moved) beyond parent.right
            parent.list

        abbrev start : Trees
        start = fill (fill c c1) moved

        abbrev rest : Trees
        rest = fill (fill c c1) none

        module _ (same : SameAt d (fill c1 none) (fill c2 old)) (w : Shaped (shape grove) start)
            (wu : Shaped (shape tree) moved) (wn : Shaped (shape tree) old)
            (mu : Meets child env (shape tree) moved)
          where
            one : holes (fill c c1) ≡ 1
            one = one-inside h d grove c c1 wc wc1

            two : holes (fill c c2) ≡ 1
            two = one-inside tree d grove c c2 wc wc2

            taken : without z.number start ≡ rest
            taken =
                without-fill z.number moved (fill c c1)
                (context-apart z.number (fill c c1) moved one w.well_formed
                (uses-here z.name z.number z.kids z.list))
                ∙ ap (fill (fill c c1)) (without-here z.name z.number z.kids z.list)

            rest-same : SameAt grove rest (fill (fill c c2) old)
            rest-same =
                subst (λ g. SameAt grove g (fill (fill c c2) old)) (sym (fill-fill c c1 none))
                (subst (SameAt grove (fill c (fill c1 none))) (sym (fill-fill c c2 old))
                (fill-right d grove c (fill c1 none) (fill c2 old) wc.holes_fit same))

            taken-same : SameAt grove (without z.number start) (fill (fill c c2) old)
            taken-same = subst (λ g. SameAt grove g (fill (fill c c2) old)) (sym taken) rest-same

            rest-formed : WellFormed (fill (fill c c2) old)
            rest-formed =
                same-WellFormed grove rest (fill (fill c c2) old) rest-same
                (emptied-WellFormed (fill c c1) moved one w.well_formed)

            -- the numbers of the next child and of the others
            next-uses : 1 ≤ node_uses ref.number beyond
            next-uses = uses-here ref.name ref.number ref.kids ref.list

            counted : node_uses ref.number parent.left + node_uses ref.number beyond
                + node_uses ref.number parent.right
                ≡ node_uses ref.number (beside (beside parent.left beyond) parent.right)
            counted = omega (
              arith,
              node_uses-beside ref.number (beside parent.left beyond) parent.right,
              node_uses-beside ref.number parent.left beyond,
            )

            in-old : 1 ≤ node_uses ref.number old
            in-old = omega (arith, next-uses, counted)

            once : node_uses ref.number old ≤ 1
            once = wn.well_formed.nodes_once ref.number

            next-outside : node_uses ref.number (fill c c2) ≡ 0
            next-outside = context-apart ref.number (fill c c2) old two rest-formed in-old

            next-used : 1 ≤ node_uses ref.number (without z.number start)
            next-used =
                omega (
                  arith,
                  same-node_uses ref.number grove (without z.number start)
                      (fill (fill c c2) old) taken-same,
                  node_uses-fill ref.number (fill c c2) old,
                  ap (λ g. g * node_uses ref.number old) two,
                  in-old,
                )

            not-left : node_uses ref.number parent.left ≡ 0
            not-left = omega (arith, next-uses, counted, once)

            not-right : node_uses ref.number parent.right ≡ 0
            not-right = omega (arith, next-uses, counted, once)

            not-below : node_uses ref.number ref.kids ≡ 0
            not-below = omega (
              arith,
              own-uses ref.name ref.number ref.kids ref.list,
              counted,
              once,
            )

            not-parent : is_yes (ℕ_discrete ref.number parent.number) ≡ false
            not-parent = not-here ref.number parent.number (omega (arith, next-uses, counted, once))

            -- the parent with the tree put before the next child
            put-here : adding_before ref.number moved old ≡ new
            put-here =
                ap (λ t. cond t
                (beside moved (node parent.name parent.number
                (adding_before ref.number moved (beside (beside parent.left beyond) parent.right))
                parent.list none))
                (node parent.name parent.number
                (adding_before ref.number moved (beside (beside parent.left beyond) parent.right))
                parent.list none)) not-parent
                ∙ ap (λ g. node parent.name parent.number g parent.list none)
                (adding_before-beside ref.number moved (beside parent.left beyond) parent.right
                ∙ (λ t. beside (adding_before-beside ref.number moved parent.left beyond t)
                (adding_before-none ref.number moved parent.right not-right t))
                ∙ (λ t. beside (beside (adding_before-none ref.number moved parent.left not-left t)
                (before-here ref.name ref.number ref.kids ref.list moved not-below t)) parent.right)
                ∙ ap (λ g. beside g parent.right) (sym (beside_assoc parent.left moved beyond)))

            end-same : SameAt grove (adding_before ref.number moved (without z.number start))
                (fill c (fill c2 new))
            end-same =
                SameAt-trans grove (adding_before ref.number moved (without z.number start))
                (adding_before ref.number moved (fill (fill c c2) old)) (fill c (fill c2 new))
                (same-after (adding_before ref.number moved)
                (adding_before-beside ref.number moved) (without z.number start)
                (fill (fill c c2) old) taken-same)
                (SameAt-eq grove (adding_before ref.number moved (fill (fill c c2) old))
                (fill c (fill c2 new))
                (adding_before-fill ref.number old moved (fill c c2) next-outside
                ∙ ap (fill (fill c c2)) put-here ∙ fill-fill c c2 new))

            moved-found : nodes_where (numbered z.number) start ≡ moved
            moved-found = found-in (fill c c1) z.name z.number z.kids z.list one w.well_formed

            end-whole : Shaped (shape grove) (fill c (fill c2 new))
            end-whole =
                same-Shaped (shape grove) (adding_before ref.number moved (without z.number start))
                (fill c (fill c2 new)) end-same (inserted-shaped ref.number z.number moved start
                moved-found w)

            inner-formed : WellFormed (fill c2 new)
            inner-formed = inner-WellFormed c (fill c2 new) wc.holes_fit.one end-whole.well_formed

            new-formed : WellFormed new
            new-formed = inner-WellFormed c2 new wc2.holes_fit.one inner-formed

            new-Shaped : Shaped (shape tree) new
            new-Shaped = record {
              well_formed = new-formed;
              width_fits = refl;
              holes_fit = omega (
                arith,
                holes-beside (beside (beside parent.left moved) beyond) parent.right,
                holes-beside (beside parent.left moved) beyond,
                holes-beside parent.left moved,
                holes-beside (beside parent.left beyond) parent.right,
                holes-beside parent.left beyond,
                wn.holes_fit,
                wu.holes_fit,
              );
            }

            -- the old parent is found without the tree
            parent-there : nodes_where (numbered parent.number) (without z.number start) ≡ old
            parent-there =
                narrow (nodes_where (numbered parent.number) (without z.number start))
                (nodes_where (numbered parent.number) (fill (fill c c2) old))
                (omega (
                  arith,
                  width-numbered parent.number (without z.number start),
                  same-node_uses parent.number grove (without z.number start)
                      (fill (fill c c2) old) taken-same,
                  rest-formed.nodes_once parent.number,
                ))
                (same-after (nodes_where (numbered parent.number))
                (those-beside (numbered parent.number)) (without z.number start)
                (fill (fill c c2) old) taken-same)
                ∙ found-in (fill c c2) parent.name parent.number
                (beside (beside parent.left beyond) parent.right) parent.list two rest-formed

            among : has_root ref.number (beside (beside parent.left beyond) parent.right) ≡ true
            among =
                ap (has_root ref.number) (beside_assoc parent.left beyond parent.right)
                ∙ has_root-in parent.left ref.name ref.number ref.kids ref.list parent.right

            new-kids : Shaped (shape forest) (beside (beside (beside parent.left moved) beyond)
                parent.right)
            new-kids = child-list parent.name parent.number
                (beside (beside (beside parent.left moved) beyond) parent.right) parent.list
                new-Shaped

            beyond-Shaped : Shaped (shape tree) beyond
            beyond-Shaped = subst (Shaped (shape tree)) ref.is parent.child_shaped

            beyond-meets : Meets next env (shape tree) beyond
            beyond-meets = subst (Meets next env (shape tree)) ref.is parent.child_meets

            first-three : Shaped (shape forest) (beside (beside parent.left moved) beyond)
            first-three =
                left-Shaped (shape forest) (beside (beside parent.left moved) beyond) parent.right
                (λ t. tt) parent.right_shaped.holes_fit new-kids

            first-two : Shaped (shape forest) (beside parent.left moved)
            first-two =
                left-Shaped (shape forest) (beside parent.left moved) beyond (λ t. tt)
                beyond-Shaped.holes_fit first-three

            -- and so do its parts meet theirs
            left-meets : Meets (concatenation whole p (one_tree child)) env (shape forest)
                (beside parent.left moved)
            left-meets =
                split_at whole (shape forest) (beside parent.left moved) (Meets p env)
                (Meets (one_tree child) env) parent.left moved parent.left_shaped
                (wide forest moved (λ t. cc) wu) refl parent.left_meets (wu, mu)

            three-meet : Meets (concatenation whole (concatenation whole p (one_tree child))
                (one_tree next)) env (shape forest) (beside (beside parent.left moved) beyond)
            three-meet =
                split_at whole (shape forest) (beside (beside parent.left moved) beyond)
                (Meets (concatenation whole p (one_tree child)) env) (Meets (one_tree next) env)
                (beside parent.left moved) beyond first-two
                (wide forest beyond (λ t. cc) beyond-Shaped) refl left-meets
                (beyond-Shaped, beyond-meets)

            kids-meet : Meets (concatenation whole (concatenation whole
                (concatenation whole p (one_tree child)) (one_tree next)) r) env (shape forest)
                (beside (beside (beside parent.left moved) beyond) parent.right)
            kids-meet =
                split_at whole (shape forest)
                (beside (beside (beside parent.left moved) beyond) parent.right)
                (Meets (concatenation whole (concatenation whole p (one_tree child))
                (one_tree next)) env) (Meets r env) (beside (beside parent.left moved) beyond)
                parent.right first-three parent.right_shaped refl three-meet parent.right_meets

            end-stands : Stands d c post e st
                (adding_before ref.number moved (without z.number start))
            end-stands = λ g. g (
              fill c2 new,
              put-Shaped tree d c2 new wc2 new-Shaped inner-formed,
              (
                end-same,
                put_in tree (shape d) (fill c2 new) k behind env c2 new wc2 new-Shaped
                    (SameAt-eq d (fill c2 new) (fill c2 new) refl) mk
                    (parent.name_is, parent.number_is, parent.list_is, kids-meet),
              ),
            )

            insert-lands : Lands (Stands d c post e)
                (inserting (nodes_where (numbered parent.number) start)
                (nodes_where (numbered z.number) start) (nodes_where (numbered ref.number) start)
                st start)
            insert-lands =
                inserting-lands (Stands d c post e) parent.number z.number ref.number z.name z.kids
                z.list st start parent.name (beside (beside parent.left beyond) parent.right)
                parent.list w.well_formed moved-found parent-there among next-used end-stands

    abbrev hole_round_parent : Formula
    hole_round_parent = hole_adjoint (empty h) (application tree k before)

    abbrev Goal : Trees → Trees → List Pick → Type 0
    Goal c r picks = Ends ⊥ (Stands d c post e)
        (runs ps picks (beginning (insert_before a b f) st (fill c r)))

    pub insert-sound : (r : Trees) → Shaped (shape d) r
        → Meets (conjunction (conjunction (conjunction
        (application h hole_round_parent (alone_at h child)) (equality a i)) (equality b j))
        (equality f v)) env (shape d) r
        → (c : Trees) → Shaped (context d grove) c → Shaped (shape grove) (fill c r)
        → (picks : List Pick) → Goal c r picks
    insert-sound r' wr mt c wc w picks = stable-goal (λ g. mt.0.0.0 (λ first. first.2 (λ other.
        g (with_parts first.0 first.1 other.0 other.1 other.2.0 other.2.1
        (alone-meets h child env other.0 not-tree other.2.2)))))
      where
        stable-goal : Stable (Goal c r' picks)
        stable-goal = stable-ends d c post e (runs ps picks
            (beginning (insert_before a b f) st (fill c r')))

        with_parts : (c1 : Trees) → Shaped (context h d) c1 → (u : Trees) → Shaped (shape h) u
            → SameAt d r' (fill c1 u) → Meets hole_round_parent env (context h d) c1
            → Shaped (shape tree) u × Meets child env (shape tree) u → Goal c r' picks
        with_parts c1 wc1 u wu samer adj mu = stable-goal (λ g.
            adj none (nothing-Shaped h not-tree) refl emptied (λ first. first.2 (λ other.
            g (parent-met (Goal c r' picks) stable-goal s i p y v x n r l env other.0 other.2.2
            (with_parent first.0 first.1 other.0 other.1 other.2.0 other.2.1)))))
          where
            start-same : SameAt grove (fill c r') (fill (fill c c1) u)
            start-same =
                subst (SameAt grove (fill c r')) (sym (fill-fill c c1 u))
                (fill-right d grove c r' (fill c1 u) wc.holes_fit samer)

            start-whole : Shaped (shape grove) (fill (fill c c1) u)
            start-whole = same-Shaped (shape grove) (fill c r') (fill (fill c c1) u) start-same w

            inner-whole : WellFormed (fill c1 u)
            inner-whole =
                inner-WellFormed c (fill c1 u) wc.holes_fit.one
                (subst WellFormed (fill-fill c c1 u) start-whole.well_formed)

            emptied : Shaped (shape d) (fill c1 none)
            emptied =
                put-Shaped h d c1 none wc1 (nothing-Shaped h not-tree)
                (emptied-WellFormed c1 u wc1.holes_fit.one inner-whole)

            z : NodeMet t j q m env u
            z = node-met t j q m env u mu.1

            with_parent : (c2 : Trees) → Shaped (context tree d) c2 → (o : Trees)
                → Shaped (shape tree) o → SameAt d (fill c1 none) (fill c2 o)
                → Meets k env (context tree d) c2 → ParentMet s i p y v x n r l env o
                → Goal c r' picks
            with_parent c2 wc2 o wo same mk parent =
                let ref : NodeMet y v x n env parent.child =
                node-met y v x n env parent.child parent.child_meets in
                let is : o ≡ parent_tree parent.name parent.number parent.left
                (node ref.name ref.number ref.kids ref.list none) parent.right parent.list =
                parent.is ∙ ap (λ g. parent_tree parent.name parent.number parent.left g
                parent.right parent.list) ref.is in
                let at : Trees = node z.name z.number z.kids z.list none in
                let g : Trees = fill (fill c c1) at in
                let whole-at : Shaped (shape grove) g =
                subst (λ a. Shaped (shape grove) (fill (fill c c1) a)) z.is start-whole in
                let na : value_of st a ≡ node_number parent.number =
                valued node_sort a i (node_number parent.number) st e so.0 parent.number_is
                mt.0.0.1 in
                let nb : value_of st b ≡ node_number z.number =
                valued node_sort b j (node_number z.number) st e so.1 z.number_is mt.0.1 in
                let nf : value_of st f ≡ node_number ref.number =
                valued node_sort f v (node_number ref.number) st e so.2 ref.number_is mt.1 in
                on-same ps bodies d c post e (insert_before a b f) st (fill c r') g picks fits
                (proper-store st e pr) whole-at (SameAt-sym grove (fill c r') g
                (subst (λ a. SameAt grove (fill c r') (fill (fill c c1) a)) z.is start-same))
                (one-step ps (Stands d c post e) picks (run (insert_before a b f)) st g (λ pick.
                subst (Lands (Stands d c post e))
                (sym (λ y. inserting_at (nf y) (node_at (na y) g) (node_at (nb y) g) st g))
                (insert-lands c wc c1 wc1 c2 wc2 mk u z o parent ref
                (subst (λ a. SameAt d (fill c1 none) (fill c2 a)) is same) whole-at
                (subst (Shaped (shape tree)) z.is mu.0) (subst (Shaped (shape tree)) is wo)
                (subst (Meets child env (shape tree)) z.is mu.1))))
