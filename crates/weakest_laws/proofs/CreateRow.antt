-- The row of createNode.
use Rattle.std.proofs.Common.{◌≡◌, ℕ, zero, suc, ◌<◌, List, [], Bool, true, false, not, ◌&&◌, cond, refl, sym, ap, ◌∙◌, subst, arith}
use Rattle.model_shapes.specs.Shapes.{SameAt, Shaped}
use Rattle.model_shapes.specs.Sorts.{shape, context, tree, forest, grove, node_sort, list_sort, str_sort}
use Rattle.model_shapes.specs.Things.{Thing, val}
use Rattle.model_shapes.specs.Trees.{Trees, none, node, hole, beside, fill, node_uses, list_uses, WellFormed}
use Rattle.model_shapes.specs.Values.{Value, FitsValue, null, nolist, node_number, list_number, int, str, boolean}
use Rattle.model_shapes.proofs.Basics.{node_uses-beside, list_uses-beside}
use Rattle.model_shapes.proofs.Filling.{fill-left}
use Rattle.model_shapes.proofs.Shapes.{SameAt-sym, same-Shaped, right-WellFormed}
use Rattle.model_shapes.proofs.Truth.{both_true}
use Rattle.model_terms.specs.Terms.{Term}
use Rattle.model_terms.specs.Stores.{ProgVar, as_var, Store, set, lookup, value_of, text_in}
use Rattle.model_terms.proofs.StoreLaws.{value-fits}
use Rattle.model_formulas.specs.Formulas.{Formula, empty, bare_hole, one_root, node_formula, grove_sum_hole}
use Rattle.model_formulas.specs.Substitution.{formula_with, closing}
use Rattle.model_formulas.specs.Satisfaction.{Environment, Meets, choosing, with_store}
use Rattle.model_formulas.proofs.Closed.{closed}
use Rattle.model_formulas.proofs.Stable.{stable}
use Rattle.model_commands.specs.Commands.{create_node}
use Rattle.model_commands.specs.Sorting.{Sorted}
use Rattle.model_commands.specs.SortTests.{is_sorted}
use Rattle.model_commands.specs.Theories.{Procedures}
use Rattle.model_commands.proofs.Sorting.{sorted-command}
use Rattle.model_groves.specs.Groves.{positive}
use Rattle.model_groves.specs.Picks.{Pick, is_free}
use Rattle.model_machine.specs.Fitting.{Fine}
use Rattle.model_machine.specs.Machine.{run, move, becomes, bad_pick}
use Rattle.model_machine.proofs.Fine.{created-shaped, is-positive}
use Rattle.entailment_laws.proofs.Shared.{hole-Shaped}
use Rattle.triple_laws.proofs.Here.{uses-here, lists-here}
use Rattle.triple_laws.proofs.NodesMet.{NodeMet, node-met}
use Rattle.triple_laws.proofs.OneStep.{Lands}
use Rattle.model_weakest.specs.Weakest.{MeetsWith}
use Rattle.weakest_laws.specs.Table.{node_var, list_var, below, weakest}
use Rattle.weakest_laws.proofs.Taking.{value-is, stands-for, value-of-sort, below-meets, closed-meets}
use Rattle.weakest_laws.proofs.Cutting.{positive-node, positive-list}

-- a text is the value that it is
text-is : (v : Value) → FitsValue str_sort v → str (text_in v) ≡ v
text-is (str s) f = refl
text-is null f = absurd f
text-is nolist f = absurd f
text-is (node_number n) f = absurd f
text-is (list_number n) f = absurd f
text-is (int z) f = absurd f
text-is (boolean b) f = absurd f

positive-is : (n : ℕ) → 0 < n → positive n ≡ true
positive-is zero h = absurd (omega arith)
positive-is (suc n) h = refl

-- numbers that aren't in use are free
free-is : (p : Pick) (g : Trees) → 0 < p.node → 0 < p.list → node_uses p.node g ≡ 0
    → list_uses p.list g ≡ 0 → is_free p g ≡ true
free-is p g a b c d =
    λ i. (positive-is p.node a i && positive-is p.list b i)
    && (not (positive (c i)) && not (positive (d i)))

module _ (ps : Procedures) (q : Formula) (e : Environment) (st : Store) (g : Trees)
    (fine : Fine st g) (x : ProgVar) (t : Term) (fits : is_sorted ps (create_node x t) ≡ true)
  where
    so : Sorted ps (create_node x t)
    so = sorted-command ps (create_node x t) fits

    abbrev here : Environment
    here = with_store (lookup st) e

    abbrev after : Formula
    after = formula_with (closing (as_var x)) q

    abbrev round : Formula
    round =
        grove_sum_hole (bare_hole grove)
        (one_root (node_formula t (node_var 1) (empty forest) (list_var 0)))

    abbrev name : List ℕ
    name = text_in (value_of st t)

    abbrev Landing : Pick → Type 0
    Landing k = Lands (MeetsWith q e) (move ps k (run (create_node x t)) st g)

    -- the name is a text
    name-is : str name ≡ value_of st t
    name-is = text-is (value_of st t) (value-fits str_sort t st so.1 fine.proper)

    module _ (k : Pick) where
      abbrev new : Trees
      new = node name k.node none k.list none

      abbrev chosen : Environment
      chosen = choosing (val (list_number k.list)) (choosing (val (node_number k.node)) here)

      -- what the formula says of the grove with the new root
      says : Meets (below after) chosen (shape grove) (beside g new)
          ≡ MeetsWith q e (set x (node_number k.node) st) (beside g new)
      says = λ i. (below-meets after (val (list_number k.list)) (choosing (val (node_number k.node))
          here) ∙ closed-meets e st x (node_number k.node) q) i (shape grove) (beside g new)

      created : is_free k g ≡ true → MeetsWith (weakest (create_node x t) q) e st g
          → MeetsWith q e (set x (node_number k.node) st) (beside g new)
      created free m =
          subst (λ z. z) says (m (val (node_number k.node)) (is-positive k.node node-positive)
          (val (list_number k.list)) (is-positive k.list list-positive) (hole new) round-shaped
          (λ n. n (
            hole none,
            bare-shaped,
            λ n. n (
              new,
              as-grove,
              (
                (λ t. refl),
                refl,
                (
                  shaped,
                  (
                    stands-for str_sort t st chosen (λ z u. refl) so.1 (sym name-is),
                    refl,
                    refl,
                    refl,
                  ),
                ),
              ),
            ),
          )) whole)
        where
          whole : Shaped (shape grove) (beside g new)
          whole = created-shaped k name g free fine.whole

          shaped : Shaped (shape tree) new
          shaped = record {
            well_formed = right-WellFormed g new whole.well_formed;
            width_fits = refl;
            holes_fit = refl;
          }

          as-grove : Shaped (shape grove) new
          as-grove = record { well_formed = shaped.well_formed; width_fits = tt; holes_fit = refl }

          round-shaped : Shaped (context grove grove) (hole new)
          round-shaped = record {
            well_formed = record {
              nodes_once = shaped.well_formed.nodes_once;
              lists_once = shaped.well_formed.lists_once;
              no_node_zero = shaped.well_formed.no_node_zero;
              no_list_zero = shaped.well_formed.no_list_zero;
            };
            width_fits = tt;
            holes_fit = record { one = refl; stands = refl };
          }

          bare-shaped : Shaped (context grove grove) (hole none)
          bare-shaped = hole-Shaped grove

          positives : (positive k.node && positive k.list) ≡ true
          positives =
              (both_true (positive k.node && positive k.list)
              (not (positive (node_uses k.node g)) && not (positive (list_uses k.list g))) free).0

          node-positive : positive k.node ≡ true
          node-positive = (both_true (positive k.node) (positive k.list) positives).0

          list-positive : positive k.list ≡ true
          list-positive = (both_true (positive k.node) (positive k.list) positives).1

      landing : (b : Bool) → is_free k g ≡ b → MeetsWith (weakest (create_node x t) q) e st g
          → Lands (MeetsWith q e) (cond b (becomes [] (set x (node_number k.node) st)
          (beside g new)) bad_pick)
      landing false free m = tt
      landing true free m = (refl, created free m)

    pub create-lands : MeetsWith (weakest (create_node x t) q) e st g → (k : Pick) → Landing k
    create-lands m k = landing k (is_free k g) refl m

    -- BACK
    module _ (h : (k : Pick) → Landing k) where
      -- the numbers may be used where the grove with the new root is well formed
      at-free : (k : Pick) → Shaped (shape grove) (beside g (node name k.node none k.list none))
          → MeetsWith q e (set x (node_number k.node) st)
          (beside g (node name k.node none k.list none))
      at-free k w =
          (subst (λ b. Lands (MeetsWith q e) (cond b (becomes [] (set x (node_number k.node) st)
          (beside g new')) bad_pick)) free (h k)).1
        where
          new' : Trees
          new' = node name k.node none k.list none

          new-formed : WellFormed new'
          new-formed = right-WellFormed g new' w.well_formed

          free : is_free k g ≡ true
          free = free-is k g (positive-node name k.node none k.list none new-formed)
              (positive-list name k.node none k.list none new-formed)
              (omega (
                arith,
                w.well_formed.nodes_once k.node,
                node_uses-beside k.node g new',
                uses-here name k.node none k.list,
              ))
              (omega (
                arith,
                w.well_formed.lists_once k.list,
                list_uses-beside k.list g new',
                lists-here name k.node none k.list,
              ))

      -- a context that adds a root
      module _ (v m : Value) (c : Trees) (wc : Shaped (context grove grove) c)
          (whole : Shaped (shape grove) (fill c g)) (b : Trees)
          (same : SameAt grove c (beside (hole none) b))
          (y : NodeMet t (node_var 1) (empty forest) (list_var 0)
          (choosing (val m) (choosing (val v) here)) b)
        where
          abbrev its : Environment
          its = choosing (val m) (choosing (val v) here)

          abbrev pick : Pick
          pick = record { node = y.number; list = y.list }

          b-is : b ≡ node name y.number none y.list none
          b-is =
              y.is ∙ (λ i. node (names i) y.number (y.kids_meet i) y.list none)
            where
              names : y.name ≡ name
              names = ap text_in
                  (sym (value-is str_sort t st its (λ z u. refl) so.1 y.name_is))

          same-whole : SameAt grove (fill c g) (beside g (node name y.number none y.list none))
          same-whole =
              subst (λ z. SameAt grove (fill c g) (fill (beside (hole none) z) g)) b-is
              (fill-left grove c (beside (hole none) b) g same)

          pub at-context : Meets (below after) its (shape grove) (fill c g)
          at-context =
              closed (below after) its (shape grove)
              (beside g (node name y.number none y.list none)) (fill c g)
              (SameAt-sym grove (fill c g) (beside g (node name y.number none y.list none))
              same-whole)
              (subst (λ z. Meets (below after) z (shape grove)
              (beside g (node name y.number none y.list none)))
              (λ i. choosing (y.list_is i) (choosing (y.number_is i) here))
              (subst (λ z. z) (sym (says pick))
              (at-free pick (same-Shaped (shape grove) (fill c g)
              (beside g (node name y.number none y.list none)) same-whole whole))))

      -- what the row says of a context, with these for $m and $v
      abbrev Says : Thing → Thing → Trees → Type 0
      Says m v c = Meets (below after) (choosing m (choosing v here)) (shape grove) (fill c g)

      pub create-meets : MeetsWith (weakest (create_node x t) q) e st g
      create-meets v fv m fm c wc mk whole =
          value-of-sort (Says m v c) node_sort (λ z. v ≡ z) v fv refl (λ wv fwv qv.
          value-of-sort (Says m v c) list_sort (λ z. m ≡ z) m fm refl (λ wm fwm qm.
          subst (λ z. z) (λ i. Says (sym qm i) (sym qv i) c)
          (stable (below after) (choosing (val wm) (choosing (val wv) here)) (shape grove)
          (fill c g) (λ n. subst (λ z. z) (λ i. Meets round (choosing (qm i) (choosing (qv i) here))
          (context grove grove) c) mk (λ a. a.2 (λ b.
          n (at-context wv wm c wc whole b.0
          (subst (λ z. SameAt grove c (beside z b.0)) b.2.1 b.2.0)
          (node-met t (node_var 1) (empty forest) (list_var 0)
          (choosing (val wm) (choosing (val wv) here)) b.0 b.2.2.1))))))))
