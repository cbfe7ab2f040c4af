-- The axioms of the commands that read: name, children, item, item_none, parent and parent_none.
use Rattle.std.proofs.Common.{◌≡◌, ◌⊎◌, ℕ, ℤ, zero, suc, ◌≤◌, List, pos, negsuc, int_le, IsTrue, false, cond, ◌||◌, refl, sym, ap, ◌∙◌, subst, arith, inl, inr, ⊎_elim, leb-true}
use mathlib.Core.HLevel.{dec→stable}
use Rattle.model_shapes.specs.Shapes.{holes, Shaped, OneHole}
use Rattle.model_shapes.specs.RootHoles.{root_holes}
use Rattle.model_shapes.specs.Sorts.{DataSort, shape, context, tree, grove, node_sort, list_sort, int_sort}
use Rattle.model_shapes.specs.Things.{val}
use Rattle.model_shapes.specs.Trees.{Trees, none, node, hole, beside, fill, width, node_uses, WellFormed}
use Rattle.model_shapes.specs.Values.{Value, null, nolist, node_number, list_number, int, str, boolean}
use Rattle.model_shapes.specs.Tests.{value_eq}
use Rattle.model_shapes.proofs.Basics.{fill-no_hole, beside_assoc}
use Rattle.model_shapes.proofs.Filling.{grove_hole, inner-WellFormed}
use Rattle.model_shapes.proofs.Shapes.{SameAt-eq, root_holes-le}
use Rattle.model_formulas.specs.Formulas.{Formula, node_formula, conjunction, disjunction, equality, at_most, one_root, length_is}
use Rattle.model_formulas.specs.Satisfaction.{Environment, Meets, meaning_of, number_of, with_store}
use Rattle.model_formulas.specs.Substitution.{FreeIn}
use Rattle.model_terms.specs.Terms.{Term, literal, variable, InTerm}
use Rattle.model_commands.specs.Commands.{Command, node_name, child_nodes, parent_node, list_item}
use Rattle.model_groves.specs.Groves.{has_root, numbered, listed, parental, nodes_where, node_at, list_at, first_number, number_at, item_of}
use Rattle.model_machine.specs.ClassicalTriples.{Ends, Stands, TripleFor}
use Rattle.model_groves.specs.Picks.{Pick}
use Rattle.model_machine.specs.Machine.{beginning, run, move, reading, runs, FaultKind, no_node, no_list}
use Rattle.model_commands.specs.Sorting.{Sorted}
use Rattle.model_terms.specs.Stores.{ProgVar, as_var, Store, set, lookup, value_of, int_in}
use Rattle.model_terms.specs.Computing.{Computes}
use Rattle.model_commands.specs.Theories.{Procedures}
use Rattle.model_groves.proofs.InContext.{not-here, those-fill, copies, copies-one, context-apart}
use Rattle.model_commands.proofs.StoreLaws.{meaning-value, set-meaning}
use Rattle.model_terms.proofs.StoreLaws.{set-same}
use Rattle.triple_laws.proofs.Control.{without-var}
use Rattle.triple_laws.proofs.Finding.{parent_tree, found-in, listed-in, child-found, parent-found, number-in}
use Rattle.triple_laws.proofs.Here.{own-uses, uses-here}
use Rattle.triple_laws.proofs.NodesMet.{valued, without-term, holding_child, NodeMet, node-met, ParentMet, parent-met}
use Rattle.triple_laws.proofs.OneStep.{Lands, one-step, stable-ends}

-- WHERE NOTHING IS FOUND
-- at a place behind the last child
past-end : (n : ℕ) (a : Trees) → width a ≤ n → number_at n a ≡ null
past-end n none h = refl
past-end n (hole r) h = refl
past-end zero (node s i k l r) h = absurd (omega arith)
past-end (suc n) (node s i k l r) h = past-end n r (omega arith)

item-null : (v : Value) (k : Trees)
    → IsTrue (int_le (int_in v) (negsuc 0)) ⊎ IsTrue (int_le (pos (width k)) (int_in v))
    → item_of v k ≡ null
item-null (int (pos n)) k (inl h) = absurd cc
item-null (int (pos n)) k (inr h) = past-end n k (leb-true (width k) n h)
item-null (int (negsuc n)) k h = refl
item-null null k h = refl
item-null nolist k h = refl
item-null (node_number n) k h = refl
item-null (list_number n) k h = refl
item-null (str s) k h = refl
item-null (boolean b) k h = refl

-- a number that isn't in use is that of no root, and of no child
no-root : (n : ℕ) (a : Trees) → node_uses n a ≡ 0 → has_root n a ≡ false
no-root n none o = refl
no-root n (hole r) o = no-root n r o
no-root n (node s i k l r) o =
    ap (λ q. q || has_root n r) (not-here n i (omega arith)) ∙ no-root n r (omega arith)

no-parent : (n : ℕ) (a : Trees) → node_uses n a ≡ 0 → nodes_where (parental n) a ≡ none
no-parent n none o = refl
no-parent n (hole r) o = no-parent n r o
no-parent n (node s i k l r) o =
    ap (λ b. cond b (node s i k l (nodes_where (parental n) r))
    (beside (nodes_where (parental n) k) (nodes_where (parental n) r)))
    (no-root n k (omega arith))
    ∙ (λ y. beside (no-parent n k (omega arith) y) (no-parent n r (omega arith) y))

-- a root has no parent: the hole of the context stands among the roots
module _ (c : Trees) (at_root : OneHole grove grove c) (s : List ℕ) (i : ℕ) (k : Trees) (l : ℕ)
    (w : WellFormed (fill c (node s i k l none)))
  where
    abbrev root : Trees
    root = node s i k l none

    formed : WellFormed root
    formed = inner-WellFormed c root at_root.one w

    kids-free : node_uses i k ≡ 0
    kids-free = omega (arith, own-uses s i k l, formed.nodes_once i)

    inside : nodes_where (parental i) root ≡ none
    inside =
        ap (λ b. cond b root (beside (nodes_where (parental i) k) none)) (no-root i k kids-free)
        ∙ ap (λ b. beside b none) (no-parent i k kids-free)

    abbrev Outside : Trees → Type 0
    Outside c = (node_uses i c ≡ 0) × (holes c ≡ root_holes c)

    in-context : nodes_where (parental i) (fill c root) ≡ copies (holes c)
        (nodes_where (parental i) root)
    in-context =
        those-fill (parental i) Outside root
        (λ s' i' k' l' r o. (
          omega (arith, o.0),
          omega (
            arith,
            o.1,
            root_holes-le r,
            root_holes-le
                k',
          ),
        ))
        (λ s' i' k' l' r o. (omega (arith, o.0), omega (arith, o.1, root_holes-le r)))
        (λ r o. (o.0, omega (arith, o.1)))
        (λ s' i' k' l' r o. ap (has_root i) (fill-no_hole k' root
        (omega (arith, o.1, root_holes-le r)))
        ∙ no-root i k' (omega (arith, o.0)))
        c (context-apart i c root at_root.one w (uses-here s i k l), grove_hole grove c at_root)

    pub no-parent-of : first_number (nodes_where (parental i) (fill c root)) ≡ null
    no-parent-of =
        ap first_number (in-context
        ∙ copies-one (holes c) (nodes_where (parental i) root) at_root.one ∙ inside)

-- WHAT IS READ
number-value : (v : Value) → number_of (val v) ≡ int_in v
number-value null = refl
number-value nolist = refl
number-value (node_number n) = refl
number-value (list_number n) = refl
number-value (int z) = refl
number-value (str s) = refl
number-value (boolean b) = refl

module _ (ps : Procedures) (e : Environment) (st : Store) (d : DataSort) (c : Trees)
    (wc : Shaped (context d grove) c) (r : Trees) (wr : Shaped (shape d) r)
    (w : Shaped (shape grove) (fill c r))
  where
    abbrev env : Environment
    env = with_store (lookup st) e

    -- the node of the data is found by its number, and by its list number
    module _ (s : List ℕ) (i : ℕ) (k : Trees) (l : ℕ) (is : r ≡ node s i k l none) (t u : Term)
        (same : meaning_of env t ≡ meaning_of env u)
      where
        formed-there : WellFormed (fill c (node s i k l none))
        formed-there = subst (λ v. WellFormed (fill c v)) is w.well_formed

        node-there : Computes node_sort t → val (node_number i) ≡ meaning_of env u
            → node_at (value_of st t) (fill c r) ≡ node s i k l none
        node-there so q =
            ap (λ v. node_at v (fill c r)) (valued node_sort t u (node_number i) st e so q same)
            ∙ ap (λ v. nodes_where (numbered i) (fill c v)) is
            ∙ found-in c s i k l wc.holes_fit.one formed-there

        list-there : Computes list_sort t → val (list_number l) ≡ meaning_of env u
            → list_at (value_of st t) (fill c r) ≡ node s i k l none
        list-there so q =
            ap (λ v. list_at v (fill c r)) (valued list_sort t u (list_number l) st e so q same)
            ∙ ap (λ v. nodes_where (listed l) (fill c v)) is
            ∙ listed-in c s i k l wc.holes_fit.one formed-there

    -- the data meets N, and the variable, which is in neither N nor t, is set to what t stands for
    read : (N : Formula) (t : Term) (x : ProgVar) (cmd : Command) (found : Trees) (f : FaultKind)
        (v : List ℕ → ℕ → Trees → ℕ → Value) (picks : List Pick)
        → ((k : Pick) → move ps k (run cmd) st (fill c r) ≡ reading found f v x st (fill c r))
        → (s : List ℕ) (i : ℕ) (k : Trees) (l : ℕ) → found ≡ node s i k l none
        → (FreeIn (as_var x) N → ⊥) → (InTerm (as_var x) t → ⊥) → Meets N env (shape d) r
        → val (v s i k l) ≡ meaning_of env t
        → Ends ⊥ (Stands d c (conjunction N (equality (variable (as_var x)) t)) e)
        (runs ps picks (beginning cmd st (fill c r)))
    read N t x cmd found f v picks moves s i k l is not_n not_t m q =
        one-step ps J picks (run cmd) st (fill c r)
        (λ k. subst (Lands J) (sym (moves k))
        (subst (λ z. Lands J (reading z f v x st (fill c r))) (sym is) (refl, ends)))
      where
        J : Store → Trees → Type 0
        J = Stands d c (conjunction N (equality (variable (as_var x)) t)) e

        ends : J (set x (v s i k l) st) (fill c r)
        ends = λ n. n (
          r,
          wr,
          (
            SameAt-eq grove (fill c r) (fill c r) refl,
            (
              without-var N x (v s i k l) st e (shape d) r not_n m,
              set-meaning x (set x (v s i k l) st) e ∙ ap val (set-same x (v s i k l) st) ∙ q
                  ∙ sym (without-term t x (v s i k l) st e not_t),
            ),
          ),
        )

-- EACH AXIOM
module _ (ps : Procedures) (N : ℕ → Type 0) where
  module _ (x : ProgVar) (t s i : Term) (p : Formula) (l : Term)
      (free : FreeIn (as_var x) (node_formula s i p l) → ⊥)
    where
      abbrev P : Formula
      P = node_formula s i p l

      pub name-sound : Sorted ps (node_name x t)
          → TripleFor ps N (conjunction P (equality t i)) (node_name x t)
          (conjunction P (equality (variable (as_var x)) s)) tree
      name-sound so e st pr r wr m c wc w picks long =
          let y : NodeMet s i p l (with_store (lookup st) e) r = node-met s i p l _ r m.0 in
          read ps e st tree c wc r wr w P s x (node_name x t) _ no_node (λ s i k l. str s) picks
          (λ k. refl) y.name y.number y.kids y.list
          (node-there ps e st tree c wc r wr w y.name y.number y.kids y.list y.is t i m.1 so.1
          y.number_is)
          free (λ a. free (inl a)) m.0 y.name_is

      pub children-sound : Sorted ps (child_nodes x t)
          → TripleFor ps N (conjunction P (equality t i)) (child_nodes x t)
          (conjunction P (equality (variable (as_var x)) l)) tree
      children-sound so e st pr r wr m c wc w picks long =
          let y : NodeMet s i p l (with_store (lookup st) e) r = node-met s i p l _ r m.0 in
          read ps e st tree c wc r wr w P l x (child_nodes x t) _ no_node (λ s i k l. list_number l)
          picks
          (λ k. refl) y.name y.number y.kids y.list
          (node-there ps e st tree c wc r wr w y.name y.number y.kids y.list y.is t i m.1 so.1
          y.number_is)
          free (λ a. free (inr (inr (inr a)))) m.0 y.list_is

      pub parent-none-sound : Sorted ps (parent_node x t)
          → TripleFor ps N (conjunction (one_root P) (equality t i)) (parent_node x t)
          (conjunction (one_root P) (equality (variable (as_var x)) (literal null))) grove
      parent-none-sound so e st pr r wr m c wc w picks long =
          let y : NodeMet s i p l (with_store (lookup st) e) r = node-met s i p l _ r m.0.1 in
          read ps e st grove c wc r wr w (one_root P) (literal null) x (parent_node x t) _ no_node
          (λ s i k l. first_number (nodes_where (parental i) (fill c r))) picks
          (λ k. refl) y.name y.number y.kids y.list
          (node-there ps e st grove c wc r wr w y.name y.number y.kids y.list y.is t i m.1 so.1
          y.number_is)
          free (λ a. a) m.0
          (ap val (ap (λ v. first_number (nodes_where (parental y.number) (fill c v))) y.is
          ∙ no-parent-of c wc.holes_fit y.name y.number y.kids y.list
          (subst (λ v. WellFormed (fill c v)) y.is w.well_formed)))

  module _ (x : ProgVar) (u f g s i : Term) (p : Formula) (l : Term)
      (free : FreeIn (as_var x) (node_formula s i (conjunction p (length_is g)) l) → ⊥)
    where
      abbrev of_length : Formula
      of_length = node_formula s i (conjunction p (length_is g)) l

      pub item-none-sound : Sorted ps (list_item x u f)
          → TripleFor ps N (conjunction (conjunction of_length (equality u l))
          (disjunction (at_most f (literal (int (negsuc 0)))) (at_most g f))) (list_item x u f)
          (conjunction of_length (equality (variable (as_var x)) (literal null))) tree
      item-none-sound so e st pr r wr m c wc w picks long =
          read ps e st tree c wc r wr w of_length (literal null) x (list_item x u f) _ no_list
          (λ s i k l. item_of (value_of st f) k) picks
          (λ k. refl) y.name y.number y.kids y.list
          (list-there ps e st tree c wc r wr w y.name y.number y.kids y.list y.is u l m.0.1 so.1
          y.list_is)
          free (λ a. a) m.0.0 (ap val is-null)
        where
          y : NodeMet s i (conjunction p (length_is g)) l (with_store (lookup st) e) r
          y = node-met s i (conjunction p (length_is g)) l _ r m.0.0

          number : Term → ℤ
          number t = number_of (meaning_of (with_store (lookup st) e) t)

          place-is : number f ≡ int_in (value_of st f)
          place-is =
              ap number_of (meaning-value int_sort f st e so.2) ∙ number-value (value_of st f)

          -- the length of the children is what g stands for
          length-at-most : IsTrue (int_le (number g) (number f))
              → IsTrue (int_le (pos (width y.kids)) (int_in (value_of st f)))
          length-at-most a =
              subst (λ z. IsTrue (int_le z (int_in (value_of st f))))
              (sym (ap number_of y.kids_meet.1))
              (subst (λ z. IsTrue (int_le (number g) z)) place-is a)

          is-null : item_of (value_of st f) y.kids ≡ null
          is-null =
              dec→stable (value_eq (item_of (value_of st f) y.kids) null) (λ n. m.1 (λ o.
              n (item-null (value_of st f) y.kids (⊎_elim
              (λ a. inl (subst (λ z. IsTrue (int_le z (negsuc 0))) place-is a))
              (λ a. inr (length-at-most a)) o))))

  module _ (x : ProgVar) (u s i : Term) (p : Formula) (t j : Term) (q : Formula) (m : Term)
      (r : Formula) (l : Term) (free : FreeIn (as_var x) (holding_child s i p t j q m r l) → ⊥)
    where
      abbrev family : Formula
      family = holding_child s i p t j q m r l

      pub parent-sound : Sorted ps (parent_node x u)
          → TripleFor ps N (conjunction family (equality u j)) (parent_node x u)
          (conjunction family (equality (variable (as_var x)) i)) tree
      parent-sound so e st pr d wd h c wc w picks long =
          parent-met _ (stable-ends tree c (conjunction family (equality (variable (as_var x)) i)) e
          _)
          s i p t j q m r l (with_store (lookup st) e) d h.0 with_child
        where
          env' : Environment
          env' = with_store (lookup st) e

          with_child : ParentMet s i p t j q m r l env' d
              → Ends ⊥ (Stands tree c (conjunction family (equality (variable (as_var x)) i)) e)
              (runs ps picks (beginning (parent_node x u) st (fill c d)))
          with_child y =
              read ps e st tree c wc d wd w family i x (parent_node x u) _ no_node
              (λ s i k l. first_number (nodes_where (parental i) (fill c d))) picks
              (λ k. refl) z.name z.number z.kids z.list found free (λ a. free (inr (inl a))) h.0
              (ap val parent-is ∙ y.number_is)
            where
              z : NodeMet t j q m env' y.child
              z = node-met t j q m env' y.child y.child_meets

              child : Trees
              child = node z.name z.number z.kids z.list none

              is : d ≡ parent_tree y.name y.number y.left child y.right y.list
              is = y.is ∙ ap (λ v. parent_tree y.name y.number y.left v y.right y.list) z.is

              formed' : WellFormed (fill c (parent_tree y.name y.number y.left child y.right
                  y.list))
              formed' = subst (λ v. WellFormed (fill c v)) is w.well_formed

              found : node_at (value_of st u) (fill c d) ≡ child
              found =
                  ap (λ v. node_at v (fill c d))
                  (valued node_sort u j (node_number z.number) st e so.1 z.number_is h.1)
                  ∙ ap (λ v. nodes_where (numbered z.number) (fill c v)) is
                  ∙ child-found c wc.holes_fit.one y.name y.number y.left y.right y.list z.name
                  z.number
                  z.kids z.list y.left_shaped.holes_fit y.right_shaped.holes_fit formed'

              parent-is : first_number (nodes_where (parental z.number) (fill c d))
                  ≡ node_number y.number
              parent-is =
                  ap (λ v. first_number (nodes_where (parental z.number) (fill c v))) is
                  ∙ ap first_number (parent-found c wc.holes_fit.one y.name y.number y.left y.right
                  y.list
                  z.name z.number z.kids z.list y.left_shaped.holes_fit y.right_shaped.holes_fit
                  formed')

  module _ (x : ProgVar) (u f g s i : Term) (p : Formula) (t j : Term) (q : Formula) (m : Term)
      (r : Formula) (l : Term)
      (free : FreeIn (as_var x) (holding_child s i (conjunction p (length_is g)) t j q m r l) → ⊥)
    where
      abbrev counted_family : Formula
      counted_family = holding_child s i (conjunction p (length_is g)) t j q m r l

      pub item-sound : Sorted ps (list_item x u f)
          → TripleFor ps N (conjunction (conjunction counted_family (equality u l)) (equality f g))
          (list_item x u f)
          (conjunction counted_family (equality (variable (as_var x)) j)) tree
      item-sound so e st pr d wd h c wc w picks long =
          parent-met _ (stable-ends tree c (conjunction counted_family
          (equality (variable (as_var x)) j)) e _)
          s i (conjunction p (length_is g)) t j q m r l
          (with_store (lookup st) e) d h.0.0 with_child
        where
          env' : Environment
          env' = with_store (lookup st) e

          with_child : ParentMet s i (conjunction p (length_is g)) t j q m r l env' d
              → Ends ⊥ (Stands tree c (conjunction counted_family
              (equality (variable (as_var x)) j)) e)
              (runs ps picks (beginning (list_item x u f) st (fill c d)))
          with_child y =
              read ps e st tree c wc d wd w counted_family j x (list_item x u f) _ no_list
              (λ s i k l. item_of (value_of st f) k) picks
              (λ k. refl) y.name y.number kids y.list
              (list-there ps e st tree c wc d wd w y.name y.number kids y.list y.is u l h.0.1 so.1
              y.list_is)
              free (λ a. free (inr (inr (inl (inl (inr (inr (inl a)))))))) h.0.0
              (ap val item-is ∙ z.number_is)
            where
              z : NodeMet t j q m env' y.child
              z = node-met t j q m env' y.child y.child_meets

              child : Trees
              child = node z.name z.number z.kids z.list none

              kids : Trees
              kids = beside (beside y.left y.child) y.right

              place-is : value_of st f ≡ int (pos (width y.left))
              place-is = valued int_sort f g (int (pos (width y.left))) st e so.2 y.left_meets.1 h.1

              item-is : item_of (value_of st f) kids ≡ node_number z.number
              item-is =
                  ap (λ v. item_of v kids) place-is
                  ∙ ap (λ v. number_at (width y.left) (beside (beside y.left v) y.right)) z.is
                  ∙ ap (number_at (width y.left)) (beside_assoc y.left child y.right)
                  ∙ number-in y.left z.name z.number z.kids z.list y.right y.left_shaped.holes_fit
