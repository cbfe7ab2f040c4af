-- What the rows of the moves share: the grove after the move, and a tree taken out of a grove.
use Rattle.std.proofs.Common.{◌≡◌, ℕ, zero, suc, List, inl, inr, refl, sym, subst, ⊎_elim, arith}
use mathlib.Core.HLevel.{Stable}
use Rattle.model_shapes.specs.RootHoles.{root_holes}
use Rattle.model_shapes.specs.Shapes.{holes, SameAt, Shaped}
use Rattle.model_shapes.specs.Sorts.{DataSort, ValueSort, node_sort, shape, context, tree, forest, grove}
use Rattle.model_shapes.specs.Things.{Thing, val, trees, Fits}
use Rattle.model_shapes.specs.Trees.{Trees, none, node, fill, WellFormed}
use Rattle.model_shapes.specs.Values.{node_number, str, list_number}
use Rattle.model_shapes.proofs.Filling.{put-Shaped, outer-WellFormed}
use Rattle.model_shapes.proofs.Shapes.{SameAt-eq, same-WellFormed, one-hole}
use Rattle.model_terms.specs.Variables.{bound, prog}
use Rattle.model_terms.specs.Terms.{Term}
use Rattle.model_terms.specs.Computing.{Computes}
use Rattle.model_terms.specs.Stores.{Store, lookup, value_of}
use Rattle.model_formulas.specs.Formulas.{Formula, truth, empty, one_tree, one_root, hole_adjoint, same_as, value_meets}
use Rattle.model_formulas.specs.Satisfaction.{Environment, Meets, IfTrees, choosing, with_store}
use Rattle.entailment_laws.proofs.Pieces.{put_in}
use Rattle.triple_laws.proofs.Moving.{emptied-WellFormed, nothing-Shaped, wide}
use Rattle.triple_laws.proofs.NodesMet.{NodeMet, node-met}
use Rattle.model_weakest.specs.Weakest.{MeetsWith}
use Rattle.weakest_laws.specs.Table.{at, str_var, list_var, below, moving, some_tree, taken_out}
use Rattle.weakest_laws.proofs.Taking.{below-meets, value-is, stands-for}
use Rattle.weakest_laws.proofs.Cutting.{Cut, positive-list, node-Shaped}

module _ (e : Environment) (st : Store) where
  abbrev here : Environment
  here = with_store (lookup st) e

  -- some grove after the move
  pub moved-in : (G : Type 0) → Stable G → (p q : Formula) (g : Trees)
      → Meets (moving p q) here (shape grove) g
      → ((r : Trees) → Shaped (shape grove) r → Meets p (choosing (trees r) here) (shape grove) g
      → MeetsWith q e st r → G) → G
  moved-in G stable p q g m f = stable (λ n. m (λ r. n (by_thing r.0 r.1 r.2.0 r.2.1)))
    where
      by_thing : (r : Thing) → Fits (shape grove) r → Meets p (choosing r here) (shape grove) g
          → Meets (value_meets (shape grove) (at 0 (shape grove)) (below q)) (choosing r here)
          (shape grove) g → G
      by_thing (val v) fits mp mq = absurd fits
      by_thing (trees r) fits mp mq =
          f r fits mp (subst (λ M. M (shape grove) r) (below-meets q (trees r) here) mq)

  pub move-out : (p q : Formula) (g r : Trees) → Shaped (shape grove) r
      → Meets p (choosing (trees r) here) (shape grove) g → MeetsWith q e st r
      → Meets (moving p q) here (shape grove) g
  move-out p q g r w mp mq = λ n. n (
    trees r,
    w,
    (mp, subst (λ M. M (shape grove) r) (sym (below-meets q (trees r) here)) mq),
  )

-- THE TREE WITH A NUMBER
pub record Numbered (st : Store) (f : Term) (u : Trees) : Type 0 where
  pub name : List ℕ
  pub number : ℕ
  pub kids : Trees
  pub list : ℕ
  pub is : u ≡ node name number kids list none
  pub names : value_of st f ≡ node_number number

module _ (st : Store) (f : Term) (so : Computes node_sort f) (e' : Environment)
    (agree : (x : List ℕ) (u : ValueSort) → e' (prog x u) ≡ val (lookup st x u))
  where
    pub some-tree-met : (G : Type 0) → Stable G → (u : Trees)
        → Meets (some_tree f) e' (shape tree) u → (Numbered st f u → G) → G
    some-tree-met G stable u m g =
        stable (λ n. m (λ t. t.2 (λ l.
        let y : NodeMet (str_var 1) f truth (list_var 0) (choosing l.0 (choosing t.0 e')) u =
        node-met (str_var 1) f truth (list_var 0) (choosing l.0 (choosing t.0 e')) u l.2 in
        n (g (record {
          name = y.name;
          number = y.number;
          kids = y.kids;
          list = y.list;
          is = y.is;
          names = value-is node_sort f st (choosing l.0 (choosing t.0 e')) agree so y.number_is;
        })))))

    pub some-tree-meets : (s : List ℕ) (j : ℕ) (k : Trees) (l : ℕ)
        → Shaped (shape tree) (node s j k l none) → value_of st f ≡ node_number j
        → Meets (some_tree f) e' (shape tree) (node s j k l none)
    some-tree-meets s j k l w names = λ n. n (
      val (str s),
      tt,
      λ n. n (
        val (list_number l),
        positive-list s j k l none w.well_formed,
        (
          refl,
          stands-for node_sort f st (choosing (val (list_number l))
              (choosing (val (str s)) e')) agree so names,
          refl,
          tt,
        ),
      ),
    )

-- A TREE TAKEN OUT
pub record OutOf (x : Formula) (u : Trees) (e : Environment) (g : Trees) : Type 0 where
  pub around : Trees
  pub one : holes around ≡ 1
  pub same : SameAt grove g (fill around u)
  pub emptied : Shaped (shape grove) (fill around none)
  pub meets : Meets x e (shape grove) (fill around none)

module _ (n : ℕ) (x : Formula) (u : Trees) (e : Environment) (g : Trees) (w : WellFormed g) where
  out-of : (h : DataSort) → (h ≡ tree → ⊥) → (c : Trees) → Shaped (context h grove) c
      → (d : Trees) → SameAt grove g (fill c d) → d ≡ u
      → Meets (hole_adjoint (empty h) x) e (context h grove) c → OutOf x u e g
  out-of h not-tree c wc d same is adj = record {
    around = c;
    one = wc.holes_fit.one;
    same = subst (λ z. SameAt grove g (fill c z)) is same;
    emptied = emptied-shaped;
    meets = adj none (nothing-Shaped h not-tree) refl emptied-shaped;
  }
    where
      emptied-shaped : Shaped (shape grove) (fill c none)
      emptied-shaped =
          put-Shaped h grove c none wc (nothing-Shaped h not-tree)
          (emptied-WellFormed c d wc.holes_fit.one (same-WellFormed grove g (fill c d) same w))

  pub taken-out-met : (G : Type 0) → Stable G → e (bound n (shape tree)) ≡ trees u
      → Meets (taken_out (at n (shape tree)) x) e (shape grove) g → (OutOf x u e g → G) → G
  taken-out-met G stable is m f =
      stable (λ no. m (λ o. ⊎_elim
      (λ a. a (λ c. c.2 (λ d. no (f (out-of forest (λ z. cc) c.0 c.1 d.0 d.2.0
      (subst (λ z. IfTrees z (λ t. d.0 ≡ t)) is d.2.2.1) d.2.1)))))
      (λ a. a (λ c. c.2 (λ d. no (f (out-of grove (λ z. cc) c.0 c.1 d.0 d.2.0
      (subst (λ z. IfTrees z (λ t. d.0 ≡ t)) is d.2.2.1) d.2.1)))))
      o))

-- a tree that is cut out of a grove is taken out of it
pub taken-out-meets : (n : ℕ) (x : Formula) (e : Environment) (g : Trees) → Shaped (shape grove) g
    → (s : List ℕ) (j : ℕ) (k : Trees) (l : ℕ) (c : Cut g s j k l)
    → e (bound n (shape tree)) ≡ trees (node s j k l none)
    → Meets x e (shape grove) (fill c.outside none)
    → Meets (taken_out (at n (shape tree)) x) e (shape grove) g
taken-out-meets n x e g w s j k l c is mx = by_place (root_holes c.outside) refl
  where
    tree-shaped : Shaped (shape tree) (node s j k l none)
    tree-shaped = node-Shaped g w s j k l c

    outside-formed : WellFormed c.outside
    outside-formed = outer-WellFormed c.outside (node s j k l none) (subst WellFormed c.is
        w.well_formed)

    same : SameAt grove g (fill c.outside (node s j k l none))
    same = SameAt-eq grove g (fill c.outside (node s j k l none)) c.is

    alone : IfTrees (e (bound n (shape tree))) (λ t. node s j k l none ≡ t)
    alone = subst (λ z. IfTrees z (λ t. node s j k l none ≡ t)) (sym is) refl

    adjoint : (h : DataSort) → Meets (hole_adjoint (empty h) x) e (context h grove) c.outside
    adjoint h d wd empty-d wf = subst (λ z. Meets x e (shape grove) (fill c.outside z))
        (sym empty-d) mx

    by_place : (m : ℕ) → root_holes c.outside ≡ m
        → Meets (taken_out (at n (shape tree)) x) e (shape grove) g
    by_place zero z = λ no. no (inl (put_in forest (shape grove) g (hole_adjoint (empty forest) x)
        (one_tree (same_as (at n (shape tree)))) e c.outside (node s j k l none)
        (record {
          well_formed = outside-formed;
          width_fits = tt;
          holes_fit = one-hole forest grove c.outside c.one (λ y. absurd (omega (arith, y, z)))
              (λ y. refl);
        })
        (wide forest (node s j k l none) (λ v. cc) tree-shaped) same (adjoint forest)
        (tree-shaped, alone)))
    by_place (suc m) z = λ no. no (inr (put_in grove (shape grove) g (hole_adjoint (empty grove) x)
        (one_root (same_as (at n (shape tree)))) e c.outside (node s j k l none)
        (record {
          well_formed = outside-formed;
          width_fits = tt;
          holes_fit = one-hole grove grove c.outside c.one (λ y. refl)
              (λ y. absurd (omega (arith, y, z)));
        })
        (wide grove (node s j k l none) (λ v. cc) tree-shaped) same (adjoint grove)
        (tree-shaped, alone)))
