-- A child among the children of a node, in formulas and in groves.
use Rattle.std.proofs.Common.{◌≡◌, ℕ, List, Bool, true, false, cond, refl, sym, ap, ◌∙◌, subst, ⊎_elim, arith}
use Rattle.std.proofs.Math.Decide.{ℕ_discrete}
use mathlib.Core.HLevel.{Stable}
use Rattle.model_shapes.specs.Shapes.{holes, SameAt, Shaped}
use Rattle.model_shapes.specs.Sorts.{shape, tree, forest, grove}
use Rattle.model_shapes.specs.Things.{val}
use Rattle.model_shapes.specs.Trees.{Trees, none, node, hole, beside, width, WellFormed}
use Rattle.model_shapes.specs.Values.{str, node_number, list_number}
use Rattle.model_shapes.proofs.Basics.{beside_assoc, node_uses-beside, list_uses-beside, root_uses-beside, holes-beside, width-beside}
use Rattle.model_shapes.proofs.Cancelling.{node-head}
use Rattle.model_shapes.proofs.Narrow.{no_roots}
use Rattle.model_shapes.proofs.Truth.{false≢true}
use Rattle.model_shapes.proofs.Shapes.{left-Shaped-shape, right-Shaped-shape}
use Rattle.model_terms.specs.Terms.{Term}
use Rattle.model_formulas.specs.Formulas.{Formula, whole, truth, node_formula, concatenation, one_tree}
use Rattle.model_formulas.specs.Satisfaction.{Environment, Meets, meaning_of}
use Rattle.model_groves.specs.Groves.{is_yes, nodes_where, numbered, parental, has_root}
use Rattle.model_machine.proofs.Fine.{less-WellFormed}
use Rattle.triple_laws.proofs.Finding.{has_root-in}
use Rattle.triple_laws.proofs.Moving.{wide, split_at}
use Rattle.triple_laws.proofs.NodesMet.{NodeMet, node-met}
use Rattle.weakest_laws.specs.Table.{among}
use Rattle.weakest_laws.proofs.Cutting.{first-of}

-- what meets ((P * <T#J[Q]%M>) * true)
pub record ChildMet (p : Formula) (t j : Term) (q : Formula) (m : Term) (e : Environment)
    (kids : Trees) : Type 0
  where
    pub left : Trees
    pub right : Trees
    pub name : List ℕ
    pub number : ℕ
    pub below : Trees
    pub list : ℕ
    pub is : kids ≡ beside (beside left (node name number below list none)) right
    pub left_shaped : Shaped (shape forest) left
    pub right_shaped : Shaped (shape forest) right
    pub child_shaped : Shaped (shape tree) (node name number below list none)
    pub left_meets : Meets p e (shape forest) left
    pub name_is : val (str name) ≡ meaning_of e t
    pub number_is : val (node_number number) ≡ meaning_of e j
    pub list_is : val (list_number list) ≡ meaning_of e m

pub child-met : (G : Type 0) → Stable G → (p : Formula) (t j : Term) (q : Formula) (m : Term)
    (e : Environment) (kids : Trees)
    → Meets (among p (node_formula t j q m)) e (shape forest) kids
    → (ChildMet p t j q m e kids → G) → G
child-met G st p t j q m e kids h f =
    st (λ n. h (λ x. x.2 (λ right. right.2.1 (λ z. z.2 (λ child.
    let y : NodeMet t j q m e child.0 = node-met t j q m e child.0 child.2.2.1 in
    n (f (record {
      left = z.0;
      right = right.0;
      name = y.name;
      number = y.number;
      below = y.kids;
      list = y.list;
      is = right.2.0 ∙ ap (λ v. beside v right.0) (child.2.0 ∙ ap (beside z.0) y.is);
      left_shaped = z.1;
      right_shaped = right.1;
      child_shaped = subst (Shaped (shape tree)) y.is child.2.2.0;
      left_meets = child.2.1;
      name_is = y.name_is;
      number_is = y.number_is;
      list_is = y.list_is;
    })))))))

-- and a child that stands there
pub child-meets : (before : Trees) (name : List ℕ) (number : ℕ) (kids : Trees) (list : ℕ)
    (after : Trees) → Shaped (shape forest) (beside before (node name number kids list after))
    → (p : Formula) (t j m : Term) (e : Environment) → Meets p e (shape forest) before
    → val (str name) ≡ meaning_of e t → val (node_number number) ≡ meaning_of e j
    → val (list_number list) ≡ meaning_of e m
    → Meets (among p (node_formula t j truth m)) e (shape forest)
    (beside before (node name number kids list after))
child-meets before name number kids list after w p t j m e mp a b c =
    split_at whole (shape forest) (beside before (node name number kids list after))
    (Meets (concatenation whole p (one_tree (node_formula t j truth m))) e) (Meets truth e)
    (beside before child) after
    (left-Shaped-shape forest (beside before child) after (λ n. tt) no-holes formed)
    (right-Shaped-shape forest (beside before child) after (λ n. tt) no-holes' formed)
    (sym (beside_assoc before child after))
    (split_at whole (shape forest) (beside before child) (Meets p e)
    (Meets (one_tree (node_formula t j truth m)) e) before child
    (left-Shaped-shape forest before (node name number kids list after) (λ n. tt) no-holes''
    w.well_formed)
    (wide forest child (λ v. cc) child-shaped) refl mp (child-shaped, (a, b, c, tt)))
    tt
  where
    child : Trees
    child = node name number kids list none

    formed : WellFormed (beside (beside before child) after)
    formed = subst WellFormed (sym (beside_assoc before child after)) w.well_formed

    all : holes (beside before (node name number kids list after)) ≡ 0
    all = w.holes_fit

    no-holes'' : holes before ≡ 0
    no-holes'' = omega (arith, all, holes-beside before (node name number kids list after))

    no-holes' : holes after ≡ 0
    no-holes' = omega (arith, all, holes-beside before (node name number kids list after))

    no-holes : holes (beside before child) ≡ 0
    no-holes =
        omega (
          arith,
          all,
          holes-beside before (node name number kids list after),
          holes-beside before child,
        )

    child-shaped : Shaped (shape tree) child
    child-shaped = record {
      well_formed = less-WellFormed child (beside before (node name number kids list after))
          (λ n. omega (arith, node_uses-beside n before (node name number kids list after)))
          (λ n. omega (arith, list_uses-beside n before (node name number kids list after)))
          w.well_formed;
      width_fits = refl;
      holes_fit = omega (arith, all, holes-beside before (node name number kids list after));
    }

-- A NODE WITHOUT A PARENT
pub record Orphan (g : Trees) (s : List ℕ) (i : ℕ) (k : Trees) (l : ℕ) : Type 0 where
  pub before : Trees
  pub after : Trees
  pub is : g ≡ beside before (node s i k l after)

-- neither of two lists has a root where both have none
none-left : (a b : Trees) → beside a b ≡ none → a ≡ none
none-left a b e = no_roots a (omega (arith, width-beside a b, ap width e))

none-right : (a b : Trees) → beside a b ≡ none → b ≡ none
none-right a b e = no_roots b (omega (arith, width-beside a b, ap width e))

-- a node without a parent is a root
pub orphan : (n : ℕ) (g : Trees) → nodes_where (parental n) g ≡ none → (s : List ℕ) (i : ℕ)
    (k : Trees) (l : ℕ) (r : Trees) → n ≡ i → nodes_where (numbered n) g ≡ node s i k l r
    → Orphan g s i k l
orphan n none h s i k l r same e = absurd cc
orphan n (hole g) h s i k l r same e = let x : Orphan g s i k l = orphan n g h s i k l r same e in
    record { before = hole x.before; after = x.after; is = ap hole x.is }
orphan n (node s' i' k' l' r') h s i k l r same e =
    by_test (is_yes (ℕ_discrete n i')) e (has_root n k') refl h
    (λ a x b. orphan n k' a s i k l x same b) (λ a x b. orphan n r' a s i k l x same b)
  where
    by_test : (b : Bool)
        → cond b (node s' i' k' l' (nodes_where (numbered n) r'))
        (beside (nodes_where (numbered n) k') (nodes_where (numbered n) r')) ≡ node s i k l r
        → (c : Bool) → has_root n k' ≡ c
        → cond c (node s' i' k' l' (nodes_where (parental n) r'))
        (beside (nodes_where (parental n) k') (nodes_where (parental n) r')) ≡ none
        → (nodes_where (parental n) k' ≡ none → (x : Trees)
        → nodes_where (numbered n) k' ≡ node s i k l x → Orphan k' s i k l)
        → (nodes_where (parental n) r' ≡ none → (x : Trees)
        → nodes_where (numbered n) r' ≡ node s i k l x → Orphan r' s i k l)
        → Orphan (node s' i' k' l' r') s i k l
    by_test b e true c h in_kids in_rest = absurd cc
    by_test true e false c h in_kids in_rest = record {
      before = none;
      after = r';
      is = node-head s' s i' i k' k l' l (nodes_where (numbered n) r') r r' r' e refl;
    }
    by_test false e false c h in_kids in_rest =
        ⊎_elim
        (λ x. let o : Orphan r' s i k l =
        in_rest (none-right (nodes_where (parental n) k') (nodes_where (parental n) r') h) r x.1 in
        record {
          before = node s' i' k' l' o.before;
          after = o.after;
          is = ap (node s' i' k' l') o.is;
        })
        (λ x. let o : Orphan k' s i k l =
        in_kids (none-left (nodes_where (parental n) k') (nodes_where (parental n) r') h) x.0 x.1 in
        false≢true (sym c ∙ ap (has_root n) o.is ∙ ap (λ z. has_root z (beside o.before
        (node s i k l o.after))) same ∙ has_root-in o.before s i k l o.after))
        (first-of (nodes_where (numbered n) k') (nodes_where (numbered n) r') s i k l r e)

-- such a root may stand in front of the others
module _ (before : Trees) (s : List ℕ) (i : ℕ) (k : Trees) (l : ℕ) (after : Trees)
    (w : Shaped (shape grove) (beside before (node s i k l after)))
  where
    pub root-first : SameAt grove (beside before (node s i k l after))
        (beside (node s i k l none) (beside before after))
    root-first t =
        omega (
          arith,
          root_uses-beside t before (node s i k l after),
          root_uses-beside t before after,
        )

    pub others-shaped : Shaped (shape grove) (beside before after)
    others-shaped = record {
      well_formed = less-WellFormed (beside before after) (beside before (node s i k l after))
          (λ n. omega (
            arith,
            node_uses-beside n before after,
            node_uses-beside n before (node s i k l after),
          ))
          (λ n. omega (
            arith,
            list_uses-beside n before after,
            list_uses-beside n before (node s i k l after),
          ))
          w.well_formed;
      width_fits = tt;
      holes_fit = omega (
        arith,
        w.holes_fit,
        holes-beside before after,
        holes-beside before (node s i k l after),
      );
    }
