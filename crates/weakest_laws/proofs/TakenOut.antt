-- A node that stands outside a tree stays where the tree is taken out, with what is left of its
-- children.
use Rattle.std.proofs.Common.{◌≡◌, ℕ, zero, suc, ◌≤◌, ◌*◌, List, Bool, true, false, cond, ◌||◌, refl, sym, ap, ◌∙◌, subst, arith}
use Rattle.std.proofs.Math.Decide.{ℕ_discrete}
use Rattle.model_shapes.specs.Shapes.{holes, Shaped}
use Rattle.model_shapes.specs.Sorts.{shape, grove}
use Rattle.model_shapes.specs.Trees.{Trees, none, node, hole, beside, fill, node_uses, WellFormed}
use Rattle.model_shapes.proofs.Basics.{node_uses-fill}
use Rattle.model_groves.specs.Groves.{is_yes, nodes_where, numbered, has_root, without}
use Rattle.model_groves.proofs.Groves.{without-beside, node-taken-out, list-taken-out, holes-taken-out}
use Rattle.model_groves.proofs.InContext.{context-apart}
use Rattle.model_machine.proofs.Fine.{less-WellFormed}
use Rattle.triple_laws.proofs.Finding.{found-in}
use Rattle.triple_laws.proofs.Here.{uses-here}
use Rattle.weakest_laws.proofs.Cutting.{Cut, cut}

-- a decision of a fact that doesn't hold
pub is-no : {A : Type 0} (d : Dec A) → (A → ⊥) → is_yes d ≡ false
is-no (yes a) n = absurd (n a)
is-no (no m) n = refl

-- the tree is taken out of the context, and of what stands in the hole
pub without-both : (n : ℕ) (d c : Trees) → without n (fill c d) ≡ fill (without n c) (without n d)
without-both n d none = refl
without-both n d (node s i k l r) =
    by_test (is_yes (ℕ_discrete n i)) (without-both n d k) (without-both n d r)
  where
    by_test : (b : Bool) → without n (fill k d) ≡ fill (without n k) (without n d)
        → without n (fill r d) ≡ fill (without n r) (without n d)
        → cond b (without n (fill r d)) (node s i (without n (fill k d)) l (without n (fill r d)))
        ≡ fill (cond b (without n r) (node s i (without n k) l (without n r))) (without n d)
    by_test true x y = y
    by_test false x y = λ j. node s i (x j) l (y j)
without-both n d (hole r) =
    without-beside n d (fill r d) ∙ ap (beside (without n d)) (without-both n d r)

-- a root of another number stays
pub root-stays : (q j : ℕ) (a : Trees) → (j ≡ q → ⊥) → has_root q (without j a) ≡ has_root q a
root-stays q j none n = refl
root-stays q j (hole r) n = root-stays q j r n
root-stays q j (node s i k l r) n = by_test (ℕ_discrete j i) (root-stays q j r n)
  where
    by_test : (d : Dec (j ≡ i)) → has_root q (without j r) ≡ has_root q r
        → has_root q (cond (is_yes d) (without j r) (node s i (without j k) l (without j r)))
        ≡ (is_yes (ℕ_discrete q i) || has_root q r)
    by_test (yes x) e =
        e ∙ ap (λ b. b || has_root q r) (sym (is-no (ℕ_discrete q i) (λ y. n (x ∙ sym y))))
    by_test (no x) e = ap (λ b. is_yes (ℕ_discrete q i) || b) e

-- what is left is well formed
pub less-Shaped : (j : ℕ) (g : Trees) → Shaped (shape grove) g → Shaped (shape grove) (without j g)
less-Shaped j g w = record {
  well_formed = less-WellFormed (without j g) g (λ m. omega (arith, node-taken-out m j g))
      (λ m. omega (arith, list-taken-out m j g)) w.well_formed;
  width_fits = tt;
  holes_fit = omega (arith, holes-taken-out j g, w.holes_fit);
}

module _ (j : ℕ) (g : Trees) (w : Shaped (shape grove) g) (s : List ℕ) (i : ℕ) (k : Trees) (l : ℕ)
    (there : nodes_where (numbered i) g ≡ node s i k l none)
    (outside-tree : node_uses i (nodes_where (numbered j) g) ≡ 0)
  where
    abbrev at : Trees
    at = node s i k l none

    at-node : Cut g s i k l
    at-node = cut (numbered i) g w.holes_fit s i k l none there

    abbrev round : Trees
    round = at-node.outside

    formed : WellFormed (fill round at)
    formed = subst WellFormed at-node.is w.well_formed

    used : 1 ≤ node_uses i (without j g)
    used = omega (
      arith,
      node-taken-out i j g,
      outside-tree,
      ap (node_uses i) at-node.is,
      node_uses-fill i round at,
      ap (λ z. z * node_uses i at) at-node.one,
      uses-here s i k l,
    )

    differ : j ≡ i → ⊥
    differ e = omega (
      arith,
      outside-tree,
      ap (λ z. node_uses i (nodes_where (numbered z) g)) e,
      ap (node_uses i) there,
      uses-here s i k l,
    )

    less-is : without j g ≡ fill (without j round) (node s i (without j k) l none)
    less-is =
        ap (without j) at-node.is ∙ without-both j at round
        ∙ ap (λ b. fill (without j round) (cond b none (node s i (without j k) l none)))
        (is-no (ℕ_discrete j i) differ)

    -- the hole isn't in the tree
    one-left : holes (without j round) ≡ 1
    one-left = by_number (holes (without j round)) refl
      where
        by_number : (h : ℕ) → holes (without j round) ≡ h → h ≡ 1
        by_number zero e = absurd (omega (
          arith,
          used,
          ap (node_uses i) less-is,
          node_uses-fill i (without j round) (node s i (without j k) l none),
          ap (λ z. z * node_uses i (node s i (without j k) l none)) e,
          node-taken-out i j round,
          context-apart i round at at-node.one formed (uses-here s i k l),
        ))
        by_number (suc zero) e = refl
        by_number (suc (suc h)) e =
            absurd (omega (arith, e, holes-taken-out j round, at-node.one))

    pub cut-less : Cut (without j g) s i (without j k) l
    cut-less = record { outside = without j round; is = less-is; one = one-left }

    pub found-less : nodes_where (numbered i) (without j g) ≡ node s i (without j k) l none
    found-less =
        ap (nodes_where (numbered i)) less-is
        ∙ found-in (without j round) s i (without j k) l one-left
        (subst WellFormed less-is (less-Shaped j g w).well_formed)
