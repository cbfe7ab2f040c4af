-- The contexts with one hole by construction are exactly the plain ones of their sort:
-- each gives a plain one, each plain one comes from one, and from one only.
use Rattle.std.proofs.Common.{◌≡◌, ℕ, zero, suc, ◌≤◌, sym, refl, ap, ◌∙◌, arith, List, true}
use Rattle.model_shapes.specs.Trees.{Trees, none, node, hole, beside, fill, width, root_uses, WellFormed}
use Rattle.model_shapes.specs.Shapes.{holes, SameAt, Shaped, OneHole, may_stand}
use Rattle.model_shapes.specs.RootHoles.{root_holes}
use Rattle.model_shapes.specs.Sorts.{context, DataSort, tree, forest, grove}
use Rattle.model_shapes.specs.Contexts.{TreeContext, tree_hole, around_node, ForestContext, between, ForestInner, forest_hole, one_context, GroveContext, grove_hole, root_context, tree_thing, forest_thing, inner_thing, grove_thing, tree_hole_sort, forest_hole_sort, inner_hole_sort, grove_hole_sort, TreeBare, ForestBare, InnerBare, GroveBare, SameContext}
use Rattle.model_shapes.proofs.Truth.{false≢true}
use Rattle.model_shapes.proofs.Basics.{holes-beside, root_holes-beside, root_uses-beside, fill-beside, fill-no_hole}
use Rattle.model_shapes.proofs.Sameness.{SameGrove, picked, one_if_self}
use Rattle.model_shapes.proofs.Shapes.{root_holes-le, hole-root, hole-below, one-hole}
use Rattle.model_shapes.proofs.Narrow.{alone}
use Rattle.model_shapes.proofs.Cancelling.{node-kids, node-rest, node-head}

-- EACH GIVES A PLAIN ONE
mutual
  -- there is one hole
  pub tree-holes : (c : TreeContext) → TreeBare c → holes (tree_thing c) ≡ 1
  tree-holes tree_hole b = refl
  tree-holes (around_node s i f l) b = omega (arith, forest-holes f b)

  -- in a forest context too
  pub forest-holes : (c : ForestContext) → ForestBare c → holes (forest_thing c) ≡ 1
  forest-holes (between a x r) b =
      omega (
        arith,
        holes-beside a (beside (inner_thing x) r),
        holes-beside (inner_thing x) r,
        b.0,
        inner-holes x b.1,
        b.2,
      )

  -- and in an inner part
  pub inner-holes : (x : ForestInner) → InnerBare x → holes (inner_thing x) ≡ 1
  inner-holes forest_hole b = refl
  inner-holes (one_context c) b = tree-holes c b

mutual
  -- the hole may stand in a forest
  pub tree-stands : (c : TreeContext) → may_stand (tree_hole_sort c) forest ≡ true
  tree-stands tree_hole = refl
  tree-stands (around_node s i f l) = forest-stands f

  -- of a forest context too
  pub forest-stands : (c : ForestContext) → may_stand (forest_hole_sort c) forest ≡ true
  forest-stands (between a x r) = inner-stands x

  -- and of an inner part
  pub inner-stands : (x : ForestInner) → may_stand (inner_hole_sort x) forest ≡ true
  inner-stands forest_hole = refl
  inner-stands (one_context c) = tree-stands c

-- the hole of a tree context may stand where it stands
pub tree-hole : (c : TreeContext) → TreeBare c → OneHole (tree_hole_sort c) tree (tree_thing c)
tree-hole tree_hole b = record { one = refl; stands = refl }
tree-hole (around_node s i f l) b =
    record { one = tree-holes (around_node s i f l) b; stands = forest-stands f }

-- that of a forest context too
pub forest-hole : (c : ForestContext) → ForestBare c
    → OneHole (forest_hole_sort c) forest (forest_thing c)
forest-hole c b =
    one-hole _ _ _ (forest-holes c b) (λ z. forest-stands c) (λ z. forest-stands c)

tree-in_grove : (c : TreeContext) (r : Trees) → holes r ≡ 0
    → root_holes (beside (tree_thing c) r) ≡ 1 → may_stand (tree_hole_sort c) grove ≡ true
tree-in_grove tree_hole r b z = refl
tree-in_grove (around_node s i f l) r b z = absurd (omega (arith, z, root_holes-le r))

-- and that of a grove context
pub grove-hole : (c : GroveContext) → GroveBare c
    → OneHole (grove_hole_sort c) grove (grove_thing c)
grove-hole (grove_hole r) b = record { one = omega (arith, b); stands = refl }
grove-hole (root_context c r) b =
    one-hole _ _ _ (omega (arith, holes-beside (tree_thing c) r, tree-holes c b.0, b.1))
    (λ z. tree-in_grove c r b.1 z) (λ z. tree-stands c)

tree-width : (c : TreeContext) → width (tree_thing c) ≡ 1
tree-width tree_hole = refl
tree-width (around_node s i f l) = refl

-- a tree context is a plain one
pub tree-plain : (c : TreeContext) → TreeBare c → WellFormed (tree_thing c)
    → Shaped (context (tree_hole_sort c) tree) (tree_thing c)
tree-plain c b w =
    record { well_formed = w; width_fits = tree-width c; holes_fit = tree-hole c b }

-- a forest context is a plain one
pub forest-plain : (c : ForestContext) → ForestBare c → WellFormed (forest_thing c)
    → Shaped (context (forest_hole_sort c) forest) (forest_thing c)
forest-plain c b w = record { well_formed = w; width_fits = tt; holes_fit = forest-hole c b }

-- a grove context is a plain one
pub grove-plain : (c : GroveContext) → GroveBare c → WellFormed (grove_thing c)
    → Shaped (context (grove_hole_sort c) grove) (grove_thing c)
grove-plain c b w = record { well_formed = w; width_fits = tt; holes_fit = grove-hole c b }

-- EACH PLAIN ONE COMES FROM ONE
-- a forest context that stands for the list
abbrev pub InForest : DataSort → Trees → Type 0
InForest h r =
    (c : ForestContext) × (forest_thing c ≡ r) × (forest_hole_sort c ≡ h) × ForestBare c

-- a hole of this sort as an inner part of a forest
hole_part : (h : DataSort) → may_stand h forest ≡ true
    → (x : ForestInner) × (inner_thing x ≡ hole none) × (inner_hole_sort x ≡ h) × InnerBare x
hole_part tree e = (one_context tree_hole, refl, refl, tt)
hole_part forest e = (forest_hole, refl, refl, tt)
hole_part grove e = false≢true e

-- a list with one hole comes from a forest context
pub in_forest : (h : DataSort) (r : Trees) → may_stand h forest ≡ true → holes r ≡ 1 → InForest h r
in_forest h none e o = absurd (omega arith)
in_forest h (hole r) e o =
    let x : (x : ForestInner) × (inner_thing x ≡ hole none) × (inner_hole_sort x ≡ h)
    × InnerBare x = hole_part h e in
    (between none x.0 r, ap (λ z. beside z r) x.1, x.2, (refl, x.3, omega (arith, o)))
in_forest h (node s i k l r) e o = by_holes (holes k) refl (in_forest h k e) (in_forest h r e)
  where
    by_holes : (n : ℕ) → holes k ≡ n → (holes k ≡ 1 → InForest h k) → (holes r ≡ 1 → InForest h r)
        → InForest h (node s i k l r)
    by_holes zero z ink inrest = later (inrest (omega arith))
      where
        later : InForest h r → InForest h (node s i k l r)
        later (between a x b, eq, so, bare) = (
          between (node s i k l a) x b,
          ap (node s i k l) eq,
          so,
          (omega (arith, z, bare.0), bare.1, bare.2),
        )
    by_holes (suc n) z ink inrest =
        let c : InForest h k = ink (omega arith) in (
          between none (one_context (around_node s i c.0 l)) r,
          ap (λ w. node s i w l r) c.1,
          c.2,
          (refl, c.3, omega (arith, o, z)),
        )

-- a plain forest context comes from a forest context
pub from_forest : (h : DataSort) (r : Trees) → Shaped (context h forest) r → InForest h r
from_forest h r w = in_forest h r (stands (root_holes r) refl) w.holes_fit.one
  where
    stands : (n : ℕ) → root_holes r ≡ n → may_stand h forest ≡ true
    stands zero e = hole-below w.holes_fit e
    stands (suc n) e = hole-root w.holes_fit (omega (arith, e, w.holes_fit.one, root_holes-le r))

-- a plain tree context comes from a tree context
pub in_tree : (h : DataSort) (r : Trees) → Shaped (context h tree) r
    → (c : TreeContext) × (tree_thing c ≡ r) × (tree_hole_sort c ≡ h) × TreeBare c
in_tree h none w = absurd (omega (arith, w.width_fits))
in_tree h (hole none) w = by_sort h w.holes_fit.stands
  where
    by_sort : (h : DataSort) → may_stand h tree ≡ true
        → (c : TreeContext) × (tree_thing c ≡ hole none) × (tree_hole_sort c ≡ h) × TreeBare c
    by_sort tree e = (tree_hole, refl, refl, tt)
    by_sort forest e = false≢true e
    by_sort grove e = false≢true e
in_tree h (hole (node s i k l r)) w = absurd (omega (arith, w.width_fits))
in_tree h (hole (hole r)) w = absurd (omega (arith, w.width_fits))
in_tree h (node s i k l none) w =
    let c : InForest h k = in_forest h k w.holes_fit.stands (omega (arith, w.holes_fit.one)) in
    (around_node s i c.0 l, ap (λ z. node s i z l none) c.1, c.2, c.3)
in_tree h (node s i k l (hole r)) w = absurd (omega (arith, w.width_fits))
in_tree h (node s i k l (node s' i' k' l' r)) w = absurd (omega (arith, w.width_fits))

-- one root that is a hole, or that has the hole among its children
abbrev pub Marked : Trees → Type 0
Marked (hole none) = Unit
Marked (node s i k l none) = holes k ≡ 1
Marked t = ⊥

-- the root with the hole, and the roots before and after it
record Marking (r : Trees) : Type 0 where
  before : Trees
  root : Trees
  after : Trees
  marked : Marked root
  is : r ≡ beside before (beside root after)
  none_before : holes before ≡ 0
  none_after : holes after ≡ 0

marking : (r : Trees) → holes r ≡ 1 → Marking r
marking none o = absurd (omega arith)
marking (hole r) o = record {
  before = none;
  root = hole none;
  after = r;
  marked = tt;
  is = refl;
  none_before = refl;
  none_after = omega (arith, o);
}
marking (node s i k l r) o = by_holes (holes k) refl (marking r)
  where
    by_holes : (n : ℕ) → holes k ≡ n → (holes r ≡ 1 → Marking r) → Marking (node s i k l r)
    by_holes zero z rec =
        let m : Marking r = rec (omega arith) in
        record {
          before = node s i k l m.before;
          root = m.root;
          after = m.after;
          marked = m.marked;
          is = ap (node s i k l) m.is;
          none_before = omega (arith, z, m.none_before);
          none_after = m.none_after;
        }
    by_holes (suc n) z rec = record {
      before = none;
      root = node s i k l none;
      after = r;
      marked = omega (arith, z, o);
      is = refl;
      none_before = refl;
      none_after = omega (arith, z, o);
    }

-- the root with the hole may stand first
fronted : (a t b : Trees) → SameAt grove (beside a (beside t b)) (beside t (beside a b))
fronted a t b u =
    omega (
      arith,
      root_uses-beside u a (beside t b),
      root_uses-beside u t b,
      root_uses-beside u t (beside a b),
      root_uses-beside u a b,
    )

-- a grove context that stands for the same grove
abbrev pub InGrove : DataSort → Trees → Type 0
InGrove h r =
    (c : GroveContext) × SameAt grove r (grove_thing c) × (grove_hole_sort c ≡ h) × GroveBare c

grove_from : (h : DataSort) (r a t b : Trees) → OneHole h grove r → Marked t
    → (r ≡ beside a (beside t b)) → holes a ≡ 0 → holes b ≡ 0 → InGrove h r
grove_from h r a (hole none) b o m e za zb = by_sort h (hole-root o root)
  where
    root : root_holes r ≡ 1
    root =
        omega (
          arith,
          ap root_holes e,
          root_holes-beside a (hole b),
          root_holes-le a,
          root_holes-le b,
        )

    bare : holes (beside a b) ≡ 0
    bare = omega (arith, holes-beside a b)

    same : SameAt grove r (hole (beside a b))
    same u = ap (root_uses u) e ∙ fronted a (hole none) b u

    by_sort : (h : DataSort) → may_stand h grove ≡ true → InGrove h r
    by_sort tree z = (root_context tree_hole (beside a b), same, refl, (tt, bare))
    by_sort forest z = false≢true z
    by_sort grove z = (grove_hole (beside a b), same, refl, bare)
grove_from h r a (node s i k l none) b o zk e za zb =
    let none_at_root : root_holes r ≡ 0 =
    omega (
      arith,
      ap root_holes e,
      root_holes-beside a (node s i k l b),
      root_holes-le a,
      root_holes-le b,
    ) in
    let c : InForest h k = in_forest h k (hole-below o none_at_root) zk in (
      root_context (around_node s i c.0 l) (beside a b),
      (λ u. ap (root_uses u) e ∙ fronted a (node s i k l none) b u
          ∙ ap (λ z. root_uses u (node s i z l (beside a b))) (sym c.1)),
      c.2,
      (c.3, omega (arith, holes-beside a b)),
    )
grove_from h r a t b o m e za zb = absurd m

-- a plain grove context comes from a grove context, up to the order of roots
pub in_grove : (h : DataSort) (r : Trees) → Shaped (context h grove) r → InGrove h r
in_grove h r w =
    let m : Marking r = marking r w.holes_fit.one in
    grove_from h r m.before m.root m.after w.holes_fit m.marked m.is m.none_before m.none_after

-- AND FROM ONE ONLY
-- the root with the hole is found in one way
record Alike (a a' t t' b b' : Trees) : Type 0 where
  before : a ≡ a'
  root : t ≡ t'
  after : b ≡ b'

first-alike : (t t' b b' : Trees) → Marked t → Marked t' → beside t b ≡ beside t' b'
    → Alike none none t t' b b'
first-alike (hole none) (hole none) b b' m m' e =
    record { before = refl; root = refl; after = cc }
first-alike (hole none) (node s i k l none) b b' m m' e = absurd (cc)
first-alike (node s i k l none) (hole none) b b' m m' e = absurd (cc)
first-alike (node s i k l none) (node s' i' k' l' none) b b' m m' e =
    record { before = refl; root = cc; after = cc }
first-alike (hole none) t' b b' m m' e = absurd m'
first-alike (node s i k l none) t' b b' m m' e = absurd m'
first-alike t t' b b' m m' e = absurd m

-- a node without a hole isn't the root with the hole
not-marked : (t b : Trees) (s : List ℕ) (i : ℕ) (k : Trees) (l : ℕ) (r : Trees) → Marked t
    → holes k ≡ 0 → beside t b ≡ node s i k l r → ⊥
not-marked (hole none) b s i k l r m z e = cc
not-marked (node s' i' k' l' none) b s i k l r o z e =
    omega (arith, o, z, ap holes (node-kids s' s i' i k' k l' l b r e))
not-marked t b s i k l r m z e = m

alike : (a a' t t' b b' : Trees) → holes a ≡ 0 → holes a' ≡ 0 → Marked t → Marked t'
    → beside a (beside t b) ≡ beside a' (beside t' b') → Alike a a' t t' b b'
alike none none t t' b b' z z' m m' e = first-alike t t' b b' m m' e
alike none (node s i k l a') t t' b b' z z' m m' e =
    absurd (not-marked t b s i k l (beside a' (beside t' b')) m (omega (arith, z')) e)
alike (node s i k l a) none t t' b b' z z' m m' e =
    absurd (not-marked t' b' s i k l (beside a (beside t b)) m' (omega (arith, z)) (sym e))
alike (node s i k l a) (node s' i' k' l' a') t t' b b' z z' m m' e =
    let r : Trees = beside a (beside t b) in
    let r' : Trees = beside a' (beside t' b') in
    let x : Alike a a' t t' b b' =
    alike a a' t t' b b' (omega (arith, z)) (omega (arith, z')) m m'
    (node-rest s s' i i' k k' l l' r r' e) in
    record {
      before = node-head s s' i i' k k' l l' r r' a a' e x.before;
      root = x.root;
      after = x.after;
    }
alike (hole a) a' t t' b b' z z' m m' e = absurd (omega arith)
alike none (hole a') t t' b b' z z' m m' e = absurd (omega arith)
alike (node s i k l a) (hole a') t t' b b' z z' m m' e = absurd (omega arith)

-- a tree context is a root with the hole
pub tree-marked : (c : TreeContext) → TreeBare c → Marked (tree_thing c)
tree-marked tree_hole b = tt
tree-marked (around_node s i f l) b = forest-holes f b

inner-marked : (x : ForestInner) → InnerBare x → Marked (inner_thing x)
inner-marked forest_hole b = tt
inner-marked (one_context c) b = tree-marked c b

mutual
  -- equal plain contexts with holes of one sort come from one tree context
  pub tree-once : (c c' : TreeContext) → TreeBare c → TreeBare c' → tree_thing c ≡ tree_thing c'
      → tree_hole_sort c ≡ tree_hole_sort c' → c ≡ c'
  tree-once tree_hole tree_hole b b' e h = refl
  tree-once tree_hole (around_node s i f l) b b' e h = absurd (cc)
  tree-once (around_node s i f l) tree_hole b b' e h = absurd (cc)
  tree-once (around_node s i f l) (around_node s' i' f' l') b b' e h =
      around s s' i i' f f' l l' e
      (forest-once f f' b b'
      (node-kids s s' i i' (forest_thing f) (forest_thing f') l l' none none e) h)
    where
      around : (s s' : List ℕ) (i i' : ℕ) (f f' : ForestContext) (l l' : ℕ)
          → node s i (forest_thing f) l none ≡ node s' i' (forest_thing f') l' none → f ≡ f'
          → around_node s i f l ≡ around_node s' i' f' l'
      around s s' i i' f f' l l' e q = cc

  -- equal plain contexts with holes of one sort come from one forest context
  pub forest-once : (c c' : ForestContext) → ForestBare c → ForestBare c'
      → forest_thing c ≡ forest_thing c' → forest_hole_sort c ≡ forest_hole_sort c' → c ≡ c'
  forest-once (between a x r) (between a' x' r') b b' e h =
      let same : Alike a a' (inner_thing x) (inner_thing x') r r' =
      alike a a' (inner_thing x) (inner_thing x') r r' b.0 b'.0 (inner-marked x b.1)
      (inner-marked x' b'.1) e in
      let inner : x ≡ x' = inner-once x x' b.1 b'.1 same.root h in
      λ j. between (same.before j) (inner j) (same.after j)

  inner-once : (x x' : ForestInner) → InnerBare x → InnerBare x' → inner_thing x ≡ inner_thing x'
      → inner_hole_sort x ≡ inner_hole_sort x' → x ≡ x'
  inner-once forest_hole forest_hole b b' e h = refl
  inner-once forest_hole (one_context tree_hole) b b' e h = absurd (cc)
  inner-once forest_hole (one_context (around_node s i f l)) b b' e h = absurd (cc)
  inner-once (one_context tree_hole) forest_hole b b' e h = absurd (cc)
  inner-once (one_context (around_node s i f l)) forest_hole b b' e h = absurd (cc)
  inner-once (one_context c) (one_context c') b b' e h = ap one_context (tree-once c c' b b' e h)

mutual
  not-grove : (c : TreeContext) → tree_hole_sort c ≡ grove → ⊥
  not-grove tree_hole e = cc
  not-grove (around_node s i f l) e = not-grove-forest f e

  not-grove-forest : (c : ForestContext) → forest_hole_sort c ≡ grove → ⊥
  not-grove-forest (between a x r) e = not-grove-inner x e

  not-grove-inner : (x : ForestInner) → inner_hole_sort x ≡ grove → ⊥
  not-grove-inner forest_hole e = cc
  not-grove-inner (one_context c) e = not-grove c e

one-root : (c : TreeContext) → width (tree_thing c) ≡ 1
one-root tree_hole = refl
one-root (around_node s i f l) = refl

-- the root with the hole isn't among roots without one
not-among : (t r : Trees) → holes t ≡ 1 → holes r ≡ 0 → 1 ≤ root_uses t r → ⊥
not-among t r o z h =
    let x : (l : Trees) × (q : Trees) × (r ≡ beside l (beside t q)) = picked t r h in
    omega (arith, ap holes x.2, holes-beside x.0 (beside t x.1), holes-beside t x.1, o, z)

same-root : (t t' r r' : Trees) → width t ≡ 1 → width t' ≡ 1 → holes t ≡ 1 → holes r' ≡ 0
    → SameGrove (beside t r) (beside t' r') → root_uses t t ≡ 1 → t ≡ t'
same-root t t' r r' w w' o z same self = by_uses (root_uses t r') refl
  where
    by_uses : (n : ℕ) → root_uses t r' ≡ n → t ≡ t'
    by_uses (suc n) e = absurd (not-among t r' o z (omega (arith, e)))
    by_uses zero e =
        let x : (l : Trees) × (q : Trees) × (t' ≡ beside l (beside t q)) =
        picked t t'
        (omega (arith, e, self, same t, root_uses-beside t t r, root_uses-beside t t' r')) in
        alone t x.0 x.1 t' w x.2 w'

marked-self : (t : Trees) → Marked t → root_uses t t ≡ 1
marked-self (hole none) m = omega (arith, one_if_self (hole none))
marked-self (node s i k l none) m = omega (arith, one_if_self (node s i k l none))
marked-self t m = absurd m

-- grove contexts with holes of one sort are the same exactly where their plain ones are
pub grove-once : (c c' : GroveContext) → GroveBare c → GroveBare c'
    → grove_hole_sort c ≡ grove_hole_sort c' → SameAt grove (grove_thing c) (grove_thing c')
    → SameContext c c'
grove-once (grove_hole r) (grove_hole r') b b' h same = λ u. omega (arith, same u)
grove-once (grove_hole r) (root_context c' r') b b' h same = not-grove c' (sym h)
grove-once (root_context c r) (grove_hole r') b b' h same = not-grove c h
grove-once (root_context c r) (root_context c' r') b b' h same =
    let root : tree_thing c ≡ tree_thing c' =
    same-root (tree_thing c) (tree_thing c') r r' (one-root c) (one-root c')
    (tree-holes c b.0) b'.1 same (marked-self (tree_thing c) (tree-marked c b.0)) in (
      tree-once c c' b.0 b'.0 root h,
      (λ u. omega (
        arith,
        same u,
        root_uses-beside u (tree_thing c) r,
        root_uses-beside u (tree_thing c') r',
        ap (root_uses u) root,
      )),
    )

-- and the same grove contexts give the same groves with a hole
pub same-context : (c c' : GroveContext) → SameContext c c'
    → SameAt grove (grove_thing c) (grove_thing c')
same-context (grove_hole r) (grove_hole r') s = λ u. omega (arith, s u)
same-context (grove_hole r) (root_context c' r') s = absurd s
same-context (root_context c r) (grove_hole r') s = absurd s
same-context (root_context c r) (root_context c' r') s = λ u.
    omega (
      arith,
      root_uses-beside u (tree_thing c) r,
      root_uses-beside u (tree_thing c') r',
      ap (λ z. root_uses u (tree_thing z)) s.0,
      s.1 u,
    )

-- FILLING, CASE BY CASE
-- a forest put between two forests
pub fill-between : (a x r d : Trees) → holes a ≡ 0 → holes r ≡ 0
    → fill (beside a (beside x r)) d ≡ beside a (beside (fill x d) r)
fill-between a x r d z z' =
    fill-beside a (beside x r) d ∙ ap (λ q. beside q (fill (beside x r) d)) (fill-no_hole a d z)
    ∙ ap (beside a) (fill-beside x r d ∙ ap (beside (fill x d)) (fill-no_hole r d z'))

-- a grove put before the rest of the roots
pub fill-before : (r d : Trees) → holes r ≡ 0 → fill (hole r) d ≡ beside d r
fill-before r d z = ap (beside d) (fill-no_hole r d z)

-- one root filled, and the rest of the roots
pub fill-root : (x r d : Trees) → holes r ≡ 0 → fill (beside x r) d ≡ beside (fill x d) r
fill-root x r d z = fill-beside x r d ∙ ap (beside (fill x d)) (fill-no_hole r d z)
