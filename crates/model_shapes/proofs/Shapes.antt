-- Well-formedness of parts, of wholes and of same groves.
use Rattle.std.proofs.Common.{◌≡◌, ℕ, zero, suc, ◌≤◌, ◌+◌, true, sym, refl, ap, arith, ◌∙◌, subst}
use Rattle.model_shapes.specs.Trees.{Trees, none, node, hole, beside, width, node_uses, list_uses, WellFormed}
use Rattle.model_shapes.specs.Shapes.{holes, may_stand, around_hole, OneHole, Same, SameAt, Shaped, HasWidth, HasHoles}
use Rattle.model_shapes.specs.RootHoles.{root_holes}
use Rattle.model_shapes.specs.Sorts.{Sort, value, shape, context, DataSort, tree, forest, grove, outer, with_outer}
use Rattle.model_shapes.proofs.Basics.{holes-beside, root_holes-beside, width-beside, node_uses-beside, list_uses-beside, root_uses-beside}
use Rattle.model_shapes.proofs.Sameness.{same-count}

-- each thing is the same as itself
SameAt-refl : (k : DataSort) (a : Trees) → SameAt k a a
SameAt-refl tree a = refl
SameAt-refl forest a = refl
SameAt-refl grove a = λ t. refl

pub Same-refl : (s : Sort) (a : Trees) → Same s a a
Same-refl s a = SameAt-refl (outer s) a

-- sameness goes both ways
pub SameAt-sym : (k : DataSort) (a b : Trees) → SameAt k a b → SameAt k b a
SameAt-sym tree a b h = sym h
SameAt-sym forest a b h = sym h
SameAt-sym grove a b h = λ t. sym (h t)

-- sameness goes on
pub SameAt-trans : (k : DataSort) (a b c : Trees) → SameAt k a b → SameAt k b c → SameAt k a c
SameAt-trans tree a b c h g = h ∙ g
SameAt-trans forest a b c h g = h ∙ g
SameAt-trans grove a b c h g = λ t. h t ∙ g t

-- what is equal is the same
pub SameAt-eq : (k : DataSort) (a b : Trees) → a ≡ b → SameAt k a b
SameAt-eq k a b e = subst (SameAt k a) e (SameAt-refl k a)

-- beside keeps sameness
pub SameAt-beside : (k : DataSort) (a b a' b' : Trees) → SameAt k a a' → SameAt k b b'
    → SameAt k (beside a b) (beside a' b')
SameAt-beside tree a b a' b' h g = λ i. beside (h i) (g i)
SameAt-beside forest a b a' b' h g = λ i. beside (h i) (g i)
SameAt-beside grove a b a' b' h g =
    λ t. omega (arith, root_uses-beside t a b, root_uses-beside t a' b', h t, g t)

-- a count is the same for same things
pub same-at : (f : Trees → ℕ) → ((a b : Trees) → f (beside a b) ≡ f a + f b)
    → (k : DataSort) (a b : Trees) → SameAt k a b → f a ≡ f b
same-at f adds tree a b h = ap f h
same-at f adds forest a b h = ap f h
same-at f adds grove a b h = same-count f adds a b h

-- as many roots
pub same-width : (k : DataSort) (a b : Trees) → SameAt k a b → width a ≡ width b
same-width = same-at width width-beside

-- as many holes
pub same-holes : (k : DataSort) (a b : Trees) → SameAt k a b → holes a ≡ holes b
same-holes = same-at holes holes-beside

-- as many holes among the roots
pub same-root_holes : (k : DataSort) (a b : Trees) → SameAt k a b → root_holes a ≡ root_holes b
same-root_holes = same-at root_holes root_holes-beside

-- as many uses of a node number
pub same-node_uses : (n : ℕ) (k : DataSort) (a b : Trees) → SameAt k a b
    → node_uses n a ≡ node_uses n b
same-node_uses n = same-at (node_uses n) (node_uses-beside n)

-- as many uses of a list number
pub same-list_uses : (n : ℕ) (k : DataSort) (a b : Trees) → SameAt k a b
    → list_uses n a ≡ list_uses n b
same-list_uses n = same-at (list_uses n) (list_uses-beside n)

-- what is the same is well formed and of the sort
pub same-WellFormed : (k : DataSort) (a b : Trees) → SameAt k a b → WellFormed a → WellFormed b
same-WellFormed k a b h w = record {
  nodes_once = λ n. omega (arith, w.nodes_once n, same-node_uses n k a b h);
  lists_once = λ n. omega (arith, w.lists_once n, same-list_uses n k a b h);
  no_node_zero = omega (arith, w.no_node_zero, same-node_uses 0 k a b h);
  no_list_zero = omega (arith, w.no_list_zero, same-list_uses 0 k a b h);
}

-- a hole among the roots stands in the whole
around-root : (k : DataSort) (r : Trees) → root_holes r ≡ 1 → around_hole k r ≡ k
around-root k none z = absurd (omega (arith, z))
around-root k (node s i c l r) z = around-root k r z
around-root k (hole r) z = refl

-- and one below them in a forest
around-below : (k : DataSort) (r : Trees) → root_holes r ≡ 0 → around_hole k r ≡ forest
around-below k none z = refl
around-below k (node s i c l r) z = around-below k r z
around-below k (hole r) z = absurd (omega (arith, z))

-- a hole among the roots may stand in the whole
pub hole-root : {h k : DataSort} {r : Trees} → OneHole h k r → root_holes r ≡ 1
    → may_stand h k ≡ true
hole-root {h} {k} {r} o z = subst (λ x. may_stand h x ≡ true) (around-root k r z) o.stands

-- and one below them in a forest
pub hole-below : {h k : DataSort} {r : Trees} → OneHole h k r → root_holes r ≡ 0
    → may_stand h forest ≡ true
hole-below {h} {k} {r} o z = subst (λ x. may_stand h x ≡ true) (around-below k r z) o.stands

-- a hole among the roots is a hole
pub root_holes-le : (a : Trees) → root_holes a ≤ holes a
root_holes-le none = omega arith
root_holes-le (node s i k l r) = omega (arith, root_holes-le r)
root_holes-le (hole r) = omega (arith, root_holes-le r)

-- one hole, by where it stands
pub one-hole : (h k : DataSort) (r : Trees) → holes r ≡ 1
    → (root_holes r ≡ 1 → may_stand h k ≡ true)
    → (root_holes r ≡ 0 → may_stand h forest ≡ true) → OneHole h k r
one-hole h k r o at_root below = at (root_holes r) refl
  where
    at : (n : ℕ) → root_holes r ≡ n → OneHole h k r
    at zero e = record {
      one = o;
      stands = subst (λ x. may_stand h x ≡ true) (sym (around-below k r e)) (below e);
    }
    at (suc n) e =
        let z : root_holes r ≡ 1 = omega (arith, o, e, root_holes-le r) in
        record {
          one = o;
          stands = subst (λ x. may_stand h x ≡ true) (sym (around-root k r z)) (at_root z);
        }

-- the hole is as the sort asks
same-Holed : (s : Sort) (a b : Trees) → Same s a b → HasHoles s a → HasHoles s b
same-Holed (value v) a b h o = o
same-Holed (shape k) a b h o = omega (arith, same-holes k a b h)
same-Holed (context j k) a b h o =
    one-hole j k b (omega (arith, o.one, same-holes k a b h))
    (λ z. hole-root o (omega (arith, same-root_holes k a b h)))
    (λ z. hole-below o (omega (arith, same-root_holes k a b h)))

-- of the sort
pub same-Shaped : (s : Sort) (a b : Trees) → Same s a b → Shaped s a → Shaped s b
same-Shaped s a b h w = record {
  well_formed = same-WellFormed (outer s) a b h w.well_formed;
  width_fits = subst (HasWidth (outer s)) (same-width (outer s) a b h) w.width_fits;
  holes_fit = same-Holed s a b h w.holes_fit;
}

-- the same, where the sort of the whole is named apart
pub same-Shaped-at : (s : Sort) (k : DataSort) (a b : Trees) → SameAt k a b
    → Shaped (with_outer k s) a → Shaped (with_outer k s) b
same-Shaped-at (value v) k a b h w = absurd w.holes_fit
same-Shaped-at (shape j) k a b h w = same-Shaped (shape k) a b h w
same-Shaped-at (context j i) k a b h w = same-Shaped (context j k) a b h w

-- the list in front is well formed
pub left-WellFormed : (a b : Trees) → WellFormed (beside a b) → WellFormed a
left-WellFormed a b w = record {
  nodes_once = λ n. omega (arith, w.nodes_once n, node_uses-beside n a b);
  lists_once = λ n. omega (arith, w.lists_once n, list_uses-beside n a b);
  no_node_zero = omega (arith, w.no_node_zero, node_uses-beside 0 a b);
  no_list_zero = omega (arith, w.no_list_zero, list_uses-beside 0 a b);
}

-- the list behind is well formed
pub right-WellFormed : (a b : Trees) → WellFormed (beside a b) → WellFormed b
right-WellFormed a b w = record {
  nodes_once = λ n. omega (arith, w.nodes_once n, node_uses-beside n a b);
  lists_once = λ n. omega (arith, w.lists_once n, list_uses-beside n a b);
  no_node_zero = omega (arith, w.no_node_zero, node_uses-beside 0 a b);
  no_list_zero = omega (arith, w.no_list_zero, list_uses-beside 0 a b);
}

-- what is given is a forest or a grove
abbrev pub IsList : DataSort → Type 0
IsList k = (n : ℕ) → HasWidth k n

left-Holed : (s : Sort) (a b : Trees) → holes b ≡ 0 → root_holes b ≡ 0 → HasHoles s (beside a b)
    → HasHoles s a
left-Holed (value v) a b z y o = o
left-Holed (shape k) a b z y o = omega (arith, holes-beside a b)
left-Holed (context j k) a b z y o =
    one-hole j k a (omega (arith, o.one, holes-beside a b))
    (λ x. hole-root o (omega (arith, root_holes-beside a b)))
    (λ x. hole-below o (omega (arith, root_holes-beside a b)))

-- the list in front, with the hole if there is one
pub left-Shaped : (s : Sort) (a b : Trees) → IsList (outer s) → holes b ≡ 0 → Shaped s (beside a b)
    → Shaped s a
left-Shaped s a b n z w = record {
  well_formed = left-WellFormed a b w.well_formed;
  width_fits = n (width a);
  holes_fit = left-Holed s a b z (omega (arith, root_holes-le b)) w.holes_fit;
}

-- the list behind, as a shape
pub right-Shaped-shape : (k : DataSort) (a b : Trees) → IsList k → holes b ≡ 0
    → WellFormed (beside a b) → Shaped (shape k) b
right-Shaped-shape k a b n z w = record {
  well_formed = right-WellFormed a b w;
  width_fits = n (width b);
  holes_fit = z;
}

-- the list in front, as a shape
pub left-Shaped-shape : (k : DataSort) (a b : Trees) → IsList k → holes a ≡ 0
    → WellFormed (beside a b) → Shaped (shape k) a
left-Shaped-shape k a b n z w = record {
  well_formed = left-WellFormed a b w;
  width_fits = n (width a);
  holes_fit = z;
}
