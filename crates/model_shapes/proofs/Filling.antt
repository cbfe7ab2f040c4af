-- Filling keeps sameness, and gives something well formed of the right sort.
-- A hole for a grove stands among the roots, and nowhere else.
use Rattle.std.proofs.Common.{◌≡◌, ℕ, zero, suc, ◌*◌, ◌+◌, sym, refl, ap, arith, ◌∙◌, subst, true, false}
use Rattle.model_shapes.specs.Trees.{Trees, none, node, hole, beside, fill, width, root_uses, node_uses, list_uses, one_if, trees_eq, WellFormed}
use Rattle.model_shapes.specs.Shapes.{holes, SameAt, Shaped, OneHole, HasWidth, may_stand}
use Rattle.model_shapes.specs.RootHoles.{root_holes}
use Rattle.model_shapes.specs.Sorts.{Sort, value, shape, context, with_outer, DataSort, tree, forest, grove}
use Rattle.model_shapes.proofs.Basics.{root_uses-beside, fill-beside, fill-no_hole, holes-fill, root_holes-fill, width-fill, fill-fill, node_uses-fill, list_uses-fill}
use Rattle.model_shapes.proofs.Truth.{false≢true}
use Rattle.model_shapes.proofs.Sameness.{same-count}
use Rattle.model_shapes.proofs.Shapes.{SameAt-eq, root_holes-le, hole-root, hole-below, one-hole}

-- the same contexts, filled, are the same
pub fill-left : (k : DataSort) (a b d : Trees) → SameAt k a b → SameAt k (fill a d) (fill b d)
fill-left tree a b d h = ap (λ x. fill x d) h
fill-left forest a b d h = ap (λ x. fill x d) h
fill-left grove a b d h = λ t. same-count (λ x. root_uses t (fill x d)) (adds t) a b h
  where
    adds : (t x y : Trees)
        → root_uses t (fill (beside x y) d) ≡ root_uses t (fill x d) + root_uses t (fill y d)
    adds t x y = ap (root_uses t) (fill-beside x y d) ∙ root_uses-beside t (fill x d) (fill y d)

-- with no hole below the roots, one piece may be exchanged for another
pub swap_in : (t c d d' : Trees) → holes c ≡ root_holes c
    → root_uses t (fill c d) + root_holes c * root_uses t d'
    ≡ root_uses t (fill c d') + root_holes c * root_uses t d
swap_in t none d d' h = omega arith
swap_in t (node s i k l r) d d' h =
    let zk : holes k ≡ 0 = omega (arith, root_holes-le r) in
    let e : fill k d ≡ fill k d' = fill-no_hole k d zk ∙ sym (fill-no_hole k d' zk) in
    omega (
      arith,
      swap_in t r d d' (omega (arith, root_holes-le r)),
      ap (λ x. one_if (trees_eq t (node s i x l none))) e,
    )
swap_in t (hole r) d d' h =
    omega (
      arith,
      swap_in t r d d' (omega arith),
      root_uses-beside t d (fill r d),
      root_uses-beside t d' (fill r d'),
    )

-- a hole for a grove is not below the roots
pub grove_hole : (k : DataSort) (c : Trees) → OneHole grove k c → holes c ≡ root_holes c
grove_hole k c o = by_root_holes (root_holes c) refl
  where
    by_root_holes : (n : ℕ) → root_holes c ≡ n → holes c ≡ root_holes c
    by_root_holes zero e = absurd (false≢true (hole-below o e))
    by_root_holes (suc n) e = omega (arith, o.one, root_holes-le c)

-- so it is among the roots
pub grove_root : (k : DataSort) (c : Trees) → OneHole grove k c → root_holes c ≡ 1
grove_root k c o = omega (arith, grove_hole k c o, o.one)

fill-right-grove : (k : DataSort) (c a b : Trees) → OneHole grove k c → SameAt grove a b
    → SameAt k (fill c a) (fill c b)
fill-right-grove tree c a b o h = false≢true (hole-root o (grove_root tree c o))
fill-right-grove forest c a b o h = false≢true (hole-root o (grove_root forest c o))
fill-right-grove grove c a b o h = λ t.
    omega (arith, swap_in t c a b (grove_hole grove c o), ap (λ x. root_holes c * x) (h t))

-- putting the same into a context gives the same
pub fill-right : (h k : DataSort) (c a b : Trees) → OneHole h k c → SameAt h a b
    → SameAt k (fill c a) (fill c b)
fill-right tree k c a b o h = SameAt-eq k (fill c a) (fill c b) (ap (fill c) h)
fill-right forest k c a b o h = SameAt-eq k (fill c a) (fill c b) (ap (fill c) h)
fill-right grove k c a b o h = fill-right-grove k c a b o h

-- a hole that may not stand among the roots of a tree is below them
no_root : (h : DataSort) (c : Trees) → OneHole h tree c → may_stand h tree ≡ false
    → root_holes c ≡ 0
no_root h c o not = by_root_holes (root_holes c) refl
  where
    by_root_holes : (m : ℕ) → root_holes c ≡ m → root_holes c ≡ 0
    by_root_holes zero e = e
    by_root_holes (suc m) e =
        false≢true (sym not ∙ hole-root o (omega (arith, o.one, root_holes-le c)))

below-width : (c d : Trees) → root_holes c ≡ 0 → width c ≡ 1 → width (fill c d) ≡ 1
below-width c d z w = omega (arith, width-fill c d, z, ap (λ n. n * width d) z, w)

-- the whole has as many roots as its sort asks for
pub fill-width : (h k : DataSort) (c d : Trees) → OneHole h k c → HasWidth k (width c)
    → HasWidth h (width d) → HasWidth k (width (fill c d))
fill-width h forest c d o w v = tt
fill-width h grove c d o w v = tt
fill-width forest tree c d o w v = below-width c d (no_root forest c o refl) w
fill-width grove tree c d o w v = below-width c d (no_root grove c o refl) w
fill-width tree tree c d o w v =
    omega (arith, width-fill c d, ap (λ n. root_holes c * n) v, w)

-- a shape in a context is a shape
pub put-Shaped : (h k : DataSort) (c d : Trees) → Shaped (context h k) c → Shaped (shape h) d
    → WellFormed (fill c d) → Shaped (shape k) (fill c d)
put-Shaped h k c d wc wd wf = record {
  well_formed = wf;
  width_fits = fill-width h k c d wc.holes_fit wc.width_fits wd.width_fits;
  holes_fit = omega (arith, holes-fill c d, ap (λ n. holes c * n) wd.holes_fit);
}

-- the parts of what is well formed are well formed
pub inner-WellFormed : (c d : Trees) → holes c ≡ 1 → WellFormed (fill c d) → WellFormed d
inner-WellFormed c d o w = record {
  nodes_once =
      λ n. omega (arith, w.nodes_once n, node_uses-fill n c d, ap (λ m. m * node_uses n d) o);
  lists_once =
      λ n. omega (arith, w.lists_once n, list_uses-fill n c d, ap (λ m. m * list_uses n d) o);
  no_node_zero = omega (arith, w.no_node_zero, node_uses-fill 0 c d, ap (λ m. m * node_uses 0 d) o);
  no_list_zero = omega (arith, w.no_list_zero, list_uses-fill 0 c d, ap (λ m. m * list_uses 0 d) o);
}

-- and so is the context
pub outer-WellFormed : (c d : Trees) → WellFormed (fill c d) → WellFormed c
outer-WellFormed c d w = record {
  nodes_once = λ n. omega (arith, w.nodes_once n, node_uses-fill n c d);
  lists_once = λ n. omega (arith, w.lists_once n, list_uses-fill n c d);
  no_node_zero = omega (arith, w.no_node_zero, node_uses-fill 0 c d);
  no_list_zero = omega (arith, w.no_list_zero, list_uses-fill 0 c d);
}

stand-trans : (h j l : DataSort) → may_stand h j ≡ true → may_stand j l ≡ true
    → may_stand h l ≡ true
stand-trans tree j l a b = refl
stand-trans forest tree l a b = absurd (false≢true a)
stand-trans forest forest l a b = b
stand-trans forest grove l a b = absurd (false≢true a)
stand-trans grove tree l a b = absurd (false≢true a)
stand-trans grove forest l a b = absurd (false≢true a)
stand-trans grove grove l a b = b

compose-OneHole : (h j l : DataSort) (c k : Trees) → OneHole j l c → OneHole h j k
    → OneHole h l (fill c k)
compose-OneHole h j l c k oc ok =
    one-hole h l (fill c k)
    (omega (arith, holes-fill c k, oc.one, ok.one, ap (λ n. n * holes k) oc.one))
    (λ z. at_root z (root_holes c) refl)
    (λ z. below z (root_holes c) refl (root_holes k) refl)
  where
    at_root : root_holes (fill c k) ≡ 1 → (n : ℕ) → root_holes c ≡ n → may_stand h l ≡ true
    at_root z zero e = absurd (omega (arith, z, root_holes-fill c k, ap (λ n. n * root_holes k) e))
    at_root z (suc n) e =
        let y : root_holes c ≡ 1 = omega (arith, oc.one, root_holes-le c) in
        stand-trans h j l
        (hole-root ok (omega (arith, z, root_holes-fill c k, ap (λ n. n * root_holes k) y)))
        (hole-root oc y)

    below : root_holes (fill c k) ≡ 0 → (n : ℕ) → root_holes c ≡ n → (m : ℕ) → root_holes k ≡ m
        → may_stand h forest ≡ true
    below z n e zero f = hole-below ok f
    below z zero e (suc m) f =
        stand-trans h j forest (hole-root ok (omega (arith, ok.one, root_holes-le k)))
        (hole-below oc e)
    below z (suc n) e (suc m) f =
        let y : root_holes c ≡ 1 = omega (arith, oc.one, root_holes-le c) in
        absurd (omega (arith, z, f, root_holes-fill c k, ap (λ n. n * root_holes k) y))

-- a context in a context is a context
pub compose-Shaped : (h j l : DataSort) (c k : Trees) → Shaped (context j l) c
    → Shaped (context h j) k → WellFormed (fill c k) → Shaped (context h l) (fill c k)
compose-Shaped h j l c k wc wk wf = record {
  well_formed = wf;
  width_fits = fill-width j l c k wc.holes_fit wc.width_fits wk.width_fits;
  holes_fit = compose-OneHole h j l c k wc.holes_fit wk.holes_fit;
}

-- a piece of either kind, in a context
pub fill-Shaped : (h k : DataSort) (s : Sort) (c d : Trees) → Shaped (context h k) c
    → Shaped (with_outer h s) d → WellFormed (fill c d) → Shaped (with_outer k s) (fill c d)
fill-Shaped h k (value v) c d wc wd wf = absurd wd.holes_fit
fill-Shaped h k (shape j) c d wc wd wf = put-Shaped h k c d wc wd wf
fill-Shaped h k (context i j) c d wc wd wf = compose-Shaped i h k c d wc wd wf

-- composing first is defined
pub composed-defined : (h j k : DataSort) (c b d : Trees) → Shaped (context j k) c
    → Shaped (context h j) b → WellFormed (fill c (fill b d))
    → Shaped (context h k) (fill c b) × WellFormed (fill (fill c b) d)
composed-defined h j k c b d wc wb w =
    let wf : WellFormed (fill (fill c b) d) = subst WellFormed (sym (fill-fill c b d)) w in
    (compose-Shaped h j k c b wc wb (outer-WellFormed (fill c b) d wf), wf)

-- filling first is defined
pub filled-defined : (h j k : DataSort) (s : Sort) (c b d : Trees) → Shaped (context j k) c
    → Shaped (context h j) b → Shaped (with_outer h s) d → WellFormed (fill (fill c b) d)
    → Shaped (with_outer j s) (fill b d) × WellFormed (fill c (fill b d))
filled-defined h j k s c b d wc wb wd w =
    let wf : WellFormed (fill c (fill b d)) = subst WellFormed (fill-fill c b d) w in
    (fill-Shaped h j s b d wb wd (inner-WellFormed c (fill b d) wc.holes_fit.one wf), wf)
