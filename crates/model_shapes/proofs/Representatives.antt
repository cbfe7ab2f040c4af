-- Each shape or context is the same as one that fits its sort: a context that gives a grove has its
-- hole in the first root there. Contexts put into contexts, or with more behind, keep it there.
use Rattle.std.proofs.Common.{◌≡◌, ℕ, ◌≤◌, zero, suc, ◌*◌, refl, sym, ap, arith}
use Rattle.model_shapes.specs.Sorts.{Sort, value, shape, context, DataSort, tree, forest, grove}
use Rattle.model_shapes.specs.Trees.{Trees, none, node, hole, beside, fill, width}
use Rattle.model_shapes.specs.Shapes.{HoleFirst, SameAt, Same, Shaped, holes}
use Rattle.model_shapes.specs.Things.{trees, Fits}
use Rattle.model_shapes.proofs.Basics.{holes-fill}
use Rattle.model_shapes.proofs.Narrow.{narrow}
use Rattle.model_shapes.proofs.Shapes.{Same-refl, same-Shaped, same-root_holes, root_holes-le, hole-root}
use Rattle.model_shapes.proofs.Truth.{false≢true}

-- the same roots, with that of the hole first
to_front : (r : Trees) → holes r ≡ 1 → (r' : Trees) × SameAt grove r r' × HoleFirst r'
to_front none o = absurd (omega (arith, o))
to_front (hole r) o = (hole r, Same-refl (shape grove) (hole r), tt)
to_front (node s i k l r) o = at (holes k) refl (λ z. to_front r (omega (arith, o, z)))
  where
    swapped : (r' : Trees) → SameAt grove r r' → HoleFirst r'
        → (t : Trees) × SameAt grove (node s i k l r) t × HoleFirst t
    swapped none same first = absurd first
    swapped (hole q) same first = (hole (node s i k l q), (λ t. omega (arith, same t)), tt)
    swapped (node s' i' k' l' q) same first =
        (node s' i' k' l' (node s i k l q), (λ t. omega (arith, same t)), first)

    at : (n : ℕ) → holes k ≡ n
        → (holes k ≡ 0 → (r' : Trees) × SameAt grove r r' × HoleFirst r')
        → (t : Trees) × SameAt grove (node s i k l r) t × HoleFirst t
    at zero e later =
        let (r', same, first) = later e in swapped r' same first
    at (suc n) e later =
        (node s i k l r, Same-refl (shape grove) (node s i k l r), omega (arith, o, e))

-- the one that fits
pub representative : (s : Sort) (r : Trees) → Shaped s r
    → (r' : Trees) × Same s r r' × Fits s (trees r')
representative (value v) r w = absurd w.holes_fit
representative (shape k) r w = (r, Same-refl (shape k) r, w)
representative (context h tree) r w = (r, refl, (w, tt))
representative (context h forest) r w = (r, refl, (w, tt))
representative (context h grove) r w =
    let (r', same, first) = to_front r w.holes_fit.one in
    (r', same, (same-Shaped (context h grove) r r' same w, first))

-- what fits is well formed and of the sort
pub fits-Shaped : (s : Sort) (r : Trees) → Fits s (trees r) → Shaped s r
fits-Shaped (value v) r f = absurd f
fits-Shaped (shape k) r f = f
fits-Shaped (context h k) r f = f.0

-- more roots behind leave the hole in the first
pub first-beside : (a b : Trees) → HoleFirst a → HoleFirst (beside a b)
first-beside none b f = absurd f
first-beside (node s i k l r) b f = f
first-beside (hole r) b f = tt

-- the one root of a tree's context has the hole
one_first : (h : DataSort) (b : Trees) → Shaped (context h tree) b → HoleFirst b
one_first h none w = absurd (omega (arith, w.width_fits))
one_first h (hole r) w = tt
one_first h (node s i k l none) w = omega (arith, w.holes_fit.one)
one_first h (node s i k l (hole r)) w = absurd (omega (arith, w.width_fits))
one_first h (node s i k l (node s' i' k' l' r)) w = absurd (omega (arith, w.width_fits))

-- a context put into another has its hole in the first root
pub first-fill : (h j : DataSort) (a b : Trees) → Shaped (context j grove) a → HoleFirst a
    → Shaped (context h j) b → Fits (context h j) (trees b) → HoleFirst (fill a b)
first-fill h j none b wa f wb fb = absurd f
first-fill h j (node s i k l r) b wa f wb fb =
    omega (arith, holes-fill k b, f, wb.holes_fit.one, ap (λ z. z * holes b) f)
first-fill h tree (hole r) b wa f wb fb = first-beside b (fill r b) (one_first h b wb)
first-fill h grove (hole r) b wa f wb fb = first-beside b (fill r b) fb.1
first-fill h forest (hole r) b wa f wb fb =
    false≢true (hole-root wa.holes_fit (omega (arith, wa.holes_fit.one, root_holes-le (hole r))))

-- a hole and one root beside it, with the hole first, is one list of roots
pub first-alone : (r t : Trees) → holes r ≡ 1 → HoleFirst r → width t ≤ 1
    → SameAt grove r (hole t) → r ≡ hole t
first-alone none t o f w same = absurd f
first-alone (hole q) t o f w same =
    ap hole (sym (narrow t q w (λ u. omega (arith, same u))))
first-alone (node s i k l q) t o f w same =
    absurd (omega (
      arith,
      o,
      f,
      root_holes-le q,
      same-root_holes grove (node s i k l q) (hole t) same,
    ))
