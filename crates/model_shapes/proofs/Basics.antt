-- Counting in trees, beside and fill.
use Rattle.std.proofs.Common.{◌≡◌, ℕ, ◌+◌, ◌*◌, sym, refl, ap, arith, ◌∙◌}
use Rattle.model_shapes.specs.Trees.{Trees, none, node, hole, beside, fill, width, root_uses, node_uses, list_uses}
use Rattle.model_shapes.specs.Shapes.{holes}
use Rattle.model_shapes.specs.RootHoles.{root_holes}

-- nothing behind
pub beside-none : (a : Trees) → beside a none ≡ a
beside-none none = refl
beside-none (node s i k l r) = ap (node s i k l) (beside-none r)
beside-none (hole r) = ap hole (beside-none r)

-- three lists in a row
pub beside_assoc : (a b c : Trees) → beside (beside a b) c ≡ beside a (beside b c)
beside_assoc none b c = refl
beside_assoc (node s i k l r) b c = ap (node s i k l) (beside_assoc r b c)
beside_assoc (hole r) b c = ap hole (beside_assoc r b c)

-- the holes of two lists are added up
pub holes-beside : (a b : Trees) → holes (beside a b) ≡ holes a + holes b
holes-beside none b = omega arith
holes-beside (node s i k l r) b = omega (arith, holes-beside r b)
holes-beside (hole r) b = omega (arith, holes-beside r b)

-- so are the holes among the roots
pub root_holes-beside : (a b : Trees) → root_holes (beside a b) ≡ root_holes a + root_holes b
root_holes-beside none b = omega arith
root_holes-beside (node s i k l r) b = omega (arith, root_holes-beside r b)
root_holes-beside (hole r) b = omega (arith, root_holes-beside r b)

-- so are the roots
pub width-beside : (a b : Trees) → width (beside a b) ≡ width a + width b
width-beside none b = omega arith
width-beside (node s i k l r) b = omega (arith, width-beside r b)
width-beside (hole r) b = omega (arith, width-beside r b)

-- so are the uses of a node number
pub node_uses-beside : (n : ℕ) (a b : Trees)
    → node_uses n (beside a b) ≡ node_uses n a + node_uses n b
node_uses-beside n none b = omega arith
node_uses-beside n (node s i k l r) b = omega (arith, node_uses-beside n r b)
node_uses-beside n (hole r) b = omega (arith, node_uses-beside n r b)

-- so are the uses of a list number
pub list_uses-beside : (n : ℕ) (a b : Trees)
    → list_uses n (beside a b) ≡ list_uses n a + list_uses n b
list_uses-beside n none b = omega arith
list_uses-beside n (node s i k l r) b = omega (arith, list_uses-beside n r b)
list_uses-beside n (hole r) b = omega (arith, list_uses-beside n r b)

-- so are the uses of a tree as a root
pub root_uses-beside : (t a b : Trees) → root_uses t (beside a b) ≡ root_uses t a + root_uses t b
root_uses-beside t none b = omega arith
root_uses-beside t (node s i k l r) b = omega (arith, root_uses-beside t r b)
root_uses-beside t (hole r) b = omega (arith, root_uses-beside t r b)

-- two lists are filled one by one
pub fill-beside : (a b d : Trees) → fill (beside a b) d ≡ beside (fill a d) (fill b d)
fill-beside none b d = refl
fill-beside (node s i k l r) b d = ap (node s i (fill k d) l) (fill-beside r b d)
fill-beside (hole r) b d = ap (beside d) (fill-beside r b d)
    ∙ sym (beside_assoc d (fill r d) (fill b d))

-- without a hole nothing is filled
pub fill-no_hole : (a d : Trees) → holes a ≡ 0 → fill a d ≡ a
fill-no_hole none d h = refl
fill-no_hole (node s i k l r) d h =
    (λ j. node s i (fill-no_hole k d (omega arith) j) l (fill-no_hole r d (omega arith) j))
fill-no_hole (hole r) d h = absurd (omega arith)

-- putting in twice
pub fill-fill : (c b d : Trees) → fill (fill c b) d ≡ fill c (fill b d)
fill-fill none b d = refl
fill-fill (node s i k l r) b d = λ j. node s i (fill-fill k b d j) l (fill-fill r b d j)
fill-fill (hole r) b d = fill-beside b (fill r b) d ∙ ap (beside (fill b d)) (fill-fill r b d)

-- each hole takes the holes of the piece
pub holes-fill : (c d : Trees) → holes (fill c d) ≡ holes c * holes d
holes-fill none d = omega arith
holes-fill (node s i k l r) d = omega (arith, holes-fill k d, holes-fill r d)
holes-fill (hole r) d = omega (arith, holes-beside d (fill r d), holes-fill r d)

-- so does each hole among the roots
pub root_holes-fill : (c d : Trees) → root_holes (fill c d) ≡ root_holes c * root_holes d
root_holes-fill none d = omega arith
root_holes-fill (node s i k l r) d = omega (arith, root_holes-fill r d)
root_holes-fill (hole r) d = omega (arith, root_holes-beside d (fill r d), root_holes-fill r d)

-- each hole among the roots gives way to the roots of the piece
pub width-fill : (c d : Trees) → width (fill c d) + root_holes c ≡ width c + root_holes c * width d
width-fill none d = omega arith
width-fill (node s i k l r) d = omega (arith, width-fill r d)
width-fill (hole r) d = omega (arith, width-beside d (fill r d), width-fill r d)

-- each hole takes the node numbers of the piece
pub node_uses-fill : (n : ℕ) (c d : Trees)
    → node_uses n (fill c d) ≡ node_uses n c + holes c * node_uses n d
node_uses-fill n none d = omega arith
node_uses-fill n (node s i k l r) d = omega (arith, node_uses-fill n k d, node_uses-fill n r d)
node_uses-fill n (hole r) d = omega (arith, node_uses-beside n d (fill r d), node_uses-fill n r d)

-- each hole takes the list numbers of the piece
pub list_uses-fill : (n : ℕ) (c d : Trees)
    → list_uses n (fill c d) ≡ list_uses n c + holes c * list_uses n d
list_uses-fill n none d = omega arith
list_uses-fill n (node s i k l r) d = omega (arith, list_uses-fill n k d, list_uses-fill n r d)
list_uses-fill n (hole r) d = omega (arith, list_uses-beside n d (fill r d), list_uses-fill n r d)
