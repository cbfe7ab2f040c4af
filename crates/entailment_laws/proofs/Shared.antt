-- What several rows share: parts and wholes at each sort, and formulas as sets of shapes.
use Rattle.std.proofs.Common.{◌≡◌, ℕ, refl, ap, arith, ◌∙◌, true}
use Rattle.model_formulas.specs.Satisfaction.{SomeShape}
use Rattle.model_shapes.proofs.Basics.{fill-beside, fill-no_hole, width-beside}
use Rattle.model_shapes.proofs.Filling.{compose-Shaped}
use Rattle.model_shapes.proofs.Shapes.{IsList, SameAt-eq}
use Rattle.model_shapes.specs.Shapes.{HasWidth, SameAt, Shaped, holes, may_stand}
use Rattle.model_shapes.specs.Sorts.{DataSort, Sort, context, forest, grove, tree}
use Rattle.model_shapes.specs.Trees.{Trees, WellFormed, beside, fill, hole, node, none, width}
use Rattle.entailment_laws.proofs.Parts.{Parts, parts}

-- the data sorts, or the contexts with one sort of hole
abbrev pub PutsInto : (DataSort → Sort) → Type 0
PutsInto S =
    (h k : DataSort) (c d : Trees) → Shaped (context h k) c → Shaped (S h) d → WellFormed (fill c d)
    → Shaped (S k) (fill c d)

pub puts_context : (i : DataSort) → PutsInto (context i)
puts_context i h k c d = compose-Shaped i h k c d

-- some context of `K` with something of `P` put in
abbrev pub App : (DataSort → Sort) → DataSort → DataSort → (Sort → Trees → Type 0)
    → (Sort → Trees → Type 0) → Trees → Type 0
App S h k K P r =
    SomeShape (context h k) λ c. SomeShape (S h) λ d. SameAt k r (fill c d) × K (context h k) c
    × P (S h) d

pub app : (S : DataSort → Sort) (h k : DataSort) (K P : Sort → Trees → Type 0) (r c d : Trees)
    → Shaped (context h k) c → Shaped (S h) d → SameAt k r (fill c d)
    → K (context h k) c → P (S h) d → App S h k K P r
app S h k K P r c d wc wd same mc md = λ n. n (c, wc, λ m. m (d, wd, (same, mc, md)))

-- one part of `P`, and after it one of `Q`
abbrev pub Split : DataSort → Sort → Sort → (Sort → Trees → Type 0) → (Sort → Trees → Type 0)
    → Trees → Type 0
Split k s t P Q r = Parts k s t r (P s) (Q t)

pub split : (k : DataSort) (s t : Sort) (P Q : Sort → Trees → Type 0) (r a b : Trees) → Shaped s a
    → Shaped t b → SameAt k r (beside a b) → P s a → Q t b → Split k s t P Q r
split k s t P Q r a b = parts k s t r (P s) (Q t) a b

pub SameAt-refl : (k : DataSort) (a : Trees) → SameAt k a a
SameAt-refl k a = SameAt-eq k a a refl

-- the bare hole
pub fill-hole : (c : Trees) → fill c (hole none) ≡ c
fill-hole none = refl
fill-hole (node s i k l r) = λ j. node s i (fill-hole k j) l (fill-hole r j)
fill-hole (hole r) = ap hole (fill-hole r)

pub hole-Shaped : (h : DataSort) → Shaped (context h h) (hole none)
hole-Shaped h = record {
  well_formed =
      record {
        nodes_once = λ n. omega arith;
        lists_once = λ n. omega arith;
        no_node_zero = refl;
        no_list_zero = refl;
      };
  width_fits = one h;
  holes_fit = record { one = refl; stands = stands h };
}
  where
    one : (h : DataSort) → HasWidth h 1
    one tree = refl
    one forest = tt
    one grove = tt

    stands : (h : DataSort) → may_stand h h ≡ true
    stands tree = refl
    stands forest = refl
    stands grove = refl

-- where two shapes of a sort stand side by side in one of that sort, it is a sort of lists
pub two_parts : (k : DataSort) (a b r : Trees) → HasWidth k (width a) → HasWidth k (width b)
    → HasWidth k (width r) → SameAt k r (beside a b) → IsList k
two_parts tree a b r x y z same = absurd (omega (arith, x, y, z, ap width same, width-beside a b))
two_parts forest a b r x y z same = λ n. tt
two_parts grove a b r x y z same = λ n. tt

-- putting into a context that has more beside it
pub fill-beside_left : (c b d : Trees) → holes b ≡ 0 → fill (beside c b) d ≡ beside (fill c d) b
fill-beside_left c b d z = fill-beside c b d ∙ ap (beside (fill c d)) (fill-no_hole b d z)

pub fill-beside_right : (b c d : Trees) → holes b ≡ 0 → fill (beside b c) d ≡ beside b (fill c d)
fill-beside_right b c d z = fill-beside b c d ∙ ap (λ x. beside x (fill c d)) (fill-no_hole b d z)

-- one root stands anywhere
pub width_one : (k : DataSort) (n : ℕ) → n ≡ 1 → HasWidth k n
width_one tree n e = e
width_one forest n e = tt
width_one grove n e = tt
