-- What can't fail to be met is met.
use Rattle.std.proofs.Common.{◌≡◌, ℕ, ◌≤◌, Bool, List, IsTrue}
use Rattle.std.proofs.Math.Decide.{ℕ_discrete, dec_le}
use Rattle.std.proofs.Math.Bool.{Bool-discrete}
use mathlib.Core.HLevel.{Stable, dec→stable}
use Rattle.model_shapes.specs.Sorts.{ValueSort, node_sort, list_sort, int_sort, str_sort, bool_sort, Sort, value, shape, context, DataSort, tree, forest, grove, outer, with_outer}
use Rattle.model_shapes.specs.Trees.{Trees, none, node, hole, width, root_uses, node_uses, list_uses, WellFormed, trees_eq}
use Rattle.model_shapes.specs.Shapes.{OneHole, HasWidth, HasHoles, HoleFirst, HolePlaced, Shaped, SameAt}
use Rattle.model_shapes.specs.Values.{Value, null, nolist, node_number, list_number, int, str, boolean, FitsValue}
use Rattle.model_shapes.proofs.Tests.{thing_eq}
use Rattle.model_shapes.specs.Things.{Thing, val, trees, Fits}
use Rattle.model_terms.specs.Variables.{prog, logic}
use Rattle.model_formulas.specs.Formulas.{Formula, truth, falsity, conjunction, disjunction, implication, negation, existential, universal, equality, at_most, empty, bare_hole, node_formula, one_tree, one_root, concatenation, grove_sum, grove_sum_hole, application, hole_adjoint, context_adjoint, same_as, length_is, value_meets}
use Rattle.model_formulas.specs.Satisfaction.{Environment, Proper, Meets, choosing, IfNode, IfTrees, meaning_of}

-- a denial
pub stable-not : {A : Type 0} → Stable (A → ⊥)
stable-not h a = h (λ f. f a)

-- an implication
pub stable-arrow : {A B : Type 0} → Stable B → Stable (A → B)
stable-arrow b h a = b (λ n. h (λ f. n (f a)))

-- a fact about each
pub stable-pi : {A : Type 0} {B : A → Type 0} → ((a : A) → Stable (B a)) → Stable ((a : A) → B a)
stable-pi b h a = b a (λ n. h (λ f. n (f a)))

-- two facts
pub stable-pair : {A B : Type 0} → Stable A → Stable B → Stable (A × B)
stable-pair a b h = (a (λ n. h (λ p. n p.0)), b (λ n. h (λ p. n p.1)))

-- equal numbers
pub stable-ℕ : {a b : ℕ} → Stable (a ≡ b)
stable-ℕ {a} {b} = dec→stable (ℕ_discrete a b)

-- equal truth values
pub stable-Bool : {a b : Bool} → Stable (a ≡ b)
stable-Bool {a} {b} = dec→stable (Bool-discrete a b)

-- numbers in order
pub stable-≤ : {a b : ℕ} → Stable (a ≤ b)
stable-≤ {a} {b} = dec→stable (dec_le a b)

-- equal trees
pub stable-trees : {a b : Trees} → Stable (a ≡ b)
stable-trees {a} {b} = dec→stable (trees_eq a b)

-- equal things
pub stable-thing : {a b : Thing} → Stable (a ≡ b)
stable-thing {a} {b} = dec→stable (thing_eq a b)

-- a test that is true
pub stable-true : (b : Bool) → Stable (IsTrue b)
stable-true b = stable-Bool

-- well formed
pub stable-WellFormed : {r : Trees} → Stable (WellFormed r)
stable-WellFormed h = record {
  nodes_once = λ n. stable-≤ (λ k. h (λ w. k (w.nodes_once n)));
  lists_once = λ n. stable-≤ (λ k. h (λ w. k (w.lists_once n)));
  no_node_zero = stable-ℕ (λ k. h (λ w. k w.no_node_zero));
  no_list_zero = stable-ℕ (λ k. h (λ w. k w.no_list_zero));
}

-- as many roots as the sort asks for
pub stable-WidthOf : (k : DataSort) (n : ℕ) → Stable (HasWidth k n)
stable-WidthOf tree n = stable-ℕ
stable-WidthOf forest n = λ h. tt
stable-WidthOf grove n = λ h. tt

-- one hole in its place
pub stable-OneHole : {h k : DataSort} {r : Trees} → Stable (OneHole h k r)
stable-OneHole n = record {
  one = stable-ℕ (λ m. n (λ w. m w.one));
  stands = stable-Bool (λ m. n (λ w. m w.stands));
}

-- the holes that the sort asks for
pub stable-Holed : (s : Sort) (r : Trees) → Stable (HasHoles s r)
stable-Holed (value v) r = λ h. h (λ b. b)
stable-Holed (shape k) r = stable-ℕ
stable-Holed (context h k) r = stable-OneHole

-- of the sort
pub stable-Shaped : {s : Sort} {r : Trees} → Stable (Shaped s r)
stable-Shaped {s} {r} h = record {
  well_formed = stable-WellFormed (λ m. h (λ w. m w.well_formed));
  width_fits = stable-WidthOf (outer s) (width r) (λ m. h (λ w. m w.width_fits));
  holes_fit = stable-Holed s r (λ m. h (λ w. m w.holes_fit));
}

-- the first root is the hole, or has it below it
stable-first : (r : Trees) → Stable (HoleFirst r)
stable-first none = λ h. h (λ b. b)
stable-first (node s i k l r) = stable-ℕ
stable-first (hole r) = λ h. tt

stable-placed : (k : DataSort) (r : Trees) → Stable (HolePlaced k r)
stable-placed grove r = stable-first r
stable-placed k r = λ h. tt

stable-FitsValue : (s : ValueSort) (v : Value) → Stable (FitsValue s v)
stable-FitsValue node_sort null = λ h. tt
stable-FitsValue node_sort (node_number n) = stable-≤
stable-FitsValue list_sort nolist = λ h. tt
stable-FitsValue list_sort (list_number n) = stable-≤
stable-FitsValue int_sort (int z) = λ h. tt
stable-FitsValue str_sort (str s) = λ h. tt
stable-FitsValue bool_sort (boolean b) = λ h. tt
stable-FitsValue s v = λ h. h (λ b. b)

-- a thing that fits
pub stable-Fits : (s : Sort) (x : Thing) → Stable (Fits s x)
stable-Fits (value s) (val v) = stable-FitsValue s v
stable-Fits (shape k) (trees r) = stable-Shaped
stable-Fits (context h k) (trees r) = stable-pair stable-Shaped (stable-placed k r)
stable-Fits s x = λ h. h (λ b. b)

-- a proper environment
pub stable-Proper : (e : Environment) → Stable (Proper e)
stable-Proper e h = record {
  programs = λ x s. stable-Fits (value s) (e (prog x s)) (λ n. h (λ p. n (p.programs x s)));
  logics = λ x s i. stable-Fits s (e (logic x s)) (λ n. h (λ p. n (p.logics x s i)));
}

-- the same
pub stable-SameAt : (k : DataSort) (a b : Trees) → Stable (SameAt k a b)
stable-SameAt tree a b = stable-trees
stable-SameAt forest a b = stable-trees
stable-SameAt grove a b = stable-pi (λ t. stable-ℕ)

-- a fact about the trees that a thing is
pub stable-IfTrees : (x : Thing) (P : Trees → Type 0) → ((r : Trees) → Stable (P r))
    → Stable (IfTrees x P)
stable-IfTrees (val v) P s = λ h. h (λ b. b)
stable-IfTrees (trees r) P s = s r

-- a fact about the one node that trees are
pub stable-IfNode : (r : Trees) (P : List ℕ → ℕ → Trees → ℕ → Type 0)
    → ((s : List ℕ) (i : ℕ) (kids : Trees) (l : ℕ) → Stable (P s i kids l)) → Stable (IfNode r P)
stable-IfNode none P s = λ h. h (λ b. b)
stable-IfNode (hole r) P s = λ h. h (λ b. b)
stable-IfNode (node n i kids l none) P s = s n i kids l
stable-IfNode (node n i kids l (hole r)) P s = λ h. h (λ b. b)
stable-IfNode (node n i kids l (node n' i' kids' l' r)) P s = λ h. h (λ b. b)

-- a formula that is met
pub stable : (p : Formula) (e : Environment) (s : Sort) (r : Trees) → Stable (Meets p e s r)
stable truth e s r = λ h. tt
stable falsity e s r = λ h. h (λ b. b)
stable (conjunction p q) e s r = stable-pair (stable p e s r) (stable q e s r)
stable (disjunction p q) e s r = stable-not
stable (implication p q) e s r = stable-arrow (stable q e s r)
stable (negation p) e s r = stable-not
stable (existential u p) e s r = stable-not
stable (universal u p) e s r = stable-pi (λ v. stable-arrow (stable p (choosing v e) s r))
stable (equality a b) e s r = stable-thing
stable (at_most a b) e s r = stable-true _
stable (empty k) e s r = stable-trees
stable (bare_hole h) e s r = stable-trees
stable (node_formula n i p l) e s r =
    stable-IfNode r _ (λ name number kids list. λ h. (
      stable-thing (λ m. h (λ w. m w.0)),
      stable-thing (λ m. h (λ w. m w.1)),
      stable-thing (λ m. h (λ w. m w.2)),
      stable p e (with_outer forest s) kids (λ m. h (λ w. m w.3)),
    ))
stable (one_tree p) e s r = stable-pair stable-Shaped (stable p e (with_outer tree s) r)
stable (one_root p) e s r = stable-pair stable-Shaped (stable p e (with_outer tree s) r)
stable (concatenation side p q) e s r = stable-not
stable (grove_sum p q) e s r = stable-not
stable (grove_sum_hole k q) e s r = stable-not
stable (application h k p) e s r = stable-not
stable (hole_adjoint p q) e s r =
    stable-pi
    (λ d. stable-arrow
    (stable-arrow
    (stable-arrow (stable q e (shape (outer s)) (Rattle.model_shapes.specs.Trees.fill r d)))))
stable (context_adjoint k p q) e s r =
    stable-pi
    (λ c. stable-arrow
    (stable-arrow (stable-arrow (stable q e (shape k) (Rattle.model_shapes.specs.Trees.fill c r)))))
stable (same_as a) e s r = stable-IfTrees (meaning_of e a) _ (λ t. stable-SameAt (outer s) r t)
stable (length_is a) e s r = stable-thing
stable (value_meets u a p) e s r = stable-IfTrees (meaning_of e a) _ (λ t. stable p e u t)
