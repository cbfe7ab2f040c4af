-- The plans by filling, as they are written.
use Rattle.std.proofs.Common.{◌≡◌, ◌∙◌, ℕ, true, false, codes, [], ◌∷◌, Result, Ok, Err, IsErrAnd, refl, sym, subst, true≢false}
use Rattle.model_shapes.specs.Sorts.{shape}
use Rattle.model_shapes.specs.Values.{Name}
use Rattle.model_terms.specs.Terms.{Term}
use Rattle.model_formulas.specs.Formulas.{Named, whole, hole_left, hole_right, truth, falsity, conjunction, disjunction, implication, negation, existential, universal, equality, at_most, empty, bare_hole, node_formula, one_tree, one_root, concatenation, grove_sum, grove_sum_hole, application, hole_adjoint, context_adjoint, same_as, length_is, value_meets}
use Rattle.model_commands.specs.Theories.{JudgementOf}
use Rattle.assistant_laws.specs.Plans.{Plan, alone, from_one, from_two}
use Rattle.assistant_laws.specs.Ways.{Way, onward, backward, turned, read_so, itself, by_way_of}
use Rattle.step_filler.specs.declared.drafts.Draft.{Draft}
use Rattle.step_filler.specs.declared.drafts.Stop.{Stop}
use Rattle.step_filler.specs.declared.layers.Filling.{Filling}
use Rattle.step_filler.specs.Drafts.{WritesOne, WritesPlan}
use Rattle.step_filler.specs.Layers.{is_layer, layer_sort, entering, changing, way_of, applied, filled, plan_of, in_hole, entered, changed, passed, inner_plan}
use Rattle.step_filler.proofs.Drafting.{first-stops, second-stops, one-stops, one-written, both-written}
use Rattle.step_filler.proofs.Planned.{handed-on}

-- A PLAN FROM ONE OTHER
module _ (rule : Name) (p : Plan) (j : JudgementOf Named) (plan : Plan)
    (is : from_one rule p j ≡ plan) where
  pub one-first : (a b : Draft) (e : Stop) (r : Result ℕ Stop) → IsErrAnd r (λ x. x ≡ e)
      → WritesPlan p a b (Err e) → WritesPlan plan a b r
  one-first a b e r same x = subst (λ (plan : Plan). WritesPlan plan a b r) is
      (handed-on (from_one rule p j) a b e r same (one-stops rule p j a b e x))

  pub one-last : (a b c : Draft) (n : ℕ) (r : Result ℕ Stop) → WritesPlan p a b (Ok n)
      → WritesOne rule (n ∷ []) j b c r → WritesPlan plan a c r
  one-last a b c n r x y = subst (λ (plan : Plan). WritesPlan plan a c r) is
      (one-written rule p j a b c n r x y)

-- A PLAN FROM TWO OTHERS
module _ (rule : Name) (p q : Plan) (j : JudgementOf Named) (plan : Plan)
    (is : from_two rule p q j ≡ plan) where
  pub two-first : (a b : Draft) (e : Stop) (r : Result ℕ Stop) → IsErrAnd r (λ x. x ≡ e)
      → WritesPlan p a b (Err e) → WritesPlan plan a b r
  two-first a b e r same x = subst (λ (plan : Plan). WritesPlan plan a b r) is
      (handed-on (from_two rule p q j) a b e r same (first-stops rule p q j a b e x))

  pub two-second : (a b c : Draft) (n : ℕ) (e : Stop) (r : Result ℕ Stop)
      → IsErrAnd r (λ x. x ≡ e) → WritesPlan p a b (Ok n) → WritesPlan q b c (Err e)
      → WritesPlan plan a c r
  two-second a b c n e r same x y = subst (λ (plan : Plan). WritesPlan plan a c r) is
      (handed-on (from_two rule p q j) a c e r same (second-stops rule p q j a b c n e x y))

  pub two-last : (a b c d : Draft) (n m : ℕ) (r : Result ℕ Stop) → WritesPlan p a b (Ok n)
      → WritesPlan q b c (Ok m) → WritesOne rule (n ∷ m ∷ []) j c d r → WritesPlan plan a d r
  two-last a b c d n m r x y z = subst (λ (plan : Plan). WritesPlan plan a d r) is
      (both-written rule p q j a b c d n m r x y z)

-- the step by which the application goes into the layer, or out of it
abbrev pub crossing : Filling → Named → Plan
crossing of c = alone (read_so (way_of of.way) (entering c)) (entered of c)

module _ (of : Filling) where
  -- the plan for a layer
  pub by-layer : (c : Named) → is_layer c ≡ true
      → by_way_of (way_of of.way) (crossing of c) (inner_plan of c) (applied of c) (filled of c)
      (shape (layer_sort c)) ≡ plan_of of c
  by-layer (node_formula name number c list) is = refl
  by-layer (one_tree c) is = refl
  by-layer (one_root c) is = refl
  by-layer (concatenation hole_left c q) is = refl
  by-layer (concatenation hole_right q c) is = refl
  by-layer (grove_sum_hole c q) is = refl
  by-layer truth is = absurd (true≢false (sym is))
  by-layer falsity is = absurd (true≢false (sym is))
  by-layer (conjunction p q) is = absurd (true≢false (sym is))
  by-layer (disjunction p q) is = absurd (true≢false (sym is))
  by-layer (implication p q) is = absurd (true≢false (sym is))
  by-layer (negation p) is = absurd (true≢false (sym is))
  by-layer (existential x p) is = absurd (true≢false (sym is))
  by-layer (universal x p) is = absurd (true≢false (sym is))
  by-layer (equality a b) is = absurd (true≢false (sym is))
  by-layer (at_most a b) is = absurd (true≢false (sym is))
  by-layer (empty k) is = absurd (true≢false (sym is))
  by-layer (bare_hole k) is = absurd (true≢false (sym is))
  by-layer (concatenation whole p q) is = absurd (true≢false (sym is))
  by-layer (grove_sum p q) is = absurd (true≢false (sym is))
  by-layer (application h p q) is = absurd (true≢false (sym is))
  by-layer (hole_adjoint p q) is = absurd (true≢false (sym is))
  by-layer (context_adjoint k p q) is = absurd (true≢false (sym is))
  by-layer (same_as a) is = absurd (true≢false (sym is))
  by-layer (length_is a) is = absurd (true≢false (sym is))
  by-layer (value_meets s a p) is = absurd (true≢false (sym is))

  -- the plan for what isn't one
  pub by-hole : (c : Named) → is_layer c ≡ false
      → alone (read_so (way_of of.way) (codes "hole_left")) (in_hole of c) ≡ plan_of of c
  by-hole (node_formula name number c list) is = absurd (true≢false is)
  by-hole (one_tree c) is = absurd (true≢false is)
  by-hole (one_root c) is = absurd (true≢false is)
  by-hole (concatenation hole_left c q) is = absurd (true≢false is)
  by-hole (concatenation hole_right q c) is = absurd (true≢false is)
  by-hole (grove_sum_hole c q) is = absurd (true≢false is)
  by-hole truth is = refl
  by-hole falsity is = refl
  by-hole (conjunction p q) is = refl
  by-hole (disjunction p q) is = refl
  by-hole (implication p q) is = refl
  by-hole (negation p) is = refl
  by-hole (existential x p) is = refl
  by-hole (universal x p) is = refl
  by-hole (equality a b) is = refl
  by-hole (at_most a b) is = refl
  by-hole (empty k) is = refl
  by-hole (bare_hole k) is = refl
  by-hole (concatenation whole p q) is = refl
  by-hole (grove_sum p q) is = refl
  by-hole (application h p q) is = refl
  by-hole (hole_adjoint p q) is = refl
  by-hole (context_adjoint k p q) is = refl
  by-hole (same_as a) is = refl
  by-hole (length_is a) is = refl
  by-hole (value_meets s a p) is = refl

  -- the step for it
  pub hole_written : (c : Named) → is_layer c ≡ false → (a b : Draft) (r : Result ℕ Stop)
      → WritesOne (read_so (way_of of.way) (codes "hole_left")) [] (in_hole of c) a b r
      → WritesPlan (plan_of of c) a b r
  hole_written c is a b r x = subst (λ (plan : Plan). WritesPlan plan a b r) (by-hole c is) x

  -- a layer onward
  pub onward-layer : (c : Named) → is_layer c ≡ true → way_of of.way ≡ onward
      → from_two (codes "cut") (crossing of c) (inner_plan of c) (passed of c) ≡ plan_of of c
  onward-layer c is way = subst (λ (w : Way).
      from_two (codes "cut") (crossing of c) (inner_plan of c)
      (turned w (applied of c) (filled of c) (shape (layer_sort c)))
      ≡ by_way_of w (crossing of c) (inner_plan of c) (applied of c) (filled of c)
      (shape (layer_sort c))) (sym way) refl ∙ by-layer c is

  -- a layer backward
  pub backward-layer : (c : Named) → is_layer c ≡ true → way_of of.way ≡ backward
      → from_two (codes "cut") (inner_plan of c) (crossing of c) (passed of c) ≡ plan_of of c
  backward-layer c is way = subst (λ (w : Way).
      from_two (codes "cut") (inner_plan of c) (crossing of c)
      (turned w (applied of c) (filled of c) (shape (layer_sort c)))
      ≡ by_way_of w (crossing of c) (inner_plan of c) (applied of c) (filled of c)
      (shape (layer_sort c))) (sym way) refl ∙ by-layer c is

  -- inside a node, and what is around one part
  pub inside-node : (p c : Named) (name number list : Term)
      → p ≡ node_formula name number c list
      → from_one (changing p) (plan_of of c) (changed of p) ≡ inner_plan of p
  inside-node p c name number list is = subst (λ (f : Named).
      from_one (changing f) (plan_of of c) (changed of f) ≡ inner_plan of f) (sym is) refl

  pub inside-tree : (p c : Named) → p ≡ one_tree c
      → from_one (changing p) (plan_of of c) (changed of p) ≡ inner_plan of p
  inside-tree p c is = subst (λ (f : Named).
      from_one (changing f) (plan_of of c) (changed of f) ≡ inner_plan of f) (sym is) refl

  pub inside-root : (p c : Named) → p ≡ one_root c
      → from_one (changing p) (plan_of of c) (changed of p) ≡ inner_plan of p
  inside-root p c is = subst (λ (f : Named).
      from_one (changing f) (plan_of of c) (changed of f) ≡ inner_plan of f) (sym is) refl

  -- beside another part
  pub beside-left : (p c q : Named) → p ≡ concatenation hole_left c q
      → from_two (changing p) (plan_of of c) (itself q (shape (layer_sort p))) (changed of p)
      ≡ inner_plan of p
  beside-left p c q is = subst (λ (f : Named).
      from_two (changing f) (plan_of of c) (itself q (shape (layer_sort f))) (changed of f)
      ≡ inner_plan of f) (sym is) refl

  pub beside-right : (p c q : Named) → p ≡ concatenation hole_right q c
      → from_two (changing p) (itself q (shape (layer_sort p))) (plan_of of c) (changed of p)
      ≡ inner_plan of p
  beside-right p c q is = subst (λ (f : Named).
      from_two (changing f) (itself q (shape (layer_sort f))) (plan_of of c) (changed of f)
      ≡ inner_plan of f) (sym is) refl

  pub beside-sum : (p c q : Named) → p ≡ grove_sum_hole c q
      → from_two (changing p) (plan_of of c) (itself q (shape (layer_sort p))) (changed of p)
      ≡ inner_plan of p
  beside-sum p c q is = subst (λ (f : Named).
      from_two (changing f) (plan_of of c) (itself q (shape (layer_sort f))) (changed of f)
      ≡ inner_plan of f) (sym is) refl
