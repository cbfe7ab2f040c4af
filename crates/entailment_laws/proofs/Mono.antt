-- The mono rows.
use Rattle.std.proofs.Common.{ℕ, List, arith, refl}
use Rattle.model_formulas.specs.Formulas.{Formula, Side, application, concatenation, context_adjoint, grove_sum, grove_sum_hole, hole_adjoint, hole_left, node_formula, one_root, one_tree, whole}
use Rattle.model_formulas.specs.Satisfaction.{Entails, IfNode, Meets}
use Rattle.model_formulas.specs.Formulas.{left_sort, right_sort}
use Rattle.model_terms.specs.Terms.{Term}
use Rattle.model_shapes.specs.Shapes.{Shaped}
use Rattle.model_shapes.proofs.Shapes.{one-hole, hole-below}
use Rattle.model_shapes.specs.Sorts.{DataSort, Sort, context, forest, with_outer, inner, outer, shape, tree, value}
use Rattle.model_shapes.specs.Trees.{Trees, WellFormed, fill, hole, node, none}
use Rattle.entailment_laws.proofs.Parts.{parts-map}

module _ (p q a b : Formula) (s : Sort) where
  pub mono_joined : (side : Side) → Entails p a (left_sort side s) → Entails q b (right_sort side s)
      → Entails (concatenation side p q) (concatenation side a b) s
  mono_joined side f g e pr t w h =
      parts-map (outer s) (left_sort side s) (right_sort side s) t (Meets p e (left_sort side s))
      (Meets a e (left_sort side s)) (Meets q e (right_sort side s)) (Meets b e (right_sort side s))
      (λ x wx m. f e pr x wx m) (λ x wx m. g e pr x wx m) h

  pub mono_plus : Entails p a s → Entails q b s → Entails (grove_sum p q) (grove_sum a b) s
  mono_plus = mono_joined whole

  pub mono_plus_left : Entails p a s → Entails q b (shape (outer s))
      → Entails (grove_sum_hole p q) (grove_sum_hole a b) s
  mono_plus_left = mono_joined hole_left

  pub mono_app : (h : DataSort) → Entails p a (context h (outer s)) → Entails q b (with_outer h s)
      → Entails (application h p q) (application h a b) s
  mono_app h f g e pr t w m =
      λ n. m
      (λ c. c.2
      (λ d. n (c.0, c.1, λ k. k (d.0, d.1, (d.2.0, f e pr c.0 c.1 d.2.1, g e pr d.0 d.1 d.2.2)))))

  pub mono_hole_adj : Entails a p (shape (inner s)) → Entails q b (shape (outer s))
      → Entails (hole_adjoint p q) (hole_adjoint a b) s
  mono_hole_adj f g e pr t w m = λ d wd md wf. g e pr (fill t d) wf (m d wd (f e pr d wd md) wf)

  pub mono_ctx_adj : (k : DataSort) → Entails a p (context (outer s) k) → Entails q b (shape k)
      → Entails (context_adjoint k p q) (context_adjoint k a b) s
  mono_ctx_adj k f g e pr t w m = λ c wc mc wf. g e pr (fill c t) wf (m c wc (f e pr c wc mc) wf)

module _ (p q : Formula) (s : Sort) where
  pub mono_tree : Entails p q (with_outer tree s) → Entails (one_tree p) (one_tree q) s
  mono_tree f e pr t w m = (m.0, f e pr t m.0 m.1)

  pub mono_root : Entails p q (with_outer tree s) → Entails (one_root p) (one_root q) s
  mono_root f e pr t w m = (m.0, f e pr t m.0 m.1)

-- the children of a node
kids-WellFormed : (n : List ℕ) (i : ℕ) (k : Trees) (l : ℕ) (r : Trees) → WellFormed (node n i k l r)
    → WellFormed k
kids-WellFormed n i k l r w = record {
  nodes_once = λ m. omega (arith, w.nodes_once m);
  lists_once = λ m. omega (arith, w.lists_once m);
  no_node_zero = omega (arith, w.no_node_zero);
  no_list_zero = omega (arith, w.no_list_zero);
}

pub kids-Shaped : (s : Sort) (n : List ℕ) (i : ℕ) (k : Trees) (l : ℕ) → Shaped s (node n i k l none)
    → Shaped (with_outer forest s) k
kids-Shaped (value v) n i k l w = absurd w.holes_fit
kids-Shaped (shape j) n i k l w =
    record {
      well_formed = kids-WellFormed n i k l none w.well_formed;
      width_fits = tt;
      holes_fit = omega
          (arith, w.holes_fit);
    }
kids-Shaped (context h j) n i k l w = record {
  well_formed = kids-WellFormed n i k l none w.well_formed;
  width_fits = tt;
  holes_fit = one-hole h forest k (omega (arith, w.holes_fit.one))
      (λ z. hole-below w.holes_fit refl) (λ z. hole-below w.holes_fit refl);
}

pub IfNode-map : (s : Sort) (r : Trees) (P Q : List ℕ → ℕ → Trees → ℕ → Type 0) → Shaped s r
    → ((n : List ℕ) (i : ℕ) (k : Trees) (l : ℕ) → Shaped (with_outer forest s) k → P n i k l
    → Q n i k l) → IfNode r P → IfNode r Q
IfNode-map s none P Q w f m = absurd m
IfNode-map s (hole r) P Q w f m = absurd m
IfNode-map s (node n i k l none) P Q w f m = f n i k l (kids-Shaped s n i k l w) m
IfNode-map s (node n i k l (hole r)) P Q w f m = absurd m
IfNode-map s (node n i k l (node n' i' k' l' r)) P Q w f m = absurd m

module _ (n i l : Term) (p q : Formula) (s : Sort) where
  pub mono_node : Entails p q (with_outer forest s)
      → Entails (node_formula n i p l) (node_formula n i q l) s
  mono_node f e pr t w m =
      IfNode-map s t _ _ w (λ name number kids list wk h. (h.0, h.1, h.2, f e pr kids wk h.3)) m
