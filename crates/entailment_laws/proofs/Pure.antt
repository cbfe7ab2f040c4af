-- Pure parts move in and out.
use Rattle.model_formulas.proofs.Pure.{pure-ignores}
use Rattle.model_formulas.proofs.Quantified.{moved}
use Rattle.std.proofs.Common.{◌≡◌, ℕ, List, true}
use Rattle.model_formulas.proofs.Stable.{stable}
use Rattle.model_formulas.specs.Formulas.{Formula, Side, conjunction, hole_left, is_pure, whole}
use Rattle.model_formulas.specs.Satisfaction.{Entails, Environment, IfNode, Meets, Splits}
use Rattle.model_formulas.specs.Formulas.{left_sort, right_sort}
use Rattle.model_shapes.specs.Sorts.{Sort, context, forest, with_outer, outer, tree}
use Rattle.model_shapes.specs.Trees.{Trees, hole, node, none}
use Rattle.entailment_laws.proofs.Frames.{Frame, as_context, as_part, in_node, in_root, in_tree, joined_first, joined_last, plus_first, plus_hole_first, plus_hole_last, plus_last, with_part}
use Rattle.entailment_laws.proofs.Mono.{IfNode-map}
use Rattle.entailment_laws.proofs.Parts.{parts-map, parts-say}

IfNode-say : {X : Type 0} (r : Trees) (P : List ℕ → ℕ → Trees → ℕ → Type 0)
    → ((n : List ℕ) (i : ℕ) (k : Trees) (l : ℕ) → P n i k l → X) → IfNode r P → X
IfNode-say none P f m = absurd m
IfNode-say (hole r) P f m = absurd m
IfNode-say (node n i k l none) P f m = f n i k l m
IfNode-say (node n i k l (hole r)) P f m = absurd m
IfNode-say (node n i k l (node n' i' k' l' r)) P f m = absurd m

pure-moves : (p : Formula) → is_pure p ≡ true → (e : Environment) (s s' : Sort) (r r' : Trees)
    → Meets p e s r → Meets p e s' r'
pure-moves p h e s s' r r' m = moved (pure-ignores p h e s s' r r') m

module _ (p q : Formula) (pure : is_pure q ≡ true) where
  moves : (e : Environment) (s s' : Sort) (r r' : Trees) → Meets q e s r → Meets q e s' r'
  moves = pure-moves q pure

  -- in a split
  out_first : (side : Side) (s : Sort) (e : Environment) (t : Trees) (B : Sort → Trees → Type 0)
      → Splits side s t (Meets (conjunction p q) e) B
      → Splits side s t (Meets p e) B × Meets q e s t
  out_first side s e t B h = (
    parts-map (outer s) (left_sort side s) (right_sort side s) t
        (Meets (conjunction p q) e (left_sort side s)) (Meets p e (left_sort side s))
        (B (right_sort side s)) (B (right_sort side s)) (λ a wa m. m.0) (λ b wb m. m) h,
    parts-say (outer s) (left_sort side s) (right_sort side s) t
        (Meets (conjunction p q) e (left_sort side s)) (B (right_sort side s)) (stable q e s t)
        (λ a b wa wb same ha hb. moves e (left_sort side s) s a t ha.1) h,
  )

  out_last : (side : Side) (s : Sort) (e : Environment) (t : Trees) (B : Sort → Trees → Type 0)
      → Splits side s t B (Meets (conjunction p q) e)
      → Splits side s t B (Meets p e) × Meets q e s t
  out_last side s e t B h = (
    parts-map (outer s) (left_sort side s) (right_sort side s) t (B (left_sort side s))
        (B (left_sort side s)) (Meets (conjunction p q) e (right_sort side s))
        (Meets p e (right_sort side s)) (λ a wa m. m) (λ b wb m. m.0) h,
    parts-say (outer s) (left_sort side s) (right_sort side s) t (B (left_sort side s))
        (Meets (conjunction p q) e (right_sort side s)) (stable q e s t)
        (λ a b wa wb same ha hb. moves e (right_sort side s) s b t hb.1) h,
  )

  in_first : (side : Side) (s : Sort) (e : Environment) (t : Trees) (B : Sort → Trees → Type 0)
      → Splits side s t (Meets p e) B × Meets q e s t
      → Splits side s t (Meets (conjunction p q) e) B
  in_first side s e t B h =
      parts-map (outer s) (left_sort side s) (right_sort side s) t (Meets p e (left_sort side s))
      (Meets (conjunction p q) e (left_sort side s)) (B (right_sort side s)) (B (right_sort side s))
      (λ a wa m. (m, moves e s (left_sort side s) t a h.1)) (λ b wb m. m) h.0

  in_last : (side : Side) (s : Sort) (e : Environment) (t : Trees) (B : Sort → Trees → Type 0)
      → Splits side s t B (Meets p e) × Meets q e s t
      → Splits side s t B (Meets (conjunction p q) e)
  in_last side s e t B h =
      parts-map (outer s) (left_sort side s) (right_sort side s) t (B (left_sort side s))
      (B (left_sort side s)) (Meets p e (right_sort side s))
      (Meets (conjunction p q) e (right_sort side s))
      (λ a wa m. m) (λ b wb m. (m, moves e s (right_sort side s) t b h.1)) h.0

  pub pure_out : (z : Frame) (s : Sort)
      → Entails (with_part z (conjunction p q)) (conjunction (with_part z p) q) s
  pure_out (joined_first side b) s e pr t w h = out_first side s e t (Meets b e) h
  pure_out (joined_last side b) s e pr t w h = out_last side s e t (Meets b e) h
  pure_out (plus_first b) s e pr t w h = out_first whole s e t (Meets b e) h
  pure_out (plus_last b) s e pr t w h = out_last whole s e t (Meets b e) h
  pure_out (plus_hole_first b) s e pr t w h = out_first hole_left s e t (Meets b e) h
  pure_out (plus_hole_last b) s e pr t w h = out_last hole_left s e t (Meets b e) h
  pure_out (in_node n i l) s e pr t w h = (
    IfNode-map s t _ _ w (λ name number kids list wk m. (m.0, m.1, m.2, m.3.0)) h,
    IfNode-say t _ (λ name number kids list m. moves e (with_outer forest s) s kids t m.3.1)
        h,
  )
  pure_out in_tree s e pr t w h = ((h.0, h.1.0), moves e (with_outer tree s) s t t h.1.1)
  pure_out in_root s e pr t w h = ((h.0, h.1.0), moves e (with_outer tree s) s t t h.1.1)
  pure_out (as_context j b) s e pr t w h = (
    (λ n. h (λ c. c.2 (λ d. n (c.0, c.1, λ k. k (d.0, d.1, (d.2.0, d.2.1.0, d.2.2)))))),
    stable q e s t
        (λ n. h (λ c. c.2 (λ d. n (moves e (context j (outer s)) s c.0 t d.2.1.1)))),
  )
  pure_out (as_part j b) s e pr t w h = (
    (λ n. h (λ c. c.2 (λ d. n (c.0, c.1, λ k. k (d.0, d.1, (d.2.0, d.2.1, d.2.2.0)))))),
    stable q e s t (λ n. h (λ c. c.2 (λ d. n (moves e (with_outer j s) s d.0 t d.2.2.1)))),
  )

  pub pure_in : (z : Frame) (s : Sort)
      → Entails (conjunction (with_part z p) q) (with_part z (conjunction p q)) s
  pure_in (joined_first side b) s e pr t w h = in_first side s e t (Meets b e) h
  pure_in (joined_last side b) s e pr t w h = in_last side s e t (Meets b e) h
  pure_in (plus_first b) s e pr t w h = in_first whole s e t (Meets b e) h
  pure_in (plus_last b) s e pr t w h = in_last whole s e t (Meets b e) h
  pure_in (plus_hole_first b) s e pr t w h = in_first hole_left s e t (Meets b e) h
  pure_in (plus_hole_last b) s e pr t w h = in_last hole_left s e t (Meets b e) h
  pure_in (in_node n i l) s e pr t w h =
      IfNode-map s t _ _ w
      (λ name number kids list wk m.
      (m.0, m.1, m.2, (m.3, moves e s (with_outer forest s) t kids h.1))) h.0
  pure_in in_tree s e pr t w h = (h.0.0, (h.0.1, moves e s (with_outer tree s) t t h.1))
  pure_in in_root s e pr t w h = (h.0.0, (h.0.1, moves e s (with_outer tree s) t t h.1))
  pure_in (as_context j b) s e pr t w h =
      λ n. h.0
      (λ c. c.2
      (λ d. n (
        c.0,
        c.1,
        λ k. k (
          d.0,
          d.1,
          (
            d.2.0,
            (d.2.1, moves e s (context j (outer s)) t c.0 h.1),
            d.2.2,
          ),
        ),
      )))
  pure_in (as_part j b) s e pr t w h =
      λ n. h.0
      (λ c. c.2
      (λ d. n (
        c.0,
        c.1,
        λ k. k (d.0, d.1, (d.2.0, d.2.1, (d.2.2, moves e s (with_outer j s) t d.0 h.1))),
      )))
