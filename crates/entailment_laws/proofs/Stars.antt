-- The rows of `*`, `.*`, `*.`, `+` and `.+`: regrouping, units, and the order of roots.
use Rattle.std.proofs.Common.{arith}
use Rattle.model_formulas.proofs.Stable.{stable}
use Rattle.model_formulas.specs.Formulas.{Formula, concatenation, empty, grove_sum, grove_sum_hole, hole_left, hole_right, whole}
use Rattle.model_formulas.specs.Satisfaction.{Entails, Meets}
use Rattle.model_shapes.proofs.Basics.{root_uses-beside}
use Rattle.model_shapes.specs.Sorts.{DataSort, context, forest, grove, shape}
use Rattle.entailment_laws.proofs.Parts.{add_first, add_last, drop_first, drop_last, hole_first, hole_last, none-Shaped, parts, parts-say, regroup, regroup_back, shapes}

module _ (p q r : Formula) where
  pub star_assoc : Entails (concatenation whole (concatenation whole p q) r)
      (concatenation whole p (concatenation whole q r)) (shape forest)
  star_assoc e pr t w h =
      regroup forest (λ n. tt) (shape forest) (shape forest) (shape forest) (shape forest)
      (shape forest) (Meets p e (shape forest)) (Meets q e (shape forest))
      (Meets r e (shape forest)) t w.well_formed shapes h

  pub star_assoc_back : Entails (concatenation whole p (concatenation whole q r))
      (concatenation whole (concatenation whole p q) r) (shape forest)
  star_assoc_back e pr t w h =
      regroup_back forest (λ n. tt) (shape forest) (shape forest) (shape forest) (shape forest)
      (shape forest) (Meets p e (shape forest)) (Meets q e (shape forest))
      (Meets r e (shape forest)) t w.well_formed shapes h

  pub plus_assoc : Entails (grove_sum (grove_sum p q) r) (grove_sum p (grove_sum q r)) (shape grove)
  plus_assoc e pr t w h =
      regroup grove (λ n. tt) (shape grove) (shape grove) (shape grove) (shape grove) (shape grove)
      (Meets p e (shape grove)) (Meets q e (shape grove)) (Meets r e (shape grove)) t w.well_formed
      shapes h

  pub plus_assoc_back : Entails (grove_sum p (grove_sum q r)) (grove_sum (grove_sum p q) r)
      (shape grove)
  plus_assoc_back e pr t w h =
      regroup_back grove (λ n. tt) (shape grove) (shape grove) (shape grove) (shape grove)
      (shape grove) (Meets p e (shape grove)) (Meets q e (shape grove))
      (Meets r e (shape grove)) t w.well_formed shapes h

module _ (k p q : Formula) (h : DataSort) where
  pub star_left_assoc : Entails (concatenation hole_left (concatenation hole_left k p) q)
      (concatenation hole_left k (concatenation whole p q)) (context h forest)
  star_left_assoc e pr t w m =
      regroup forest (λ n. tt) (context h forest) (shape forest) (shape forest) (context h forest)
      (shape forest) (Meets k e (context h forest)) (Meets p e (shape forest))
      (Meets q e (shape forest)) t w.well_formed shapes m

  pub star_left_assoc_back : Entails (concatenation hole_left k (concatenation whole p q))
      (concatenation hole_left (concatenation hole_left k p) q) (context h forest)
  star_left_assoc_back e pr t w m =
      regroup_back forest (λ n. tt) (context h forest) (shape forest) (shape forest)
      (context h forest) (shape forest) (Meets k e (context h forest)) (Meets p e (shape forest))
      (Meets q e (shape forest)) t w.well_formed hole_first m

  pub star_right_assoc : Entails (concatenation hole_right p (concatenation hole_right q k))
      (concatenation hole_right (concatenation whole p q) k) (context h forest)
  star_right_assoc e pr t w m =
      regroup_back forest (λ n. tt) (shape forest) (shape forest) (context h forest) (shape forest)
      (context h forest) (Meets p e (shape forest)) (Meets q e (shape forest))
      (Meets k e (context h forest)) t w.well_formed shapes m

  pub star_right_assoc_back : Entails (concatenation hole_right (concatenation whole p q) k)
      (concatenation hole_right p (concatenation hole_right q k)) (context h forest)
  star_right_assoc_back e pr t w m =
      regroup forest (λ n. tt) (shape forest) (shape forest) (context h forest) (shape forest)
      (context h forest) (Meets p e (shape forest)) (Meets q e (shape forest))
      (Meets k e (context h forest)) t w.well_formed hole_last m

  pub star_mid_assoc : Entails (concatenation hole_left (concatenation hole_right p k) q)
      (concatenation hole_right p (concatenation hole_left k q)) (context h forest)
  star_mid_assoc e pr t w m =
      regroup forest (λ n. tt) (shape forest) (context h forest) (shape forest) (context h forest)
      (context h forest) (Meets p e (shape forest)) (Meets k e (context h forest))
      (Meets q e (shape forest)) t w.well_formed hole_first m

  pub star_mid_assoc_back : Entails (concatenation hole_right p (concatenation hole_left k q))
      (concatenation hole_left (concatenation hole_right p k) q) (context h forest)
  star_mid_assoc_back e pr t w m =
      regroup_back forest (λ n. tt) (shape forest) (context h forest) (shape forest)
      (context h forest) (context h forest) (Meets p e (shape forest))
      (Meets k e (context h forest)) (Meets q e (shape forest)) t w.well_formed hole_last m

  pub plus_left_assoc : Entails (grove_sum_hole (grove_sum_hole k p) q)
      (grove_sum_hole k (grove_sum p q)) (context h grove)
  plus_left_assoc e pr t w m =
      regroup grove (λ n. tt) (context h grove) (shape grove) (shape grove) (context h grove)
      (shape grove) (Meets k e (context h grove)) (Meets p e (shape grove))
      (Meets q e (shape grove)) t w.well_formed shapes m

  pub plus_left_assoc_back : Entails (grove_sum_hole k (grove_sum p q))
      (grove_sum_hole (grove_sum_hole k p) q) (context h grove)
  plus_left_assoc_back e pr t w m =
      regroup_back grove (λ n. tt) (context h grove) (shape grove) (shape grove) (context h grove)
      (shape grove) (Meets k e (context h grove)) (Meets p e (shape grove))
      (Meets q e (shape grove)) t w.well_formed hole_first m

module _ (p : Formula) where
  pub star_unit : Entails (concatenation whole p (empty forest)) p (shape forest)
  star_unit e pr t w m = drop_last (shape forest) (shape forest) p e t m

  pub star_unit_back : Entails p (concatenation whole p (empty forest)) (shape forest)
  star_unit_back e pr t w m =
      add_last (shape forest) (shape forest) p e t (none-Shaped forest (λ n. tt)) w m

  pub unit_star : Entails (concatenation whole (empty forest) p) p (shape forest)
  unit_star e pr t w m = drop_first (shape forest) (shape forest) p e t m

  pub unit_star_back : Entails p (concatenation whole (empty forest) p) (shape forest)
  unit_star_back e pr t w m =
      add_first (shape forest) (shape forest) p e t (none-Shaped forest (λ n. tt)) w m

  pub plus_unit : Entails (grove_sum p (empty grove)) p (shape grove)
  plus_unit e pr t w m = drop_last (shape grove) (shape grove) p e t m

  pub plus_unit_back : Entails p (grove_sum p (empty grove)) (shape grove)
  plus_unit_back e pr t w m =
      add_last (shape grove) (shape grove) p e t (none-Shaped grove (λ n. tt)) w m

module _ (k : Formula) (h : DataSort) where
  pub star_left_unit : Entails (concatenation hole_left k (empty forest)) k (context h forest)
  star_left_unit e pr t w m = drop_last (context h forest) (shape forest) k e t m

  pub star_left_unit_back : Entails k (concatenation hole_left k (empty forest)) (context h forest)
  star_left_unit_back e pr t w m =
      add_last (context h forest) (shape forest) k e t (none-Shaped forest (λ n. tt)) w m

  pub star_right_unit : Entails (concatenation hole_right (empty forest) k) k (context h forest)
  star_right_unit e pr t w m = drop_first (context h forest) (shape forest) k e t m

  pub star_right_unit_back : Entails k (concatenation hole_right (empty forest) k)
      (context h forest)
  star_right_unit_back e pr t w m =
      add_first (context h forest) (shape forest) k e t (none-Shaped forest (λ n. tt)) w m

  pub plus_left_unit : Entails (grove_sum_hole k (empty grove)) k (context h grove)
  plus_left_unit e pr t w m = drop_last (context h grove) (shape grove) k e t m

  pub plus_left_unit_back : Entails k (grove_sum_hole k (empty grove)) (context h grove)
  plus_left_unit_back e pr t w m =
      add_last (context h grove) (shape grove) k e t (none-Shaped grove (λ n. tt)) w m

pub plus_comm : (p q : Formula) → Entails (grove_sum p q) (grove_sum q p) (shape grove)
plus_comm p q e pr t w h =
    parts-say grove (shape grove) (shape grove) t (Meets p e (shape grove))
    (Meets q e (shape grove)) (stable (grove_sum q p) e (shape grove) t)
    (λ a b wa wb same ha hb. parts grove (shape grove) (shape grove) t (Meets q e (shape grove))
    (Meets p e (shape grove)) b a wb wa
    (λ u. omega (arith, same u, root_uses-beside u a b, root_uses-beside u b a)) hb ha) h
