-- The rows with closed conclusions: node_some, forest_cases, grove_cases and len_some.
use Rattle.std.proofs.Common.{◌≡◌, ℕ, ◌<◌, zero, suc, List, inl, inr, pos, refl, sym, arith, subst}
use Rattle.std.proofs.Math.Dec.{leb-zero}
use Rattle.model_shapes.specs.Sorts.{DataSort, Sort, tree, forest, grove, shape}
use Rattle.model_shapes.specs.Values.{node_number, list_number, int, str}
use Rattle.model_shapes.specs.Trees.{Trees, WellFormed, none, node, hole, beside, width}
use Rattle.model_shapes.specs.Shapes.{Shaped}
use Rattle.model_shapes.specs.Things.{val, trees}
use Rattle.model_shapes.proofs.Shapes.{IsList, left-WellFormed, right-WellFormed}
use Rattle.model_terms.specs.Variables.{bound}
use Rattle.model_terms.specs.Terms.{Term, variable}
use Rattle.model_formulas.specs.Formulas.{Formula, existential, truth, empty, one_tree, same_as}
use Rattle.model_formulas.specs.Satisfaction.{Environment, Meets, Entails, choosing}
use Rattle.rule_table.specs.Notation.{◌or◌, ◌∗◌}
use Rattle.rule_table.specs.Closed.{some_node, first_and_rest, root_and_rest, some_length}
use Rattle.entailment_laws.proofs.Mono.{kids-Shaped}
use Rattle.entailment_laws.proofs.Classical.{surely}
use Rattle.entailment_laws.proofs.Shared.{SameAt-refl, split}
use Rattle.entailment_laws.proofs.Nodes.{tally_self}

-- the variable of the i-th binder outwards
abbrev binder : ℕ → Sort → Term
binder i s = variable (bound i s)

-- A NODE HAS A NAME, NUMBERS AND CHILDREN
one_node : (r : Trees) → Shaped (shape tree) r
    → (s : List ℕ) × (i : ℕ) × (k : Trees) × (l : ℕ) × (r ≡ node s i k l none)
one_node none w = absurd (omega (arith, w.width_fits))
one_node (hole r) w = absurd (omega (arith, w.holes_fit))
one_node (node s i k l none) w = (s, i, k, l, refl)
one_node (node s i k l (hole r)) w = absurd (omega (arith, w.width_fits))
one_node (node s i k l (node s' i' k' l' r)) w = absurd (omega (arith, w.width_fits))

positive_node : (s : List ℕ) (i : ℕ) (k : Trees) (l : ℕ) → WellFormed (node s i k l none) → 0 < i
positive_node s zero k l w = absurd (omega (arith, w.no_node_zero, tally_self 0))
positive_node s (suc i) k l w = omega arith

positive_list : (s : List ℕ) (i : ℕ) (k : Trees) (l : ℕ) → WellFormed (node s i k l none) → 0 < l
positive_list s i k zero w = absurd (omega (arith, w.no_list_zero, tally_self 0))
positive_list s i k (suc l) w = omega arith

node_is : (e : Environment) (s : List ℕ) (i : ℕ) (k : Trees) (l : ℕ)
    → Shaped (shape tree) (node s i k l none)
    → Meets some_node e (shape tree) (node s i k l none)
node_is e s i k l w =
    surely (
      val (str s),
      tt,
      surely (
        val (node_number i),
        positive_node s i k l w.well_formed,
        surely (
          trees k,
          kids-Shaped (shape tree) s i k l w,
          surely (val (list_number l), positive_list s i k l w.well_formed, each_is),
        ),
      ),
    )
  where
    each_is : (val (str s) ≡ val (str s)) × (val (node_number i) ≡ val (node_number i))
        × (val (list_number l) ≡ val (list_number l)) × (k ≡ k)
    each_is = (refl, refl, refl, refl)

pub node_some : Entails truth some_node (shape tree)
node_some e pr r w m =
    let (s, i, k, l, form) = one_node r w in
    subst (Meets some_node e (shape tree)) (sym form)
    (node_is e s i k l (subst (Shaped (shape tree)) form w))

-- NOTHING, OR A FIRST TREE AND THE REST
module _ (k : DataSort) (list : IsList k) where
  -- (exists $t . (exists $k . (<$t> * $k))), and so with [ ] and +
  abbrev first_then : Formula
  first_then = existential (shape tree) (existential (shape k)
      (one_tree (same_as (binder 1 (shape tree))) ∗ same_as (binder 0 (shape k))))

  list_cases : Entails truth (empty k or first_then) (shape k)
  list_cases e pr none w m = surely (inl refl)
  list_cases e pr (hole r) w m = absurd (omega (arith, w.holes_fit))
  list_cases e pr (node s i kids l r) w m =
      surely (inr (surely (trees a, wa, surely (trees r, wr, parted))))
    where
      a : Trees
      a = node s i kids l none

      wa : Shaped (shape tree) (node s i kids l none)
      wa = record {
        well_formed = left-WellFormed (node s i kids l none) r w.well_formed;
        width_fits = omega arith;
        holes_fit = omega (arith, w.holes_fit);
      }

      wl : Shaped (shape k) (node s i kids l none)
      wl = record {
        well_formed = wa.well_formed;
        width_fits = list (width a);
        holes_fit = wa.holes_fit;
      }

      wr : Shaped (shape k) r
      wr = record {
        well_formed = right-WellFormed (node s i kids l none) r w.well_formed;
        width_fits = list (width r);
        holes_fit = omega (arith, w.holes_fit);
      }

      e2 : Environment
      e2 = choosing (trees r) (choosing (trees a) e)

      parted : Meets (one_tree (same_as (binder 1 (shape tree))) ∗ same_as (binder 0 (shape k)))
          (choosing (trees r) (choosing (trees (node s i kids l none)) e)) (shape k)
          (node s i kids l r)
      parted = split k (shape k) (shape k) (Meets (one_tree (same_as (binder 1 (shape tree)))) e2)
          (Meets (same_as (binder 0 (shape k))) e2) (beside a r) a r wl wr
          (SameAt-refl k (beside a r))
          (wa, refl) (SameAt-refl k r)

pub forest_cases : Entails truth (empty forest or first_and_rest) (shape forest)
forest_cases = list_cases forest (λ n. tt)

pub grove_cases : Entails truth (empty grove or root_and_rest) (shape grove)
grove_cases = list_cases grove (λ n. tt)

-- A LENGTH
pub len_some : (s : Sort) → Entails truth some_length s
len_some s e pr r w m = surely (val (int (pos (width r))), tt, (refl, leb-zero (width r)))
