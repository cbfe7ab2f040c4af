-- What the axioms append, remove and create share.
use Rattle.std.proofs.Common.{◌≡◌, ℕ, ◌≤◌, ◌+◌, ◌*◌, List, [], ◌∷◌, cond, refl, sym, ap, subst, arith, true}
use Rattle.std.proofs.Math.Decide.{ℕ_discrete}
use Rattle.model_shapes.specs.Shapes.{holes, Shaped, OneHole, Same, SameAt}
use Rattle.model_shapes.specs.RootHoles.{root_holes}
use Rattle.model_shapes.specs.Sorts.{DataSort, Sort, shape, context, tree, forest, grove}
use Rattle.model_shapes.specs.Trees.{Trees, none, node, hole, beside, fill, node_uses, list_uses, root_uses, one_if, WellFormed}
use Rattle.model_shapes.proofs.Basics.{node_uses-fill, list_uses-fill, holes-fill, root_uses-beside}
use Rattle.model_shapes.proofs.Filling.{swap_in, grove_hole}
use Rattle.model_shapes.proofs.Shapes.{SameAt-sym, SameAt-trans}
use Rattle.model_formulas.specs.Formulas.{Formula, Side}
use Rattle.model_formulas.specs.Satisfaction.{Environment, Splits}
use Rattle.model_formulas.specs.Formulas.{left_sort, right_sort}
use Rattle.model_commands.specs.Commands.{Command}
use Rattle.model_commands.specs.SortTests.{is_sorted, BodiesSorted}
use Rattle.model_groves.specs.Groves.{nodes_where, numbered}
use Rattle.model_machine.specs.ClassicalTriples.{Ends, Stands}
use Rattle.model_groves.specs.Picks.{Pick}
use Rattle.model_machine.specs.Machine.{beginning, run, runs}
use Rattle.model_groves.specs.Groves.{is_yes}
use Rattle.model_terms.specs.Stores.{Store, ProperStore}
use Rattle.model_commands.specs.Theories.{Procedures}
use Rattle.model_machine.proofs.Fine.{less-WellFormed}
use Rattle.model_groves.proofs.Groves.{those-pass, Roots, found-number}
use Rattle.model_machine.proofs.SameRuns.{same-runs}
use Rattle.triple_laws.proofs.Endings.{Ends-same}
use Rattle.entailment_laws.proofs.Parts.{none-Shaped}
use Rattle.triple_laws.proofs.Here.{Found}

-- A NUMBER IN USE IS FOUND
empty-beside : (a b : Trees) → beside a b ≡ none → (a ≡ none) × (b ≡ none)
empty-beside none b e = (refl, e)
empty-beside (node s i k l r) b e = absurd cc
empty-beside (hole r) b e = absurd cc

not-found : (n : ℕ) (g : Trees) → nodes_where (numbered n) g ≡ none → node_uses n g ≡ 0
not-found n none e = refl
not-found n (hole r) e = not-found n r e
not-found n (node s i k l r) e = tested (ℕ_discrete n i) e (not-found n k) (not-found n r)
  where
    tested : (d : Dec (n ≡ i))
        → cond (is_yes d) (node s i k l (nodes_where (numbered n) r))
        (beside (nodes_where (numbered n) k) (nodes_where (numbered n) r)) ≡ none
        → (nodes_where (numbered n) k ≡ none → node_uses n k ≡ 0)
        → (nodes_where (numbered n) r ≡ none → node_uses n r ≡ 0)
        → one_if d + (node_uses n k + node_uses n r) ≡ 0
    tested (yes q) e x y = absurd cc
    tested (no m) e x y =
        let both = empty-beside (nodes_where (numbered n) k) (nodes_where (numbered n) r) e in
        omega (arith, x both.0, y both.1)

pub found : (n : ℕ) (g : Trees) → 1 ≤ node_uses n g → Found n g
found n g h = seen (nodes_where (numbered n) g) refl (those-pass (numbered n) g)
  where
    seen : (a : Trees) → nodes_where (numbered n) g ≡ a → Roots (numbered n) a → Found n g
    seen none e p = absurd (omega (arith, not-found n g e))
    seen (hole r) e p = absurd p
    seen (node s i k l r) e p = record {
      name = s;
      kids = k;
      list = l;
      rest = r;
      is = subst (λ z. nodes_where (numbered n) g ≡ node s z k l r)
          (sym (found-number n g s i k l r e)) e;
    }

-- SHAPES
pub child-list : (s : List ℕ) (i : ℕ) (k : Trees) (l : ℕ) → Shaped (shape tree) (node s i k l none)
    → Shaped (shape forest) k
child-list s i k l w = record {
  well_formed = less-WellFormed k (node s i k l none) (λ n. omega arith) (λ n. omega arith)
      w.well_formed;
  width_fits = tt;
  holes_fit = omega (arith, w.holes_fit);
}

-- a tree is a forest and a grove, and so is nothing
pub wide : (k : DataSort) (a : Trees) → (k ≡ tree → ⊥) → Shaped (shape tree) a → Shaped (shape k) a
wide tree a n w = absurd (n refl)
wide forest a n w = record { well_formed = w.well_formed; width_fits = tt; holes_fit = w.holes_fit }
wide grove a n w = record { well_formed = w.well_formed; width_fits = tt; holes_fit = w.holes_fit }

pub nothing-Shaped : (k : DataSort) → (k ≡ tree → ⊥) → Shaped (shape k) none
nothing-Shaped tree n = absurd (n refl)
nothing-Shaped forest n = none-Shaped forest (λ m. tt)
nothing-Shaped grove n = none-Shaped grove (λ m. tt)

-- a context without its data
pub emptied-WellFormed : (c u : Trees) → holes c ≡ 1 → WellFormed (fill c u)
    → WellFormed (fill c none)
emptied-WellFormed c u o w =
    less-WellFormed (fill c none) (fill c u)
    (λ n. omega (
      arith,
      node_uses-fill n c none,
      node_uses-fill n c u,
      ap
          (λ z. z * node_uses n none) o,
    ))
    (λ n. omega (
      arith,
      list_uses-fill n c none,
      list_uses-fill n c u,
      ap
          (λ z. z * list_uses n none) o,
    )) w

-- a context in a context has one hole
pub one-inside : (h d k : DataSort) (c c1 : Trees) → Shaped (context d k) c
    → Shaped (context h d) c1 → holes (fill c c1) ≡ 1
one-inside h d k c c1 wc wc1 =
    omega (
      arith,
      holes-fill c c1,
      wc.holes_fit.one,
      wc1.holes_fit.one,
      ap
          (λ z. z * holes c1) wc.holes_fit.one,
    )

-- WHAT MEETS A SPLIT
pub split_at : (side : Side) (s : Sort) (r : Trees) (P Q : Sort → Trees → Type 0) (a b : Trees)
    → Shaped (left_sort side s) a → Shaped (right_sort side s) b → Same s r (beside a b)
    → P (left_sort side s) a → Q (right_sort side s) b → Splits side s r P Q
split_at side s r P Q a b wa wb same pa qb = λ n. n (a, wa, λ m. m (b, wb, (same, pa, qb)))

-- THE SAME GROVE WILL DO
Stands-same : (d : DataSort) (c : Trees) (q : Formula) (e : Environment) (st : Store)
    (g g' : Trees) → SameAt grove g g' → Stands d c q e st g → Stands d c q e st g'
Stands-same d c q e st g g' same s =
    λ n. s (λ x. n (
      x.0,
      x.1,
      (SameAt-trans grove g' g (fill c x.0) (SameAt-sym grove g g' same) x.2.0, x.2.1),
    ))

pub on-same : (ps : Procedures) → BodiesSorted ps → (d : DataSort) (c : Trees) (q : Formula)
    (e : Environment) (cmd : Command) (st : Store) (g g' : Trees) (picks : List Pick)
    → is_sorted ps cmd ≡ true → ProperStore st → Shaped (shape grove) g' → SameAt grove g' g
    → Ends ⊥ (Stands d c q e) (runs ps picks (beginning cmd st g'))
    → Ends ⊥ (Stands d c q e) (runs ps picks (beginning cmd st g))
on-same ps bodies d c q e cmd st g g' picks so pr w same h =
    Ends-same (Stands d c q e) (λ st' g1 g2. Stands-same d c q e st' g1 g2)
    (runs ps picks (beginning cmd st g')) (runs ps picks (beginning cmd st g))
    (same-runs ps bodies picks (run cmd ∷ []) st g' g (so, tt)
    (record { proper = pr; whole = w }) same) h

-- a root beside the data is a root beside the grove
pub swap-root : (c x u : Trees) → OneHole grove grove c
    → SameAt grove (beside (fill c x) u) (fill c (beside x u))
swap-root c x u o t = omega (
  arith,
  root_uses-beside t (fill c x) u,
  swap_in t c x (beside x u) (grove_hole grove c o),
  root_uses-beside t x u,
  ap (λ z. z * root_uses t x) root-one,
  ap (λ z. z * root_uses t (beside x u)) root-one,
)
  where
    root-one : root_holes c ≡ 1
    root-one = omega (arith, grove_hole grove c o, o.one)
