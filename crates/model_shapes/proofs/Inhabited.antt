-- Each of the fifteen sorts has a thing, and nothing else has one.
use Rattle.std.proofs.Common.{◌≡◌, ℕ, ◌≤◌, refl, arith, true, false, [], pos}
use Rattle.std.proofs.Math.Decide.{ℕ_discrete}
use Rattle.model_shapes.specs.Trees.{Trees, none, node, hole, width, one_if, node_uses, list_uses, WellFormed}
use Rattle.model_shapes.specs.Shapes.{may_stand, HasWidth, OneHole, HolePlaced}
use Rattle.model_shapes.specs.Sorts.{Sort, value, shape, context, node_sort, list_sort, int_sort, str_sort, bool_sort, DataSort, tree, forest, grove, is_sort}
use Rattle.model_shapes.specs.Things.{Thing, val, trees, Fits}
use Rattle.model_shapes.specs.Values.{null, nolist, int, str, boolean}
use Rattle.model_shapes.proofs.Filling.{grove_root}
use Rattle.model_shapes.proofs.Shapes.{hole-root}
use Rattle.model_shapes.proofs.Truth.{false≢true}

-- an answer counts at most once
pub one_if-le : {A : Type 0} (d : Dec A) → one_if d ≤ 1
one_if-le (yes a) = omega arith
one_if-le (no n) = omega arith

one_if-no : (d : Dec (◌≡◌ {A = ℕ} 0 1)) → one_if d ≡ 0
one_if-no (yes e) = absurd (omega arith)
one_if-no (no n) = refl

nothing : WellFormed none
nothing =
    record {
      nodes_once = λ n. omega arith;
      lists_once = λ n.
          omega arith;
      no_node_zero = refl;
      no_list_zero = refl;
    }

only_hole : WellFormed (hole none)
only_hole =
    record {
      nodes_once = λ n. omega arith;
      lists_once = λ n.
          omega arith;
      no_node_zero = refl;
      no_list_zero = refl;
    }

abbrev lone : Trees → Trees
lone kids = node [] 1 kids 1 none

lone_formed : (kids : Trees) → ((n : ℕ) → node_uses n kids ≡ 0) → ((n : ℕ) → list_uses n kids ≡ 0)
    → WellFormed (lone kids)
lone_formed kids nodes lists = record {
  nodes_once = λ n. omega (arith, one_if-le (ℕ_discrete n 1), nodes n);
  lists_once = λ n. omega (arith, one_if-le (ℕ_discrete n 1), lists n);
  no_node_zero = omega (arith, one_if-no (ℕ_discrete 0 1), nodes 0);
  no_list_zero = omega (arith, one_if-no (ℕ_discrete 0 1), lists 0);
}

some_context : (h k : DataSort) (r : Trees) → WellFormed r → HasWidth k (width r) → OneHole h k r
    → HolePlaced k r → (x : Thing) × Fits (context h k) x
some_context h k r w n o f =
    (trees r, (record { well_formed = w; width_fits = n; holes_fit = o }, f))

here : (h k : DataSort) → may_stand h k ≡ true → HasWidth k 1 → (x : Thing) × Fits (context h k) x
here h k e n = at k e n
  where
    one : (k : DataSort) → may_stand h k ≡ true → OneHole h k (hole none)
    one k e = record { one = refl; stands = e }

    at : (k : DataSort) → may_stand h k ≡ true → HasWidth k 1 → (x : Thing) × Fits (context h k) x
    at tree e n = some_context h tree (hole none) only_hole n (one tree e) tt
    at forest e n = some_context h forest (hole none) only_hole n (one forest e) tt
    at grove e n = some_context h grove (hole none) only_hole n (one grove e) tt

inside : (k : DataSort) → HasWidth k 1 → HolePlaced k (lone (hole none))
    → (x : Thing) × Fits (context forest k) x
inside k n f =
    some_context forest k (lone (hole none))
    (lone_formed (hole none) (λ n. refl) (λ n. refl)) n (record { one = refl; stands = refl }) f

-- a thing of each sort
pub some_thing : (s : Sort) → is_sort s ≡ true → (x : Thing) × Fits s x
some_thing (value node_sort) e = (val null, tt)
some_thing (value list_sort) e = (val nolist, tt)
some_thing (value int_sort) e = (val (int (pos 0)), tt)
some_thing (value str_sort) e = (val (str []), tt)
some_thing (value bool_sort) e = (val (boolean false), tt)
some_thing (shape tree) e = (
  trees (lone none),
  record {
    well_formed = lone_formed none (λ n. refl) (λ n. refl);
    width_fits = refl;
    holes_fit = refl;
  },
)
some_thing (shape forest) e =
    (trees none, record { well_formed = nothing; width_fits = tt; holes_fit = refl })
some_thing (shape grove) e =
    (trees none, record { well_formed = nothing; width_fits = tt; holes_fit = refl })
some_thing (context tree tree) e = here tree tree refl refl
some_thing (context tree forest) e = here tree forest refl tt
some_thing (context tree grove) e = here tree grove refl tt
some_thing (context forest tree) e = inside tree refl tt
some_thing (context forest forest) e = here forest forest refl tt
some_thing (context forest grove) e = inside grove tt refl
some_thing (context grove grove) e = here grove grove refl tt
some_thing (context grove tree) e = absurd (false≢true e)
some_thing (context grove forest) e = absurd (false≢true e)

-- what fits is of a sort that is one
pub fits-is_sort : (s : Sort) (x : Thing) → Fits s x → is_sort s ≡ true
fits-is_sort (value v) x f = refl
fits-is_sort (shape k) x f = refl
fits-is_sort (context tree k) x f = refl
fits-is_sort (context forest k) x f = refl
fits-is_sort (context grove grove) x f = refl
fits-is_sort (context grove tree) (val v) f = absurd f
fits-is_sort (context grove forest) (val v) f = absurd f
fits-is_sort (context grove tree) (trees r) f =
    false≢true (hole-root f.0.holes_fit (grove_root tree r f.0.holes_fit))
fits-is_sort (context grove forest) (trees r) f =
    false≢true (hole-root f.0.holes_fit (grove_root forest r f.0.holes_fit))
