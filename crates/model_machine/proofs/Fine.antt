-- Runs keep stores proper and groves well formed.
use Rattle.std.proofs.Common.{◌≡◌, ℕ, zero, suc, ◌≤◌, ◌<◌, ◌+◌, List, [], ◌∷◌, ◌++◌, pos, negsuc, Bool, true, false, cond, not, ◌&&◌, sym, refl, ap, ◌∙◌, subst, arith, Option, Some, None}
use Rattle.std.proofs.Math.Decide.{ℕ_discrete}
use Rattle.model_shapes.specs.Trees.{Trees, none, node, hole, beside, width, node_uses, list_uses, one_if, WellFormed}
use Rattle.model_shapes.specs.Shapes.{holes, Shaped}
use Rattle.model_shapes.specs.Sorts.{shape, grove, node_sort}
use Rattle.model_shapes.specs.Values.{Value, null, nolist, node_number, list_number, int, str, boolean, FitsValue}
use Rattle.model_terms.specs.Terms.{Term}
use Rattle.model_shapes.proofs.Basics.{holes-beside, node_uses-beside, list_uses-beside}
use Rattle.model_shapes.proofs.Narrow.{no_roots}
use Rattle.model_shapes.proofs.Truth.{both_true}
use Rattle.model_terms.specs.Stores.{ProgVar, Store, set, value_in, value_of, ProperStore, sort_of, default, text_in}
use Rattle.model_terms.specs.Conditions.{truth_of}
use Rattle.model_commands.specs.Commands.{skip, block, assign, create_node, node_name, child_nodes, parent_node, list_item, append_child, remove_child, insert_before, if_else, while_do, local, call, Block, stop, ◌then◌}
use Rattle.model_commands.specs.Theories.{Procedure, Procedures, procedure_named}
use Rattle.model_commands.specs.Sorting.{Feed, Receive, CallFits}
use Rattle.model_commands.specs.SortTests.{is_sorted, call_fits, BodiesSorted}
use Rattle.model_commands.specs.CommandParts.{commands_in, commands_of}
use Rattle.model_commands.proofs.Sorting.{Tested, rest-tested, both-tested, sorted-command, receives-received, local-body, loop-body, branches, call-fits-test}
use Rattle.model_groves.specs.Groves.{nodes_where, has_root, numbered, listed, parental, node_at, list_at, first_number, number_at, item_of, without, adding, adding_before, is_yes, positive}
use Rattle.model_machine.specs.Machine.{FaultKind, no_node, no_list, cycle, not_child, self_ref, Piece, run, restore, return, Move, becomes, faults, bad_pick, pieces_of, reading, appending, inserting, inserting_at, removing, creating, entering, returning, calling, move, Config, configuration, StepOut, next, done, at_fault, at_bad_pick, stepped, step, is_done, running, ended, after_step, runs}
use Rattle.model_groves.specs.Picks.{Pick, is_free}
use Rattle.model_machine.specs.ClassicalTriples.{Ends}
use Rattle.model_machine.specs.Fitting.{FitsPiece, FitPieces, Fine, FitsConfig}
use Rattle.model_terms.proofs.StoreLaws.{unset-proper, set-proper, default-fits, value-fits}
use Rattle.model_commands.proofs.StoreLaws.{not-true}
use Rattle.model_groves.proofs.Groves.{node-taken-out, list-taken-out, holes-taken-out, node-moved-le, list-moved-le, holes-moved-le, node-put-le, list-put-le, holes-put-le, node-those-le, list-those-le, width-numbered, found-number}

-- what uses no number more often is well formed too
pub less-WellFormed : (a b : Trees) → ((n : ℕ) → node_uses n a ≤ node_uses n b)
    → ((n : ℕ) → list_uses n a ≤ list_uses n b) → WellFormed b → WellFormed a
less-WellFormed a b x y w = record {
  nodes_once = λ n. omega (arith, x n, w.nodes_once n);
  lists_once = λ n. omega (arith, y n, w.lists_once n);
  no_node_zero = omega (arith, x 0, w.no_node_zero);
  no_list_zero = omega (arith, y 0, w.no_list_zero);
}

-- a number that isn't 0
pub not-zero : (l : ℕ) → one_if (ℕ_discrete 0 l) ≡ 0 → 0 < l
not-zero l e = by_test l (ℕ_discrete 0 l) e
  where
    by_test : (l : ℕ) (d : Dec (0 ≡ l)) → one_if d ≡ 0 → 0 < l
    by_test zero (yes q) e = absurd (omega arith)
    by_test zero (no n) e = absurd (n refl)
    by_test (suc l) d e = omega arith

-- a node that is found
pub record FoundNode (v : Value) (g : Trees) (s : List ℕ) (i : ℕ) (k : Trees) (l : ℕ)
    (r : Trees) : Type 0 where
  pub number : v ≡ node_number i
  pub alone : r ≡ none
  pub here : nodes_where (numbered i) g ≡ node s i k l none

-- what a value names, where it is there
pub found-node : (v : Value) (g : Trees) → WellFormed g
    → (s : List ℕ) (i : ℕ) (k : Trees) (l : ℕ) (r : Trees) → node_at v g ≡ node s i k l r
    → FoundNode v g s i k l r
found-node (node_number n) g w s i k l r e =
    let is : n ≡ i = found-number n g s i k l r e in
    let one : width (node s i k l r) ≤ 1 =
    subst (λ z. width z ≤ 1) e (omega (arith, width-numbered n g, w.nodes_once n)) in
    let z : r ≡ none = no_roots r (omega arith) in
    record {
      number = ap node_number is;
      alone = z;
      here = subst (λ m. nodes_where (numbered m) g
          ≡ node s i k l none) is (e ∙ ap (node s i k l) z);
    }
found-node null g w s i k l r e = absurd (cc)
found-node nolist g w s i k l r e = absurd (cc)
found-node (list_number n) g w s i k l r e = absurd (cc)
found-node (int n) g w s i k l r e = absurd (cc)
found-node (str n) g w s i k l r e = absurd (cc)
found-node (boolean n) g w s i k l r e = absurd (cc)

-- after appendChild the grove is well formed
pub appended-shaped : (i j : ℕ) (t g : Trees) → nodes_where (numbered j) g ≡ t
    → Shaped (shape grove) g → Shaped (shape grove) (adding i t (without j g))
appended-shaped i j t g e w = record {
  well_formed =
      less-WellFormed (adding i t (without j g)) g (λ m. node-moved-le m i j t g e once)
      (λ m. list-moved-le m i j t g e once) w.well_formed;
  width_fits = tt;
  holes_fit = omega (arith, holes-moved-le i j t g e once, w.holes_fit);
}
  where
    once : node_uses i (without j g) ≤ 1
    once = omega (arith, node-taken-out i j g, w.well_formed.nodes_once i)

-- after insertBefore it is
pub inserted-shaped : (i j : ℕ) (t g : Trees) → nodes_where (numbered j) g ≡ t
    → Shaped (shape grove) g → Shaped (shape grove) (adding_before i t (without j g))
inserted-shaped i j t g e w = record {
  well_formed =
      less-WellFormed (adding_before i t (without j g)) g (λ m. node-put-le m i j t g e once)
      (λ m. list-put-le m i j t g e once) w.well_formed;
  width_fits = tt;
  holes_fit = omega (arith, holes-put-le i j t g e once, w.holes_fit);
}
  where
    once : node_uses i (without j g) ≤ 1
    once = omega (arith, node-taken-out i j g, w.well_formed.nodes_once i)

-- after removeChild the grove is well formed
pub removed-shaped : (j : ℕ) (t g : Trees) → nodes_where (numbered j) g ≡ t
    → Shaped (shape grove) g → Shaped (shape grove) (beside (without j g) t)
removed-shaped j t g e w = record {
  well_formed = less-WellFormed (beside (without j g) t) g
      (λ m. omega (
        arith,
        node_uses-beside m (without j g) t,
        node-taken-out m j g,
        ap (node_uses m) e,
      ))
      (λ m. omega (
        arith,
        list_uses-beside m (without j g) t,
        list-taken-out m j g,
        ap (list_uses m) e,
      )) w.well_formed;
  width_fits = tt;
  holes_fit =
      omega (arith, holes-beside (without j g) t, holes-taken-out j g, ap holes e, w.holes_fit);
}

-- the test says no at 0 alone
pub not-positive : (n : ℕ) → positive n ≡ false → n ≡ 0
not-positive zero e = refl
not-positive (suc n) e = absurd (cc)

-- the test says yes at positive numbers alone
pub is-positive : (n : ℕ) → positive n ≡ true → 0 < n
is-positive zero e = absurd (cc)
is-positive (suc n) e = omega arith

created-once : (f : ℕ → Trees → ℕ) (i : ℕ) (g : Trees) → f i g ≡ 0 → ((n : ℕ) → f n g ≤ 1)
    → (n : ℕ) → f n g + one_if (ℕ_discrete n i) ≤ 1
created-once f i g z o n = by_test (ℕ_discrete n i)
  where
    by_test : (d : Dec (n ≡ i)) → f n g + one_if d ≤ 1
    by_test (yes e) = omega (arith, ap (λ m. f m g) e)
    by_test (no m) = omega (arith, o n)

unused_zero : (i : ℕ) → 0 < i → one_if (ℕ_discrete 0 i) ≡ 0
unused_zero i h = by_test (ℕ_discrete 0 i)
  where
    by_test : (d : Dec (0 ≡ i)) → one_if d ≡ 0
    by_test (yes e) = absurd (omega arith)
    by_test (no m) = refl

-- after createNode the grove is well formed
pub created-shaped : (p : Pick) (s : List ℕ) (g : Trees) → is_free p g ≡ true
    → Shaped (shape grove) g → Shaped (shape grove) (beside g (node s p.node none p.list none))
created-shaped p s g e w =
    let a = both_true (positive p.node && positive p.list) (not (positive (node_uses p.node g))
    && not (positive (list_uses p.list g))) e in
    let b = both_true (positive p.node) (positive p.list) a.0 in
    let c = both_true (not (positive (node_uses p.node g)))
    (not (positive (list_uses p.list g))) a.1 in
    let zn : node_uses p.node g ≡ 0 =
    not-positive (node_uses p.node g) (not-true (positive (node_uses p.node g)) c.0) in
    let zl : list_uses p.list g ≡ 0 =
    not-positive (list_uses p.list g) (not-true (positive (list_uses p.list g)) c.1) in
    let pn : 0 < p.node = is-positive p.node b.0 in
    let pl : 0 < p.list = is-positive p.list b.1 in
    record {
      well_formed = record {
        nodes_once =
            λ n. omega (
              arith,
              node_uses-beside n g (node s p.node none p.list none),
              created-once node_uses p.node g zn w.well_formed.nodes_once n,
            );
        lists_once =
            λ n. omega (
              arith,
              list_uses-beside n g (node s p.node none p.list none),
              created-once list_uses p.list g zl w.well_formed.lists_once n,
            );
        no_node_zero =
            omega (
              arith,
              node_uses-beside 0 g (node s p.node none p.list none),
              w.well_formed.no_node_zero,
              unused_zero p.node pn,
            );
        no_list_zero =
            omega (
              arith,
              list_uses-beside 0 g (node s p.node none p.list none),
              w.well_formed.no_list_zero,
              unused_zero p.list pl,
            );
      };
      width_fits = tt;
      holes_fit = omega (arith, holes-beside g (node s p.node none p.list none), w.holes_fit);
    }

nodes-below : (m : ℕ) (s : List ℕ) (i : ℕ) (k : Trees) (l : ℕ) (r : Trees)
    → node_uses 0 (node s i k l r) ≡ 0 → 0 < i
nodes-below m s i k l r e = not-zero i (omega arith)

first-fits : (a : Trees) → node_uses 0 a ≡ 0 → FitsValue node_sort (first_number a)
first-fits none e = tt
first-fits (hole r) e = tt
first-fits (node s i k l r) e = nodes-below 0 s i k l r e

at-fits : (n : ℕ) (a : Trees) → node_uses 0 a ≡ 0 → FitsValue node_sort (number_at n a)
at-fits n none e = tt
at-fits n (hole r) e = tt
at-fits zero (node s i k l r) e = nodes-below 0 s i k l r e
at-fits (suc n) (node s i k l r) e = at-fits n r (omega arith)

item-fits : (v : Value) (a : Trees) → node_uses 0 a ≡ 0 → FitsValue node_sort (item_of v a)
item-fits (int (pos n)) a e = at-fits n a e
item-fits (int (negsuc n)) a e = tt
item-fits null a e = tt
item-fits nolist a e = tt
item-fits (node_number n) a e = tt
item-fits (list_number n) a e = tt
item-fits (str s) a e = tt
item-fits (boolean b) a e = tt

-- what is found has no number 0
pub record NoZero (a : Trees) : Type 0 where
  pub nodes : node_uses 0 a ≡ 0
  pub lists : list_uses 0 a ≡ 0

those-no-zero : (t : ℕ → Trees → ℕ → Bool) (g : Trees) → WellFormed g → NoZero (nodes_where t g)
those-no-zero t g w =
    record {
      nodes = omega (arith, node-those-le 0 t g, w.no_node_zero);
      lists = omega (
        arith,
        list-those-le 0 t g,
        w.no_list_zero,
      );
    }

none-no-zero : NoZero none
none-no-zero = record { nodes = refl; lists = refl }

node-no-zero : (v : Value) (g : Trees) → WellFormed g → NoZero (node_at v g)
node-no-zero (node_number n) g w = those-no-zero (numbered n) g w
node-no-zero null g w = none-no-zero
node-no-zero nolist g w = none-no-zero
node-no-zero (list_number n) g w = none-no-zero
node-no-zero (int n) g w = none-no-zero
node-no-zero (str n) g w = none-no-zero
node-no-zero (boolean n) g w = none-no-zero

list-no-zero : (v : Value) (g : Trees) → WellFormed g → NoZero (list_at v g)
list-no-zero (list_number n) g w = those-no-zero (listed n) g w
list-no-zero null g w = none-no-zero
list-no-zero nolist g w = none-no-zero
list-no-zero (node_number n) g w = none-no-zero
list-no-zero (int n) g w = none-no-zero
list-no-zero (str n) g w = none-no-zero
list-no-zero (boolean n) g w = none-no-zero

module _ (th : Procedures) where
  -- what a move makes fits
  abbrev pub FineMove : Move → Type 0
  FineMove (becomes ys st g) = FitPieces th ys × Fine st g
  FineMove (faults f) = Unit
  FineMove bad_pick = Unit

  -- the commands of a block that fits
  pub pieces-fine : (b : Block) → Tested th (commands_of b) → FitPieces th (pieces_of b)
  pieces-fine stop s = tt
  pieces-fine (c then b) s =
      let parts = both-tested th (commands_in c) (commands_of b) s in
      (parts.0, pieces-fine b parts.1)

  -- two lists of pieces that fit
  pub all-fine : (k k' : List Piece) → FitPieces th k → FitPieces th k' → FitPieces th (k ++ k')
  all-fine [] k' a b = b
  all-fine (x ∷ k) k' a b = (a.0, all-fine k k' a.1 b)

  set-fine : (x : ProgVar) (v : Value) (st : Store) (g : Trees) → FitsValue (sort_of x) v
      → Fine st g → Fine (set x v st) g
  set-fine x v st g f h = record { proper = set-proper x v st f h.proper; whole = h.whole }

  reading-fine : (a : Trees) (f : FaultKind) (v : List ℕ → ℕ → Trees → ℕ → Value) (x : ProgVar)
      (st : Store) (g : Trees)
      → ((s : List ℕ) (i : ℕ) (k : Trees) (l : ℕ) (r : Trees) → a ≡ node s i k l r
      → FitsValue (sort_of x) (v s i k l)) → Fine st g → FineMove (reading a f v x st g)
  reading-fine none f v x st g h fine = tt
  reading-fine (hole r) f v x st g h fine = tt
  reading-fine (node s i k l r) f v x st g h fine =
      (tt, set-fine x (v s i k l) st g (h s i k l r refl) fine)

  appending-fine : (v v' : Value) (a b : Trees) (st : Store) (g : Trees) → node_at v g ≡ a
      → node_at v' g ≡ b → Fine st g → FineMove (appending a b st g)
  appending-fine v v' (node s i k l r) (node s' j k' l' r') st g e e' fine =
      by_test (positive (node_uses i (node s' j k' l' none)))
    where
      by_test : (c : Bool)
          → FineMove
          (cond c (faults cycle)
          (becomes [] st (adding i (node s' j k' l' none) (without j g))))
      by_test true = tt
      by_test false = (
        tt,
        record {
          proper = fine.proper;
          whole = appended-shaped i j (node s' j k' l' none) g
              (found-node v' g fine.whole.well_formed s' j k' l' r' e').here fine.whole;
        },
      )
  appending-fine v v' none b st g e e' fine = tt
  appending-fine v v' (hole r) b st g e e' fine = tt
  appending-fine v v' (node s i k l r) none st g e e' fine = tt
  appending-fine v v' (node s i k l r) (hole r') st g e e' fine = tt

  either-fine : (c : Bool) (m n : Move) → FineMove m → FineMove n → FineMove (cond c m n)
  either-fine true m n x y = x
  either-fine false m n x y = y

  inserting-fine : (v' : Value) (a b c : Trees) (st : Store) (g : Trees) → node_at v' g ≡ b
      → Fine st g → FineMove (inserting a b c st g)
  inserting-fine v' none b c st g e fine = tt
  inserting-fine v' (hole r) b c st g e fine = tt
  inserting-fine v' (node s i k l r) none c st g e fine = tt
  inserting-fine v' (node s i k l r) (hole r') c st g e fine = tt
  inserting-fine v' (node s i k l r) (node s' j k' l' r') none st g e fine = tt
  inserting-fine v' (node s i k l r) (node s' j k' l' r') (hole r'') st g e fine = tt
  inserting-fine v' (node s i k l r) (node s' j k' l' r') (node s'' q k'' l'' r'') st g e fine =
      either-fine (is_yes (ℕ_discrete j q)) (faults self_ref) _ tt
      (either-fine (positive (node_uses i (node s' j k' l' none))) (faults cycle) _ tt
      (either-fine (has_root q k) _ (faults not_child) (
        tt,
        record {
          proper = fine.proper;
          whole = inserted-shaped q j (node s' j k' l' none) g
              (found-node v' g fine.whole.well_formed s' j k' l' r' e).here fine.whole;
        },
      ) tt))

  inserting_at-fine : (u v v' : Value) (st : Store) (g : Trees) → Fine st g
      → FineMove (inserting_at u (node_at v g) (node_at v' g) st g)
  inserting_at-fine null v v' st g fine =
      appending-fine v v' (node_at v g) (node_at v' g) st g refl refl fine
  inserting_at-fine nolist v v' st g fine =
      inserting-fine v' (node_at v g) (node_at v' g) none st g refl fine
  inserting_at-fine (node_number n) v v' st g fine =
      inserting-fine v' (node_at v g) (node_at v' g) (node_at (node_number n) g) st g refl fine
  inserting_at-fine (list_number n) v v' st g fine =
      inserting-fine v' (node_at v g) (node_at v' g) none st g refl fine
  inserting_at-fine (int n) v v' st g fine =
      inserting-fine v' (node_at v g) (node_at v' g) none st g refl fine
  inserting_at-fine (str n) v v' st g fine =
      inserting-fine v' (node_at v g) (node_at v' g) none st g refl fine
  inserting_at-fine (boolean n) v v' st g fine =
      inserting-fine v' (node_at v g) (node_at v' g) none st g refl fine

  removing-fine : (v v' : Value) (a b : Trees) (st : Store) (g : Trees) → node_at v g ≡ a
      → node_at v' g ≡ b → Fine st g → FineMove (removing a b st g)
  removing-fine v v' (node s i k l r) (node s' j k' l' r') st g e e' fine = by_test (has_root j k)
    where
      by_test : (c : Bool)
          → FineMove (cond c (becomes [] st (beside (without j g) (node s' j k' l' none)))
          (faults not_child))
      by_test false = tt
      by_test true = (
        tt,
        record {
          proper = fine.proper;
          whole = removed-shaped j (node s' j k' l' none) g
              (found-node v' g fine.whole.well_formed s' j k' l' r' e').here fine.whole;
        },
      )
  removing-fine v v' none b st g e e' fine = tt
  removing-fine v v' (hole r) b st g e e' fine = tt
  removing-fine v v' (node s i k l r) none st g e e' fine = tt
  removing-fine v v' (node s i k l r) (hole r') st g e e' fine = tt

  creating-fine : (p : Pick) (x : ProgVar) (s : List ℕ) (st : Store) (g : Trees)
      → sort_of x ≡ node_sort → Fine st g → FineMove (creating p x s st g)
  creating-fine p x s st g so fine = by_test (is_free p g) refl
    where
      by_test : (c : Bool) → is_free p g ≡ c
          → FineMove
          (cond c (becomes [] (set x (node_number p.node) st)
          (beside g (node s p.node none p.list none))) bad_pick)
      by_test false e = tt
      by_test true e = (
        tt,
        record {
          proper =
              set-proper x (node_number p.node) st
              (subst (λ z. FitsValue z (node_number p.node)) (sym so)
              (is-positive p.node
              (both_true (positive p.node) (positive p.list)
              (both_true (positive p.node && positive p.list)
              (not (positive (node_uses p.node g))
              && not (positive (list_uses p.list g))) e).0).0)) fine.proper;
          whole = created-shaped p s g e fine.whole;
        },
      )

  -- the store of a callee is proper
  pub entering-proper : (xs : List ProgVar) (es : List Term) (st : Store) → Feed xs es
      → ProperStore st → ProperStore (entering xs es st)
  entering-proper [] [] st f p = unset-proper
  entering-proper [] (e ∷ es) st f p = absurd f
  entering-proper (x ∷ xs) [] st f p = absurd f
  entering-proper (x ∷ xs) (e ∷ es) st f p =
      set-proper x (value_of st e) (entering xs es st) (value-fits (sort_of x) e st f.0 p)
      (entering-proper xs es st f.1 p)

  -- the store after a return is proper
  pub returning-proper : (rs xs : List ProgVar) (callee st : Store) → Receive rs xs
      → ProperStore callee → ProperStore st → ProperStore (returning rs xs callee st)
  returning-proper [] [] callee st f c p = p
  returning-proper [] (x ∷ xs) callee st f c p = absurd f
  returning-proper (r ∷ rs) [] callee st f c p = absurd f
  returning-proper (r ∷ rs) (x ∷ xs) callee st f c p =
      set-proper x (value_in callee r) (returning rs xs callee st)
      (subst (λ z. FitsValue z (value_in callee r)) f.0 (c.fits r))
      (returning-proper rs xs callee st f.1 c p)

  module _ (bodies : BodiesSorted th) where
    calling-fine : (f : List ℕ) (o : Option Procedure) (xs : List ProgVar) (es : List Term)
        (st : Store) (g : Trees) → procedure_named f th ≡ o → CallFits o xs es
        → call_fits o xs es ≡ true → Fine st g → FineMove (calling o xs es st g)
    calling-fine f None xs es st g e c t fine = absurd c
    calling-fine f (Some q) xs es st g e c t fine = (
      (bodies f q e, ((fine.proper, (both_true _ _ t).1), tt)),
      record { proper = entering-proper q.params es st c.0 fine.proper; whole = fine.whole },
    )

    -- one move keeps what fits
    pub move-fine : (p : Pick) (x : Piece) (st : Store) (g : Trees) → FitsPiece th x → Fine st g
        → FineMove (move th p x st g)
    move-fine p (run skip) st g s fine = (tt, fine)
    move-fine p (run (block b)) st g s fine =
        (pieces-fine b (rest-tested th (block b) (commands_of b) s), fine)
    move-fine p (run (assign x e)) st g s fine = (
      tt,
      set-fine x (value_of st e) st g (value-fits (sort_of x) e st
          (sorted-command th (assign x e) s) fine.proper) fine,
    )
    move-fine p (run (if_else c a b)) st g s fine = ((by_test (truth_of st c), tt), fine)
      where
        by_test : (t : Bool) → is_sorted th (block (cond t a b)) ≡ true
        by_test true = (branches th c a b s).0
        by_test false = (branches th c a b s).1
    move-fine p (run (while_do c b)) st g s fine = (by_test (truth_of st c), fine)
      where
        by_test : (t : Bool) → FitPieces th (cond t (run (block b) ∷ run (while_do c b) ∷ []) [])
        by_test true = (loop-body th c b s, (s, tt))
        by_test false = tt
    move-fine p (run (local x b)) st g s fine = (
      (local-body th x b s, (fine.proper.fits x, tt)),
      set-fine x (default (sort_of x)) st g (default-fits (sort_of x)) fine,
    )
    move-fine p (restore x v) st g s fine = (tt, set-fine x v st g s fine)
    move-fine p (run (call xs f es)) st g s fine =
        calling-fine f (procedure_named f th) xs es st g refl
        (sorted-command th (call xs f es) s).0 (call-fits-test th xs f es s) fine
    move-fine p (return st0 rs xs) st g s fine = (
      tt,
      record {
        proper = returning-proper rs xs st st0
            (receives-received rs xs s.1) fine.proper s.0;
        whole = fine.whole;
      },
    )
    move-fine p (run (create_node x e)) st g s fine =
        creating-fine p x (text_in (value_of st e)) st g
        (sorted-command th (create_node x e) s).0 fine
    move-fine p (run (node_name x e)) st g s fine =
        reading-fine (node_at (value_of st e) g) no_node (λ s i k l. str s) x st g
        (λ n i k l r q. subst (λ z. FitsValue z (str n))
        (sym (sorted-command th (node_name x e) s).0) tt) fine
    move-fine p (run (child_nodes x e)) st g s fine =
        reading-fine (node_at (value_of st e) g) no_node (λ s i k l. list_number l) x st g
        (λ n i k l r q. subst (λ z. FitsValue z (list_number l))
        (sym (sorted-command th (child_nodes x e) s).0)
        (not-zero l (zero-of n i k l r q))) fine
      where
        zero-of : (n : List ℕ) (i : ℕ) (k : Trees) (l : ℕ) (r : Trees)
            → node_at (value_of st e) g ≡ node n i k l r → one_if (ℕ_discrete 0 l) ≡ 0
        zero-of n i k l r q = let z : list_uses 0 (node n i k l r) ≡ 0 =
            subst (λ a. list_uses 0 a ≡ 0) q
            (node-no-zero (value_of st e) g fine.whole.well_formed).lists in omega arith
    move-fine p (run (parent_node x e)) st g s fine =
        reading-fine (node_at (value_of st e) g) no_node
        (λ s i k l. first_number (nodes_where (parental i) g)) x st g
        (λ n i k l r q. subst (λ z. FitsValue z (first_number (nodes_where (parental i) g)))
        (sym (sorted-command th (parent_node x e) s).0)
        (first-fits (nodes_where (parental i) g)
        (those-no-zero (parental i) g fine.whole.well_formed).nodes)) fine
    move-fine p (run (list_item x e f)) st g s fine =
        reading-fine (list_at (value_of st e) g) no_list
        (λ s i k l. item_of (value_of st f) k) x st g
        (λ n i k l r q. subst (λ z. FitsValue z (item_of (value_of st f) k))
        (sym (sorted-command th (list_item x e f) s).0)
        (item-fits (value_of st f) k (zero-of n i k l r q))) fine
      where
        zero-of : (n : List ℕ) (i : ℕ) (k : Trees) (l : ℕ) (r : Trees)
            → list_at (value_of st e) g ≡ node n i k l r → node_uses 0 k ≡ 0
        zero-of n i k l r q = let z : node_uses 0 (node n i k l r) ≡ 0 =
            subst (λ a. node_uses 0 a ≡ 0) q
            (list-no-zero (value_of st e) g fine.whole.well_formed).nodes in omega arith
    move-fine p (run (append_child e f)) st g s fine =
        appending-fine (value_of st e) (value_of st f) (node_at (value_of st e) g)
        (node_at (value_of st f) g) st g refl refl fine
    move-fine p (run (remove_child e f)) st g s fine =
        removing-fine (value_of st e) (value_of st f) (node_at (value_of st e) g)
        (node_at (value_of st f) g) st g refl refl fine
    move-fine p (run (insert_before e f q)) st g s fine =
        inserting_at-fine (value_of st q) (value_of st e) (value_of st f) st g fine

    -- what a step makes fits
    abbrev FineStep : StepOut → Type 0
    FineStep (next c) = FitsConfig th c
    FineStep otherwise = Unit

    stepped-fine : (rest : List Piece) (m : Move) → FineMove m → FitPieces th rest
        → FineStep (stepped rest m)
    stepped-fine rest (becomes ys st g) f r =
        record { pieces = all-fine ys rest f.0 r; fine = f.1 }
    stepped-fine rest (faults k) f r = tt
    stepped-fine rest bad_pick f r = tt

    step-fine : (p : Pick) (c : Config) → FitsConfig th c → FineStep (step th c p)
    step-fine p c f = by_pending c.pending f.pieces
      where
        by_pending : (k : List Piece) → FitPieces th k
            → FineStep (step th (configuration k c.store c.grove) p)
        by_pending [] a = tt
        by_pending (x ∷ k) a =
            stepped-fine k (move th p x c.store c.grove)
            (move-fine p x c.store c.grove a.0 f.fine) a.1

    -- one step keeps what fits
    pub step-fits : (p : Pick) (c d : Config) → FitsConfig th c → step th c p ≡ next d
        → FitsConfig th d
    step-fits p c d f e = subst FineStep e (step-fine p c f)

    -- RUNS KEEP STORES PROPER AND GROVES WELL FORMED
    pub runs-fine : (ps : List Pick) (c : Config) → FitsConfig th c → Ends Unit Fine (runs th ps c)
    runs-fine [] c f = at_rest (is_done c)
      where
        at_rest : (b : Bool) → Ends Unit Fine (cond b (ended c.store c.grove) running)
        at_rest true = f.fine
        at_rest false = tt
    runs-fine (p ∷ ps) c f = after (step th c p) (step-fine p c f) (λ d. runs-fine ps d)
      where
        after : (o : StepOut) → FineStep o
            → ((d : Config) → FitsConfig th d → Ends Unit Fine (runs th ps d))
            → Ends Unit Fine (after_step (runs th ps) c o)
        after (next d) h rec = rec d h
        after done h rec = f.fine
        after (at_fault k) h rec = tt
        after at_bad_pick h rec = tt

    -- so where they end, both are
    pub ends-fine : (ps : List Pick) (c : Config) (st : Store) (g : Trees) → FitsConfig th c
        → runs th ps c ≡ ended st g → Fine st g
    ends-fine ps c st g f e = subst (Ends Unit Fine) e (runs-fine ps c f)
