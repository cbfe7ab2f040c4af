-- Runs on groves that are the same up to the order of roots.
use Rattle.std.proofs.Common.{◌≡◌, ℕ, List, [], ◌∷◌, ◌++◌, Bool, true, false, cond, not, ◌&&◌, refl, ap, subst, arith, Option, Some, None}
use Rattle.std.proofs.Math.Decide.{ℕ_discrete}
use Rattle.model_shapes.specs.Trees.{Trees, none, node, hole, beside, node_uses, WellFormed}
use Rattle.model_shapes.specs.Sorts.{grove}
use Rattle.model_shapes.specs.Shapes.{SameAt}
use Rattle.model_shapes.specs.Values.{Value, null, nolist, node_number, list_number, int, str, boolean}
use Rattle.model_terms.specs.Terms.{Term}
use Rattle.model_shapes.proofs.Shapes.{same-node_uses, same-list_uses, SameAt-beside}
use Rattle.model_shapes.proofs.Narrow.{narrow}
use Rattle.model_terms.specs.Stores.{ProgVar, Store, set, value_of, text_in}
use Rattle.model_commands.specs.Commands.{skip, block, assign, create_node, node_name, child_nodes, parent_node, list_item, append_child, remove_child, insert_before, if_else, while_do, local, call}
use Rattle.model_commands.specs.Theories.{Procedure, Procedures, procedure_named}
use Rattle.model_groves.specs.Groves.{nodes_where, has_root, numbered, listed, parental, node_at, list_at, first_number, item_of, without, adding, adding_before, is_yes, positive}
use Rattle.model_machine.specs.Machine.{FaultKind, no_node, no_list, cycle, not_child, self_ref, Piece, run, restore, return, Move, becomes, faults, bad_pick, reading, appending, inserting, inserting_at, removing, creating, calling, move, Config, configuration, runs}
use Rattle.model_groves.specs.Picks.{Pick, is_free}
use Rattle.model_machine.specs.SameMoves.{SameMove, SameOutcome}
use Rattle.model_groves.proofs.Groves.{those-beside, without-beside, adding-beside, adding_before-beside, same-after, width-numbered, width-listed, width-parental}
use Rattle.model_machine.proofs.Fine.{FineMove, move-fine, all-fine}
use Rattle.model_machine.specs.Fitting.{Fine, FitPieces, FitsConfig}
use Rattle.model_machine.proofs.Runs.{moved_on}
use Rattle.model_commands.specs.SortTests.{BodiesSorted}

module _ (g g' : Trees) (same : SameAt grove g g') (w : WellFormed g) where
  same-node_at : (v : Value) → node_at v g ≡ node_at v g'
  same-node_at (node_number n) =
      narrow (nodes_where (numbered n) g) (nodes_where (numbered n) g')
      (omega (arith, width-numbered n g, w.nodes_once n))
      (same-after (nodes_where (numbered n)) (those-beside (numbered n)) g g' same)
  same-node_at null = refl
  same-node_at nolist = refl
  same-node_at (list_number n) = refl
  same-node_at (int n) = refl
  same-node_at (str n) = refl
  same-node_at (boolean n) = refl

  same-list_at : (v : Value) → list_at v g ≡ list_at v g'
  same-list_at (list_number n) =
      narrow (nodes_where (listed n) g) (nodes_where (listed n) g')
      (omega (arith, width-listed n g, w.lists_once n))
      (same-after (nodes_where (listed n)) (those-beside (listed n)) g g' same)
  same-list_at null = refl
  same-list_at nolist = refl
  same-list_at (node_number n) = refl
  same-list_at (int n) = refl
  same-list_at (str n) = refl
  same-list_at (boolean n) = refl

  same-parent : (i : ℕ) → first_number (nodes_where (parental i) g)
      ≡ first_number (nodes_where (parental i) g')
  same-parent i =
      ap first_number (narrow (nodes_where (parental i) g) (nodes_where (parental i) g')
      (omega (arith, width-parental i g, w.nodes_once i))
      (same-after (nodes_where (parental i)) (those-beside (parental i)) g g' same))

  same-free : (p : Pick) → is_free p g ≡ is_free p g'
  same-free p =
      λ i. (positive p.node && positive p.list)
      && (not (positive (same-node_uses p.node grove g g' same i))
      && not (positive (same-list_uses p.list grove g g' same i)))

  same-reading : (a : Trees) (f : FaultKind) (v v' : List ℕ → ℕ → Trees → ℕ → Value) (x : ProgVar)
      (st : Store)
      → ((s : List ℕ) (i : ℕ) (k : Trees) (l : ℕ) → v s i k l ≡ v' s i k l)
      → SameMove (reading a f v x st g) (reading a f v' x st g')
  same-reading none f v v' x st e = refl
  same-reading (hole r) f v v' x st e = refl
  same-reading (node s i k l r) f v v' x st e = (refl, ap (λ z. set x z st) (e s i k l), same)

  same-appending : (a b : Trees) (st : Store) → SameMove (appending a b st g) (appending a b st g')
  same-appending none b st = refl
  same-appending (hole r) b st = refl
  same-appending (node s i k l r) none st = refl
  same-appending (node s i k l r) (hole r') st = refl
  same-appending (node s i k l r) (node s' j k' l' r') st =
      by_test (positive (node_uses i (node s' j k' l' none)))
    where
      moved : SameAt grove (adding i (node s' j k' l' none) (without j g))
          (adding i (node s' j k' l' none) (without j g'))
      moved = same-after (adding i (node s' j k' l' none)) (adding-beside i (node s' j k' l' none))
          (without j g) (without j g') (same-after (without j) (without-beside j) g g' same)

      by_test : (c : Bool)
          → SameMove
          (cond c (faults cycle) (becomes [] st (adding i (node s' j k' l' none) (without j g))))
          (cond c (faults cycle) (becomes [] st (adding i (node s' j k' l' none) (without j g'))))
      by_test true = refl
      by_test false = (refl, refl, moved)

  same-either : (c : Bool) (m m' n n' : Move) → SameMove m m' → SameMove n n'
      → SameMove (cond c m n) (cond c m' n')
  same-either true m m' n n' x y = x
  same-either false m m' n n' x y = y

  same-inserting : (a b c : Trees) (st : Store)
      → SameMove (inserting a b c st g) (inserting a b c st g')
  same-inserting none b c st = refl
  same-inserting (hole r) b c st = refl
  same-inserting (node s i k l r) none c st = refl
  same-inserting (node s i k l r) (hole r') c st = refl
  same-inserting (node s i k l r) (node s' j k' l' r') none st = refl
  same-inserting (node s i k l r) (node s' j k' l' r') (hole r'') st = refl
  same-inserting (node s i k l r) (node s' j k' l' r') (node s'' q k'' l'' r'') st =
      same-either (is_yes (ℕ_discrete j q)) (faults self_ref) (faults self_ref) _ _ refl
      (same-either (positive (node_uses i (node s' j k' l' none))) (faults cycle) (faults cycle)
      _ _ refl
      (same-either (has_root q k) _ _ (faults not_child) (faults not_child) (refl, refl, moved)
      refl))
    where
      moved : SameAt grove (adding_before q (node s' j k' l' none) (without j g))
          (adding_before q (node s' j k' l' none) (without j g'))
      moved = same-after (adding_before q (node s' j k' l' none))
          (adding_before-beside q (node s' j k' l' none)) (without j g) (without j g')
          (same-after (without j) (without-beside j) g g' same)

  -- at the place that a value names
  same-inserting_at : (v : Value) (a b : Trees) (st : Store)
      → SameMove (inserting_at v a b st g) (inserting_at v a b st g')
  same-inserting_at null a b st = same-appending a b st
  same-inserting_at nolist a b st = same-inserting a b none st
  same-inserting_at (node_number n) a b st =
      subst (λ z. SameMove (inserting a b (node_at (node_number n) g) st g)
      (inserting a b z st g')) (same-node_at (node_number n))
      (same-inserting a b (node_at (node_number n) g) st)
  same-inserting_at (list_number n) a b st = same-inserting a b none st
  same-inserting_at (int n) a b st = same-inserting a b none st
  same-inserting_at (str n) a b st = same-inserting a b none st
  same-inserting_at (boolean n) a b st = same-inserting a b none st

  same-removing : (a b : Trees) (st : Store) → SameMove (removing a b st g) (removing a b st g')
  same-removing none b st = refl
  same-removing (hole r) b st = refl
  same-removing (node s i k l r) none st = refl
  same-removing (node s i k l r) (hole r') st = refl
  same-removing (node s i k l r) (node s' j k' l' r') st = by_test (has_root j k)
    where
      moved : SameAt grove (beside (without j g) (node s' j k' l' none))
          (beside (without j g') (node s' j k' l' none))
      moved = SameAt-beside grove (without j g) (node s' j k' l' none) (without j g')
          (node s' j k' l' none) (same-after (without j) (without-beside j) g g' same) (λ t. refl)

      by_test : (c : Bool)
          → SameMove (cond c (becomes [] st (beside (without j g) (node s' j k' l' none)))
          (faults not_child))
          (cond c (becomes [] st (beside (without j g') (node s' j k' l' none))) (faults not_child))
      by_test true = (refl, refl, moved)
      by_test false = refl

  same-creating : (p : Pick) (x : ProgVar) (s : List ℕ) (st : Store)
      → SameMove (creating p x s st g) (creating p x s st g')
  same-creating p x s st =
      subst (λ c.
      SameMove (creating p x s st g)
      (cond c (becomes [] (set x (node_number p.node) st)
      (beside g' (node s p.node none p.list none))) bad_pick)) (same-free p) (by_test (is_free p g))
    where
      by_test : (c : Bool)
          → SameMove
          (cond c (becomes [] (set x (node_number p.node) st)
          (beside g (node s p.node none p.list none))) bad_pick)
          (cond c (becomes [] (set x (node_number p.node) st)
          (beside g' (node s p.node none p.list none))) bad_pick)
      by_test true = (
        refl,
        refl,
        SameAt-beside grove g (node s p.node none p.list none) g'
            (node s p.node none p.list none) same (λ t. refl),
      )
      by_test false = tt

  same-calling : (o : Option Procedure) (xs : List ProgVar) (es : List Term) (st : Store)
      → SameMove (calling o xs es st g) (calling o xs es st g')
  same-calling None xs es st = (refl, refl, same)
  same-calling (Some f) xs es st = (refl, refl, same)

  -- one step does the same on the same groves
  pub same-move : (th : Procedures) (p : Pick) (x : Piece) (st : Store)
      → SameMove (move th p x st g) (move th p x st g')
  same-move th p (run skip) st = (refl, refl, same)
  same-move th p (run (block b)) st = (refl, refl, same)
  same-move th p (run (assign x e)) st = (refl, refl, same)
  same-move th p (run (if_else c a b)) st = (refl, refl, same)
  same-move th p (run (while_do c b)) st = (refl, refl, same)
  same-move th p (run (local x b)) st = (refl, refl, same)
  same-move th p (restore x v) st = (refl, refl, same)
  same-move th p (run (call xs f es)) st = same-calling (procedure_named f th) xs es st
  same-move th p (return st0 rs xs) st = (refl, refl, same)
  same-move th p (run (create_node x e)) st = same-creating p x (text_in (value_of st e)) st
  same-move th p (run (node_name x e)) st =
      subst (λ z. SameMove (reading (node_at (value_of st e) g) no_node (λ s i k l. str s) x st g)
      (reading z no_node (λ s i k l. str s) x st g')) (same-node_at (value_of st e))
      (same-reading (node_at (value_of st e) g) no_node (λ s i k l. str s) (λ s i k l. str s) x st
      (λ s i k l. refl))
  same-move th p (run (child_nodes x e)) st =
      subst (λ z.
      SameMove (reading (node_at (value_of st e) g) no_node (λ s i k l. list_number l) x st g)
      (reading z no_node (λ s i k l. list_number l) x st g')) (same-node_at (value_of st e))
      (same-reading (node_at (value_of st e) g) no_node (λ s i k l. list_number l)
      (λ s i k l. list_number l) x st (λ s i k l. refl))
  same-move th p (run (parent_node x e)) st =
      subst (λ z.
      SameMove
      (reading (node_at (value_of st e) g) no_node
      (λ s i k l. first_number (nodes_where (parental i) g)) x st g)
      (reading z no_node (λ s i k l. first_number (nodes_where (parental i) g')) x st g'))
      (same-node_at (value_of st e))
      (same-reading (node_at (value_of st e) g) no_node
      (λ s i k l. first_number (nodes_where (parental i) g))
      (λ s i k l. first_number (nodes_where (parental i) g')) x st (λ s i k l. same-parent i))
  same-move th p (run (list_item x e f)) st =
      subst (λ z.
      SameMove
      (reading (list_at (value_of st e) g) no_list (λ s i k l. item_of (value_of st f) k) x st g)
      (reading z no_list (λ s i k l. item_of (value_of st f) k) x st g'))
      (same-list_at (value_of st e))
      (same-reading (list_at (value_of st e) g) no_list (λ s i k l. item_of (value_of st f) k)
      (λ s i k l. item_of (value_of st f) k) x st (λ s i k l. refl))
  same-move th p (run (append_child e f)) st =
      subst (λ z. SameMove (appending (node_at (value_of st e) g) (node_at (value_of st f) g) st g)
      (appending z (node_at (value_of st f) g') st g')) (same-node_at (value_of st e))
      (subst (λ z.
      SameMove (appending (node_at (value_of st e) g) (node_at (value_of st f) g) st g)
      (appending (node_at (value_of st e) g) z st g')) (same-node_at (value_of st f))
      (same-appending (node_at (value_of st e) g) (node_at (value_of st f) g) st))
  same-move th p (run (remove_child e f)) st =
      subst (λ z. SameMove (removing (node_at (value_of st e) g) (node_at (value_of st f) g) st g)
      (removing z (node_at (value_of st f) g') st g')) (same-node_at (value_of st e))
      (subst (λ z. SameMove (removing (node_at (value_of st e) g) (node_at (value_of st f) g) st g)
      (removing (node_at (value_of st e) g) z st g')) (same-node_at (value_of st f))
      (same-removing (node_at (value_of st e) g) (node_at (value_of st f) g) st))
  same-move th p (run (insert_before e f q)) st =
      let at : Trees → Trees → Trees → Move =
      λ a b roots. inserting_at (value_of st q) a b st roots in
      subst (λ z. SameMove (at (node_at (value_of st e) g) (node_at (value_of st f) g) g)
      (at z (node_at (value_of st f) g') g')) (same-node_at (value_of st e))
      (subst (λ z. SameMove (at (node_at (value_of st e) g) (node_at (value_of st f) g) g)
      (at (node_at (value_of st e) g) z g')) (same-node_at (value_of st f))
      (same-inserting_at (value_of st q) (node_at (value_of st e) g) (node_at (value_of st f) g)
      st))

module _ (th : Procedures) (bodies : BodiesSorted th) where
  -- THE SAME OUTCOME
  pub same-runs : (ps : List Pick) (k : List Piece) (st : Store) (g g' : Trees) → FitPieces th k
      → Fine st g → SameAt grove g g'
      → SameOutcome (runs th ps (configuration k st g)) (runs th ps (configuration k st g'))
  same-runs [] [] st g g' a fine same = (refl, same)
  same-runs [] (x ∷ k) st g g' a fine same = tt
  same-runs (p ∷ ps) [] st g g' a fine same = (refl, same)
  same-runs (p ∷ ps) (x ∷ k) st g g' a fine same =
      both_move (move th p x st g) (move th p x st g')
      (same-move g g' same fine.whole.well_formed th p x st)
      (move-fine th bodies p x st g a.0 fine) (λ k' st' h h'. same-runs ps k' st' h h')
    where
      both_move : (m m' : Move) → SameMove m m' → FineMove th m
          → ((k' : List Piece) (st' : Store) (h h' : Trees) → FitPieces th k' → Fine st' h
          → SameAt grove h h'
          → SameOutcome (runs th ps (configuration k' st' h))
          (runs th ps (configuration k' st' h')))
          → SameOutcome (moved_on th ps x k st g m) (moved_on th ps x k st g' m')
      both_move (becomes ys st1 g1) (becomes ys' st2 g2) e f rec =
          let first = runs th ps (configuration (ys ++ k) st1 g1) in
          subst (λ z. SameOutcome first (runs th ps (configuration (z ++ k) st2 g2))) e.0
          (subst (λ z. SameOutcome first (runs th ps (configuration (ys ++ k) z g2))) e.1
          (rec (ys ++ k) st1 g1 g2 (all-fine th ys k f.0 a.1) f.1 e.2))
      both_move (faults x) (faults y) e f rec = e
      both_move bad_pick bad_pick e f rec = tt
      both_move m m' e f rec = absurd e

  pub same-config-runs : (ps : List Pick) (c : Config) (g : Trees) → FitsConfig th c
      → SameAt grove c.grove g → SameOutcome (runs th ps c) (runs th ps (record c { grove = g }))
  same-config-runs ps c g f same = same-runs ps c.pending c.store c.grove g f.pieces f.fine same
