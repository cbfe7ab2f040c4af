-- A fact of every move that makes nothing pending, from that of each of its ends.
use Rattle.std.proofs.Common.{ℕ, [], Bool, true, false, cond}
use Rattle.std.proofs.Math.Decide.{ℕ_discrete}
use Rattle.model_shapes.specs.Trees.{Trees, none, node, hole, beside, node_uses}
use Rattle.model_shapes.specs.Values.{Name, Value, null, nolist, node_number, list_number, int, str, boolean}
use Rattle.model_terms.specs.Stores.{ProgVar, Store, set}
use Rattle.model_groves.specs.Groves.{is_yes, positive, has_root, node_at, without, adding, adding_before}
use Rattle.model_groves.specs.Picks.{Pick, is_free}
use Rattle.model_machine.specs.Machine.{FaultKind, no_node, cycle, not_child, self_ref, Move, becomes, faults, bad_pick, reading, appending, inserting, inserting_at, removing, creating}

module _ (P : Move → Type 0) (at_fault : (kind : FaultKind) → P (faults kind))
    (at_pick : P bad_pick)
    (at_rest : (store : Store) (grove : Trees) → P (becomes [] store grove)) where
  either : (b : Bool) (m n : Move) → P m → P n → P (cond b m n)
  either true m n x y = x
  either false m n x y = y

  -- what is read off a node
  pub each-reading : (a : Trees) (kind : FaultKind) (read : Name → ℕ → Trees → ℕ → Value)
      (x : ProgVar) (store : Store) (grove : Trees) → P (reading a kind read x store grove)
  each-reading none kind read x store grove = at_fault kind
  each-reading (hole r) kind read x store grove = at_fault kind
  each-reading (node s i k l r) kind read x store grove = at_rest (set x (read s i k l) store) grove

  -- a new node
  pub each-creating : (pick : Pick) (x : ProgVar) (name : Name) (store : Store) (grove : Trees)
      → P (creating pick x name store grove)
  each-creating pick x name store grove =
      either (is_free pick grove) _ bad_pick (at_rest (set x (node_number pick.node) store)
      (beside grove (node name pick.node none pick.list none))) at_pick

  -- a tree moved to the children of a node
  pub each-appending : (a b : Trees) (store : Store) (grove : Trees)
      → P (appending a b store grove)
  each-appending none b store grove = at_fault _
  each-appending (hole r) b store grove = at_fault _
  each-appending (node s i k l r) none store grove = at_fault _
  each-appending (node s i k l r) (hole r') store grove = at_fault _
  each-appending (node s i k l r) (node s' j k' l' r') store grove =
      either (positive (node_uses i (node s' j k' l' none))) (faults cycle) _ (at_fault cycle)
      (at_rest store (adding i (node s' j k' l' none) (without j grove)))

  -- and to the roots
  pub each-removing : (a b : Trees) (store : Store) (grove : Trees) → P (removing a b store grove)
  each-removing none b store grove = at_fault _
  each-removing (hole r) b store grove = at_fault _
  each-removing (node s i k l r) none store grove = at_fault _
  each-removing (node s i k l r) (hole r') store grove = at_fault _
  each-removing (node s i k l r) (node s' j k' l' r') store grove =
      either (has_root j k) _ (faults not_child)
      (at_rest store (beside (without j grove) (node s' j k' l' none))) (at_fault not_child)

-- A fact of every move to the children of a node, which keeps the store.
module _ (P : Move → Type 0) (store : Store) (grove : Trees)
    (at_fault : (kind : FaultKind) → P (faults kind))
    (at_rest : (after : Trees) → P (becomes [] store after)) where
  of_two : (b : Bool) (m n : Move) → P m → P n → P (cond b m n)
  of_two true m n x y = x
  of_two false m n x y = y

  -- to their end
  to-the-end : (a b : Trees) → P (appending a b store grove)
  to-the-end none b = at_fault no_node
  to-the-end (hole r) b = at_fault no_node
  to-the-end (node s i k l r) none = at_fault no_node
  to-the-end (node s i k l r) (hole r') = at_fault no_node
  to-the-end (node s i k l r) (node s' j k' l' r') =
      of_two (positive (node_uses i (node s' j k' l' none))) (faults cycle) _ (at_fault cycle)
      (at_rest (adding i (node s' j k' l' none) (without j grove)))

  -- before one of them
  before-one : (a b c : Trees) → P (inserting a b c store grove)
  before-one none b c = at_fault no_node
  before-one (hole r) b c = at_fault no_node
  before-one (node s i k l r) none c = at_fault no_node
  before-one (node s i k l r) (hole r') c = at_fault no_node
  before-one (node s i k l r) (node s' j k' l' r') none = at_fault no_node
  before-one (node s i k l r) (node s' j k' l' r') (hole r'') = at_fault no_node
  before-one (node s i k l r) (node s' j k' l' r') (node s'' q k'' l'' r'') =
      of_two (is_yes (ℕ_discrete j q)) (faults self_ref) _ (at_fault self_ref)
      (of_two (positive (node_uses i (node s' j k' l' none))) (faults cycle) _ (at_fault cycle)
      (of_two (has_root q k) _ (faults not_child)
      (at_rest (adding_before q (node s' j k' l' none) (without j grove))) (at_fault not_child)))

  -- at the place that a value names
  pub each-inserting : (v : Value) (a b : Trees) → P (inserting_at v a b store grove)
  each-inserting null a b = to-the-end a b
  each-inserting nolist a b = before-one a b none
  each-inserting (node_number n) a b = before-one a b (node_at (node_number n) grove)
  each-inserting (list_number n) a b = before-one a b none
  each-inserting (int n) a b = before-one a b none
  each-inserting (str n) a b = before-one a b none
  each-inserting (boolean n) a b = before-one a b none
