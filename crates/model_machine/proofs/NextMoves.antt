-- The next pick is free, so no step of a run that takes next picks meets a bad one.
use Rattle.std.proofs.Common.{◌≡◌, ℕ, zero, suc, List, [], ◌∷◌, Bool, true, false, cond, refl, subst, Option, Some, None}
use Rattle.model_shapes.specs.Trees.{Trees, none, node, hole, beside, node_uses}
use Rattle.model_shapes.specs.Values.{Value, node_number}
use Rattle.model_terms.specs.Terms.{Term}
use Rattle.model_terms.specs.Stores.{ProgVar, Store, set, value_of, text_in}
use Rattle.model_commands.specs.Commands.{skip, block, assign, create_node, node_name, child_nodes, parent_node, list_item, append_child, remove_child, insert_before, if_else, while_do, local, call}
use Rattle.model_commands.specs.Theories.{Procedures, Procedure, procedure_named}
use Rattle.model_machine.specs.Machine.{Piece, run, restore, return, Move, becomes, faults, bad_pick, move, reading, appending, removing, calling, no_node, no_list, cycle, not_child, FaultKind, Config, configuration, is_done, StepOut, next, done, at_fault, at_bad_pick, stepped, step}
use Rattle.model_groves.specs.Groves.{positive, has_root, without, adding, node_at, list_at}
use Rattle.model_groves.proofs.NextPicks.{next-free}
use Rattle.model_machine.proofs.EachMove.{each-inserting}
use Rattle.model_groves.specs.Picks.{next_pick}
use Rattle.model_limits.specs.Limits.{Limits, LimitKind}
use Rattle.model_machine.specs.Outcomes.{Outcome, spends, no_pick, ends_at, limit_ahead, pick_limit, within, on_step, outcome}
use Rattle.model_terms.specs.TermLimits.{or_else}

-- only a new node has a pick, and the next pick is free
reading-picks : (a : Trees) (f : FaultKind) (v : List ℕ → ℕ → Trees → ℕ
    → Value) (x : ProgVar) (st : Store) (g : Trees)
    → reading a f v x st g ≡ bad_pick → ⊥
reading-picks none f v x st g e = cc
reading-picks (hole r) f v x st g e = cc
reading-picks (node s i k l r) f v x st g e = cc

cond-picks : (b : Bool) (m n : Move) → (m ≡ bad_pick → ⊥) → (n ≡ bad_pick → ⊥)
    → cond b m n ≡ bad_pick → ⊥
cond-picks true m n x y e = x e
cond-picks false m n x y e = y e

appending-picks : (a b : Trees) (st : Store) (g : Trees) → appending a b st g ≡ bad_pick → ⊥
appending-picks none b st g e = cc
appending-picks (hole r) b st g e = cc
appending-picks (node s i k l r) none st g e = cc
appending-picks (node s i k l r) (hole r') st g e = cc
appending-picks (node s i k l r) (node s' j k' l' r') st g e =
    cond-picks (positive (node_uses i (node s' j k' l' none))) (faults cycle)
    (becomes [] st (adding i (node s' j k' l' none) (without j g))) (λ x. cc) (λ x. cc) e

removing-picks : (a b : Trees) (st : Store) (g : Trees) → removing a b st g ≡ bad_pick → ⊥
removing-picks none b st g e = cc
removing-picks (hole r) b st g e = cc
removing-picks (node s i k l r) none st g e = cc
removing-picks (node s i k l r) (hole r') st g e = cc
removing-picks (node s i k l r) (node s' j k' l' r') st g e =
    cond-picks (has_root j k) (becomes [] st (beside (without j g) (node s' j k' l' none)))
    (faults not_child) (λ x. cc) (λ x. cc) e

calling-picks : (o : Option Procedure) (xs : List ProgVar) (es : List Term) (st : Store)
    (g : Trees) → calling o xs es st g ≡ bad_pick → ⊥
calling-picks None xs es st g e = cc
calling-picks (Some f) xs es st g e = cc

-- so no move with it meets a bad one
pub next-moves : (th : Procedures) (x : Piece) (st : Store) (g : Trees)
    → move th (next_pick g) x st g ≡ bad_pick → ⊥
next-moves th (run skip) st g e = cc
next-moves th (run (block b)) st g e = cc
next-moves th (run (assign x t)) st g e = cc
next-moves th (run (if_else c a b)) st g e = cc
next-moves th (run (while_do c b)) st g e = cc
next-moves th (run (local x b)) st g e = cc
next-moves th (restore x v) st g e = cc
next-moves th (return st0 rs xs) st g e = cc
next-moves th (run (call xs f es)) st g e = calling-picks (procedure_named f th) xs es st g e
next-moves th (run (create_node x t)) st g e =
    let z : cond true
    (becomes [] (set x (node_number (next_pick g).node) st)
    (beside g
    (node (text_in (value_of st t)) (next_pick g).node none (next_pick g).list none))) bad_pick
    ≡ bad_pick =
    subst (λ b.
    cond b (becomes [] (set x (node_number (next_pick g).node) st)
    (beside g
    (node (text_in (value_of st t)) (next_pick g).node none (next_pick g).list none))) bad_pick
    ≡ bad_pick) (next-free g) e in (cc)
next-moves th (run (node_name x t)) st g e =
    reading-picks (node_at (value_of st t) g) no_node _ x st g e
next-moves th (run (child_nodes x t)) st g e =
    reading-picks (node_at (value_of st t) g) no_node _ x st g e
next-moves th (run (parent_node x t)) st g e =
    reading-picks (node_at (value_of st t) g) no_node _ x st g e
next-moves th (run (list_item x t u)) st g e =
    reading-picks (list_at (value_of st t) g) no_list _ x st g e
next-moves th (run (append_child t u)) st g e =
    appending-picks (node_at (value_of st t) g) (node_at (value_of st u) g) st g e
next-moves th (run (remove_child t u)) st g e =
    removing-picks (node_at (value_of st t) g) (node_at (value_of st u) g) st g e
next-moves th (run (insert_before t u v)) st g e =
    each-inserting (λ m. m ≡ bad_pick → ⊥) st g (λ kind q. cc) (λ after q. cc) (value_of st v)
    (node_at (value_of st t) g) (node_at (value_of st u) g) e

-- nor does a step
pub next-steps : (th : Procedures) (c : Config) → step th c (next_pick c.grove) ≡ at_bad_pick → ⊥
next-steps th c e = by_pending c.pending e
  where
    moved : (k : List Piece) (m : Move) → (m ≡ bad_pick → ⊥) → stepped k m ≡ at_bad_pick → ⊥
    moved k (becomes ys st g) n q = cc
    moved k (faults f) n q = cc
    moved k bad_pick n q = n refl

    by_pending : (k : List Piece)
        → step th (configuration k c.store c.grove) (next_pick c.grove) ≡ at_bad_pick → ⊥
    by_pending [] q = cc
    by_pending (x ∷ k) q =
        moved k (move th (next_pick c.grove) x c.store c.grove) (next-moves th x c.store c.grove) q

-- and no outcome is that of a bad pick
module _ (limits : Limits) (th : Procedures) (rs : List ProgVar) where
  limited : (l : Option LimitKind) (o : Outcome) → (o ≡ no_pick → ⊥) → within l o ≡ no_pick → ⊥
  limited (Some l) o n e = cc
  limited None o n e = n e

  either : (b : Bool) (o o' : Outcome) → (o ≡ no_pick → ⊥) → (o' ≡ no_pick → ⊥)
      → cond b o o' ≡ no_pick → ⊥
  either true o o' n m e = n e
  either false o o' n m e = m e

  pub outcome-picks : (fuel taken : ℕ) (c : Config)
      → outcome limits th rs fuel taken c ≡ no_pick → ⊥
  outcome-picks zero taken c =
      either (is_done c) (ends_at rs taken c) (spends taken c) (λ e. cc) (λ e. cc)
  outcome-picks (suc fuel) taken c =
      either (is_done c) (ends_at rs taken c) (within limit (after (step th c (next_pick c.grove))))
      (λ e. cc)
      (limited limit (after (step th c (next_pick c.grove)))
      (stays (step th c (next_pick c.grove)) (next-steps th c) (outcome-picks fuel (suc taken))))
    where
      limit : Option LimitKind
      limit = or_else (limit_ahead limits c) (pick_limit limits c)

      after : StepOut → Outcome
      after = on_step (outcome limits th rs fuel (suc taken)) rs taken c

      stays : (o : StepOut) → (o ≡ at_bad_pick → ⊥)
          → ((d : Config) → outcome limits th rs fuel (suc taken) d ≡ no_pick → ⊥)
          → after o ≡ no_pick → ⊥
      stays (next d) n rec e = rec d e
      stays done n rec e = cc
      stays (at_fault f) n rec e = cc
      stays at_bad_pick n rec e = n refl
