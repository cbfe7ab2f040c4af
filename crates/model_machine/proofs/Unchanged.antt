-- A step that makes no change leaves the grove as it was.
use Rattle.std.proofs.Common.{◌≡◌, ℕ, List, [], ◌∷◌, ◌++◌, refl, sym, ap, ◌∙◌, Option, Some, None}
use Rattle.model_shapes.specs.Trees.{Trees, none, node, hole}
use Rattle.model_shapes.specs.Values.{Value}
use Rattle.model_terms.specs.Terms.{Term}
use Rattle.model_terms.specs.Stores.{ProgVar, Store, value_of}
use Rattle.model_commands.specs.Commands.{skip, block, assign, create_node, node_name, child_nodes, parent_node, list_item, append_child, remove_child, insert_before, if_else, while_do, local, call}
use Rattle.model_commands.specs.Theories.{Procedure, Procedures, procedure_named}
use Rattle.model_groves.specs.Groves.{node_at, list_at}
use Rattle.model_groves.specs.Picks.{Pick}
use Rattle.model_machine.specs.Machine.{Piece, run, restore, return, Move, becomes, faults, bad_pick, move, reading, calling, FaultKind, no_node, no_list, Config, configuration, next, stepped, step}
use Rattle.model_machine.specs.Changes.{change_of}

-- where the move goes on, it is with this grove
abbrev Leaves : Trees → Move → Type 0
Leaves g (becomes ys st g') = g' ≡ g
Leaves g (faults k) = Unit
Leaves g bad_pick = Unit

reading-leaves : (a : Trees) (f : FaultKind) (v : List ℕ → ℕ → Trees → ℕ → Value) (x : ProgVar)
    (st : Store) (g : Trees) → Leaves g (reading a f v x st g)
reading-leaves none f v x st g = tt
reading-leaves (hole r) f v x st g = tt
reading-leaves (node s i k l r) f v x st g = refl

calling-leaves : (o : Option Procedure) (xs : List ProgVar) (es : List Term) (st : Store)
    (g : Trees)
    → Leaves g (calling o xs es st g)
calling-leaves None xs es st g = refl
calling-leaves (Some f) xs es st g = refl

move-leaves : (th : Procedures) (p : Pick) (x : Piece) (k : List Piece) (st : Store) (g : Trees)
    (n : ℕ) → change_of n p (configuration (x ∷ k) st g) ≡ None → Leaves g (move th p x st g)
move-leaves th p (run skip) k st g n e = refl
move-leaves th p (run (block b)) k st g n e = refl
move-leaves th p (run (assign x t)) k st g n e = refl
move-leaves th p (run (if_else c a b)) k st g n e = refl
move-leaves th p (run (while_do c b)) k st g n e = refl
move-leaves th p (run (local x b)) k st g n e = refl
move-leaves th p (restore x v) k st g n e = refl
move-leaves th p (return st' rs xs) k st g n e = refl
move-leaves th p (run (call xs f es)) k st g n e = calling-leaves (procedure_named f th) xs es st g
move-leaves th p (run (node_name x t)) k st g n e =
    reading-leaves (node_at (value_of st t) g) no_node _ x st g
move-leaves th p (run (child_nodes x t)) k st g n e =
    reading-leaves (node_at (value_of st t) g) no_node _ x st g
move-leaves th p (run (parent_node x t)) k st g n e =
    reading-leaves (node_at (value_of st t) g) no_node _ x st g
move-leaves th p (run (list_item x t u)) k st g n e =
    reading-leaves (list_at (value_of st t) g) no_list _ x st g
move-leaves th p (run (create_node x t)) k st g n e = absurd (cc)
move-leaves th p (run (append_child t u)) k st g n e = absurd (cc)
move-leaves th p (run (remove_child t u)) k st g n e = absurd (cc)
move-leaves th p (run (insert_before t u v)) k st g n e = absurd (cc)

-- without a change, the grove stays
pub unchanged : (th : Procedures) (p : Pick) (c d : Config) (n : ℕ) → step th c p ≡ next d
    → change_of n p c ≡ None → d.grove ≡ c.grove
unchanged th p c d n e none' = by_pending c.pending none' e
  where
    stays : (k : List Piece) (m : Move) → Leaves c.grove m → stepped k m ≡ next d
        → d.grove ≡ c.grove
    stays k (becomes ys st g) h q =
        let same : configuration (ys ++ k) st g ≡ d = cc in
        sym (ap (λ (z : Config). z.grove) same) ∙ h
    stays k (faults f) h q = absurd cc
    stays k bad_pick h q = absurd cc

    by_pending : (k : List Piece) → change_of n p (configuration k c.store c.grove) ≡ None
        → step th (configuration k c.store c.grove) p ≡ next d → d.grove ≡ c.grove
    by_pending [] h q = absurd cc
    by_pending (x ∷ k) h q =
        stays k (move th p x c.store c.grove) (move-leaves th p x k c.store c.grove n h) q
