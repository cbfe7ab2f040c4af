-- What is pending in a run stands in the bodies of the procedures.
use Rattle.std.proofs.Common.{◌≡◌, ℕ, zero, suc, List, [], ◌∷◌, ◌++◌, Bool, true, false, cond, bytes_eq, refl, subst, Option, Some, None, ◌⊎◌, inl, inr}
use Rattle.std.specs.Prelude.{Contains}
use Rattle.std.proofs.lemmas.List.Elements.{Contains-append_left, Contains-append_right}
use Rattle.model_shapes.specs.Trees.{Trees}
use Rattle.model_shapes.specs.Values.{Name, Value}
use Rattle.model_terms.specs.Terms.{Term}
use Rattle.model_terms.specs.Stores.{ProgVar, Store, value_of, text_in}
use Rattle.model_terms.specs.Conditions.{truth_of}
use Rattle.model_terms.specs.TermLimits.{or_else}
use Rattle.model_limits.specs.Limits.{Limits, LimitKind}
use Rattle.model_commands.specs.Commands.{Command, skip, block, assign, create_node, node_name, child_nodes, parent_node, list_item, append_child, remove_child, insert_before, if_else, while_do, local, call, Block, stop, ◌then◌}
use Rattle.model_commands.specs.CommandParts.{commands_in, commands_of}
use Rattle.model_commands.specs.Theories.{Procedure, Procedures, procedure_named}
use Rattle.model_groves.specs.Groves.{node_at, list_at}
use Rattle.model_groves.specs.Picks.{Pick, next_pick}
use Rattle.model_machine.specs.Machine.{FaultKind, no_node, no_list, Piece, run, restore, return, Move, becomes, faults, bad_pick, pieces_of, reading, calling, move, Config, configuration, start, StepOut, next, done, at_fault, at_bad_pick, stepped, step}
use Rattle.model_machine.specs.Outcomes.{Outcome, has_fault, first_command, limit_ahead, pick_limit, within, on_step, outcome}
use Rattle.model_machine.specs.Parts.{blocks_of, parts_of, InSomeBody, onward, after_picks}
use Rattle.model_machine.proofs.EachMove.{each-reading, each-creating, each-appending, each-removing, each-inserting}
use Rattle.model_machine.proofs.Members.{first-member, later-member, no-member, which-member}
use Rattle.model_machine.proofs.Parts.{itself, no-block, block-part, command-part, inside-block}

-- the procedure that is found is one of them
named-member : (name : Name) (ps : Procedures) (f : Procedure) → procedure_named name ps ≡ Some f
    → Contains ps f
named-member name [] f e = absurd cc
named-member name (p ∷ ps) f e = by_test (bytes_eq name p.name) e (named-member name ps f)
  where
    by_test : (b : Bool) → cond b (Some p) (procedure_named name ps) ≡ Some f
        → (procedure_named name ps ≡ Some f → Contains ps f) → Contains (p ∷ ps) f
    by_test true e rec =
        let same : p ≡ f = cc in subst (λ z. Contains (p ∷ ps) z) same (first-member p ps)
    by_test false e rec = later-member p ps f (rec e)

module _ (ps : Procedures) where
  -- a command that is pending is part of a body
  abbrev PartPiece : Piece → Type 0
  PartPiece (run c) = InSomeBody parts_of ps c
  PartPiece piece = Unit

  abbrev PartPieces : List Piece → Type 0
  PartPieces [] = Unit
  PartPieces (x ∷ rest) = PartPiece x × PartPieces rest

  parts-append : (xs ys : List Piece) → PartPieces xs → PartPieces ys → PartPieces (xs ++ ys)
  parts-append [] ys a b = b
  parts-append (x ∷ xs) ys a b = (a.0, parts-append xs ys a.1 b)

  part-member : (xs : List Piece) → PartPieces xs → (x : Piece) → Contains xs x → PartPiece x
  part-member [] a x h = absurd (no-member x h)
  part-member (y ∷ xs) a x h = by_place (which-member y xs x h) (part-member xs a.1 x)
    where
      by_place : (y ≡ x) ⊎ Contains xs x → (Contains xs x → PartPiece x) → PartPiece x
      by_place (inl e) rec = subst PartPiece e a.0
      by_place (inr k) rec = rec k

  -- the body of a procedure
  body-part : (f : Procedure) → Contains ps f → InSomeBody parts_of ps f.body
  body-part f h = (f, h, command-part f.body f.body (itself f.body))

  -- the commands of a block
  block-parts : (f : Procedure) → Contains ps f → (b : Block)
      → ((x : Command) → Contains (commands_of b) x → Contains (commands_in f.body) x)
      → PartPieces (pieces_of b)
  block-parts f h stop inside = tt
  block-parts f h (c then b) inside = (
    (
      f,
      h,
      command-part f.body c
          (inside c (Contains-append_left (commands_in c) (commands_of b) c (itself c))),
    ),
    block-parts f h b (λ x m. inside x (Contains-append_right (commands_in c) (commands_of b) x m)),
  )

  -- the block of a command
  own-part : (c x : Command) → ((b : Block) → c ≡ block b → ⊥) → Contains (blocks_of c) x
      → InSomeBody parts_of ps c → InSomeBody parts_of ps x
  own-part c x n m h =
      let f = h.0 in (f, h.1, block-part f.body c x (no-block f.body c n h.2) m)

  -- what a move makes pending
  abbrev PartMove : Move → Type 0
  PartMove (becomes pieces store grove) = PartPieces pieces
  PartMove (faults kind) = Unit
  PartMove bad_pick = Unit

  calling-part : (o : Option Procedure) → ((f : Procedure) → o ≡ Some f → Contains ps f)
      → (xs : List ProgVar) (es : List Term) (st : Store) (g : Trees)
      → PartMove (calling o xs es st g)
  calling-part None h xs es st g = tt
  calling-part (Some f) h xs es st g = (body-part f (h f refl), (tt, tt))

  reads : (a : Trees) (kind : FaultKind) (read : Name → ℕ → Trees → ℕ → Value) (x : ProgVar)
      (st : Store) (g : Trees) → PartMove (reading a kind read x st g)
  reads = each-reading PartMove (λ k. tt) tt (λ st g. tt)

  move-part : (p : Pick) (x : Piece) (st : Store) (g : Trees) → PartPiece x
      → PartMove (move ps p x st g)
  move-part p (run skip) st g h = tt
  move-part p (run (block b)) st g h =
      let f = h.0 in block-parts f h.1 b (inside-block f.body b h.2)
  move-part p (run (assign x t)) st g h = tt
  move-part p (run (if_else c a b)) st g h = by_truth (truth_of st c)
    where
      whole : Command
      whole = if_else c a b

      by_truth : (t : Bool) → PartMove (becomes (run (block (cond t a b)) ∷ []) st g)
      by_truth true =
          (own-part whole (block a) (λ b e. cc) (first-member (block a) (block b ∷ [])) h, tt)
      by_truth false = (
        own-part whole (block b) (λ b e. cc) (later-member (block a) (block b ∷ []) (block b)
            (first-member (block b) [])) h,
        tt,
      )
  move-part p (run (while_do c b)) st g h = by_truth (truth_of st c)
    where
      whole : Command
      whole = while_do c b

      by_truth : (t : Bool)
          → PartMove (becomes (cond t (run (block b) ∷ run whole ∷ []) []) st g)
      by_truth true =
          (own-part whole (block b) (λ b e. cc) (first-member (block b) []) h, (h, tt))
      by_truth false = tt
  move-part p (run (local x b)) st g h =
      (own-part (local x b) (block b) (λ b e. cc) (first-member (block b) []) h, (tt, tt))
  move-part p (restore x v) st g h = tt
  move-part p (return st' rs xs) st g h = tt
  move-part p (run (call xs name es)) st g h =
      calling-part (procedure_named name ps) (named-member name ps) xs es st g
  move-part p (run (create_node x t)) st g h =
      each-creating PartMove (λ k. tt) tt (λ st g. tt) p x (text_in (value_of st t)) st g
  move-part p (run (node_name x t)) st g h = reads (node_at (value_of st t) g) no_node _ x st g
  move-part p (run (child_nodes x t)) st g h = reads (node_at (value_of st t) g) no_node _ x st g
  move-part p (run (parent_node x t)) st g h = reads (node_at (value_of st t) g) no_node _ x st g
  move-part p (run (list_item x t u)) st g h = reads (list_at (value_of st t) g) no_list _ x st g
  move-part p (run (append_child t u)) st g h =
      each-appending PartMove (λ k. tt) tt (λ st g. tt) (node_at (value_of st t) g)
      (node_at (value_of st u) g) st g
  move-part p (run (remove_child t u)) st g h =
      each-removing PartMove (λ k. tt) tt (λ st g. tt) (node_at (value_of st t) g)
      (node_at (value_of st u) g) st g
  move-part p (run (insert_before t u v)) st g h =
      each-inserting PartMove st g (λ k. tt) (λ g. tt) (value_of st v)
      (node_at (value_of st t) g) (node_at (value_of st u) g)

  -- a command that faults is no block, so it is one of the body's commands
  fault-in : (p : Pick) (x : Piece) (rest : List Piece) (st : Store) (g : Trees) (kind : FaultKind)
      → PartPiece x → move ps p x st g ≡ faults kind
      → InSomeBody commands_in ps (first_command (x ∷ rest))
  fault-in p (run c) rest st g kind h e =
      let f = h.0 in (
        f,
        h.1,
        no-block f.body c (λ b is.
            let moved : move ps p (run (block b)) st g ≡ faults kind =
            subst (λ z. move ps p (run z) st g ≡ faults kind) is e in
            let becoming : becomes (pieces_of b) st g ≡ faults kind = moved in cc) h.2,
      )
  fault-in p (restore x v) rest st g kind h e = absurd cc
  fault-in p (return st' rs xs) rest st g kind h e = absurd cc

  -- STEPS KEEP IT
  abbrev PartStep : StepOut → Type 0
  PartStep (next after) = PartPieces after.pending
  PartStep otherwise = Unit {0}

  stepped-part : (rest : List Piece) (m : Move) → PartPieces rest → PartMove m
      → PartStep (stepped rest m)
  stepped-part rest (becomes pieces st g) r m = parts-append pieces rest m r
  stepped-part rest (faults kind) r m = tt
  stepped-part rest bad_pick r m = tt

  step-part : (p : Pick) (c : Config) → PartPieces c.pending → PartStep (step ps c p)
  step-part p c h = by_pending c.pending h
    where
      by_pending : (k : List Piece) → PartPieces k
          → PartStep (step ps (configuration k c.store c.grove) p)
      by_pending [] h = tt
      by_pending (x ∷ k) h =
          stepped-part k (move ps p x c.store c.grove) h.1 (move-part p x c.store c.grove h.0)

  -- so does a run
  abbrev PartAfter : Option Config → Type 0
  PartAfter None = Unit
  PartAfter (Some after) = PartPieces after.pending

  run-part : (picks : List Pick) (c : Config) → PartPieces c.pending
      → PartAfter (after_picks ps picks c)
  run-part [] c h = h
  run-part (p ∷ picks) c h = by_step (step ps c p) (step-part p c h) (run-part picks)
    where
      by_step : (o : StepOut) → PartStep o
          → ((d : Config) → PartPieces d.pending → PartAfter (after_picks ps picks d))
          → PartAfter (onward (after_picks ps picks) o)
      by_step (next d) h rec = rec d h
      by_step done h rec = tt
      by_step (at_fault kind) h rec = tt
      by_step at_bad_pick h rec = tt

  -- and an outcome
  abbrev PartFault : Outcome → Type 0
  PartFault (has_fault kind n c) = InSomeBody commands_in ps c
  PartFault otherwise = Unit {0}

  module _ (limits : Limits) (rs : List ProgVar) where
    within-part : (l : Option LimitKind) (o : Outcome) → PartFault o → PartFault (within l o)
    within-part (Some l) o h = tt
    within-part None o h = h

    outcome-part : (fuel taken : ℕ) (c : Config) → PartPieces c.pending
        → PartFault (outcome limits ps rs fuel taken c)
    outcome-part zero taken c h = by_pending c.pending
      where
        by_pending : (k : List Piece)
            → PartFault (outcome limits ps rs zero taken (configuration k c.store c.grove))
        by_pending [] = tt
        by_pending (x ∷ k) = tt
    outcome-part (suc fuel) taken c h =
        by_pending c.pending h (outcome-part fuel (suc taken))
      where
        by_move : (x : Piece) (k : List Piece) (m : Move)
            → PartPiece x → PartStep (stepped k m)
            → move ps (next_pick c.grove) x c.store c.grove ≡ m
            → ((d : Config) → PartPieces d.pending
            → PartFault (outcome limits ps rs fuel (suc taken) d))
            → PartFault (on_step (outcome limits ps rs fuel (suc taken)) rs taken
            (configuration (x ∷ k) c.store c.grove) (stepped k m))
        by_move x k (becomes pieces st g) first h e rec = rec (configuration (pieces ++ k) st g) h
        by_move x k (faults kind) first h e rec =
            fault-in (next_pick c.grove) x k c.store c.grove kind first e
        by_move x k bad_pick first h e rec = tt

        by_pending : (k : List Piece) → PartPieces k
            → ((d : Config) → PartPieces d.pending
            → PartFault (outcome limits ps rs fuel (suc taken) d))
            → PartFault (outcome limits ps rs (suc fuel) taken (configuration k c.store c.grove))
        by_pending [] h rec = tt
        by_pending (x ∷ k) h rec =
            let here = configuration (x ∷ k) c.store c.grove in
            within-part (or_else (limit_ahead limits here) (pick_limit limits here)) _
            (by_move x k (move ps (next_pick c.grove) x c.store c.grove) h.0
            (step-part (next_pick c.grove) here h) refl rec)

  -- THE LAW, of a run from the start of a procedure
  pub pending-part : (f : Procedure) → Contains ps f → (values : List Value) (roots : Trees)
      (picks : List Pick) (after : Config)
      → after_picks ps picks (start f values roots) ≡ Some after
      → (c : Command) → Contains after.pending (run c) → InSomeBody parts_of ps c
  pending-part f h values roots picks after e c m =
      part-member after.pending (subst PartAfter e
      (run-part picks (start f values roots) (body-part f h, tt))) (run c) m

  pub fault-part : (limits : Limits) (f : Procedure) → Contains ps f → (values : List Value)
      (roots : Trees) (rs : List ProgVar) (fuel taken n : ℕ) (kind : FaultKind) (c : Command)
      → outcome limits ps rs fuel taken (start f values roots) ≡ has_fault kind n c
      → InSomeBody commands_in ps c
  fault-part limits f h values roots rs fuel taken n kind c e =
      subst PartFault e
      (outcome-part limits rs fuel taken (start f values roots) (body-part f h, tt))
