-- What a step of a run leads to, by what comes of its first piece.
use Rattle.std.proofs.Common.{◌≡◌, ℕ, ◌+◌, nat_le, ◌&&◌, List, [], ◌∷◌, ◌++◌, refl, sym, ap, ◌∙◌, subst}
use Rattle.model_shapes.specs.Sorts.{shape, grove}
use Rattle.model_shapes.specs.Trees.{Trees}
use Rattle.model_shapes.specs.Shapes.{SameAt, Shaped}
use Rattle.model_shapes.proofs.Shapes.{same-Shaped}
use Rattle.model_terms.specs.Stores.{Store}
use Rattle.model_terms.specs.TermLimits.{unless}
use Rattle.model_commands.specs.Commands.{Command, skip, block, assign, create_node, node_name, child_nodes, parent_node, list_item, append_child, remove_child, insert_before, if_else, while_do, local, call}
use Rattle.model_commands.specs.Theories.{Procedures}
use Rattle.model_commands.specs.SortTests.{BodiesSorted}
use Rattle.model_groves.specs.Picks.{Pick, next_pick}
use Rattle.model_groves.specs.Sizes.{greatest_node, greatest_list}
use Rattle.model_limits.specs.Limits.{identifier_limit, standard_limits}
use Rattle.model_machine.specs.Changes.{change_of}
use Rattle.model_machine.specs.Machine as model
use Rattle.model_machine.specs.Machine.{Piece, run, restore, return, Move, becomes, move, configuration, next, at_fault, stepped, step}
use Rattle.model_machine.specs.Fitting.{FitsConfig}
use Rattle.model_machine.proofs.Fine.{step-fits}
use Rattle.model_machine.proofs.NextMoves.{next-steps}
use Rattle.dom_meaning.specs.declared.effects.Effect.{Effect}
use Rattle.dom_meaning.specs.declared.effects.Effect.TheVariants as e
use Rattle.dom_meaning.specs.declared.faults.FaultKind.{FaultKind}
use Rattle.dom_meaning.specs.Effects.{Comes, move_of, pieces_put, store_put, own_limit}
use Rattle.dom_meaning.specs.Faults.{fault_kind_of}
use Rattle.heap_runner.specs.Effects.{GoesOn}
use Rattle.heap_runner.specs.Steps.{Leads}
use Rattle.heap_runner.specs.Turns.{limit_here}

-- an effect with which the run goes on puts pieces and a store in place
goes : (effect : Effect) (piece : Piece) (store : Store) (trees : Trees) → GoesOn effect
    → move_of effect piece store trees
    ≡ becomes (pieces_put effect piece store) (store_put effect store) trees
goes e.Nothing piece store trees h = refl
goes (e.Set x v) piece store trees h = refl
goes (e.Commands b) piece store trees h = refl
goes (e.Block b) piece store trees h = refl
goes (e.Again b) piece store trees h = refl
goes (e.Local x v b) piece store trees h = refl
goes (e.Call f xs callee) piece store trees h = refl
goes (e.Back caller) piece store trees h = refl
goes (e.Created n l) piece store trees h = refl
goes (e.Moved n a b d) piece store trees h = refl
goes (e.Removed n a) piece store trees h = refl
goes (e.Fault kind) piece store trees h = absurd h
goes e.BadPick piece store trees h = absurd h

module _ (ps : Procedures) (piece : Piece) (rest : List Piece) (store : Store) (g : Trees) where
  abbrev before : model.Config
  before = configuration (piece ∷ rest) store g

  abbrev its_move : Move
  its_move = move ps (next_pick g) piece store g

  module _ (effect : Effect) (left : Store) (new : Trees)
      (comes : Comes (λ trees. SameAt grove trees new) its_move piece left effect)
      (goes_on : GoesOn effect) where
    abbrev reached : model.Config
    reached = configuration (pieces_put effect piece left ++ rest) (store_put effect left) comes.0

    -- the step leads there, up to the order of the roots
    pub it_leads : step ps before (next_pick g) ≡ next reached
    it_leads =
        ap (stepped rest) (sym comes.1 ∙ goes effect piece left comes.0 goes_on)

    module _ (after : model.Config) (pending : after.pending ≡ pieces_put effect piece left ++ rest)
        (same_store : after.store ≡ store_put effect left) (same_grove : after.grove ≡ new) where
      pub it_leads_to : Leads (step ps before (next_pick g)) after
      it_leads_to =
          subst (λ out. Leads out after) (sym it_leads) (
            sym pending,
            sym same_store,
            subst (λ z. SameAt grove comes.0 z) (sym same_grove) comes.2,
          )

      pub it_fits : BodiesSorted ps → FitsConfig ps before → FitsConfig ps after
      it_fits bodies fits =
          let f = step-fits ps bodies (next_pick g) before reached fits it_leads in
          subst (FitsConfig ps)
          (λ i. configuration (sym pending i) (sym same_store i) after.grove)
          (record {
            pieces = f.pieces;
            fine = record {
              proper = f.fine.proper;
              whole = subst (Shaped (shape grove)) (sym same_grove)
                  (same-Shaped (shape grove) comes.0 new comes.2 f.fine.whole);
            };
          })

  -- it faults, or its pick is bad, which the next one never is
  pub it_faults : (kind : FaultKind) (left : Store) (new : Trees)
      → Comes (λ trees. SameAt grove trees new) its_move piece left (e.Fault kind)
      → step ps before (next_pick g) ≡ at_fault (fault_kind_of kind)
  it_faults kind left new comes = ap (stepped rest) (sym comes.1)

  pub no_bad_pick : (left : Store) (new : Trees)
      → Comes (λ trees. SameAt grove trees new) its_move piece left e.BadPick → ⊥
  no_bad_pick left new comes = next-steps ps before (ap (stepped rest) (sym comes.1))

-- the limit that a command passes on the heap is the one here
pub own_is_here : (command : Command) (rest : List Piece) (store : Store) (g : Trees)
    → own_limit command rest store g (unless (nat_le (1 + greatest_node g)
    standard_limits.identifier && nat_le (1 + greatest_list g) standard_limits.identifier)
    identifier_limit)
    ≡ limit_here (configuration (run command ∷ rest) store g)
own_is_here skip rest store g = refl
own_is_here (block b) rest store g = refl
own_is_here (assign x t) rest store g = refl
own_is_here (create_node x t) rest store g = refl
own_is_here (node_name x t) rest store g = refl
own_is_here (child_nodes x t) rest store g = refl
own_is_here (parent_node x t) rest store g = refl
own_is_here (list_item x t u) rest store g = refl
own_is_here (append_child t u) rest store g = refl
own_is_here (remove_child t u) rest store g = refl
own_is_here (insert_before t u v) rest store g = refl
own_is_here (if_else c a b) rest store g = refl
own_is_here (while_do c b) rest store g = refl
own_is_here (local x b) rest store g = refl
own_is_here (call xs name es) rest store g = refl

-- the change of a piece, whatever comes after it
pub change_alone : (taken : ℕ) (pick : Pick) (piece : Piece) (rest : List Piece) (store : Store)
    (g : Trees) → change_of taken pick (configuration (piece ∷ rest) store g)
    ≡ change_of taken pick (configuration (piece ∷ []) store g)
change_alone taken pick (run skip) rest store g = refl
change_alone taken pick (run (block b)) rest store g = refl
change_alone taken pick (run (assign x t)) rest store g = refl
change_alone taken pick (run (create_node x t)) rest store g = refl
change_alone taken pick (run (node_name x t)) rest store g = refl
change_alone taken pick (run (child_nodes x t)) rest store g = refl
change_alone taken pick (run (parent_node x t)) rest store g = refl
change_alone taken pick (run (list_item x t u)) rest store g = refl
change_alone taken pick (run (append_child t u)) rest store g = refl
change_alone taken pick (run (remove_child t u)) rest store g = refl
change_alone taken pick (run (insert_before t u v)) rest store g = refl
change_alone taken pick (run (if_else c a b)) rest store g = refl
change_alone taken pick (run (while_do c b)) rest store g = refl
change_alone taken pick (run (local x b)) rest store g = refl
change_alone taken pick (run (call xs name es)) rest store g = refl
change_alone taken pick (restore x v) rest store g = refl
change_alone taken pick (return caller rs xs) rest store g = refl
