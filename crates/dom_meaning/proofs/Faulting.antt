-- Only a command faults.
use Rattle.std.proofs.Common.{◌≡◌, List, [], ◌∷◌}
use Rattle.model_shapes.specs.Trees.{Trees}
use Rattle.model_terms.specs.Stores.{Store}
use Rattle.model_commands.specs.Theories.{Procedures}
use Rattle.model_groves.specs.Picks.{Pick}
use Rattle.model_machine.specs.Machine.{FaultKind, Piece, run, restore, return, configuration, at_fault, step}

module _ (ps : Procedures) (pick : Pick) (kind : FaultKind) where
  -- a command comes first
  abbrev pub CommandFirst : List Piece → Type 0
  CommandFirst (run command ∷ rest) = Unit {0}
  CommandFirst pending = ⊥

  pub command_faults : (pending : List Piece) (store : Store) (grove : Trees)
      → at_fault kind ≡ step ps (configuration pending store grove) pick → CommandFirst pending
  command_faults [] store grove e = absurd cc
  command_faults (run command ∷ rest) store grove e = tt
  command_faults (restore x v ∷ rest) store grove e = absurd cc
  command_faults (return caller rs xs ∷ rest) store grove e = absurd cc
