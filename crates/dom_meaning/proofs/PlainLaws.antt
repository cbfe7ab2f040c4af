-- What comes of moves on a plain grove.
use Rattle.std.proofs.Common.{◌≡◌, List, refl}
use Rattle.std.specs.Prelude.{Result, Ok, Err}
use Rattle.model_shapes.specs.Trees.{Trees}
use Rattle.model_terms.specs.Stores.{Store}
use Rattle.model_machine.specs.Machine.{Move}
use Rattle.grove_data.specs.declared.trees.Tree.{Tree}
use Rattle.grove_data.specs.Trees.{forest_of}
use Rattle.dom_meaning.specs.declared.faults.MoveFault.{MoveFault}
use Rattle.dom_meaning.specs.declared.faults.MoveFault.TheVariants as m
use Rattle.dom_meaning.specs.Documents.{Moves, Leads}
use Rattle.dom_meaning.specs.Plain.{MovesTo}

-- the move was done
pub plain_done : (move : Move) (store : Store) (grove : List Tree) → MovesTo move store (Ok grove)
    → Leads (λ trees. trees ≡ forest_of grove) move store
plain_done move store grove is = (forest_of grove, is, refl)

-- or it wasn't
pub plain_fault : (A : Type 0) {D : Type 0} (leaves : D → Trees → Type 0) (move : Move)
    (store : Store) (fault : MoveFault) (document : D) → MovesTo move store (Err fault)
    → Moves {A = A} leaves (λ before after. after ≡ before) move store (Err fault) document document
plain_fault A leaves move store (m.Fault kind) document is = (is, refl)
plain_fault A leaves move store m.OutOfMemory document is = refl

pub ruleset plain_rules = (plain_done, plain_fault)
