-- What comes of commands.
use Rattle.std.proofs.Common.{◌≡◌, ℕ, false, List, [], Option, Some, None, refl, sym, ap, ◌∙◌, subst}
use Rattle.std.specs.Prelude.{Result, Ok, Err, IfOk}
use Rattle.model_shapes.specs.Trees.{Trees}
use Rattle.model_shapes.specs.Values.{Name, FitsValue}
use Rattle.model_terms.specs.Terms.{Term}
use Rattle.model_terms.specs.TermLimits.{or_else}
use Rattle.model_limits.specs.Limits.{LimitKind, standard_limits}
use Rattle.model_machine.specs.Outcomes.{returns_in, step_limit}
use Rattle.model_terms.specs.Stores.{ProgVar, Store, set, sort_of}
use Rattle.model_terms.proofs.StoreLaws.{set-same}
use Rattle.model_commands.specs.Commands.{Command, skip, block, assign, create_node, node_name, child_nodes, parent_node, list_item, append_child, remove_child, insert_before, if_else, while_do, local, call}
use Rattle.model_commands.specs.Theories.{Procedures}
use Rattle.model_groves.specs.Picks.{Pick}
use Rattle.model_machine.specs.Machine.{Piece, run, Move, becomes, move}
use Rattle.model_machine.proofs.Fine.{FineMove}
use Rattle.dom_terms.specs.Terms.{prog_var_of}
use Rattle.dom_terms.specs.Values.{value_seen}
use Rattle.dom_meaning.specs.declared.effects.Effect.{Effect}
use Rattle.dom_meaning.specs.declared.effects.Effect.TheVariants as e
use Rattle.dom_meaning.specs.declared.faults.StepFault.{StepFault}
use Rattle.dom_meaning.specs.declared.faults.StepFault.TheVariants as s
use Rattle.dom_meaning.specs.Documents.{Kept}
use Rattle.dom_meaning.specs.Effects.{Comes, move_of, FitsStore, if_quiet, changes, Counted, own_limit, if_making, TellsNone, TellsChange}
use Rattle.dom_meaning.specs.Faults.{TellsLimit}

-- a variable that the machine sets has a value of its sort
pub fits_store : (ps : Procedures) (leaves : Trees → Type 0) (move : Move) (piece : Piece)
    (store : Store) (effect : Effect) → FineMove ps move → Comes leaves move piece store effect
    → FitsStore effect
fits_store ps leaves move piece store (e.Set x v) fine comes =
    let is : becomes [] (set (prog_var_of x.now) (value_seen v) store) comes.0 ≡ move = comes.1 in
    let proper = (subst (FineMove ps) (sym is) fine).1.proper in
    subst (FitsValue (sort_of (prog_var_of x.now)))
    (set-same (prog_var_of x.now) (value_seen v) store) (proper.fits (prog_var_of x.now))
fits_store ps leaves move piece store e.Nothing fine comes = tt
fits_store ps leaves move piece store (e.Commands b) fine comes = tt
fits_store ps leaves move piece store (e.Block b) fine comes = tt
fits_store ps leaves move piece store (e.Again b) fine comes = tt
fits_store ps leaves move piece store (e.Local x v b) fine comes = tt
fits_store ps leaves move piece store (e.Call f xs callee) fine comes = tt
fits_store ps leaves move piece store (e.Back caller) fine comes = tt
fits_store ps leaves move piece store (e.Created n l) fine comes = tt
fits_store ps leaves move piece store (e.Moved n a b d) fine comes = tt
fits_store ps leaves move piece store (e.Removed n a) fine comes = tt
fits_store ps leaves move piece store (e.Fault kind) fine comes = tt
fits_store ps leaves move piece store e.BadPick fine comes = tt

-- what holds of the store and the document holds where an effect changes nothing
pub quietly : (effect : Effect) (P : Type 0) → P → if_quiet effect P
quietly e.Nothing P p = p
quietly (e.Set x v) P p = p
quietly (e.Commands b) P p = p
quietly (e.Block b) P p = p
quietly (e.Again b) P p = p
quietly (e.Local x v b) P p = p
quietly (e.Call f xs callee) P p = p
quietly (e.Back caller) P p = p
quietly (e.Created n l) P p = tt
quietly (e.Moved n a b d) P p = tt
quietly (e.Removed n a) P p = tt
quietly (e.Fault kind) P p = p
quietly e.BadPick P p = p

-- a call that changes neither keeps them, whatever its answer is
pub all_kept : {D : Type 0} (keeps : D → D → Type 0) (result : Result Effect StepFault) (d : D)
    (P : Type 0) → P → keeps d d → Kept if_quiet keeps result P d d
all_kept keeps (Ok effect) d P p k = quietly effect (P × (d ≡ d)) (p, refl)
all_kept keeps (Err (s.Limit kind)) d P p k = (p, refl)
all_kept keeps (Err s.OutOfMemory) d P p k = (p, k)

-- what changes nothing of the document alone keeps a store that is the same
too : {D : Type 0} (effect : Effect) (old new : D) (P : Type 0) → P
    → if_quiet effect (Unit × (new ≡ old)) → if_quiet effect (P × (new ≡ old))
too e.Nothing old new P p h = (p, h.1)
too (e.Set x v) old new P p h = (p, h.1)
too (e.Commands b) old new P p h = (p, h.1)
too (e.Block b) old new P p h = (p, h.1)
too (e.Again b) old new P p h = (p, h.1)
too (e.Local x v b) old new P p h = (p, h.1)
too (e.Call f xs callee) old new P p h = (p, h.1)
too (e.Back caller) old new P p h = (p, h.1)
too (e.Created n l) old new P p h = tt
too (e.Moved n a b d) old new P p h = tt
too (e.Removed n a) old new P p h = tt
too (e.Fault kind) old new P p h = (p, h.1)
too e.BadPick old new P p h = (p, h.1)

pub kept_too : {D : Type 0} (keeps : D → D → Type 0) (result : Result Effect StepFault)
    (old new : D) (P : Type 0) → P → Kept if_quiet keeps result Unit old new
    → Kept if_quiet keeps result P old new
kept_too keeps (Ok effect) old new P p h = too effect old new P p h
kept_too keeps (Err (s.Limit kind)) old new P p h = (p, h.1)
kept_too keeps (Err s.OutOfMemory) old new P p h = (p, h.1)

-- an effect that leaves the document is the move to its own grove
pub left_alone : (leaves : Trees → Type 0) (result : Result Effect StepFault) (ps : Procedures)
    (pick : Pick) (command : Command) (store : Store) (grove : Trees)
    → IfOk result (λ effect. (other : Pick) → move_of effect (run command) store grove
    ≡ move ps other (run command) store grove)
    → leaves grove → IfOk result (Comes leaves (move ps pick (run command) store grove)
    (run command) store)
left_alone leaves (Ok effect) ps pick command store grove h l = (grove, h pick, l)
left_alone leaves (Err fault) ps pick command store grove h l = tt

-- a command that leaves the document makes no change
pub tells_none : (result : Result Effect StepFault) (command : Command)
    → changes command ≡ false → IfOk result TellsNone → (pick : Pick) (store : Store)
    (grove : Trees) → IfOk result (TellsChange pick (run command) store grove)
tells_none result skip e h pick store grove = h
tells_none result (block b) e h pick store grove = h
tells_none result (assign x t) e h pick store grove = h
tells_none result (create_node x t) e h pick store grove = absurd cc
tells_none result (node_name x t) e h pick store grove = h
tells_none result (child_nodes x t) e h pick store grove = h
tells_none result (parent_node x t) e h pick store grove = h
tells_none result (list_item x t u) e h pick store grove = h
tells_none result (append_child t u) e h pick store grove = absurd cc
tells_none result (remove_child t u) e h pick store grove = absurd cc
tells_none result (insert_before t u v) e h pick store grove = absurd cc
tells_none result (if_else b c d) e h pick store grove = h
tells_none result (while_do b c) e h pick store grove = h
tells_none result (local x b) e h pick store grove = h
tells_none result (call xs name es) e h pick store grove = h

or_else-none : {A : Type 0} (o : Option A) → or_else o None ≡ o
or_else-none None = refl
or_else-none (Some a) = refl

-- the limit of a call
pub call_limit : (result : Result Effect StepFault) (command : Command) (xs : List ProgVar)
    (name : Name) (es : List Term) → command ≡ call xs name es → (returns : ℕ) (store : Store)
    → ((rest : List Piece) (grove : Trees) → returns_in rest ≡ returns
    → TellsLimit result (step_limit standard_limits (run (call xs name es)) rest store grove))
    → (rest : List Piece) (grove : Trees) (numbers : Option LimitKind)
    → Counted (run command) rest returns
    → TellsLimit result (own_limit command rest store grove numbers)
call_limit result command xs name es is returns store h rest grove numbers =
    subst (λ z. Counted (run z) rest returns
    → TellsLimit result (own_limit z rest store grove numbers)) (sym is)
    (λ counted. subst (TellsLimit result)
    (sym (or_else-none (step_limit standard_limits (run (call xs name es)) rest store grove)))
    (h rest grove counted))

-- where the numbers of a new node have no limit
making-none : (command : Command) → if_making command None ≡ None
making-none skip = refl
making-none (block b) = refl
making-none (assign x t) = refl
making-none (create_node x t) = refl
making-none (node_name x t) = refl
making-none (child_nodes x t) = refl
making-none (parent_node x t) = refl
making-none (list_item x t u) = refl
making-none (append_child t u) = refl
making-none (remove_child t u) = refl
making-none (insert_before t u v) = refl
making-none (if_else b c d) = refl
making-none (while_do b c) = refl
making-none (local x b) = refl
making-none (call xs name es) = refl

pub without_numbers : (result : Result Effect StepFault) (command : Command) (rest : List Piece)
    (store : Store) (grove : Trees)
    → TellsLimit result (own_limit command rest store grove None)
    → TellsLimit result (step_limit standard_limits (run command) rest store grove)
without_numbers result command rest store grove h =
    subst (TellsLimit result)
    (ap (or_else (step_limit standard_limits (run command) rest store grove)) (making-none command)
    ∙ or_else-none (step_limit standard_limits (run command) rest store grove)) h

pub ruleset planning_rules = (all_kept, kept_too, left_alone)
