-- The limits of a run, and its outcome within the fuel. These are the language's own: the machine
-- has no limits. A new node takes the next numbers of each kind.
use Rattle.std.specs.Prelude.{ℕ, zero, suc, ◌+◌, List, [], ◌∷◌, nat_le, ◌&&◌, cond, Option, Some, None}
use Rattle.model_limits.specs.Limits.{LimitKind, nodes_limit, identifier_limit, depth_limit, Limits}
use Rattle.model_groves.specs.Sizes.{greatest_node, greatest_list, size}
use Rattle.model_groves.specs.Picks.{next_pick}
use Rattle.model_terms.specs.TermLimits.{unless, terms_limit}
use Rattle.model_shapes.specs.Trees.{Trees}
use Rattle.model_shapes.specs.Values.{Value}
use Rattle.model_terms.specs.TermLimits.{or_else}
use Rattle.model_terms.specs.Stores.{ProgVar, Store, value_in}
use Rattle.model_commands.specs.Commands.{Command, skip, create_node, call}
use Rattle.model_commands.specs.CommandParts.{terms_of}
use Rattle.model_commands.specs.Theories.{Procedures}
use Rattle.model_machine.specs.Machine.{FaultKind, Piece, run, restore, return, Config, is_done, StepOut, next, done, at_fault, at_bad_pick, step}

-- how many returns are pending
abbrev pub returns_in : List Piece → ℕ
returns_in [] = 0
returns_in (return store results xs ∷ rest) = suc (returns_in rest)
returns_in (piece ∷ rest) = returns_in rest

-- the limit of nodes or of depth that a step passes
abbrev pub growth_limit : Limits → Piece → List Piece → Trees → Option LimitKind
growth_limit limits (run (create_node x e)) rest grove =
    unless (nat_le (1 + size grove) limits.nodes) nodes_limit
growth_limit limits (run (call xs name es)) rest grove =
    unless (nat_le (1 + returns_in rest) limits.depth) depth_limit
growth_limit limits piece rest grove = None

-- the limit that the values of a piece's terms pass
abbrev pub piece_limit : Limits → Piece → Store → Option LimitKind
piece_limit limits (run command) store = terms_limit limits store (terms_of command)
piece_limit limits piece store = None

-- the limit that a step passes: of its terms, then of nodes or depth
abbrev pub step_limit : Limits → Piece → List Piece → Store → Trees → Option LimitKind
step_limit limits piece rest store grove =
    or_else (piece_limit limits piece store) (growth_limit limits piece rest grove)

-- the limit that the next step passes, whatever numbers a new node is given: none where nothing is
-- pending
abbrev pub limit_ahead : Limits → Config → Option LimitKind
limit_ahead limits config = first_limit config.pending
  where
    first_limit : List Piece → Option LimitKind
    first_limit [] = None
    first_limit (piece ∷ rest) = step_limit limits piece rest config.store config.grove

-- the limit that the numbers of a new node pass, where the next step makes one
abbrev pub pick_limit : Limits → Config → Option LimitKind
pick_limit limits config = first_limit config.pending
  where
    first_limit : List Piece → Option LimitKind
    first_limit (run (create_node x e) ∷ rest) =
        unless (nat_le (1 + greatest_node config.grove) limits.identifier
        && nat_le (1 + greatest_list config.grove) limits.identifier) identifier_limit
    first_limit pending = None

-- How a run comes out: it ends, with the steps taken, the values of the results and the grove; the
-- fuel is spent, with the steps taken and what is left; a limit would be passed; or a command
-- faults, with the kind, the steps taken before, and the command. The last never comes: the next
-- pick is free.
pub data Outcome : Type 0 where
  ends : ℕ → List Value → Trees → Outcome
  spends : ℕ → Config → Outcome
  passes_limit : LimitKind → Outcome
  has_fault : FaultKind → ℕ → Command → Outcome
  no_pick : Outcome

-- the values of variables, in order
abbrev pub values_in : List ProgVar → Store → List Value
values_in [] store = []
values_in (x ∷ xs) store = value_in store x ∷ values_in xs store

-- the end, with these results, when so many steps were taken
abbrev pub ends_at : List ProgVar → ℕ → Config → Outcome
ends_at results taken config = ends taken (values_in results config.store) config.grove

-- the command that comes first; no other piece faults
abbrev pub first_command : List Piece → Command
first_command (run command ∷ rest) = command
first_command pending = skip

-- a limit, where one is passed, and else what comes otherwise
abbrev pub within : Option LimitKind → Outcome → Outcome
within (Some kind) otherwise = passes_limit kind
within None otherwise = otherwise

-- what comes out after a step, when so many were taken before
abbrev pub on_step : (Config → Outcome) → List ProgVar → ℕ → Config → StepOut → Outcome
on_step more results taken config (next after) = more after
on_step more results taken config done = ends_at results taken config
on_step more results taken config (at_fault kind) =
    has_fault kind taken (first_command config.pending)
on_step more results taken config at_bad_pick = no_pick

-- What comes out with this fuel, when so many steps were taken. It is asked in this order: whether
-- nothing is pending, whether the fuel is spent, whether a limit is passed, and what the step does.
abbrev pub outcome : Limits → Procedures → List ProgVar → ℕ → ℕ → Config → Outcome
outcome limits procedures results zero taken config =
    cond (is_done config) (ends_at results taken config) (spends taken config)
outcome limits procedures results (suc fuel) taken config =
    cond (is_done config) (ends_at results taken config)
    (within (or_else (limit_ahead limits config) (pick_limit limits config))
    (on_step (outcome limits procedures results fuel (suc taken)) results taken config
    (step procedures config (next_pick config.grove))))
