-- Needn't be believed: the contracts of private functions alone speak of it. The pieces that a run
-- on a heap has pending, as those of a configuration.
use Rattle.std.specs.Prelude.{ℕ, List, [], ◌∷◌, ◌++◌, map, Option, Some, None}
use Rattle.model_machine.specs.Outcomes.{returns_in}
use Rattle.theory_syntax.specs.declared.commands.Command.TheVariants.{Block as BlockOf}
use Rattle.dom_meaning.specs.declared.configurations.Pending.{Pending}
use Rattle.dom_meaning.specs.declared.configurations.Pending.TheVariants as p
use Rattle.dom_meaning.specs.Configs.{piece_of}
use Rattle.heap_runner.specs.declared.pieces.Piece.{Piece}
use Rattle.heap_runner.specs.declared.pieces.Piece.TheVariants as q
use Rattle.heap_runner.specs.declared.pieces.First.{First}
use Rattle.heap_runner.specs.declared.pieces.First.TheVariants as f

-- the pieces that one piece stands for, the first one first
abbrev pub pieces_seen : Piece → List Pending
pieces_seen (q.Commands first rest) = p.Run first.now ∷ map p.Run rest.now
pieces_seen (q.Block block) = p.Run (BlockOf block.now) ∷ []
pieces_seen (q.Restore variable value) = p.Restore variable.now value ∷ []
pieces_seen (q.Return caller results variables) =
    p.Return caller results.now variables.now ∷ []

-- those after the first one
abbrev pub later_seen : Piece → List Pending
later_seen (q.Commands first rest) = map p.Run rest.now
later_seen piece = []

-- those of what is left
abbrev pub left_seen : Option Piece → List Pending
left_seen None = []
left_seen (Some piece) = pieces_seen piece

-- the pieces of a list, whose first one is last
abbrev pub pending_seen : List Piece → List Pending
pending_seen [] = []
pending_seen (piece ∷ later) = pending_seen later ++ pieces_seen piece

-- how many returns there are
abbrev pub returns_seen : List Pending → ℕ
returns_seen pending = returns_in (map piece_of pending)

-- the piece that comes first
abbrev pub first_seen : First → Pending
first_seen (f.Command command) = p.Run command.now
first_seen (f.Block block) = p.Run (BlockOf block.now)
first_seen (f.Restore variable value) = p.Restore variable.now value.now
first_seen (f.Return caller results variables) =
    p.Return caller.now results.now variables.now
