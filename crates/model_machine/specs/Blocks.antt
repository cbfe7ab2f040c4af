-- Needn't be believed: a run of pieces followed by others runs as the pieces do, and then as the
-- others do. Only the law of blocks speaks of it.
use Rattle.std.specs.Prelude.{◌≡◌, List, ◌++◌}
use Rattle.model_shapes.specs.Trees.{Trees}
use Rattle.model_terms.specs.Stores.{Store}
use Rattle.model_commands.specs.Theories.{Procedures}
use Rattle.model_groves.specs.Picks.{Pick}
use Rattle.model_machine.specs.Machine.{Piece, Config, configuration, RunOutcome, ended, runs}

-- the run hasn't ended
abbrev pub Unended : RunOutcome → Type 0
Unended (ended store roots) = ⊥
Unended otherwise = Unit {0}

-- the configuration with others behind its pieces
abbrev pub with_others : Config → List Piece → Config
with_others config others = record config { pending = config.pending ++ others }

-- the two ways in which a run of pieces goes on with others
pub data Followed (procedures : Procedures) (picks : List Pick) (config : Config)
    (others : List Piece) : Type 0 where
  -- the pieces don't end: the others play no part
  not_yet : Unended (runs procedures picks config)
      → runs procedures picks (with_others config others) ≡ runs procedures picks config
      → Followed procedures picks config others
  -- the pieces end with some of the picks: the others have the rest
  ended_with : (used left : List Pick) (store : Store) (roots : Trees) → picks ≡ used ++ left
      → runs procedures used config ≡ ended store roots
      → runs procedures picks (with_others config others)
      ≡ runs procedures left (configuration others store roots)
      → Followed procedures picks config others
