-- Needn't be believed: the program's promise doesn't speak of it. The configurations of the machine
-- of the definitions, after PODS 2008, that those of the program stand for.
use Rattle.std.specs.Prelude.{ℕ, List, map, reverse}
use Rattle.model_groves.specs.Picks.{Pick}
use Rattle.model_machine.specs.Machine as model
use Rattle.dom_terms.specs.Terms.{prog_var_of}
use Rattle.dom_terms.specs.Values.{value_seen}
use Rattle.dom_terms.specs.Stores.{store_of}
use Rattle.grove_data.specs.Trees.{forest_of}
use Rattle.theory_syntax.specs.Commands.{command_of}
use Rattle.dom_meaning.specs.declared.configurations.Pending.{Pending}
use Rattle.dom_meaning.specs.declared.configurations.Pending.TheVariants as p
use Rattle.dom_meaning.specs.declared.configurations.Config.{Config}

-- the piece
abbrev pub piece_of : Pending → model.Piece
piece_of (p.Run command) = model.run (command_of command)
piece_of (p.Restore variable value) = model.restore (prog_var_of variable) (value_seen value)
piece_of (p.Return caller results variables) =
    model.return (store_of caller) (map prog_var_of results) (map prog_var_of variables)

-- the pieces: the program keeps the first one last
abbrev pub pieces_in : List Pending → List model.Piece
pieces_in pending = reverse (map piece_of pending)

-- the configuration
abbrev pub config_of : Config → model.Config
config_of config = record {
  pending = pieces_in config.pending;
  store = store_of config.store;
  grove = forest_of config.grove;
}

-- the numbers that a new node is given: that of the node and that of its list
abbrev pub pick_of : ℕ × ℕ → Pick
pick_of pick = record { node = pick.0; list = pick.1 }
