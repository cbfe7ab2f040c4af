-- Needn't be believed: what stands in the bodies of procedures, of which the law on what runs
-- speaks. Proofs about a pending command that is written or printed use that law.
use Rattle.std.specs.Prelude.{List, [], ◌∷◌, ◌++◌, Contains, flat_map, Option, Some, None}
use Rattle.model_commands.specs.Commands.{Command, block, if_else, while_do, local}
use Rattle.model_commands.specs.CommandParts.{commands_in}
use Rattle.model_commands.specs.Theories.{Procedure, Procedures}
use Rattle.model_groves.specs.Picks.{Pick}
use Rattle.model_machine.specs.Machine.{Config, StepOut, next, step}

-- the blocks of a command, as commands: the branches of a choice, the body of a loop, and the block
-- of a local variable
abbrev pub blocks_of : Command → List Command
blocks_of (if_else c a b) = block a ∷ block b ∷ []
blocks_of (while_do c b) = block b ∷ []
blocks_of (local x b) = block b ∷ []
blocks_of command = []

-- the parts of a command: the commands in it and the blocks of these
abbrev pub parts_of : Command → List Command
parts_of command = commands_in command ++ flat_map blocks_of (commands_in command)

-- some procedure has it among these of its body
abbrev pub InSomeBody : (Command → List Command) → Procedures → Command → Type 0
InSomeBody those procedures command =
    (f : Procedure) × Contains procedures f × Contains (those f.body) command

-- the next configuration, or none where a step leads to none
abbrev pub onward : (Config → Option Config) → StepOut → Option Config
onward more (next after) = more after
onward more otherwise = None

-- the configuration after one step for each pick
abbrev pub after_picks : Procedures → List Pick → Config → Option Config
after_picks procedures [] config = Some config
after_picks procedures (pick ∷ picks) config =
    onward (after_picks procedures picks) (step procedures config pick)
