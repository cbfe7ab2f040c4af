-- Straight-line commands, the first part of a command that keeps it from being one, and how long a
-- command is.
use Rattle.std.specs.Prelude.{ℕ, nat_le, Bool, true, false, not, length, map, Option}
use Rattle.std.specs.List.{list_all, filter, find, position_from}
use Rattle.model_limits.specs.Limits.{standard_limits}
use Rattle.model_commands.specs.Commands.{Command, skip, block, if_else, while_do, local, call}
use Rattle.model_commands.specs.CommandParts.{commands_in}

-- It is no choice, loop, local variable or call. Of the commands in it nothing is asked.
abbrev pub goes_straight : Command → Bool
goes_straight (if_else c a b) = false
goes_straight (while_do c b) = false
goes_straight (local x b) = false
goes_straight (call results name arguments) = false
goes_straight command = true

-- the command goes straight, and so do all in it
abbrev pub is_straight : Command → Bool
is_straight command = list_all goes_straight (commands_in command)

-- the first that doesn't, a command before those in it
abbrev pub first_not_straight : Command → Option Command
first_not_straight command = find (λ c. not (goes_straight c)) (commands_in command)

-- its number, counted from 0
abbrev pub place_not_straight : Command → Option ℕ
place_not_straight command = position_from not 0 (map goes_straight (commands_in command))

-- it is neither skip nor a block
abbrev pub acts : Command → Bool
acts skip = false
acts (block b) = false
acts command = true

-- how many of its commands are neither
abbrev pub length_of : Command → ℕ
length_of command = length (filter acts (commands_in command))

-- the weakest precondition of so long a command is computed
abbrev pub is_short : Command → Bool
is_short command = nat_le (length_of command) standard_limits.straight
