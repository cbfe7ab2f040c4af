-- Equal commands.
use Rattle.theory_syntax.proofs.SameCommands.{same_command-Decides}

pub ruleset command_rules = (same_command-Decides)
