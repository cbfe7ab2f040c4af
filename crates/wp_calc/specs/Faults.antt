-- Needn't be believed: the program's promise doesn't speak of it. Why no weakest precondition is
-- computed, and what one that is looks like.
use Rattle.std.specs.Prelude.{◌≡◌, List, true, false, Some, length}
use Rattle.model_shapes.specs.Values.{Name}
use Rattle.model_terms.specs.Variables.{Var}
use Rattle.model_formulas.specs.Formulas.{Named}
use Rattle.model_commands.specs.Commands.{Command}
use Rattle.model_weakest.specs.Straight.{is_short, is_straight, place_not_straight}
use Rattle.model_weakest.specs.Written.{AreNew, new_sorts, written}
use Rattle.wp_calc.specs.declared.preconditions.WpFault.{WpFault}
use Rattle.wp_calc.specs.declared.preconditions.WpFault.TheVariants.{NotStraight, TooLong, OutOfMemory}

-- the fault is that of the command; memory may be refused for each that has none
abbrev pub IsFaultOf : Command → WpFault → Type 0
IsFaultOf command (NotStraight part) = place_not_straight command ≡ Some part
IsFaultOf command TooLong = (is_straight command ≡ true) × (is_short command ≡ false)
IsFaultOf command OutOfMemory = (is_straight command ≡ true) × (is_short command ≡ true)

-- the formula is the one that is written for the command and what is asked for, with names that are
-- not declared, one for each variable that the command brings
pub record IsWrittenFor (declared : List Var) (command : Command) (asked formula : Named)
    : Type 0 where
  pub names : List Name
  pub new : AreNew declared 1 names
  pub count : length names ≡ length (new_sorts command)
  pub written_so : formula ≡ written names command asked
