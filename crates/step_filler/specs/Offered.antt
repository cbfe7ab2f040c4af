-- Needn't be believed: the program's promise doesn't speak of it. What a filler hands out, as the
-- definitions see it.
use Rattle.std.specs.Prelude.{List, Option, map}
use Rattle.std.specs.Option.{option_map}
use Rattle.model_formulas.specs.Formulas.{Named}
use Rattle.model_commands.specs.Theories.{StepOf}
use Rattle.theory_syntax.specs.declared.steps.Step.{Step}
use Rattle.theory_syntax.specs.Judgements.{step_of}

-- the steps, or nothing
abbrev pub offered : Option (List Step) → Option (List (StepOf Named))
offered = option_map (map step_of)
