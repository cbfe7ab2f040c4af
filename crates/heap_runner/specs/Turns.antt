-- Needn't be believed: the program's promise doesn't speak of it. The limit that a step of a run
-- passes.
use Rattle.std.specs.Prelude.{Option}
use Rattle.model_limits.specs.Limits.{LimitKind, standard_limits}
use Rattle.model_terms.specs.TermLimits.{or_else}
use Rattle.model_machine.specs.Machine.{Config}
use Rattle.model_machine.specs.Outcomes.{limit_ahead, pick_limit}

-- the limit that the next step of a run passes
abbrev pub limit_here : Config → Option LimitKind
limit_here config =
    or_else (limit_ahead standard_limits config) (pick_limit standard_limits config)
