-- Needn't be believed: the definition of usable offers says how large they may be. The numbers of a
-- step and of those that it cites are in the range of literals, since they have 32 bits.
use Rattle.std.specs.Prelude.{ℕ, Bool, ◌&&◌, nat_le, List, []}
use Rattle.std.specs.List.{list_all}
use Rattle.model_limits.specs.Limits.{standard_limits}
use Rattle.model_formulas.specs.Formulas.{Named}
use Rattle.model_commands.specs.Theories.{Reason, auto, by_rule, StepOf}

-- each is in the range
abbrev pub citations_fit : List ℕ → Bool
citations_fit = list_all (λ n. nat_le n standard_limits.integer)

-- what a reason cites
abbrev pub citations_of : Reason → List ℕ
citations_of auto = []
citations_of (by_rule name citations arguments) = citations

-- those of a step are
abbrev pub numbers_fit : StepOf Named → Bool
numbers_fit step =
    nat_le step.number standard_limits.integer && citations_fit (citations_of step.reason)
