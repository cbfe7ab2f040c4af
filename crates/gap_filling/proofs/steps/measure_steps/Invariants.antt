use Rattle.std.proofs.Common.{◌≡◌, ℕ, drop, map}
use Rattle.std.specs.List.{list_all}
use Rattle.model_filling.specs.Sizes.{offer_lexemes}
use Rattle.theory_syntax.specs.Judgements.{step_of}
use Rattle.gap_filling.specs.Measured.{measured}
use Rattle.gap_filling.specs.Numbers.{numbers_fit}
use Rattle.gap_filling.proofs.steps.measure_steps.Given as goal

-- with the steps that are left, all of them
abbrev pub invariant-loop-step : goal.invariant-loop-step
invariant-loop-step l =
    ((version : ℕ)
    → measured l.meter (offer_lexemes version (map step_of (drop l.step-index l.steps)))
    ≡ measured l.fn.meter (offer_lexemes version (map step_of l.steps)))
    × (list_all numbers_fit (map step_of l.steps)
    ≡ list_all numbers_fit (map step_of (drop l.step-index l.steps)))
