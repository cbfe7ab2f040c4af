use Rattle.std.proofs.Common.{◌≡◌, ◌+◌, drop}
use Rattle.cited_steps.specs.Earlier.{are_numbered}
use Rattle.gap_filling.proofs.usable.are_numbered_after.Given as goal

-- of the steps that are left as of all
abbrev pub invariant-loop-step : goal.invariant-loop-step
invariant-loop-step l =
    (l.number ≡ l.before + l.step-index)
    × (are_numbered (l.before + 1) l.steps
    ≡ are_numbered (l.number + 1) (drop l.step-index l.steps))
