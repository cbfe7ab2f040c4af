use Rattle.std.proofs.Common.{◌≡◌, ◌+◌, drop}
use Rattle.cited_steps.specs.Earlier.{are_numbered}
use Rattle.cited_steps.proofs.citations.are_numbered.Given as goal

abbrev pub invariant-loop-place : goal.invariant-loop-place
invariant-loop-place l =
    are_numbered 1 l.steps ≡ are_numbered (l.place + 1) (drop l.place l.steps)
