use Rattle.std.proofs.Common.{◌≡◌, take}
use Rattle.work_maker.proofs.steps.cited.Given as goal

abbrev pub invariant-loop-number : goal.invariant-loop-number
invariant-loop-number l = l.numbers ≡ take l.number-index l.citations
