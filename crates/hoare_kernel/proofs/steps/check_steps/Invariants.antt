use Rattle.std.proofs.Common.{◌≡◌, [], length, take}
use Rattle.rule_table.specs.Accepted.{AllInstances}
use Rattle.cited_steps.specs.Earlier.{steps_in}
use Rattle.triple_rules.specs.Procedures.{procedures_in}
use Rattle.entail_kernel.specs.Known.{AreKnown}
use Rattle.hoare_kernel.proofs.steps.check_steps.Given as goal

abbrev pub invariant-loop-place : goal.invariant-loop-place
invariant-loop-place l = record {
  instances : AllInstances (procedures_in l.callees.procedures.now) []
      (steps_in (take l.place l.steps));
  each : length l.known.items ≡ l.place;
  known : AreKnown l.table l.known.items l.steps;
}
