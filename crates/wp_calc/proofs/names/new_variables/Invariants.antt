use Rattle.wp_calc.proofs.SupplyLaws.{NewSoFar, Sorted}
use Rattle.wp_calc.proofs.names.new_variables.Given as goal

abbrev pub invariant-loop-number : goal.invariant-loop-number
invariant-loop-number l = record {
  new : NewSoFar l.declared l.number l.variables;
  sorted : Sorted l.sorts l.variables;
}
