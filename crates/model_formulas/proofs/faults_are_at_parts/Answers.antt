use Rattle.std.proofs.Common.{arith}
use Rattle.model_formulas.specs.WellSorted.{flags}
use Rattle.model_formulas.proofs.FaultPlaces.{place-within, flags-parts}
use Rattle.model_formulas.proofs.faults_are_at_parts.Goals as goal

pub returns-clause-counted : goal.returns-clause-counted
returns-clause-counted c = flags-parts

pub returns-clause-within : goal.returns-clause-within
returns-clause-within c = λ p s m e.
    omega (arith, (place-within (flags p s) 0 m e).1, flags-parts p s)
