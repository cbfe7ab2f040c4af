use Rattle.std.proofs.Common.{arith}
use Rattle.cited_steps.specs.Earlier.{steps_in}
use Rattle.triple_rules.proofs.Cited.{cites-apart}
use Rattle.triple_rules.proofs.simple.are_both.Goals as goal

pub returns-in_default : goal.returns-in_default
returns-in_default c =
    cites-apart (steps_in c.args.written.now.earlier.now) c.args.written.now.citations.now _
    (λ e. omega (arith, e, c.in_default.len_below))

pub returns-in_default-2 : goal.returns-in_default-2
returns-in_default-2 c =
    cites-apart (steps_in c.args.written.now.earlier.now) c.args.written.now.citations.now _
    (λ e. omega (arith, e, c.in_default.len_at_least))
