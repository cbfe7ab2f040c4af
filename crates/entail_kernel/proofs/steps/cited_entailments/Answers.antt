-- Citations of no entailments, or of more than two, are refused.
use Rattle.std.proofs.Common.{arith}
use Rattle.rule_table.specs.Accepted as accepted
use Rattle.cited_steps.specs.Earlier.{steps_in}
use Rattle.entail_kernel.proofs.Refusing.{none-cited, first-number, second-number, many-numbers}
use Rattle.entail_kernel.proofs.steps.cited_entailments.Goals as goal

pub returns-in_err-cited_entailment-in-len1-clause-cites
    : goal.returns-in_err-cited_entailment-in-len1-clause-cites
returns-in_err-cited_entailment-in-len1-clause-cites c =
    none-cited c.from_residual.result
    (accepted.cited (steps_in c.args.earlier.now) c.args.numbers.now) c.from_residual.ensures
    (first-number c.args.earlier.now c.args.numbers.now c.in-len1.len_at_least
    c.in_err-cited_entailment-in-len1.ensures.cites)

pub returns-in_err-first-in-len2-clause-cites : goal.returns-in_err-first-in-len2-clause-cites
returns-in_err-first-in-len2-clause-cites c =
    none-cited c.from_residual-in_err-first-in-len2.result
    (accepted.cited (steps_in c.args.earlier.now) c.args.numbers.now)
    c.from_residual-in_err-first-in-len2.ensures
    (first-number c.args.earlier.now c.args.numbers.now
    (omega (arith, c.in-len2.len_at_least))
    c.in_err-first-in-len2.ensures.cites)

pub returns-in_err-second-in-len2-clause-cites : goal.returns-in_err-second-in-len2-clause-cites
returns-in_err-second-in-len2-clause-cites c =
    none-cited c.from_residual-in_err-second-in-len2.result
    (accepted.cited (steps_in c.args.earlier.now) c.args.numbers.now)
    c.from_residual-in_err-second-in-len2.ensures
    (second-number c.args.earlier.now c.args.numbers.now c.in-len2.len_at_least
    c.in_err-second-in-len2.ensures.cites)

pub returns-in_default-clause-cites : goal.returns-in_default-clause-cites
returns-in_default-clause-cites c =
    many-numbers c.args.earlier.now c.args.numbers.now c.in_default.len_at_least
