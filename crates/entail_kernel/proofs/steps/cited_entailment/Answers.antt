-- The numbers that are known of the step stand for what it says.
use Rattle.std.proofs.Common.{◌≡◌, Some, rules, sym, subst}
use Rattle.rule_table.specs.Accepted.{judgement_numbered}
use Rattle.cited_steps.specs.Earlier.{steps_in}
use Rattle.entail_rules.specs.Judged.{judged}
use Rattle.entail_rules.specs.Numbers.{IsKnown}
use Rattle.entail_kernel.proofs.Known.{of-number}
use Rattle.entail_kernel.proofs.steps.cited_entailment.Goals as goal

pub returns-in-Entails-clause-known : goal.returns-in-Entails-clause-known
returns-in-Entails-clause-known c = λ t known.
    let says : judgement_numbered c.args.number (steps_in c.args.earlier.now)
    ≡ Some (judged c.in-Entails.entailment) = search rules in
    subst (λ o. IsKnown t o (judged c.in-Entails.entailment)) (sym c.numbers_of-numbers.ensures)
    (of-number t c.args.known.now c.args.earlier.now c.args.number (judged c.in-Entails.entailment)
    c.requires.in_order known says)
