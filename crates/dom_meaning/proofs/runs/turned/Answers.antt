use Rattle.std.proofs.Common.{◌≡◌, ◌∙◌, sym, ap, subst, map}
use Rattle.model_commands.specs.Theories.{procedures_of}
use Rattle.model_machine.specs.Machine.{step, next, done, at_fault}
use Rattle.model_machine.specs.Outcomes.{Outcome, ends_at, has_fault, first_command}
use Rattle.dom_terms.specs.Terms.{prog_var_of}
use Rattle.theory_syntax.specs.Theories.{theory_of}
use Rattle.dom_meaning.specs.declared.configurations.Config.{Config}
use Rattle.dom_meaning.specs.Configs.{config_of}
use Rattle.dom_meaning.specs.Faults.{fault_kind_of}
use Rattle.dom_meaning.specs.Runs.{IsOutcome}
use Rattle.dom_meaning.proofs.RunLaws.{goes_by_step, picks_badly}
use Rattle.dom_meaning.proofs.runs.turned.Goals as goal

pub returns-in-Ok-Next-clause-outcome : goal.returns-in-Ok-Next-clause-outcome
returns-in-Ok-Next-clause-outcome c = λ fuel.
    let ps = procedures_of (theory_of c.args.theory.now) in
    let before = config_of c.args.config in
    goes_by_step ps (map prog_var_of c.args.config.results) fuel c.args.steps before
    (next (config_of c.step.new.config)) c.in-Ok-Next.ensures.limit
    ((rw c.in-Ok-Next.field-0-is at c.in-Ok-Next.ensures.step)
    ∙ ap (step ps before) c.next_pick-pick.ensures) (λ e. cc)

pub returns-in-Ok-Done-clause-outcome : goal.returns-in-Ok-Done-clause-outcome
returns-in-Ok-Done-clause-outcome c = λ fuel total.
    let ps = procedures_of (theory_of c.args.theory.now) in
    let rs = map prog_var_of c.args.config.results in
    let before = config_of c.args.config in
    let same : c.step.new.config ≡ c.args.config =
    (rw c.in-Ok-Done.field-0-is at c.in-Ok-Done.ensures.unchanged) (λ e. cc) in
    let here = subst (λ (z : Config). IsOutcome (map prog_var_of z.results) total c.ended.result
    (ends_at (map prog_var_of z.results) c.args.steps (config_of z))) same
    (c.ended.ensures.outcome total) in
    subst (λ (z : Outcome). IsOutcome rs total c.ended.result z)
    (sym (goes_by_step ps rs fuel c.args.steps before done c.in-Ok-Done.ensures.limit
    ((rw c.in-Ok-Done.field-0-is at c.in-Ok-Done.ensures.step)
    ∙ ap (step ps before) c.next_pick-pick.ensures) (λ e. cc))) here

pub returns-in-Ok-BadPick-clause-outcome : goal.returns-in-Ok-BadPick-clause-outcome
returns-in-Ok-BadPick-clause-outcome c = λ fuel total.
    let ps = procedures_of (theory_of c.args.theory.now) in
    let before = config_of c.args.config in
    picks_badly ps (map prog_var_of c.args.config.results) fuel c.args.steps before
    c.in-Ok-BadPick.ensures.limit
    ((rw c.in-Ok-BadPick.field-0-is at c.in-Ok-BadPick.ensures.step)
    ∙ ap (step ps before) c.next_pick-pick.ensures)

pub returns-in-Ok-Fault-clause-outcome : goal.returns-in-Ok-Fault-clause-outcome
returns-in-Ok-Fault-clause-outcome c = λ fuel total.
    let ps = procedures_of (theory_of c.args.theory.now) in
    let rs = map prog_var_of c.args.config.results in
    let before = config_of c.args.config in
    let kind = fault_kind_of c.in-Ok-Fault.kind in
    let same : c.step.new.config ≡ c.args.config =
    (rw c.in-Ok-Fault.field-0-is at c.in-Ok-Fault.ensures.unchanged) (λ e. cc) in
    let here = subst (λ (z : Config). IsOutcome rs total c.faulted.result
    (has_fault kind c.args.steps (first_command (config_of z).pending))) same
    (c.faulted.ensures.outcome rs total) in
    subst (λ (z : Outcome). IsOutcome rs total c.faulted.result z)
    (sym (goes_by_step ps rs fuel c.args.steps before (at_fault kind) c.in-Ok-Fault.ensures.limit
    ((rw c.in-Ok-Fault.field-0-is at c.in-Ok-Fault.ensures.step)
    ∙ ap (step ps before) c.next_pick-pick.ensures) (λ e. cc))) here
