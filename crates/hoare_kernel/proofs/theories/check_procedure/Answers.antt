-- A bad step, and an end without the procedure's own triple.
use Rattle.std.proofs.Common.{◌∙◌, sym, subst, List, []}
use Rattle.model_shapes.proofs.Truth.{false≢true}
use Rattle.model_commands.specs.Theories.{nameless_procedure}
use Rattle.rule_table.specs.Accepted.{AllInstances}
use Rattle.theory_syntax.specs.declared.steps.Step.{Step}
use Rattle.theory_syntax.specs.Theories.{procedure_of}
use Rattle.cited_steps.specs.Earlier.{steps_in}
use Rattle.triple_rules.specs.Procedures.{procedures_in}
use Rattle.hoare_kernel.specs.Walks.{ProcedureRefused, StepsRefused}
use Rattle.hoare_kernel.proofs.Walks.{handed_out, of_steps, no_end}
use Rattle.hoare_kernel.proofs.theories.check_procedure.Goals as goal

pub returns-in_err-check_steps-clause-bad : goal.returns-in_err-check_steps-clause-bad
returns-in_err-check_steps-clause-bad c =
    let ps = procedures_in c.args.callees.procedures.now in
    let f = nameless_procedure (procedure_of c.args.procedure.now) in
    let e = c.in_err-check_steps.field-0.0 in
    handed_out (ProcedureRefused ps c.args.number f) c.from_residual.result e
    c.from_residual.ensures.1
    (of_steps ps f c.args.number e
    (subst (λ (z : List Step). StepsRefused ps c.args.number (steps_in z) e) c.as_slice.ensures
    c.in_err-check_steps.ensures.bad))

pub returns-else-branch-clause-bad : goal.returns-else-branch-clause-bad
returns-else-branch-clause-bad c =
    let ps = procedures_in c.args.callees.procedures.now in
    no_end ps (nameless_procedure (procedure_of c.args.procedure.now)) c.args.number
    (subst (λ (z : List Step). AllInstances ps [] (steps_in z)) c.as_slice.ensures
    c.in_ok-check_steps.ensures.fine)
    (λ ends. false≢true (sym c.if-branch.false ∙ c.in_ok-ends_well.ensures.1 ends))
