-- The first procedure that isn't proved.
use Rattle.std.proofs.Common.{◌+◌, ap, subst, arith}
use Rattle.model_commands.specs.Theories.{nameless_procedure}
use Rattle.theory_syntax.specs.declared.theories.Procedure.{Procedure}
use Rattle.theory_syntax.specs.Theories.{procedure_of}
use Rattle.triple_rules.specs.Procedures.{procedures_in}
use Rattle.hoare_kernel.specs.Walks.{ProcedureRefused, ProceduresRefused}
use Rattle.hoare_kernel.proofs.Walks.{handed_out, refused_procedure}
use Rattle.hoare_kernel.proofs.theories.check_procedures.Goals as goal

pub returns-in_err-check_procedure-clause-bad : goal.returns-in_err-check_procedure-clause-bad
returns-in_err-check_procedure-clause-bad c =
    let ps = procedures_in c.args.callees.procedures.now in
    let fs = c.args.callees.procedures.now in
    let k = c.loop-procedure.procedure-index in
    let number = c.loop-procedure.number + 1 in
    let item = c.procedure-item.result in
    let e = c.in_err-check_procedure.field-0.0 in
    handed_out (ProceduresRefused ps ps 1) c.from_residual.result e c.from_residual.ensures.1
    (refused_procedure ps fs item k number e
    (omega (arith, c.loop-procedure-test.true))
    (ap (λ n. n + 1) c.loop-procedure.invariant.at) c.loop-procedure.invariant.proved
    (subst (λ (z : Procedure). ProcedureRefused ps number (nameless_procedure (procedure_of z)) e)
    c.procedure-item.is c.in_err-check_procedure.ensures.bad))
