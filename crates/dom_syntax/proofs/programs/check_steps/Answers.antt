-- A step at fault, and one that is none; what is told of each.
use Rattle.std.proofs.Common.{ap, ◌+◌}
use Rattle.std.proofs.lemmas.Result.{err_from_is_err_and}
use Rattle.model_files.specs.FileFaults.{first_fault_at, judgement_sorted, steps_from}
use Rattle.theory_syntax.specs.Judgements.{step_of}
use Rattle.declared_sorts.specs.Settled.{step_settled}
use Rattle.dom_syntax.specs.Scopes.{names_in, procedure_in, theory_in}
use Rattle.dom_syntax.proofs.FaultLaws.{refused, step-bad, step-fine, small-steps}
use Rattle.dom_syntax.proofs.ToldLaws.{told-in}
use Rattle.dom_syntax.proofs.programs.check_steps.Goals as goal

pub check_step_at-requires-clause-settled : goal.check_step_at-requires-clause-settled
check_step_at-requires-clause-settled c =
    told-in step_of (step_settled (names_in c.args.scope.now)) c.args.told.are_settled
    c.args.scope.now.procedure.now.proof c.as_slice-step-items.result.now
    c.as_slice-step-items.ensures c.requires.settled c.loop-step.step-index c.step-item.result
    c.loop-step-test.true c.step-item.is

pub check_step_at-requires-clause-judged : goal.check_step_at-requires-clause-judged
check_step_at-requires-clause-judged c =
    told-in step_of (λ step. judgement_sorted step.judgement) c.args.told.are_judged
    c.args.scope.now.procedure.now.proof c.as_slice-step-items.result.now
    c.as_slice-step-items.ensures c.requires.judged c.loop-step.step-index c.step-item.result
    c.loop-step-test.true c.step-item.is

pub returns-in_err-check_step_at : goal.returns-in_err-check_step_at
returns-in_err-check_step_at c =
    let p = err_from_is_err_and c.from_residual.result c.from_residual.ensures.1 in
    let scope = c.args.scope.now in
    refused c.from_residual.result p.0 c.in_err-check_step_at.field-0.0
    (first_fault_at (steps_from (theory_in scope.names.now) c.args.procedure (procedure_in scope)
    1 (procedure_in scope).proof)) p.1 p.2
    (step-bad (theory_in scope.names.now) c.args.procedure (procedure_in scope)
    (c.loop-step.place + 1) c.as_slice-step-items.result.now c.loop-step.step-index
    c.step-item.result c.loop-step-test.true c.step-item.is
    (first_fault_at (steps_from (theory_in scope.names.now) c.args.procedure (procedure_in scope)
    1 (procedure_in scope).proof)) c.loop-step.invariant.rest
    c.in_err-check_step_at.field-0.0 c.in_err-check_step_at.ensures)

pub loop-step-preserved : goal.loop-step-preserved
loop-step-preserved c =
    let scope = c.args.scope.now in
    record {
      at = ap (λ n. n + 1) c.loop-step.invariant.at;
      few = c.loop-step.invariant.few;
      small = (small-steps (theory_in scope.names.now) c.args.procedure (procedure_in scope)
          (c.loop-step.place + 1) c.as_slice-step-items.result.now c.loop-step.step-index
          c.step-item.result c.loop-step-test.true c.step-item.is c.loop-step.invariant.small).1;
      rest = step-fine (theory_in scope.names.now) c.args.procedure (procedure_in scope)
          (c.loop-step.place + 1) c.as_slice-step-items.result.now c.loop-step.step-index
          c.step-item.result c.loop-step-test.true c.step-item.is
          (first_fault_at (steps_from (theory_in scope.names.now) c.args.procedure
          (procedure_in scope) 1 (procedure_in scope).proof)) c.loop-step.invariant.rest
          c.in_ok-check_step_at.ensures;
    }
