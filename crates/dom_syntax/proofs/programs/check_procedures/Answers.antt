-- A procedure at fault, and one that is none; what is told of each.
use Rattle.std.proofs.Common.{◌∙◌, sym, ap, ◌+◌, [], ◌∷◌, is_none, arith}
use Rattle.std.proofs.lemmas.Result.{err_from_is_err_and}
use Rattle.model_files.specs.FileFaults.{first_fault_at, procedures_from}
use Rattle.theory_syntax.specs.Theories.{procedure_of}
use Rattle.declared_sorts.specs.Judged.{procedure_judged}
use Rattle.declared_sorts.specs.Settled.{procedure_settled}
use Rattle.dom_syntax.specs.Scopes.{theory_in}
use Rattle.dom_syntax.specs.Tables.{found}
use Rattle.dom_syntax.proofs.FaultLaws.{nothing-found, refused, new-name, one-earlier, procedure-bad, procedure-fine, small-procedures, count-procedures}
use Rattle.dom_syntax.proofs.ToldLaws.{told-in}
use Rattle.dom_syntax.proofs.programs.check_procedures.Goals as goal

pub check_procedure-requires-clause-settled : goal.check_procedure-requires-clause-settled
check_procedure-requires-clause-settled c =
    told-in procedure_of (procedure_settled (theory_in c.args.names.now).logic)
    c.args.told.are_settled
    c.args.names.now.theory.now.procedures c.as_slice-procedure-items.result.now
    c.as_slice-procedure-items.ensures c.requires.settled c.loop-procedure.procedure-index
    c.procedure-item.result c.loop-procedure-test.true c.procedure-item.is

pub check_procedure-requires-clause-judged : goal.check_procedure-requires-clause-judged
check_procedure-requires-clause-judged c =
    told-in procedure_of procedure_judged c.args.told.are_judged
    c.args.names.now.theory.now.procedures c.as_slice-procedure-items.result.now
    c.as_slice-procedure-items.ensures c.requires.judged c.loop-procedure.procedure-index
    c.procedure-item.result c.loop-procedure-test.true c.procedure-item.is

pub returns-in_err-check_procedure : goal.returns-in_err-check_procedure
returns-in_err-check_procedure c =
    let p = err_from_is_err_and c.from_residual.result c.from_residual.ensures.1 in
    let inv = c.loop-procedure.invariant in
    let new = sym (nothing-found c.get.result c.is_none-is_new.result c.is_none-is_new.ensures
    ∙ ap is_none c.get.ensures
    ∙ (λ j. is_none (found c.loop-procedure.earlier (c.as_str.ensures j)))
    ∙ new-name c.loop-procedure.earlier inv.passed inv.before c.procedure-item.result.name) in
    let theory = theory_in c.args.names.now in
    refused c.from_residual.result p.0 c.in_err-check_procedure.field-0.0
    (first_fault_at (procedures_from theory [] 1 theory.procedures)) p.1 p.2
    (procedure-bad theory inv.passed (c.loop-procedure.number + 1)
    c.as_slice-procedure-items.result.now c.loop-procedure.procedure-index
    c.procedure-item.result c.loop-procedure-test.true c.procedure-item.is
    (first_fault_at (procedures_from theory [] 1 theory.procedures)) inv.rest
    c.in_err-check_procedure.field-0.0 (c.in_err-check_procedure.ensures inv.passed new))

pub loop-procedure-preserved : goal.loop-procedure-preserved
loop-procedure-preserved c =
    let inv = c.loop-procedure.invariant in
    let new = sym (nothing-found c.get.result c.is_none-is_new.result c.is_none-is_new.ensures
    ∙ ap is_none c.get.ensures
    ∙ (λ j. is_none (found c.loop-procedure.earlier (c.as_str.ensures j)))
    ∙ new-name c.loop-procedure.earlier inv.passed inv.before c.procedure-item.result.name) in
    let theory = theory_in c.args.names.now in
    let count = count-procedures theory inv.passed (c.loop-procedure.number + 1)
    c.as_slice-procedure-items.result.now c.loop-procedure.procedure-index
    c.procedure-item.result c.loop-procedure-test.true c.procedure-item.is in
    record {
      passed = procedure_of c.procedure-item.result ∷ inv.passed;
      before = one-earlier c.loop-procedure.earlier c.declare.new.self inv.passed inv.before
          (procedure_of c.procedure-item.result) c.as_str-in-loop-procedure.result.now
          c.as_str-in-loop-procedure.ensures c.in_ok-declare.ensures;
      at = ap (λ n. n + 1) inv.at;
      few = inv.few;
      steps = omega (arith, count, inv.steps);
      small = (small-procedures theory inv.passed (c.loop-procedure.number + 1)
          c.as_slice-procedure-items.result.now c.loop-procedure.procedure-index
          c.procedure-item.result c.loop-procedure-test.true c.procedure-item.is inv.small).1;
      rest = procedure-fine theory inv.passed (c.loop-procedure.number + 1)
          c.as_slice-procedure-items.result.now c.loop-procedure.procedure-index
          c.procedure-item.result c.loop-procedure-test.true c.procedure-item.is
          (first_fault_at (procedures_from theory [] 1 theory.procedures)) inv.rest
          (c.in_ok-check_procedure.ensures inv.passed new);
    }
