-- The version and the declarations at fault, and where they are none.
use Rattle.std.proofs.Common.{subst}
use Rattle.std.proofs.lemmas.Result.{err_from_is_err_and}
use Rattle.model_files.specs.FileFaults.{first_file_fault}
use Rattle.theory_syntax.specs.Theories.{theory_of}
use Rattle.theory_syntax.specs.declared.theories.Theory.{Theory}
use Rattle.dom_syntax.specs.Faults.{Reports, FaultReports}
use Rattle.dom_syntax.specs.Scopes.{theory_in}
use Rattle.dom_syntax.proofs.FaultLaws.{refused, theory-bad, theory-fine}
use Rattle.dom_syntax.proofs.programs.check_told_program.Goals as goal

pub returns-in_err-check_declarations : goal.returns-in_err-check_declarations
returns-in_err-check_declarations c =
    let p = err_from_is_err_and c.from_residual-in_err-check_declarations.result
    c.from_residual-in_err-check_declarations.ensures.1 in
    refused c.from_residual-in_err-check_declarations.result p.0
    c.in_err-check_declarations.field-0.0 (first_file_fault (theory_of c.args.theory.now)) p.1 p.2
    (subst (λ (t : Theory). FaultReports c.in_err-check_declarations.field-0.0
    (first_file_fault (theory_of t))) c.in_ok-names.ensures.1
    (theory-bad (theory_in c.in_ok-names.names) c.in_err-check_declarations.field-0.0
    c.in_err-check_declarations.ensures))

pub returns : goal.returns
returns c =
    subst (λ (t : Theory). Reports c.check_procedures.result (first_file_fault (theory_of t)))
    c.in_ok-names.ensures.1
    (theory-fine (theory_in c.in_ok-names.names) c.check_procedures.result
    c.in_ok-check_declarations.ensures c.check_procedures.ensures)
