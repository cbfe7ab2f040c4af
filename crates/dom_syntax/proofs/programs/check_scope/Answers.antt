-- A header at fault, and one that is none; what is told of it and of the steps.
use Rattle.std.proofs.Common.{refl}
use Rattle.std.proofs.lemmas.Result.{err_from_is_err_and}
use Rattle.model_files.specs.FileFaults.{first_fault_at}
use Rattle.dom_syntax.specs.Places.{places_of}
use Rattle.dom_syntax.specs.Scopes.{procedure_in, theory_in}
use Rattle.dom_syntax.proofs.FaultLaws.{refused, head-bad, head-fine}
use Rattle.dom_syntax.proofs.ToldLaws.{judged-inside, told-inside}
use Rattle.dom_syntax.proofs.programs.check_scope.Goals as goal

pub check_header-requires-clause-settled : goal.check_header-requires-clause-settled
check_header-requires-clause-settled c =
    (told-inside c.args.scope.now c.args.scope.now.names.now c.args.scope.now.procedure.now refl
    refl c.args.told.are_settled c.requires.settled).0

pub check_header-requires-clause-judged : goal.check_header-requires-clause-judged
check_header-requires-clause-judged c =
    (judged-inside c.args.scope.now c.args.scope.now.procedure.now refl c.args.told.are_judged
    c.requires.judged).0

pub check_steps-requires-clause-settled : goal.check_steps-requires-clause-settled
check_steps-requires-clause-settled c =
    (told-inside c.args.scope.now c.args.scope.now.names.now c.args.scope.now.procedure.now refl
    refl c.args.told.are_settled c.requires.settled).1

pub check_steps-requires-clause-judged : goal.check_steps-requires-clause-judged
check_steps-requires-clause-judged c =
    (judged-inside c.args.scope.now c.args.scope.now.procedure.now refl c.args.told.are_judged
    c.requires.judged).1

pub returns-in_err-check_header : goal.returns-in_err-check_header
returns-in_err-check_header c = λ earlier new.
    let theory = theory_in c.args.scope.now.names.now in
    let f = procedure_in c.args.scope.now in
    let p = err_from_is_err_and c.from_residual.result
    c.from_residual.ensures.1 in
    refused c.from_residual.result p.0 c.in_err-check_header.field-0.0
    (first_fault_at (places_of theory earlier c.args.number f)) p.1 p.2
    (head-bad theory earlier c.args.number f c.in_err-check_header.field-0.0
    (c.in_err-check_header.ensures earlier new))

pub returns : goal.returns
returns c = λ earlier new.
    head-fine (theory_in c.args.scope.now.names.now) earlier c.args.number
    (procedure_in c.args.scope.now) c.check_steps.result
    (c.in_ok-check_header.ensures earlier new) c.check_steps.ensures
