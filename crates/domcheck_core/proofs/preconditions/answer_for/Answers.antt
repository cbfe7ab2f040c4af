use Rattle.std.proofs.Common.{sym, map}
use Rattle.std.proofs.lemmas.Result.{IfOk-weaker}
use Rattle.dom_terms.specs.Terms.{logic_var_of}
use Rattle.formula_syntax.specs.Formulas.{formula_of}
use Rattle.theory_syntax.specs.Theories.{procedure_of, theory_of}
use Rattle.domcheck_core.specs.Answers.{PreconditionAnswer}
use Rattle.domcheck_core.proofs.Judged.{said}
use Rattle.domcheck_core.proofs.Weakest.{sorted-body, known-post, small-body, other-sort, refused-body, written-body}
use Rattle.domcheck_core.proofs.preconditions.answer_for.Goals as goal

pub weakest_with_names-requires-clause-well_formed : goal.weakest_with_names-requires-clause-well_formed
weakest_with_names-requires-clause-well_formed c = c.requires.file.well_formed

pub weakest_with_names-requires-clause-sorted : goal.weakest_with_names-requires-clause-sorted
weakest_with_names-requires-clause-sorted c =
    sorted-body (theory_of c.args.theory.now) (procedure_of c.args.procedure.now) c.requires

pub weakest_with_names-requires-clause-declared : goal.weakest_with_names-requires-clause-declared
weakest_with_names-requires-clause-declared c =
    known-post (theory_of c.args.theory.now) (procedure_of c.args.procedure.now) c.requires

pub weakest_with_names-requires-clause-small : goal.weakest_with_names-requires-clause-small
weakest_with_names-requires-clause-small c =
    small-body (theory_of c.args.theory.now) (procedure_of c.args.procedure.now) c.requires

pub returns-then-not-same_data_sort : goal.returns-then-not-same_data_sort
returns-then-not-same_data_sort c =
    said (λ r. r.status) (λ r. r.output)
    (PreconditionAnswer (theory_of c.args.theory.now) (procedure_of c.args.procedure.now)) _ _
    c.reported.result
    (other-sort (theory_of c.args.theory.now) (procedure_of c.args.procedure.now)
    (sym c.if-not-same_data_sort.ensures))
    c.reported.ensures.status c.reported.ensures.output

pub returns-in-Ok : goal.returns-in-Ok
returns-in-Ok c =
    said (λ r. r.status) (λ r. r.output)
    (PreconditionAnswer (theory_of c.args.theory.now) (procedure_of c.args.procedure.now)) _ _
    c.written.result
    (written-body (theory_of c.args.theory.now) (procedure_of c.args.procedure.now)
    (sym c.if-not-same_data_sort.ensures)
    (map logic_var_of c.in-Ok.found.variables) (formula_of c.in-Ok.found.formula) _
    c.in-Ok.ensures.straight.0 c.in-Ok.ensures.straight.1 c.in-Ok.ensures.new
    c.in-Ok.ensures.count c.in-Ok.ensures.variables c.in-Ok.ensures.written)
    c.written.ensures.status c.written.ensures.output

pub returns-in-Err : goal.returns-in-Err
returns-in-Err c =
    IfOk-weaker c.without.result _ _
    (λ r h. refused-body (theory_of c.args.theory.now) (procedure_of c.args.procedure.now)
    (sym c.if-not-same_data_sort.ensures)
    r.status r.output h) c.without.ensures
