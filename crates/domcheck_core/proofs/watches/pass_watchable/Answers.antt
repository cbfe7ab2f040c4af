use Rattle.std.proofs.Common.{sym, ap, option_map, None}
use Rattle.std.proofs.lemmas.Result.{IfOk-weaker}
use Rattle.theory_syntax.specs.Theories.{procedure_of}
use Rattle.domcheck_core.proofs.Refusing.{weaker}
use Rattle.domcheck_core.proofs.Watching.{other_sort_refused, pre_refused, post_refused, refused_as}
use Rattle.domcheck_core.proofs.watches.pass_watchable.Goals as goal

pub returns-then-not-same_data_sort-clause-told : goal.returns-then-not-same_data_sort-clause-told
returns-then-not-same_data_sort-clause-told c =
    other_sort_refused (procedure_of c.args.procedure.now) (sym c.if-not-same_data_sort.ensures)

pub returns-in-Err-clause-told : goal.returns-in-Err-clause-told
returns-in-Err-clause-told c =
    weaker _ _ c.in-Err.why
    (pre_refused (procedure_of c.args.procedure.now) (sym c.if-not-same_data_sort.ensures))
    c.in-Err.ensures.told

pub returns-in-Ok-clause-passes : goal.returns-in-Ok-clause-passes
returns-in-Ok-clause-passes c =
    IfOk-weaker c.pass_ensures.result _ _
    (λ done h. post_refused (procedure_of c.args.procedure.now)
    (sym c.if-not-same_data_sort.ensures) c.in-Ok.ensures.passes None (ap (option_map _) h))
    c.pass_ensures.ensures.passes

pub returns-in-Ok-clause-told : goal.returns-in-Ok-clause-told
returns-in-Ok-clause-told c =
    refused_as c.pass_ensures.result _ _
    (λ s o. post_refused (procedure_of c.args.procedure.now)
    (sym c.if-not-same_data_sort.ensures) c.in-Ok.ensures.passes _)
    c.pass_ensures.ensures.told
