use Rattle.std.proofs.Common.{◌∙◌, map, sym, ap, subst}
use Rattle.std.proofs.lemmas.Result.{IfOk-weaker}
use Rattle.model_commands.specs.Theories.{procedures_of}
use Rattle.model_machine.specs.Fitting.{FitsConfig}
use Rattle.model_machine.specs.Machine.{start}
use Rattle.dom_terms.specs.Values.{value_seen}
use Rattle.theory_syntax.specs.declared.theories.Procedure.{Procedure}
use Rattle.theory_syntax.specs.Theories.{procedure_of, theory_of}
use Rattle.heap_runner.proofs.BeginLaws.{one_there, starts_fit}
use Rattle.heap_runner.proofs.advancing.HeapRun.begin.Goals as goal

pub returns-clause-begins : goal.returns-clause-begins
returns-clause-begins c =
    let values = map value_seen c.args.arguments in
    IfOk-weaker c.begun.result _ _
    (λ run begins started is roots.
    begins roots ∙ ap (λ (p : Procedure). start (procedure_of p) values roots)
    (one_there c.in-Some.started.now started (c.in-Some.ensures.item ∙ is)))
    c.begun.ensures.begins

pub returns-clause-fits : goal.returns-clause-fits
returns-clause-fits c =
    let started = c.in-Some.started.now in
    let is = sym c.in-Some.ensures.item in
    IfOk-weaker c.begun.result _ _
    (λ run begins roots shaped. subst (FitsConfig (procedures_of (theory_of c.args.theory.now)))
    (sym (begins roots))
    (starts_fit c.args.theory.now c.args.procedure started (map value_seen c.args.arguments)
    c.requires.well_formed is (c.requires.arguments started is) roots shaped))
    c.begun.ensures.begins
