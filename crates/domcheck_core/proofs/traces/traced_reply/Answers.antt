use Rattle.std.proofs.Common.{◌∙◌, map, ap, sym, Some}
use Rattle.std.proofs.lemmas.Result.{IfOk-weaker}
use Rattle.dom_terms.specs.Terms.{prog_var_of}
use Rattle.run_trace.specs.Changes.{change_of}
use Rattle.domcheck_core.proofs.Surrounding.{limit_alone, surrounded_answer}
use Rattle.domcheck_core.proofs.traces.traced_reply.Goals as goal

pub returns-in-Limit : goal.returns-in-Limit
returns-in-Limit g c = λ o came run changes_in fuel traces before heard.
    limit_alone before changes_in (map prog_var_of c.args.results.now) o
    c.in_ok-reply.reply.status c.in_ok-reply.reply.output _ (c.in_ok-reply.ensures o came)
    c.in-Limit.is

pub returns : goal.returns
returns g c = λ o came run changes_in fuel traces before heard.
    let told = map change_of c.args.traced.changes.items in
    let both = surrounded_answer run changes_in fuel c.args.heap.now.grove told before _
    (map prog_var_of c.args.results.now) c.in_ok-reply.reply.status c.in_ok-reply.reply.output
    c.args.traced.outcome o came traces heard (λ out is. c.in_ok-reply.ensures out is)
    c.in_default.not-Limit in
    IfOk-weaker c.surrounded.result _ _ (λ r h. both.1 ∙ ap Some (sym h))
    ((rw c.as_slice.ensures.value at c.surrounded.ensures before) both.0)
