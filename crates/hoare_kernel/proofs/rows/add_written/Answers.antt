-- What the step cites, beside what it says.
use Rattle.std.proofs.Common.{ap, subst, List, ℕ, map}
use Rattle.std.proofs.lemmas.Result.{on_ok_weaker}
use Rattle.model_commands.specs.Theories.{nameless_judgement}
use Rattle.dom_terms.specs.Terms.{term_of}
use Rattle.theory_syntax.specs.declared.steps.Reason.{Reason}
use Rattle.theory_syntax.specs.Judgements.{judgement_of, reason_of}
use Rattle.cited_steps.specs.Earlier.{steps_in}
use Rattle.hoare_kernel.specs.Rows.{CitedHaveRows}
use Rattle.hoare_kernel.proofs.HasRows.{judgement-kept, written}
use Rattle.hoare_kernel.proofs.rows.add_written.Goals as goal

pub returns-clause-rows : goal.returns-clause-rows
returns-clause-rows c =
    let new = c.add_cited.new.table in
    let earlier = steps_in c.args.earlier.now in
    let judgement = nameless_judgement (judgement_of c.args.step.now.judgement) in
    on_ok_weaker c.add_cited.result
    (λ h. written new earlier (reason_of c.args.step.now.reason) judgement
    c.in-Rule.name c.in-Rule.premises (map term_of c.in-Rule.arguments)
    (ap (λ (z : Reason). reason_of z) c.in-Rule.is)
    (judgement-kept c.add_judgement.new.table new c.add_cited.ensures.kept judgement
    c.in_ok-add_judgement.ensures.rows)
    (subst (λ (ns : List ℕ). CitedHaveRows new earlier ns) c.as_slice.ensures h))
    c.add_cited.ensures.rows
