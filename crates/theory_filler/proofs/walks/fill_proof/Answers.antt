-- A proof that ends well, and those that don't.
use Rattle.std.proofs.Common.{◌≡◌, ◌∙◌, List, Some, sym, subst}
use Rattle.model_shapes.proofs.Truth.{false≢true}
use Rattle.model_commands.specs.Theories.{nameless_judgement, own_triple}
use Rattle.rule_table.specs.Accepted.{last_judgement}
use Rattle.theory_syntax.specs.declared.steps.Step.{Step}
use Rattle.theory_syntax.specs.Theories.{procedure_of, theory_of}
use Rattle.cited_steps.specs.Earlier.{steps_in}
use Rattle.theory_filler.specs.Faults.{Told}
use Rattle.theory_filler.specs.Walks.{WalkFails, WalkLeads}
use Rattle.theory_filler.proofs.WholeWalks.{handed_out}
use Rattle.theory_filler.proofs.Ends.{well, badly}
use Rattle.theory_filler.proofs.walks.fill_proof.Goals as goal

pub returns-in_err-walked-clause-bad : goal.returns-in_err-walked-clause-bad
returns-in_err-walked-clause-bad g c =
    let theory = theory_of c.args.theory.now in
    let f = procedure_of c.args.procedure.now in
    let voices = g.F.Fillers.voices c.args.fillers.now in
    let e = c.in_err-walked.field-0.0 in
    handed_out (Told (WalkFails theory f c.args.procedure.now.proof voices c.args.number))
    c.from_residual.result e c.from_residual.ensures.1
    (subst (λ (z : List Step). Told (WalkFails theory f z voices c.args.number) e)
    c.as_slice.ensures (c.in_err-walked.ensures.bad f c.requires.own))

pub returns-then-branch-clause-filled : goal.returns-then-branch-clause-filled
returns-then-branch-clause-filled g c =
    let theory = theory_of c.args.theory.now in
    let f = procedure_of c.args.procedure.now in
    let voices = g.F.Fillers.voices c.args.fillers.now in
    let others = g.F.Fillers.voices c.walk.new.fillers in
    well theory f c.args.procedure.now.proof voices c.in_ok-walked.walked others
    (subst (λ (z : List Step). WalkLeads theory f z voices c.in_ok-walked.walked others)
    c.as_slice.ensures (c.in_ok-walked.ensures.leads f c.requires.own))
    (subst (λ (z : List Step). last_judgement (steps_in z)
    ≡ Some (nameless_judgement (own_triple f))) c.as_slice-2.ensures
    (c.in_ok-ends_well.ensures.0 c.if-branch.true))

pub returns-else-branch-clause-bad : goal.returns-else-branch-clause-bad
returns-else-branch-clause-bad g c =
    let theory = theory_of c.args.theory.now in
    let f = procedure_of c.args.procedure.now in
    let voices = g.F.Fillers.voices c.args.fillers.now in
    let others = g.F.Fillers.voices c.walk.new.fillers in
    badly theory f c.args.procedure.now.proof voices c.in_ok-walked.walked others
    (subst (λ (z : List Step). WalkLeads theory f z voices c.in_ok-walked.walked others)
    c.as_slice.ensures (c.in_ok-walked.ensures.leads f c.requires.own))
    (λ ends. false≢true (sym c.if-branch.false ∙ c.in_ok-ends_well.ensures.1
    (subst (λ (z : List Step). last_judgement (steps_in z)
    ≡ Some (nameless_judgement (own_triple f))) (sym c.as_slice-2.ensures) ends)))
    c.args.number
