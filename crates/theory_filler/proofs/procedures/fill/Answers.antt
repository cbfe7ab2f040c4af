-- The theory that comes of all procedures.
use Rattle.std.proofs.Common.{◌≡◌, map, sym, subst}
use Rattle.std.proofs.lemmas.Result.{IfOk-weaker, IfErr-weaker}
use Rattle.model_filling.specs.Filled.{IsFilled}
use Rattle.theory_syntax.specs.declared.theories.Theory.{Theory}
use Rattle.theory_syntax.specs.Theories.{procedure_of, theory_of}
use Rattle.hoare_kernel.proofs.WellFormed.{theory-fine}
use Rattle.theory_filler.specs.Faults.{PassesLimit, Refuses}
use Rattle.theory_filler.specs.Walks.{with_procedures}
use Rattle.theory_filler.proofs.Outcomes.{refused-past}
use Rattle.theory_filler.proofs.procedures.fill.Goals as goal

pub fill_procedures-requires-clause-numbered : goal.fill_procedures-requires-clause-numbered
fill_procedures-requires-clause-numbered g c =
    (theory-fine c.args.theory.now c.requires.formed).0

pub fill_procedures-requires-clause-sorted : goal.fill_procedures-requires-clause-sorted
fill_procedures-requires-clause-sorted g c =
    (theory-fine c.args.theory.now c.requires.formed).1

pub returns-clause-filled : goal.returns-clause-filled
returns-clause-filled g c =
    let theory = theory_of c.args.theory.now in
    let voices = g.F.Fillers.voices c.args.fillers.now in
    let new = with_procedures theory (map procedure_of c.in_ok-procedures.procedures) in
    IfOk-weaker c.finished.result (λ (t : Theory). theory_of t ≡ new)
    (λ (t : Theory). IsFilled theory voices (theory_of t))
    (λ t same. subst (IsFilled theory voices) (sym same)
    (IsFilled.filled c.in_ok-procedures.ensures.walked)) c.finished.ensures.filled

pub returns-clause-refused : goal.returns-clause-refused
returns-clause-refused g c =
    let theory = theory_of c.args.theory.now in
    let voices = g.F.Fillers.voices c.args.fillers.now in
    let new = with_procedures theory (map procedure_of c.in_ok-procedures.procedures) in
    IfErr-weaker c.finished.result (PassesLimit new) (Refuses theory voices)
    (refused-past theory voices new (IsFilled.filled c.in_ok-procedures.ensures.walked))
    c.finished.ensures.refused
