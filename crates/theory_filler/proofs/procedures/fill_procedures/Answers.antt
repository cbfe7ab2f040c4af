-- The procedures go on to be filled, or one of them has the first place that fails.
use Rattle.std.proofs.Common.{◌≡◌, ℕ, ◌+◌, ◌-◌, ◌≤◌, List, length, map, get_or, Some, slice_get, sym, ap, subst, arith}
use Rattle.model_files.specs.FileLimits.{step_count}
use Rattle.model_files.specs.Sizes.{ProceduresAreSmall}
use Rattle.theory_syntax.specs.declared.theories.Procedure.{Procedure}
use Rattle.theory_syntax.specs.Theories.{procedure_of, theory_of}
use Rattle.hoare_kernel.specs.Walks.{AreNumbered, EachSorted}
use Rattle.theory_filler.specs.Faults.{Told, Refuses}
use Rattle.theory_filler.specs.Walks.{WalkFails}
use Rattle.theory_filler.proofs.Places.{drop-at, procedure-at}
use Rattle.theory_filler.proofs.WholeWalks.{handed_out}
use Rattle.theory_filler.proofs.Outcomes.{SoFar, so-far-first, so-far-next, so-far-last, refused-here, refused-at}
use Rattle.theory_filler.proofs.Turns.{were-none, were-then}
use Rattle.theory_filler.proofs.procedures.fill_procedures.Goals as goal

pub fill_proof-requires-clause-own : goal.fill_proof-requires-clause-own
fill_proof-requires-clause-own g c =
    let fs = c.args.theory.now.procedures in
    let k = c.loop-procedure.procedure-index in
    let item = c.procedure-item.result in
    let long = ap (λ (z : List Procedure). length z) c.as_slice-procedures.ensures in
    let at : c.loop-procedure.number + 1 - 1 ≡ k = omega (arith, c.loop-procedure.invariant.at) in
    subst (λ (n : ℕ). slice_get (map procedure_of fs) n ≡ Some (procedure_of item)) (sym at)
    (procedure-at fs k item item (omega (arith, c.loop-procedure-test.true, long))
    (subst (λ (z : List Procedure). item ≡ get_or z k item) c.as_slice-procedures.ensures
    c.procedure-item.is))

pub returns-in_err-proof-clause-asked : goal.returns-in_err-proof-clause-asked
returns-in_err-proof-clause-asked g c =
    were-then (g.F.Fillers.voices c.args.fillers.now) (g.F.Fillers.voices c.loop-procedure.fillers)
    (g.F.Fillers.voices c.fill_proof.new.fillers) c.loop-procedure.invariant.asked
    c.fill_proof.ensures.asked

pub returns-in_err-with_proof-clause-asked : goal.returns-in_err-with_proof-clause-asked
returns-in_err-with_proof-clause-asked g c =
    were-then (g.F.Fillers.voices c.args.fillers.now) (g.F.Fillers.voices c.loop-procedure.fillers)
    (g.F.Fillers.voices c.fill_proof.new.fillers) c.loop-procedure.invariant.asked
    c.fill_proof.ensures.asked

pub returns-in_err-push-clause-asked : goal.returns-in_err-push-clause-asked
returns-in_err-push-clause-asked g c =
    were-then (g.F.Fillers.voices c.args.fillers.now) (g.F.Fillers.voices c.loop-procedure.fillers)
    (g.F.Fillers.voices c.fill_proof.new.fillers) c.loop-procedure.invariant.asked
    c.fill_proof.ensures.asked

pub returns-in_err-proof-clause-refused : goal.returns-in_err-proof-clause-refused
returns-in_err-proof-clause-refused g c =
    let theory = theory_of c.args.theory.now in
    let fs = c.args.theory.now.procedures in
    let voices = g.F.Fillers.voices c.args.fillers.now in
    let here = g.F.Fillers.voices c.loop-procedure.fillers in
    let k = c.loop-procedure.procedure-index in
    let item = c.procedure-item.result in
    let long = ap (λ (z : List Procedure). length z) c.as_slice-procedures.ensures in
    let e = c.in_err-proof.field-0.0 in
    handed_out (Refuses theory voices) c.from_residual.result e c.from_residual.ensures.1
    (refused-at theory voices e
    (refused-here theory fs voices k item (omega (arith, c.loop-procedure-test.true, long))
    (subst (λ (z : List Procedure). item ≡ get_or z k item) c.as_slice-procedures.ensures
    c.procedure-item.is)
    c.loop-procedure.filled here c.loop-procedure.invariant.walked e
    (subst (λ (n : ℕ). Told (WalkFails theory (procedure_of item) item.proof here n) e)
    (ap (λ n. n + 1) c.loop-procedure.invariant.at) c.in_err-proof.ensures.bad)))

pub loop-procedure-init : goal.loop-procedure-init
loop-procedure-init g c =
    let theory = theory_of c.args.theory.now in
    let fs = c.args.theory.now.procedures in
    let voices = g.F.Fillers.voices c.args.fillers.now in
    let all = sym c.as_slice-procedures.ensures in
    record {
      within = omega arith;
      at = omega arith;
      small = subst (λ (z : List Procedure). ProceduresAreSmall (map procedure_of z)) all
          c.requires.small.0;
      numbered = subst AreNumbered all c.requires.numbered;
      sorted = subst EachSorted all c.requires.sorted;
      few = subst (λ (z : List Procedure). step_count (map procedure_of z) ≤ 65535) all
          c.requires.few;
      walked = subst (λ (z : List Procedure). SoFar theory fs voices 0 z voices)
          (sym c.new-filled.ensures) (so-far-first theory fs voices);
      asked = were-none voices;
    }

pub loop-procedure-preserved : goal.loop-procedure-preserved
loop-procedure-preserved g c =
    let theory = theory_of c.args.theory.now in
    let fs = c.args.theory.now.procedures in
    let listed = c.as_slice-procedures.result.now in
    let voices = g.F.Fillers.voices c.args.fillers.now in
    let here = g.F.Fillers.voices c.loop-procedure.fillers in
    let others = g.F.Fillers.voices c.fill_proof.new.fillers in
    let k = c.loop-procedure.procedure-index in
    let item = c.procedure-item.result in
    let long = ap (λ (z : List Procedure). length z) c.as_slice-procedures.ensures in
    let rest = drop-at listed k item (omega (arith, c.loop-procedure-test.true))
    c.procedure-item.is in
    let few = subst (λ (z : List Procedure). step_count (map procedure_of z) ≤ 65535) rest
    c.loop-procedure.invariant.few in
    record {
      within = omega (arith, c.loop-procedure-test.true);
      at = omega (arith, c.loop-procedure.invariant.at);
      small = (subst (λ (z : List Procedure). ProceduresAreSmall (map procedure_of z)) rest
          c.loop-procedure.invariant.small).1;
      numbered = (subst AreNumbered rest c.loop-procedure.invariant.numbered).1;
      sorted = (subst EachSorted rest c.loop-procedure.invariant.sorted).1;
      few = omega (arith, few);
      walked = so-far-next theory fs voices k item
          (omega (arith, c.loop-procedure-test.true, long))
          (subst (λ (z : List Procedure). item ≡ get_or z k item) c.as_slice-procedures.ensures
          c.procedure-item.is)
          c.loop-procedure.filled here c.loop-procedure.invariant.walked
          c.in_ok-with_proof.field-0 c.in_ok-proof.proof others c.push.new.self
          c.in_ok-push.ensures.ok c.in_ok-with_proof.ensures c.in_ok-proof.ensures.filled;
      asked = were-then voices here others c.loop-procedure.invariant.asked
          c.fill_proof.ensures.asked;
    }

pub returns-clause-walked : goal.returns-clause-walked
returns-clause-walked g c =
    let long = ap (λ (z : List Procedure). length z) c.as_slice-procedures.ensures in
    so-far-last (theory_of c.args.theory.now) c.args.theory.now.procedures
    (g.F.Fillers.voices c.args.fillers.now) c.loop-procedure.procedure-index
    c.loop-procedure.filled (g.F.Fillers.voices c.loop-procedure.fillers)
    (omega (arith, c.loop-procedure-test.false, long)) c.loop-procedure.invariant.walked
