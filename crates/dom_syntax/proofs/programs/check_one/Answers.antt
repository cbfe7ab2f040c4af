-- The names are those of the theory, and the procedure is the one that is meant.
use Rattle.std.proofs.Common.{Option, ◌-◌, ◌∙◌, subst, map, slice_get, ap, length, arith}
use Rattle.model_files.specs.FileFaults.{FileFault, step_kind}
use Rattle.theory_syntax.specs.Judgements.{step_of}
use Rattle.theory_syntax.specs.Theories.{procedure_of, theory_of}
use Rattle.dom_syntax.specs.Faults.{Reports, step_fault}
use Rattle.dom_syntax.proofs.FaultLaws.{procedure-at}
use Rattle.dom_syntax.proofs.programs.check_one.Goals as goal

pub returns : goal.returns
returns c = λ f at.
    let own = procedure-at c.as_slice.result.now (c.args.procedure - 1)
    c.index-as_slice-procedure.result f (omega (arith, ap length c.as_slice.ensures))
    c.index-as_slice-procedure.is
    ((λ j. slice_get (map procedure_of (c.as_slice.ensures j)) (c.args.procedure - 1)) ∙ at) in
    subst (λ (o : Option FileFault). Reports c.check_step_in.result o)
    (λ j. step_fault c.args.procedure c.args.place
    (step_kind (theory_of (c.in_ok-names.ensures.1 j)) (own j) c.args.place
    (step_of c.args.step.now)))
    c.check_step_in.ensures
