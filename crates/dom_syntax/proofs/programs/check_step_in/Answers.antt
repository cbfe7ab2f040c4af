-- The scope is that of the names and the procedure.
use Rattle.std.proofs.Common.{Option, subst}
use Rattle.model_files.specs.FileFaults.{FileFault, step_kind}
use Rattle.theory_syntax.specs.Judgements.{step_of}
use Rattle.theory_syntax.specs.Theories.{procedure_of}
use Rattle.dom_syntax.specs.Faults.{Reports, step_fault}
use Rattle.dom_syntax.specs.Scopes.{theory_in}
use Rattle.dom_syntax.proofs.programs.check_step_in.Goals as goal

pub returns : goal.returns
returns c =
    subst (λ (o : Option FileFault). Reports c.check_step_at-checked.result o)
    (λ j. step_fault c.args.number c.args.place
    (step_kind (theory_in (c.in_ok-scope.ensures.1 j)) (procedure_of (c.in_ok-scope.ensures.2 j))
    c.args.place (step_of c.args.step.now)))
    c.check_step_at-checked.ensures
