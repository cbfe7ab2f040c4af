-- What a run begins with.
use Rattle.std.proofs.Common.{◌≡◌, ℕ, List, Some, refl}
use Rattle.std.specs.Prelude.{slice_get}
use Rattle.model_shapes.specs.Sorts.{shape, grove}
use Rattle.model_shapes.specs.Trees.{Trees}
use Rattle.model_shapes.specs.Shapes.{Shaped}
use Rattle.model_shapes.specs.Values.{Value}
use Rattle.model_commands.specs.Theories.{nameless_procedure, procedures_of}
use Rattle.model_files.specs.FileFaults.{IsWellFormedTheory}
use Rattle.model_machine.specs.Fitting.{ValuesFit, FitsConfig}
use Rattle.model_machine.specs.Machine.{start}
use Rattle.model_machine.proofs.Starts.{start-fits}
use Rattle.theory_syntax.specs.declared.theories.Procedure.{Procedure}
use Rattle.theory_syntax.specs.declared.theories.Theory.{Theory}
use Rattle.theory_syntax.specs.Theories.{procedure_of, theory_of}
use Rattle.dom_meaning.proofs.Bodies.{body-sorted}

-- one procedure stands at a place
pub one_there : (p q : Procedure) → Some p ≡ Some q → p ≡ q
one_there p q e = cc

-- the configuration with which a procedure of a well-formed theory begins fits it
pub starts_fit : (theory : Theory) (place : ℕ) (started : Procedure) (values : List Value)
    → IsWellFormedTheory (theory_of theory) → slice_get theory.procedures place ≡ Some started
    → ValuesFit (procedure_of started).params values → (roots : Trees)
    → Shaped (shape grove) roots
    → FitsConfig (procedures_of (theory_of theory)) (start (procedure_of started) values roots)
starts_fit theory place started values well_formed is arguments roots shaped =
    start-fits (procedures_of (theory_of theory)) (nameless_procedure (procedure_of started))
    values roots
    (body-sorted (theory_of theory) theory.procedures place started refl well_formed is)
    arguments shaped
