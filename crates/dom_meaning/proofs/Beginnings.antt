-- What a run begins with fits the machine.
use Rattle.std.proofs.Common.{◌≡◌, ℕ, List, Some, refl, sym, subst}
use Rattle.std.specs.Prelude.{slice_get}
use Rattle.model_shapes.specs.Sorts.{shape, grove}
use Rattle.model_shapes.specs.Trees.{Trees}
use Rattle.model_shapes.specs.Values.{Value}
use Rattle.model_shapes.specs.Shapes.{Shaped}
use Rattle.model_commands.specs.Theories.{nameless_procedure, procedures_of}
use Rattle.model_files.specs.FileFaults.{IsWellFormedTheory}
use Rattle.model_machine.specs.Fitting.{ValuesFit, FitsConfig}
use Rattle.model_machine.proofs.Starts.{start-fits}
use Rattle.theory_syntax.specs.declared.theories.Procedure.{Procedure}
use Rattle.theory_syntax.specs.declared.theories.Theory.{Theory}
use Rattle.theory_syntax.specs.Theories.{procedure_of, theory_of}
use Rattle.dom_meaning.specs.declared.configurations.Config.{Config}
use Rattle.dom_meaning.specs.Configs.{config_of}
use Rattle.dom_meaning.specs.Starts.{Begins}
use Rattle.dom_meaning.proofs.Bodies.{body-sorted}

module _ (theory : Theory) (place : ℕ) (started : Procedure) (values : List Value) (roots : Trees)
    (config : Config) (well_formed : IsWellFormedTheory (theory_of theory))
    (is : slice_get theory.procedures place ≡ Some started)
    (arguments : ValuesFit (procedure_of started).params values)
    (shaped : Shaped (shape grove) roots)
    (begins : Begins (procedure_of started) values roots config) where
  -- it fits the procedures of the theory
  pub begun_fits : FitsConfig (procedures_of (theory_of theory)) (config_of config)
  begun_fits =
      subst (FitsConfig (procedures_of (theory_of theory))) (sym begins.configuration)
      (start-fits (procedures_of (theory_of theory)) (nameless_procedure (procedure_of started))
      values roots (body-sorted (theory_of theory) theory.procedures place started refl well_formed
      is)
      arguments shaped)
