-- Needn't be believed: the program's promise doesn't speak of it. The configurations with which
-- procedures begin.
use Rattle.std.specs.Prelude.{◌≡◌, List, map}
use Rattle.model_shapes.specs.Trees.{Trees}
use Rattle.model_shapes.specs.Values.{Value}
use Rattle.model_formulas.specs.Formulas.{Named}
use Rattle.model_commands.specs.Theories.{ProcedureOf}
use Rattle.model_machine.specs.Machine as model
use Rattle.dom_terms.specs.Terms.{prog_var_of}
use Rattle.dom_meaning.specs.declared.configurations.Config.{Config}
use Rattle.dom_meaning.specs.Configs.{config_of}

-- the configuration is the machine's for the procedure with these arguments on these roots, and the
-- results are the procedure's
pub record Begins (procedure : ProcedureOf Named) (arguments : List Value) (roots : Trees)
    (config : Config) : Type 0 where
  pub configuration : config_of config ≡ model.start procedure arguments roots
  pub results : map prog_var_of config.results ≡ procedure.results
