-- Needn't be believed: what the rules for calls need of a procedure. A law says that the procedures
-- of a well-formed theory have it.
use Rattle.std.specs.Prelude.{◌⊎◌}
use Rattle.model_formulas.specs.Substitution.{FreeIn}
use Rattle.model_terms.specs.Stores.{ProgVar, as_var}
use Rattle.model_commands.specs.Commands.{Among, Modifies}
use Rattle.model_commands.specs.Theories.{Procedure}

-- The parameters are apart from the results and keep their values, the requires speaks of
-- parameters alone, and the ensures of parameters and results.
pub record IsScoped (f : Procedure) : Type 0 where
  pub apart : (x : ProgVar) → Among f.params x → Among f.results x → ⊥
  pub constant : (x : ProgVar) → Among f.params x → Modifies f.body x → ⊥
  pub pre_scope : (x : ProgVar) → FreeIn (as_var x) f.pre → Among f.params x
  pub post_scope : (x : ProgVar) → FreeIn (as_var x) f.post → Among f.params x ⊎ Among f.results x
