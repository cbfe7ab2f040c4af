-- Needn't be believed: what the program asks of a procedure whose weakest precondition it computes,
-- and the answer where it has none, apart from its sort.
use Rattle.std.specs.Prelude.{◌≡◌, List, ℕ, Option, Some, option_map}
use Rattle.model_limits.specs.Limits as limits
use Rattle.model_limits.specs.FirstOf.{or_else, unless}
use Rattle.model_shapes.specs.Values.{Name}
use Rattle.model_formulas.specs.Formulas.{Named}
use Rattle.model_commands.specs.Commands.{Command}
use Rattle.model_commands.specs.Theories.{ProcedureOf, Theory, procedure_named}
use Rattle.model_weakest.specs.Straight.{first_not_straight, is_short}
use Rattle.model_answers.specs.Output.{not_straight_line}
use Rattle.model_answers.specs.Texts.{IsFile}
use Rattle.domcheck_core.specs.Answers.{Answer, limit_answer}
use Rattle.domcheck_core.specs.declared.status.Status.TheVariants as status

-- the procedure is one of the theory of a file
pub record StandsInFile (theory : Theory) (f : ProcedureOf Named) : Type 0 where
  pub bytes : List ℕ
  pub file : IsFile bytes theory
  pub name : Name
  pub there : procedure_named name theory.procedures ≡ Some f

-- the answer for a body that isn't straight-line
abbrev pub bent_answer : Command → Option Answer
bent_answer body =
    option_map (λ c. (status.NotStraight, not_straight_line c)) (first_not_straight body)

-- the answer for a body that isn't, or is too long
abbrev pub body_refusal : Command → Option Answer
body_refusal body =
    or_else (bent_answer body) (unless (is_short body) (limit_answer limits.straight_limit))
