-- Needn't be believed: the promises speak of scopes by the definition of file faults. Which program
-- variables a formula of a header may have, as a test of one variable; which variables have the
-- sort of their first declaration; what is told of the variables of a header and of a step.
use Rattle.std.specs.Prelude.{◌≡◌, Bool, true, false, not, List, ◌++◌, Option, Some, None}
use Rattle.std.specs.Bool.{OnTrue}
use Rattle.model_shapes.specs.Sorts.{ValueSort, Sort}
use Rattle.model_shapes.specs.Tests.{same_value_sort, same_sort}
use Rattle.model_terms.specs.Variables.{Var, prog}
use Rattle.model_terms.specs.Stores.{ProgVar, named}
use Rattle.model_formulas.specs.Formulas.{Named}
use Rattle.model_commands.specs.SortTests.{is_among}
use Rattle.model_commands.specs.Theories.{StepOf}
use Rattle.model_files.specs.FileFaults.{is_as_declared}
use Rattle.declared_sorts.specs.Settled.{is_settled, head_settled, step_settled}
use Rattle.dom_syntax.specs.declared.scopes.Scope.{Scope}
use Rattle.dom_syntax.specs.Scopes.{names_in, procedure_in}

-- a program variable among these, or any other variable
abbrev pub may_stand : List ProgVar → Var → Bool
may_stand allowed (prog name s) = is_among allowed (named name s)
may_stand allowed x = true

-- a variable that is none of these
abbrev pub stands_outside : List ProgVar → Var → Bool
stands_outside variables (prog name s) = not (is_among variables (named name s))
stands_outside variables x = true

-- the parameters of the procedure, and its results where they are allowed as well
abbrev pub allowed_in : Scope → Bool → List ProgVar
allowed_in scope true = (procedure_in scope).params ++ (procedure_in scope).results
allowed_in scope false = (procedure_in scope).params

-- the sort with which a name is declared is this one, if it is declared
abbrev pub sort_fits : Option ValueSort → ValueSort → Bool
sort_fits None s = true
sort_fits (Some u) s = same_value_sort u s

-- the same of a logic variable
abbrev pub logic_sort_fits : Option Sort → Sort → Bool
logic_sort_fits None s = true
logic_sort_fits (Some u) s = same_sort u s

-- it has the sort of its first declaration; unknown ones pass only where they may
abbrev pub may_be_declared : Bool → List Var → Var → Bool
may_be_declared true declared x = is_as_declared declared x
may_be_declared false declared x = is_settled declared x

-- where it is told so, the variables of the header and the body are settled
abbrev pub HeadSettled : Bool → Scope → Type 0
HeadSettled told scope = OnTrue told (head_settled (names_in scope) (procedure_in scope) ≡ true)

-- those of the step are
abbrev pub StepSettled : Bool → Scope → StepOf Named → Type 0
StepSettled told scope step = OnTrue told (step_settled (names_in scope) step ≡ true)
