-- Needn't be believed: the promises speak of commands by the definition of file faults. Which
-- commands pass each test that is asked of a command by itself, and what is known of those of a
-- header and of a step.
use Rattle.std.specs.Prelude.{◌≡◌, Bool, true, ◌&&◌}
use Rattle.std.specs.Bool.{OnTrue}
use Rattle.std.specs.List.{list_all}
use Rattle.model_formulas.specs.Formulas.{Named}
use Rattle.model_commands.specs.Commands.{Command}
use Rattle.model_commands.specs.CommandParts.{commands_in, commands_of_judgement}
use Rattle.model_commands.specs.SortTests.{callee_known, parts_fit, results_apart}
use Rattle.model_commands.specs.Theories.{StepOf}
use Rattle.model_files.specs.FileFaults.{is_of_version, spares}
use Rattle.dom_syntax.specs.declared.scopes.Scope.{Scope}
use Rattle.dom_syntax.specs.Scopes.{callees_in, procedure_in, theory_in}

-- a command of the version whose callee is there, with fitting parts, which sets no parameter and
-- whose results are apart
abbrev pub is_apt : Scope → Command → Bool
is_apt scope c =
    is_of_version (theory_in scope.names.now).version c
    && (callee_known (callees_in scope.names.now) c
    && (parts_fit (callees_in scope.names.now) c
    && (spares (procedure_in scope).params c && results_apart c)))

-- where it is sure, those of the body are
abbrev pub HeadApt : Bool → Scope → Type 0
HeadApt sure scope =
    OnTrue sure (list_all (is_apt scope) (commands_in (procedure_in scope).body) ≡ true)

-- those of the step are
abbrev pub StepApt : Bool → Scope → StepOf Named → Type 0
StepApt sure scope step =
    OnTrue sure (list_all (is_apt scope) (commands_of_judgement step.judgement) ≡ true)
