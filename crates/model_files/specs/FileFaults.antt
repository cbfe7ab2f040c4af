-- Where a theory isn't well formed: the first place at fault, and its kind; the language's own. The
-- places are the version with the logic declarations, then each procedure's header and its steps.
use Rattle.std.specs.Prelude.{◌≡◌, ℕ, ◌+◌, List, [], ◌∷◌, ◌++◌, map, Bool, true, false, cond, not, ◌&&◌, ◌||◌, ◌==◌, Option, Some, None, is_none, bytes_eq}
use Rattle.std.specs.List.{list_all, list_any, find, flat_map}
use Rattle.model_shapes.specs.Tests.{same_sort}
use Rattle.model_shapes.specs.Sorts.{Sort, shape}
use Rattle.model_terms.specs.Variables.{Var, prog, logic, var_sort}
use Rattle.model_terms.specs.Terms.{Term}
use Rattle.model_terms.specs.Stores.{ProgVar, named, as_var}
use Rattle.model_formulas.specs.Formulas.{Named}
pub use Rattle.model_formulas.specs.WellSorted.{may_bind}
use Rattle.model_formulas.specs.WellSorted.{one_sort, first_fault}
use Rattle.model_commands.specs.Commands.{Command, insert_before}
use Rattle.model_commands.specs.CommandParts.{commands_in, targets, variables_of_term, variables_of_command, variables_of, variables_of_judgement, commands_of_judgement, arguments_of, locals_of}
use Rattle.model_commands.specs.Theories.{JudgementOf, entails, triple, Reason, auto, by_rule, StepOf, ProcedureOf, Theory, procedures_of}
pub use Rattle.model_commands.specs.SortTests.{is_program, is_plain, evaluates, has_command, parts_fit, callee_known, distinct_by, is_among, results_apart}
use Rattle.model_files.specs.RuleNames.{second_version_names, is_rule_name}

-- a kind of fault
pub data FileKind : Type 0 where
  version_kind twice_kind unknown_kind sort_kind constant_kind : FileKind
  results_kind scope_kind rule_kind number_kind : FileKind

-- the kinds in the order in which they count at one place
abbrev pub kinds : List FileKind
kinds = version_kind ∷ twice_kind ∷ unknown_kind ∷ sort_kind ∷ constant_kind ∷ results_kind
    ∷ scope_kind ∷ rule_kind ∷ number_kind ∷ []

-- a place and its kind. Procedures are counted from 1, and so are steps; step 0 is the header with
-- the body, and procedure 0 with step 0 is the version with the logic declarations
pub record FileFault : Type 0 where
  pub procedure : ℕ
  pub step : ℕ
  pub kind : FileKind

-- the first kind whose test fails
abbrev pub first_kind : (FileKind → Bool) → Option FileKind
first_kind passes = find (λ kind. not (passes kind)) kinds

-- VERSIONS: those of the language
abbrev pub is_version : ℕ → Bool
is_version version = (version == 1) || (version == 2)

-- the version has the command: insertBefore is of version 2
abbrev pub is_of_version : ℕ → Command → Bool
is_of_version version (insert_before e f g) = version == 2
is_of_version version command = true

-- the version has the rule of the name
abbrev pub is_rule_of_version : ℕ → List ℕ → Bool
is_rule_of_version version name =
    is_rule_name name && ((version == 2) || not (list_any (bytes_eq name) second_version_names))

-- NAMES: two program variables, or two logic variables, of one name
abbrev pub share_name : Var → Var → Bool
share_name (prog name s) (prog other u) = bytes_eq name other
share_name (logic name s) (logic other u) = bytes_eq name other
share_name x y = false

-- the variable's name is declared; a bound one has no name
abbrev pub is_known : List Var → Var → Bool
is_known declared x = list_any (share_name x) declared

-- the variable has the sort with which its name is declared first, if it is
abbrev pub is_as_declared : List Var → Var → Bool
is_as_declared [] x = true
is_as_declared (y ∷ rest) x =
    cond (share_name x y) (same_sort (var_sort y) (var_sort x)) (is_as_declared rest x)

-- the program variables among the second are some of the first
abbrev pub only_among : List ProgVar → List Var → Bool
only_among allowed [] = true
only_among allowed (prog name s ∷ rest) = is_among allowed (named name s) && only_among allowed rest
only_among allowed (x ∷ rest) = only_among allowed rest

-- what a procedure declares: its parameters, its results and the local variables of its body
abbrev pub declared_by : ProcedureOf Named → List ProgVar
declared_by procedure = procedure.params ++ (procedure.results ++ locals_of procedure.body)

-- what may be named in it
abbrev pub scope_of : Theory → ProcedureOf Named → List Var
scope_of theory procedure = map as_var (declared_by procedure) ++ theory.logic

-- FORMULAS AND STEPS: a formula may be judged at the sort
abbrev pub is_judged_at : Sort → Named → Bool
is_judged_at s formula = is_none (first_fault formula s)

-- an argument of a step: a term of a value sort, or one logic variable of a sort
abbrev pub is_argument : Term → Bool
is_argument term = one_sort term term

-- no parameter is set: assigned, a result, or a local variable
abbrev pub spares : List ProgVar → Command → Bool
spares params command = list_all (λ x. not (is_among params x)) (targets command)

-- the formulas of a judgement may be judged at its sort
abbrev pub judgement_sorted : JudgementOf Named → Bool
judgement_sorted (entails p q s) = is_judged_at s p && is_judged_at s q
judgement_sorted (triple p c q d) = is_judged_at (shape d) p && is_judged_at (shape d) q

-- the rule of a step is one of the version, if it is no gap
abbrev pub rule_known : ℕ → Reason → Bool
rule_known version auto = true
rule_known version (by_rule name premises arguments) = is_rule_of_version version name

-- PLACES, by what the test of each kind is there: the version and the logic declarations
abbrev pub declarations : Theory → FileKind → Bool
declarations theory version_kind = is_version theory.version
declarations theory twice_kind = distinct_by share_name theory.logic
declarations theory sort_kind = list_all may_bind theory.logic
declarations theory kind = true

-- variables and commands that stand in a procedure
abbrev pub inside : Theory → ProcedureOf Named → List Var → List Command → FileKind → Bool
inside theory f variables commands version_kind =
    list_all (is_of_version theory.version) commands
inside theory f variables commands unknown_kind =
    list_all (is_known (scope_of theory f)) variables
    && list_all (callee_known (procedures_of theory)) commands
inside theory f variables commands sort_kind =
    list_all (is_as_declared (scope_of theory f)) variables
    && list_all (parts_fit (procedures_of theory)) commands
inside theory f variables commands constant_kind = list_all (spares f.params) commands
inside theory f variables commands results_kind = list_all results_apart commands
inside theory f variables commands kind = true

-- the variables and commands of its header and its body
abbrev pub inside_head : Theory → ProcedureOf Named → FileKind → Bool
inside_head theory f =
    inside theory f (variables_of f.pre ++ (variables_of f.post ++ variables_of_command f.body))
    (commands_in f.body)

-- the header and the body of a procedure behind these others
abbrev pub header : Theory → List (ProcedureOf Named) → ProcedureOf Named → FileKind → Bool
header theory earlier f twice_kind =
    not (list_any (λ g. bytes_eq f.name g.name) earlier)
    && distinct_by share_name (map as_var (declared_by f))
header theory earlier f sort_kind =
    (is_judged_at (shape f.sort) f.pre && is_judged_at (shape f.sort) f.post)
    && inside_head theory f sort_kind
header theory earlier f scope_kind =
    only_among f.params (variables_of f.pre)
    && only_among (f.params ++ f.results) (variables_of f.post)
header theory earlier f kind = inside_head theory f kind

-- the variables and commands of a step
abbrev pub inside_step : Theory → ProcedureOf Named → StepOf Named → FileKind → Bool
inside_step theory f step =
    inside theory f
    (variables_of_judgement step.judgement
    ++ flat_map variables_of_term (arguments_of step.reason))
    (commands_of_judgement step.judgement)

-- a step of the procedure, at this place of its proof
abbrev pub proof_step : Theory → ProcedureOf Named → ℕ → StepOf Named → FileKind → Bool
proof_step theory f at step sort_kind =
    (judgement_sorted step.judgement && list_all is_argument (arguments_of step.reason))
    && inside_step theory f step sort_kind
proof_step theory f at step rule_kind = rule_known theory.version step.reason
proof_step theory f at step number_kind = step.number == at
proof_step theory f at step kind = inside_step theory f step kind

-- the kinds of the two
abbrev pub head_kind : Theory → List (ProcedureOf Named) → ProcedureOf Named → Option FileKind
head_kind theory earlier f = first_kind (header theory earlier f)

-- of a step
abbrev pub step_kind : Theory → ProcedureOf Named → ℕ → StepOf Named → Option FileKind
step_kind theory f at step = first_kind (proof_step theory f at step)

-- THE FIRST FAULT: a place, with the numbers of its procedure and its step
pub record Place : Type 0 where
  pub procedure : ℕ
  pub step : ℕ
  pub passes : FileKind → Bool

-- the steps of a proof, from this place on
abbrev pub steps_from : Theory → ℕ → ProcedureOf Named → ℕ → List (StepOf Named) → List Place
steps_from theory number f at [] = []
steps_from theory number f at (step ∷ steps) =
    record { procedure = number; step = at; passes = proof_step theory f at step }
    ∷ steps_from theory number f (at + 1) steps

-- the procedures from this number on, each with its header before its steps
abbrev pub procedures_from : Theory → List (ProcedureOf Named) → ℕ → List (ProcedureOf Named)
    → List Place
procedures_from theory earlier number [] = []
procedures_from theory earlier number (f ∷ fs) =
    record { procedure = number; step = 0; passes = header theory earlier f }
    ∷ (steps_from theory number f 1 f.proof ++ procedures_from theory (f ∷ earlier) (number + 1) fs)

-- all places of a theory, in order
abbrev pub places : Theory → List Place
places theory =
    record { procedure = 0; step = 0; passes = declarations theory }
    ∷ procedures_from theory [] 1 theory.procedures

-- the fault of a place that has a kind, and else what comes later
abbrev pub fault_or : Place → Option FileKind → Option FileFault → Option FileFault
fault_or place None later = later
fault_or place (Some kind) later =
    Some (record { procedure = place.procedure; step = place.step; kind = kind })

-- the first fault at some places
abbrev pub first_fault_at : List Place → Option FileFault
first_fault_at [] = None
first_fault_at (place ∷ rest) = fault_or place (first_kind place.passes) (first_fault_at rest)

-- the first fault of a theory
abbrev pub first_file_fault : Theory → Option FileFault
first_file_fault theory = first_fault_at (places theory)

-- no place is at fault
abbrev pub IsWellFormedTheory : Theory → Type 0
IsWellFormedTheory theory = first_file_fault theory ≡ None
