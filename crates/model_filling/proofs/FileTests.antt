-- The tests of a file don't see the proofs of its procedures: of a procedure they see its name,
-- what it declares, its formulas and its body.
use Rattle.std.proofs.Common.{◌≡◌, ◌∙◌, ℕ, refl, ap, sym, Bool, not, ◌&&◌, List, ◌++◌, map, Option, Some, None, is_some, bytes_eq}
use Rattle.std.specs.List.{list_all, list_any, flat_map}
use Rattle.model_terms.specs.Variables.{Var}
use Rattle.model_terms.specs.Terms.{Term}
use Rattle.model_terms.specs.Stores.{ProgVar, as_var}
use Rattle.model_shapes.specs.Sorts.{shape}
use Rattle.model_formulas.specs.Formulas.{Named}
use Rattle.model_commands.specs.Commands.{Command, call}
use Rattle.model_commands.specs.CommandParts.{variables_of, variables_of_command, commands_in, arguments_of, variables_of_judgement, variables_of_term, commands_of_judgement}
use Rattle.model_commands.specs.SortTests.{call_fits, callee_known, parts_fit, distinct_by}
use Rattle.model_commands.specs.Theories.{StepOf, Procedure, ProcedureOf, Procedures, Theory, procedures_of, procedure_named, nameless_procedure}
use Rattle.model_files.specs.FileFaults.{FileKind, twice_kind, unknown_kind, sort_kind, scope_kind, rule_kind, number_kind, first_kind, share_name, is_known, is_as_declared, is_judged_at, judgement_sorted, is_argument, scope_of, declared_by, inside, header, head_kind, proof_step, step_kind}
use Rattle.model_filling.specs.Filled.{with_proof}
use Rattle.model_filling.proofs.Bare.{bare}
use Rattle.model_filling.proofs.Calls.{bared, named-bare}

-- WHAT TESTS OF A CALL SEE of the procedure that is called
there-bare : (o : Option Procedure) → is_some o ≡ is_some (bared o)
there-bare None = refl
there-bare (Some f) = refl

fits-bare : (o : Option Procedure) (results : List ProgVar) (arguments : List Term)
    → call_fits o results arguments ≡ call_fits (bared o) results arguments
fits-bare None results arguments = refl
fits-bare (Some f) results arguments = refl

module _ (ps qs : Procedures) (alike : map bare ps ≡ map bare qs) where
  named-alike : (name : List ℕ) → bared (procedure_named name ps) ≡ bared (procedure_named name qs)
  named-alike name =
      sym (named-bare name ps) ∙ ap (procedure_named name) alike ∙ named-bare name qs

  callee-alike : (c : Command) → callee_known ps c ≡ callee_known qs c
  callee-alike (call results name arguments) =
      there-bare (procedure_named name ps) ∙ ap is_some (named-alike name)
      ∙ sym (there-bare (procedure_named name qs))
  callee-alike c = refl

  parts-alike : (c : Command) → parts_fit ps c ≡ parts_fit qs c
  parts-alike (call results name arguments) =
      fits-bare (procedure_named name ps) results arguments
      ∙ ap (λ o. call_fits o results arguments) (named-alike name)
      ∙ sym (fits-bare (procedure_named name qs) results arguments)
  parts-alike c = refl

-- the variables of a header and its body
abbrev head_variables : ProcedureOf Named → List Var
head_variables f = variables_of f.pre ++ (variables_of f.post ++ variables_of_command f.body)

-- THE TESTS OF A THEORY, and of it with other procedures that differ in their proofs alone
module _ (theory : Theory) (others : List (ProcedureOf Named))
    (alike : map bare (procedures_of theory) ≡ map bare (map nameless_procedure others)) where
  abbrev pub other : Theory
  other = record theory { procedures = others }

  module _ (f : ProcedureOf Named) (proof : List (StepOf Named)) where
    inside-alike : (variables : List Var) (commands : List Command) (kind : FileKind)
        → inside theory f variables commands kind
        ≡ inside other (with_proof f proof) variables commands kind
    inside-alike variables commands unknown_kind =
        ap (λ (test : Command → Bool). list_all (is_known (scope_of theory f)) variables
        && list_all test commands)
        (λ j c. callee-alike (procedures_of theory) (procedures_of other) alike c j)
    inside-alike variables commands sort_kind =
        ap (λ (test : Command → Bool). list_all (is_as_declared (scope_of theory f)) variables
        && list_all test commands)
        (λ j c. parts-alike (procedures_of theory) (procedures_of other) alike c j)
    inside-alike variables commands kind = refl

    -- at a step
    step-alike : (at : ℕ) (step : StepOf Named) (kind : FileKind)
        → proof_step theory f at step kind ≡ proof_step other (with_proof f proof) at step kind
    step-alike at step sort_kind =
        ap (λ test. (judgement_sorted step.judgement
        && list_all is_argument (arguments_of step.reason)) && test)
        (inside-alike (variables_of_judgement step.judgement
        ++ flat_map variables_of_term (arguments_of step.reason))
        (commands_of_judgement step.judgement) sort_kind)
    step-alike at step rule_kind = refl
    step-alike at step number_kind = refl
    step-alike at step kind =
        inside-alike (variables_of_judgement step.judgement
        ++ flat_map variables_of_term (arguments_of step.reason))
        (commands_of_judgement step.judgement) kind

    pub step_kind-alike : (at : ℕ) (step : StepOf Named)
        → step_kind theory f at step ≡ step_kind other (with_proof f proof) at step
    step_kind-alike at step = λ j. first_kind (λ kind. step-alike at step kind j)

    -- at a header, after procedures of the same names
    head-alike : (earlier those : List (ProcedureOf Named))
        → list_any (λ g. bytes_eq f.name g.name) earlier
        ≡ list_any (λ g. bytes_eq f.name g.name) those → (kind : FileKind)
        → header theory earlier f kind ≡ header other those (with_proof f proof) kind
    head-alike earlier those names twice_kind =
        ap (λ test. not test && distinct_by share_name (map as_var (declared_by f))) names
    head-alike earlier those names sort_kind =
        ap (λ test. (is_judged_at (shape f.sort) f.pre && is_judged_at (shape f.sort) f.post)
        && test)
        (inside-alike (head_variables f) (commands_in f.body) sort_kind)
    head-alike earlier those names scope_kind = refl
    head-alike earlier those names kind =
        inside-alike (head_variables f) (commands_in f.body) kind

    pub head_kind-alike : (earlier those : List (ProcedureOf Named))
        → list_any (λ g. bytes_eq f.name g.name) earlier
        ≡ list_any (λ g. bytes_eq f.name g.name) those
        → head_kind theory earlier f ≡ head_kind other those (with_proof f proof)
    head_kind-alike earlier those names =
        λ j. first_kind (λ kind. head-alike earlier those names kind j)
