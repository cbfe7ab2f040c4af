-- The answer of a run with the lines of what it changes.
use Rattle.std.proofs.Common.{◌≡◌, ◌∙◌, ℕ, List, map, Option, Some, None, option_map, refl, sym, ap, subst}
use Rattle.model_shapes.specs.Trees.{Trees}
use Rattle.model_terms.specs.Stores.{ProgVar}
use Rattle.model_machine.specs.Changes.{Change}
use Rattle.model_machine.specs.Outcomes.{Outcome, ends, spends, passes_limit, has_fault, no_pick}
use Rattle.dom_terms.specs.Values.{value_seen}
use Rattle.dom_terms.specs.declared.limits.LimitKind as own
use Rattle.dom_meaning.specs.Faults.{fault_kind_of}
use Rattle.theory_syntax.specs.Commands.{command_of}
use Rattle.heap_runner.specs.declared.outcomes.HeapOutcome.{HeapOutcome}
use Rattle.heap_runner.specs.declared.outcomes.HeapOutcome.TheVariants as h
use Rattle.heap_tracer.specs.Traces.{Traces, Hears}
use Rattle.run_trace.specs.Listeners.{Listener, told_all}
use Rattle.domcheck_core.specs.Answers.{Answer, outcome_answer, steps_of, with_trace, traced_answer}
use Rattle.domcheck_core.specs.Calls.{CameOut}
use Rattle.domcheck_core.proofs.Equal.{status_is, none_is, no_limit}
use Rattle.domcheck_core.specs.declared.status.Status.{Status}
use Rattle.domcheck_core.specs.declared.status.Status.TheVariants as status

-- a limit stands alone
pub limit_alone : (before : List Listener) (changes_in : ℕ → List Change) (results : List ProgVar)
    (o : Outcome) (s : Status) (output : List ℕ) (kind : own.LimitKind)
    → outcome_answer results o ≡ Some (s, output) → s ≡ status.Limit kind
    → traced_answer before changes_in results o ≡ Some (s, output)
limit_alone before changes_in results (passes_limit limit) s output kind e q = e
limit_alone before changes_in results (ends steps values trees) s output kind e q =
    absurd (no_limit status.Done s kind refl (status_is _ s output e) q)
limit_alone before changes_in results (has_fault fault steps command) s output kind e q =
    absurd (no_limit status.Faulted s kind refl (status_is _ s output e) q)
limit_alone before changes_in results (spends steps config) s output kind e q =
    absurd (no_limit status.FuelSpent s kind refl (status_is _ s output e) q)
limit_alone before changes_in results no_pick s output kind e q = absurd (none_is (s, output) e)

module _ (run : ℕ → Outcome) (changes_in : ℕ → List Change) (fuel : ℕ) (trees : Trees)
    (told : List Change) (before after : List Listener) (results : List ProgVar) (s : Status)
    (output : List ℕ) where
  abbrev Says : HeapOutcome → Type 0
  Says outcome =
      (o : Outcome) → CameOut outcome trees o → outcome_answer results o ≡ Some (s, output)

  -- where an outcome tells its steps
  surrounds : (o : Outcome) (taken steps : ℕ) → taken ≡ steps → changes_in steps ≡ told
      → option_map (with_trace before (changes_in taken)) (outcome_answer results o)
      ≡ traced_answer before changes_in results o → outcome_answer results o ≡ Some (s, output)
      → traced_answer before changes_in results o ≡ Some (with_trace before told (s, output))
  surrounds o taken steps e tells is says =
      sym is ∙ ap (option_map (with_trace before (changes_in taken))) says
      ∙ ap (λ (cs : List Change). Some (with_trace before cs (s, output)))
      (ap changes_in e ∙ tells)

  -- any other answer stands between the lines
  pub surrounded_answer : (outcome : HeapOutcome) (o : Outcome) → CameOut outcome trees o
      → Traces run changes_in fuel outcome trees told → Hears outcome told before after
      → Says outcome → ((kind : own.LimitKind) → s ≡ status.Limit kind → ⊥)
      → (after ≡ map (told_all told) before)
      × (traced_answer before changes_in results o ≡ Some (with_trace before told (s, output)))
  surrounded_answer h.OutOfMemory o came traces heard says other =
      absurd (none_is (s, output) (says no_pick tt))
  surrounded_answer (h.Limit kind) o came traces heard says other =
      absurd (other _ (sym (status_is _ s output
      (subst (λ z. outcome_answer results z ≡ Some (s, output)) came (says o came)))))
  surrounded_answer (h.Ended taken values) o came traces heard says other = (
    heard,
    subst (λ z. traced_answer before changes_in results z
        ≡ Some (with_trace before told (s, output)))
        (sym came.1)
        (surrounds (ends taken (map value_seen values) came.0) taken traces.0 traces.2 traces.3 refl
        (subst (λ z. outcome_answer results z ≡ Some (s, output)) came.1 (says o came))),
  )
  surrounded_answer (h.Fault kind taken command) o came traces heard says other = (
    heard,
    subst (λ z. traced_answer before changes_in results z
        ≡ Some (with_trace before told (s, output)))
        (sym came)
        (surrounds (has_fault (fault_kind_of kind) taken (command_of command)) taken
        traces.0 traces.2 traces.3 refl
        (subst (λ z. outcome_answer results z ≡ Some (s, output)) came (says o came))),
  )
  surrounded_answer (h.Spent taken) o came traces heard says other = (
    heard,
    subst (λ z. traced_answer before changes_in results z
        ≡ Some (with_trace before told (s, output)))
        (sym came.1)
        (surrounds (spends taken came.0) taken traces.0 traces.2 traces.3 refl
        (subst (λ z. outcome_answer results z ≡ Some (s, output)) came.1 (says o came))),
  )
