-- What is judged on a grove, in any order of its roots, and the answer to a run that is watched.
use Rattle.std.proofs.Common.{◌≡◌, ◌∙◌, ℕ, List, [], Bool, true, false, Option, Some, None, option_map, refl, sym, ap, subst, Result, Ok, Err, IfErr}
use Rattle.model_limits.specs.Limits.{LimitKind, standard_limits}
use Rattle.model_shapes.specs.Sorts.{DataSort, shape, tree, forest, grove}
use Rattle.model_shapes.specs.Shapes.{Shaped, SameAt}
use Rattle.model_shapes.specs.Tests.{same_data_sort}
use Rattle.model_shapes.specs.Trees.{Trees}
use Rattle.model_shapes.specs.Values.{Value, null}
use Rattle.model_shapes.specs.Things.{val}
use Rattle.model_shapes.proofs.Shapes.{SameAt-sym, same-Shaped}
use Rattle.model_formulas.specs.Formulas.{Named}
use Rattle.model_formulas.specs.Nameless.{nameless}
use Rattle.model_formulas.specs.Satisfaction.{Environment, Meets, with_store}
use Rattle.model_formulas.specs.WellSorted.{first_fault}
use Rattle.model_formulas.proofs.Closed.{closed}
use Rattle.model_terms.specs.Stores.{Store, lookup}
use Rattle.model_terms.specs.TermLimits.{or_else, unless}
use Rattle.model_commands.specs.Theories.{ProcedureOf}
use Rattle.model_groves.specs.Sizes.{size}
use Rattle.model_machine.specs.Outcomes.{Outcome, ends, spends, passes_limit, has_fault, no_pick}
use Rattle.model_watch.specs.Watchable.{IsWatchable, first_unwatchable}
use Rattle.model_watch.specs.WatchLimits.{watching_limit}
use Rattle.model_watch.specs.Watching.{is_met, values_in}
use Rattle.model_watch.proofs.Deciding.{Decides}
use Rattle.model_watch.proofs.Ranges.{values_serve, decided_by}
use Rattle.model_answers.specs.Output.{requires_line, ensures_line, not_watchable_sort_line, not_watchable_requires_line, not_watchable_ensures_line}
use Rattle.watch_laws.specs.WatchedStores.{before_store, after_store}
use Rattle.dom_terms.specs.declared.limits.LimitKind as own_limit
use Rattle.dom_terms.specs.declared.values.Value as own_value
use Rattle.dom_watch.specs.Watched.{TellsMet}
use Rattle.heap_runner.specs.declared.outcomes.HeapOutcome.{HeapOutcome}
use Rattle.heap_runner.specs.declared.outcomes.HeapOutcome.TheVariants as h
use Rattle.domcheck_core.specs.Calls.{CameOut}
use Rattle.heap_runner.proofs.SameGroves.{same-size}
use Rattle.domcheck_core.specs.Answers.{Answer, limit_answer, outcome_answer, watching_refusal, judging_refusal, between, judged_answer, watched_answer}
use Rattle.domcheck_core.specs.Refusals.{IsRefusal}
use Rattle.domcheck_core.specs.declared.replies.Refused.{Refused}
use Rattle.domcheck_core.proofs.Equal.{status_is, none_is, no_limit}
use Rattle.domcheck_core.proofs.Refusing.{weaker}
use Rattle.domcheck_core.specs.declared.status.Status.{Status}
use Rattle.domcheck_core.specs.declared.status.Status.TheVariants as status

-- what is judged of a grove is judged of it in any order of the roots
pub same_verdict : (verdict : Bool) (p : Named) (store : Store) (here trees : Trees) → IsWatchable p
    → first_fault p (shape grove) ≡ None → Shaped (shape grove) here → SameAt grove trees here
    → TellsMet verdict p store here → is_met store trees p ≡ verdict
same_verdict verdict p store here trees watchable sorted whole same tells = by_verdict verdict tells
  where
    back : SameAt grove here trees
    back = SameAt-sym grove trees here same

    e : Environment
    e = λ x. val null

    shaped : Shaped (shape grove) trees
    shaped = same-Shaped (shape grove) here trees back whole

    decided : Decides (is_met store trees p)
        (Meets (nameless p) (with_store (lookup store) e) (shape grove) trees)
    decided = decided_by (values_in trees) p store e trees (values_serve trees shaped) watchable
        sorted shaped

    by_verdict : (b : Bool) → TellsMet b p store here → is_met store trees p ≡ b
    by_verdict true t = decided.back
        (closed (nameless p) (with_store (lookup store) e) (shape grove) here trees back (t e))
    by_verdict false t = by_answer (is_met store trees p) refl
      where
        by_answer : (b : Bool) → is_met store trees p ≡ b → is_met store trees p ≡ false
        by_answer false is = is
        by_answer true is = absurd (t e
            (closed (nameless p) (with_store (lookup store) e) (shape grove) trees here same
            (decided.so is)))

-- trees that are the same have as many nodes
pub same_limit : (p : Named) (store : Store) (here trees : Trees) → SameAt grove trees here
    → judging_refusal store trees p
    ≡ option_map limit_answer (watching_limit standard_limits store (size here) p)
same_limit p store here trees same =
    ap (λ (n : ℕ). option_map limit_answer (watching_limit standard_limits store n p))
    (same-size trees here same)

-- WHAT KEEPS A PROCEDURE FROM BEING WATCHED
none-before : (a b : Option Answer) → or_else a b ≡ None → (a ≡ None) × (b ≡ None)
none-before None b e = (refl, e)
none-before (Some a) b e = absurd cc

not-mapped : {A B : Type 0} (f : A → B) (a : Option A) → option_map f a ≡ None → a ≡ None
not-mapped f None e = refl
not-mapped f (Some a) e = absurd cc

grove-sort : (s : DataSort) → same_data_sort s grove ≡ true → s ≡ grove
grove-sort grove e = refl
grove-sort forest e = absurd cc
grove-sort tree e = absurd cc

not-unless : (b : Bool) (answer : Answer) → unless b answer ≡ None → b ≡ true
not-unless true answer e = refl
not-unless false answer e = absurd cc

-- where nothing does, it speaks of groves, and both of its formulas can be judged
pub can_watch : (f : ProcedureOf Named) → watching_refusal f ≡ None
    → (f.sort ≡ grove) × IsWatchable f.pre × IsWatchable f.post
can_watch f e =
    let a = none-before
    (unless (same_data_sort f.sort grove) (status.NotWatchable, not_watchable_sort_line)) _ e in
    let b = none-before
    (option_map (λ part. (status.NotWatchable, not_watchable_requires_line part))
    (first_unwatchable f.pre)) _ a.1 in (
      grove-sort f.sort (not-unless (same_data_sort f.sort grove) _ a.0),
      not-mapped _ (first_unwatchable f.pre) b.0,
      not-mapped _ (first_unwatchable f.post) b.1,
    )

-- its sort, its requires, its ensures, one after the other
pub other_sort_refused : (f : ProcedureOf Named) → same_data_sort f.sort grove ≡ false
    → watching_refusal f ≡ Some (status.NotWatchable, not_watchable_sort_line)
other_sort_refused f e =
    ap (λ (z : Bool). or_else (unless z (status.NotWatchable, not_watchable_sort_line)) (or_else
    (option_map (λ part. (status.NotWatchable, not_watchable_requires_line part))
    (first_unwatchable f.pre))
    (option_map (λ part. (status.NotWatchable, not_watchable_ensures_line part))
    (first_unwatchable f.post)))) e

module _ (f : ProcedureOf Named) (groves : same_data_sort f.sort grove ≡ true) where
  abbrev of_pre : Option Answer
  of_pre = option_map (λ part. (status.NotWatchable, not_watchable_requires_line part))
      (first_unwatchable f.pre)

  abbrev of_post : Option Answer
  of_post = option_map (λ part. (status.NotWatchable, not_watchable_ensures_line part))
      (first_unwatchable f.post)

  of_formulas : watching_refusal f ≡ or_else of_pre of_post
  of_formulas =
      ap (λ (z : Bool). or_else (unless z (status.NotWatchable, not_watchable_sort_line))
      (or_else of_pre of_post)) groves

  pub pre_refused : (s : Status) (o : List ℕ) → of_pre ≡ Some (s, o)
      → watching_refusal f ≡ Some (s, o)
  pre_refused s o e = of_formulas ∙ ap (λ (z : Option Answer). or_else z of_post) e

  pub post_refused : first_unwatchable f.pre ≡ None → (answer : Option Answer)
      → of_post ≡ answer → watching_refusal f ≡ answer
  post_refused is answer e =
      of_formulas
      ∙ ap (λ (z : Option ℕ). or_else
      (option_map (λ part. (status.NotWatchable, not_watchable_requires_line part)) z) of_post) is
      ∙ e

-- ITS ANSWER
module _ (f : ProcedureOf Named) (values : List Value) (document : Trees) (o : Outcome) where
  abbrev later : Option Answer
  later = judged_answer (requires_line (is_met (before_store f values) document f.pre)) f values o

  pub refused_watch : (s : Status) (output : List ℕ) → watching_refusal f ≡ Some (s, output)
      → watched_answer f values document o ≡ Some (s, output)
  refused_watch s output e = ap (λ (z : Option Answer). or_else z
      (or_else (judging_refusal (before_store f values) document f.pre) later)) e

  module _ (passes : watching_refusal f ≡ None) where
    after_refusals : watched_answer f values document o
        ≡ or_else (judging_refusal (before_store f values) document f.pre) later
    after_refusals = ap (λ (z : Option Answer). or_else z
        (or_else (judging_refusal (before_store f values) document f.pre) later)) passes

    pub limited_watch : (s : Status) (output : List ℕ)
        → judging_refusal (before_store f values) document f.pre ≡ Some (s, output)
        → watched_answer f values document o ≡ Some (s, output)
    limited_watch s output e = after_refusals ∙ ap (λ (z : Option Answer). or_else z later) e

    pub judged_watch : judging_refusal (before_store f values) document f.pre ≡ None
        → (verdict : Bool) → is_met (before_store f values) document f.pre ≡ verdict
        → (answer : Option Answer) → judged_answer (requires_line verdict) f values o ≡ answer
        → watched_answer f values document o ≡ answer
    judged_watch within verdict is answer e =
        after_refusals ∙ ap (λ (z : Option Answer). or_else z later) within
        ∙ ap (λ (z : Bool). judged_answer (requires_line z) f values o) is ∙ e

-- at the end
module _ (before : List ℕ) (f : ProcedureOf Named) (values results : List Value) (steps : ℕ)
    (left : Trees) where
  abbrev at_end : Store
  at_end = after_store f values results

  abbrev own : Option Answer
  own = outcome_answer f.results (ends steps results left)

  pub limited_end : (s : Status) (output : List ℕ)
      → judging_refusal at_end left f.post ≡ Some (s, output)
      → judged_answer before f values (ends steps results left) ≡ Some (s, output)
  limited_end s output e = ap (λ (z : Option Answer). or_else z
      (option_map (between before (ensures_line (is_met at_end left f.post))) own)) e

  pub judged_end : judging_refusal at_end left f.post ≡ None → (verdict : Bool)
      → is_met at_end left f.post ≡ verdict → (answer : Answer) → own ≡ Some answer
      → judged_answer before f values (ends steps results left)
      ≡ Some (between before (ensures_line verdict) answer)
  judged_end within verdict is answer e =
      ap (λ (z : Option Answer). or_else z
      (option_map (between before (ensures_line (is_met at_end left f.post))) own)) within
      ∙ ap (λ (z : Bool). option_map (between before (ensures_line z)) own) is
      ∙ ap (option_map (between before (ensures_line verdict))) e

-- a limit stands alone
pub limit_end : (before : List ℕ) (f : ProcedureOf Named) (values : List Value) (o : Outcome)
    (s : Status) (output : List ℕ) (kind : own_limit.LimitKind)
    → outcome_answer f.results o ≡ Some (s, output) → s ≡ status.Limit kind
    → judged_answer before f values o ≡ Some (s, output)
limit_end before f values (passes_limit limit) s output kind e q = e
limit_end before f values (ends steps results left) s output kind e q =
    absurd (no_limit status.Done s kind refl (status_is _ s output e) q)
limit_end before f values (has_fault fault steps command) s output kind e q =
    absurd (no_limit status.Faulted s kind refl (status_is _ s output e) q)
limit_end before f values (spends steps config) s output kind e q =
    absurd (no_limit status.FuelSpent s kind refl (status_is _ s output e) q)
limit_end before f values no_pick s output kind e q = absurd (none_is (s, output) e)

-- what is refused for one reason is refused for another that says the same
pub refused_as : {X : Type 0} (result : Result X Refused) (a b : Option Answer)
    → ((s : Status) (o : List ℕ) → a ≡ Some (s, o) → b ≡ Some (s, o))
    → IfErr result (λ e. IsRefusal e a) → IfErr result (λ e. IsRefusal e b)
refused_as (Ok x) a b f h = tt
refused_as (Err why) a b f h =
    weaker (λ s o. a ≡ Some (s, o)) (λ s o. b ≡ Some (s, o)) why f h

-- the answer of a run that neither ends nor passes a limit
pub other_reply : (before : List ℕ) (f : ProcedureOf Named) (values : List Value)
    (came : HeapOutcome) (trees : Trees) (s : Status) (output : List ℕ) (o : Outcome)
    → CameOut came trees o
    → ((out : Outcome) → CameOut came trees out → outcome_answer f.results out ≡ Some (s, output))
    → ((steps : ℕ) (results : List own_value.Value) → came ≡ h.Ended steps results → ⊥)
    → ((kind : own_limit.LimitKind) → s ≡ status.Limit kind → ⊥)
    → judged_answer before f values o ≡ Some (between before [] (s, output))
other_reply before f values (h.Ended steps results) trees s output o is says no_end no_bound =
    absurd (no_end steps results refl)
other_reply before f values (h.Limit kind) trees s output o is says no_end no_bound =
    absurd (no_bound _ (sym (status_is _ s output
    (subst (λ z. outcome_answer f.results z ≡ Some (s, output)) is (says o is)))))
other_reply before f values h.OutOfMemory trees s output o is says no_end no_bound =
    absurd (none_is (s, output) (says no_pick tt))
other_reply before f values (h.Fault kind steps command) trees s output o is says no_end no_bound =
    subst (λ z. judged_answer before f values z ≡ Some (between before [] (s, output))) (sym is)
    (ap (option_map (between before []))
    (subst (λ z. outcome_answer f.results z ≡ Some (s, output)) is (says o is)))
other_reply before f values (h.Spent steps) trees s output o is says no_end no_bound =
    subst (λ z. judged_answer before f values z ≡ Some (between before [] (s, output)))
    (sym is.1)
    (ap (option_map (between before []))
    (subst (λ z. outcome_answer f.results z ≡ Some (s, output)) is.1 (says o is)))
