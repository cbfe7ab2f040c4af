-- Runs that are called, on the heap: what they come to by the definitions, and the answer to it.
use Rattle.std.proofs.Common.{◌≡◌, ◌∙◌, ℕ, List, Option, Some, None, ap, Result, Ok, Err, IfOk, subst, sym, arith}
use Rattle.model_shapes.specs.Sorts.{shape, grove}
use Rattle.model_shapes.specs.Trees.{Trees}
use Rattle.model_shapes.specs.Shapes.{Shaped, SameAt}
use Rattle.model_shapes.specs.Values.{Value}
use Rattle.model_shapes.proofs.Shapes.{SameAt-sym, SameAt-trans, same-Shaped, root_holes-le}
use Rattle.model_formulas.specs.Formulas.{Named}
use Rattle.model_terms.specs.Stores.{ProgVar}
use Rattle.model_terms.specs.TermLimits.{or_else}
use Rattle.model_commands.specs.Theories.{ProcedureOf, Theory}
use Rattle.model_machine.specs.Changes.{Change}
use Rattle.model_machine.specs.Outcomes.{Outcome}
use Rattle.model_answers.specs.Words.{RunForm}
use Rattle.run_trace.specs.Listeners.{Listener}
use Rattle.model_documents.specs.Printed.{grove_text}
use Rattle.model_documents.specs.Roots.{sorted_roots}
use Rattle.model_documents.proofs.SortedRoots.{sorted-same, sorted-rising, rising-equal}
use Rattle.model_answers.specs.Output.{ended_with, ended_lines}
use Rattle.heap_runner.specs.Answers.{Answers}
use Rattle.heap_runner.specs.declared.outcomes.HeapOutcome.{HeapOutcome}
use Rattle.heap_runner.specs.declared.outcomes.HeapOutcome.TheVariants as h
use Rattle.domcheck_core.specs.Calls.{CameOut}
use Rattle.domcheck_core.specs.declared.status.Status.{Status}
use Rattle.domcheck_core.specs.Answers.{Answer, outcome_on, traced_answer, shown_answer, grove_answer, refusal}

-- groves that are the same are equal once their roots are sorted
same_sorted : (a b : Trees) → Shaped (shape grove) a → SameAt grove a b
    → sorted_roots a ≡ sorted_roots b
same_sorted a b whole same =
    let sorted = sorted_roots a in
    let is_same : SameAt grove sorted (sorted_roots b) =
    SameAt-trans grove sorted a (sorted_roots b) (sorted-same a)
    (SameAt-trans grove a b (sorted_roots b) same
    (SameAt-sym grove (sorted_roots b) b (sorted-same b))) in
    let shaped : Shaped (shape grove) sorted =
    same-Shaped (shape grove) a sorted (SameAt-sym grove sorted a (sorted-same a)) whole in
    rising-equal sorted (sorted_roots b) shaped.well_formed.nodes_once
    (omega (arith, root_holes-le sorted, shaped.holes_fit)) (sorted-rising a) (sorted-rising b)
    is_same

-- so their lines are those of either
pub same_lines : (steps : ℕ) (results : List ProgVar) (values : List Value) (a b : Trees)
    → Shaped (shape grove) a → SameAt grove a b
    → ended_lines steps results values b
    ≡ ended_with steps results values (grove_text (sorted_roots a))
same_lines steps results values a b whole same =
    ap (λ (z : Trees). ended_with steps results values (grove_text z))
    (sym (same_sorted a b whole same))

-- what a run on the heap came to
pub came_out : (run : ℕ → Outcome) (fuel : ℕ) (r : HeapOutcome) (trees : Trees)
    → Answers run fuel r trees → CameOut r trees (run fuel)
came_out run fuel (h.Ended steps values) trees a = a
came_out run fuel (h.Fault kind steps command) trees a = a.0
came_out run fuel (h.Spent steps) trees a = (a.0, a.1)
came_out run fuel (h.Limit kind) trees a = a.0
came_out run fuel h.OutOfMemory trees a = tt

-- the answer of the outcome is the answer on the document, and so is what is refused
module _ (form : RunForm) (listeners : List Listener) (theory : Theory) (f : ProcedureOf Named)
    (values : List Value) (fuel : ℕ) (document : Trees) where
  abbrev shown : Option Answer
  shown =
      shown_answer form listeners theory f values document
      (outcome_on theory f values fuel document)

  pub on_grove : {A E : Type 0} (of : A → Answer) (reply : Result A E) → refusal document ≡ None
      → IfOk reply (λ x. shown ≡ Some (of x))
      → IfOk reply (λ x. grove_answer form listeners theory f values fuel document ≡ Some (of x))
  on_grove of (Ok x) passes h = ap (λ (z : Option Answer). or_else z shown) passes ∙ h
  on_grove of (Err x) passes h = tt

  pub refused : (s : Status) (line : List ℕ) → refusal document ≡ Some (s, line)
      → grove_answer form listeners theory f values fuel document ≡ Some (s, line)
  refused s line h = ap (λ (z : Option Answer). or_else z shown) h

-- the answer of a traced run names the results of its procedure
pub traced_on : {A E : Type 0} (of : A → Answer) (before : List Listener)
    (changes_in : ℕ → List Change) (results others : List ProgVar) (o : Outcome)
    (reply : Result A E) → results ≡ others
    → IfOk reply (λ x. traced_answer before changes_in results o ≡ Some (of x))
    → IfOk reply (λ x. traced_answer before changes_in others o ≡ Some (of x))
traced_on of before changes_in results others o reply same =
    subst (λ rs. IfOk reply (λ x. traced_answer before changes_in rs o ≡ Some (of x))) same
