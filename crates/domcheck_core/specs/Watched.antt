-- What is promised of runs that are watched.
use Rattle.std.specs.Prelude.{◌≡◌, ◌↔◌, ℕ, true, List, None, Some}
use Rattle.model_shapes.specs.Sorts.{shape, grove}
use Rattle.model_shapes.specs.Shapes.{Shaped}
use Rattle.model_shapes.specs.Trees.{Trees}
use Rattle.model_shapes.specs.Values.{Value}
use Rattle.model_terms.specs.Stores.{Store, lookup}
use Rattle.model_formulas.specs.Formulas.{Named}
use Rattle.model_formulas.specs.Nameless.{nameless}
use Rattle.model_formulas.specs.Satisfaction.{Environment, Meets, with_store}
use Rattle.model_formulas.specs.WellSorted.{first_fault}
use Rattle.model_commands.specs.Commands.{Command}
use Rattle.model_commands.specs.Theories.{ProcedureOf, Theory}
use Rattle.model_machine.specs.Machine.{FaultKind}
use Rattle.model_machine.specs.Outcomes.{ends, has_fault}
use Rattle.rule_table.specs.Accepted.{IsAccepted}
use Rattle.model_watch.specs.Watchable.{IsWatchable}
use Rattle.model_watch.specs.Watching.{is_met}
use Rattle.model_answers.specs.Arguments.{called}
use Rattle.model_answers.specs.Texts.{IsFile}
use Rattle.watch_laws.specs.WatchedStores.{before_store, after_store}
use Rattle.domcheck_core.specs.Answers.{outcome_on}

-- What is judged of a formula that can be watched is satisfaction: yes exactly where the grove
-- meets it in the store, whatever the other variables stand for.
abbrev pub JudgesSatisfaction : Type 0
JudgesSatisfaction =
    (p : Named) (store : Store) (e : Environment) (g : Trees) → IsWatchable p
    → first_fault p (shape grove) ≡ None → Shaped (shape grove) g
    → ((is_met store g p ≡ true)
    ↔ Meets (nameless p) (with_store (lookup store) e) (shape grove) g)

-- A procedure of an accepted file, called on a document that meets its requires, doesn't fault; and
-- where it ends, what it leaves meets its ensures, if that can be watched.
abbrev pub KeepsPromises : Type 0
KeepsPromises =
    (bytes : List ℕ) (theory : Theory) → IsFile bytes theory → IsAccepted theory
    → (procedure : List ℕ) (arguments : List (List ℕ)) (f : ProcedureOf Named)
    (values : List Value) → called theory procedure arguments ≡ Some (f, values)
    → f.sort ≡ grove → IsWatchable f.pre → (document : Trees) → Shaped (shape grove) document
    → is_met (before_store f values) document f.pre ≡ true → (fuel : ℕ)
    → ((steps : ℕ) (kind : FaultKind) (command : Command)
    → outcome_on theory f values fuel document ≡ has_fault kind steps command → ⊥)
    × ((steps : ℕ) (results : List Value) (left : Trees)
    → outcome_on theory f values fuel document ≡ ends steps results left → IsWatchable f.post
    → is_met (after_store f values results) left f.post ≡ true)
