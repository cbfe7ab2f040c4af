-- Needn't be believed: the program's promise doesn't speak of it. What is answered where a
-- formula is watched on a heap.
use Rattle.std.specs.Prelude.{◌≡◌, ℕ, Bool, MatchBool, Some, None, Result, Ok, Err}
use Rattle.model_limits.specs.Limits.{standard_limits}
use Rattle.model_shapes.specs.Sorts.{shape, grove}
use Rattle.model_shapes.specs.Trees.{Trees}
use Rattle.model_terms.specs.Stores.{Store, lookup}
use Rattle.model_formulas.specs.Formulas.{Named}
use Rattle.model_formulas.specs.Nameless.{nameless}
use Rattle.model_formulas.specs.Satisfaction.{Environment, Meets, with_store}
use Rattle.model_watch.specs.Watchable.{first_unwatchable}
use Rattle.model_watch.specs.WatchLimits.{watching_limit}
use Rattle.dom_terms.specs.Limits.{limit_kind_of}
use Rattle.dom_watch.specs.declared.faults.WatchFault.{WatchFault}
use Rattle.dom_watch.specs.declared.faults.WatchFault.TheVariants as w

-- The answer is whether the grove meets the formula, in the store and every environment.
abbrev pub TellsMet : Bool → Named → Store → Trees → Type 0
TellsMet met p store g = (e : Environment)
    → MatchBool met (Meets (nameless p) (with_store (lookup store) e) (shape grove) g)
    (Meets (nameless p) (with_store (lookup store) e) (shape grove) g → ⊥)

-- A fault has its cause, the first in this order: a part that can't be watched, then a limit that
-- is passed on a grove of so many nodes. An answer has none. Want of memory is free.
abbrev pub Causes : {A : Type 0} → Named → Store → ℕ → Result A WatchFault → Type 0
Causes p store nodes (Ok met) =
    (first_unwatchable p ≡ None) × (watching_limit standard_limits store nodes p ≡ None)
Causes p store nodes (Err (w.NotWatchable part)) = first_unwatchable p ≡ Some part
Causes p store nodes (Err (w.Limit kind)) =
    (first_unwatchable p ≡ None)
    × (watching_limit standard_limits store nodes p ≡ Some (limit_kind_of kind))
Causes p store nodes (Err w.OutOfMemory) = Unit {0}

-- Whether the formula can be watched, and else its first part that can't. Want of memory is free.
abbrev pub TellsFirst : Named → Result Unit WatchFault → Type 0
TellsFirst p (Ok done) = first_unwatchable p ≡ None
TellsFirst p (Err (w.NotWatchable part)) = first_unwatchable p ≡ Some part
TellsFirst p (Err (w.Limit kind)) = ⊥
TellsFirst p (Err w.OutOfMemory) = Unit
