-- What follows where answers are equal.
use Rattle.std.proofs.Common.{◌≡◌, ◌∙◌, ℕ, List, Bool, true, false, refl, sym, ap, Some, None}
use Rattle.model_shapes.proofs.Truth.{false≢true}
use Rattle.domcheck_core.specs.Answers.{Answer}
use Rattle.domcheck_core.specs.declared.status.Status.{Status}
use Rattle.domcheck_core.specs.declared.status.Status.TheVariants as status
use Rattle.dom_terms.specs.declared.limits.LimitKind as own

-- an answer has its status, and is one
pub status_is : (a : Answer) (s : Status) (o : List ℕ) → Some a ≡ Some (s, o) → a.0 ≡ s
status_is a s o e = cc

pub none_is : (a : Answer) → None ≡ Some a → ⊥
none_is a e = cc

-- want of memory is no fault of the library
pub memory_is_no_fault : status.OutOfMemory ≡ status.ReadFault → ⊥
memory_is_no_fault e = cc

-- the status is that of a limit
abbrev is_limit : Status → Bool
is_limit (status.Limit kind) = true
is_limit s = false

-- any other status is that of no limit
pub no_limit : (t s : Status) (kind : own.LimitKind) → is_limit t ≡ false → t ≡ s
    → s ≡ status.Limit kind → ⊥
no_limit t s kind other e q = absurd (false≢true (sym other ∙ ap is_limit (e ∙ q)))
