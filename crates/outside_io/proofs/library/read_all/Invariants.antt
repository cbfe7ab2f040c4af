use Rattle.std.proofs.Common.{◌≡◌, ℕ, ◌≤◌, ◌+◌, ◌-◌, length, List, drop, ◌++◌, Some}
use Rattle.outside_io.specs.declared.library.TheConstants.{MOST_BYTES}
use Rattle.outside_io.specs.Causes.{Told}
use Rattle.outside_io.proofs.library.read_all.Given as goal

abbrev pub invariant-pieces : goal.invariant-pieces
invariant-pieces g l =
    record {
      small : length l.found.items ≤ MOST_BYTES;
      begun :
          Told (g.L.Library.book l.initial.library l.name)
          (λ b. l.found.items ++ drop (length l.found.items) b ≡ b);
      kept :
          (other : List ℕ)
          → Told (g.L.Library.book l.initial.library other)
          (λ b. g.L.Library.book l.library other ≡ Some b);
      later :
          (other : List ℕ)
          → g.L.Library.faults l.initial.library other ≤ g.L.Library.faults l.library other;
    }

abbrev pub decreases-pieces : goal.decreases-pieces
decreases-pieces g l = MOST_BYTES + 1 - length l.found.items
