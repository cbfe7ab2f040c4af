use Rattle.std.proofs.Common.{◌-◌, ℕ, ◌<◌, ◌≤◌, length, get_or}
use Rattle.node_heap.specs.declared.index.Pair.{Pair}
use Rattle.node_heap.proofs.index.find.Given as goal

abbrev pub invariant-loop-low : goal.invariant-loop-low
invariant-loop-low l = record {
  order : l.low ≤ l.high;
  within : l.high ≤ length l.index;
  below : (k : ℕ) (d : Pair) → k < l.low → (get_or l.index k d).number < l.number;
  above : (k : ℕ) (d : Pair) → l.high ≤ k → k < length l.index
      → l.number < (get_or l.index k d).number;
}

abbrev pub decreases-loop-low : goal.decreases-loop-low
decreases-loop-low l = l.high - l.low
