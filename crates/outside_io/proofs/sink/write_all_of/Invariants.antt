use Rattle.std.proofs.Common.{◌≤◌, ◌-◌, length, take}
use Rattle.outside_io.specs.Pieces.{Took}
use Rattle.outside_io.proofs.sink.write_all_of.Given as goal

abbrev pub invariant-loop-at : goal.invariant-loop-at
invariant-loop-at g l =
    record {
      within : l.at ≤ length l.bytes;
      bytes : Took (g.S.Sink.taken l.initial.sink) (g.S.Sink.taken l.sink) (take l.at l.bytes);
      later : g.S.Sink.faults l.initial.sink ≤ g.S.Sink.faults l.sink;
    }

abbrev pub decreases-loop-at : goal.decreases-loop-at
decreases-loop-at g l = length l.bytes - l.at
