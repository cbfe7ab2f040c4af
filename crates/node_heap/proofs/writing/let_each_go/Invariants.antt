use Rattle.std.proofs.Common.{vec_len}
use Rattle.node_heap.proofs.writing.let_each_go.Given as goal

abbrev pub decreases-loop-row : goal.decreases-loop-row
decreases-loop-row l = vec_len l.rows
