use Rattle.std.proofs.Common.{arith}
use Rattle.text_tokens.proofs.WithinLemmas.{stop_settled, stop_left}
use Rattle.text_tokens.proofs.ascii_watching.stopped.Goals as goal

pub invariant_of-result : goal.invariant_of-result
invariant_of-result c = record { settled = stop_settled; few = omega arith }

pub returns : goal.returns
returns c = stop_left c.args.most 0
