use Rattle.std.proofs.Common.{arith, ap}
use Rattle.grove_data.specs.Trees.{forest_of}
use Rattle.grove_data.specs.LettingGo.{waiting}
use Rattle.grove_data.proofs.LettingGo.{waiting_row}
use Rattle.grove_data.proofs.letting_go.last_kids.Goals as goal

pub returns : goal.returns
returns c = omega (
  arith,
  ap (λ trees. waiting (forest_of trees)) c.in_ok-last.ensures,
  waiting_row c.pop.new.self c.in_ok-last.last,
)
