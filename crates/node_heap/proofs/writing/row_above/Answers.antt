use Rattle.std.proofs.Common.{[], refl}
use Rattle.node_heap.proofs.Texts.{stack-last}
use Rattle.node_heap.proofs.writing.row_above.Goals as goal

pub returns-in-Some-clause-row : goal.returns-in-Some-clause-row
returns-in-Some-clause-row c =
    rw (c.in-Some.ensures.items, stack-last c.pop.new.self.items c.in-Some.row []) refl

pub returns-in-Some-clause-outer : goal.returns-in-Some-clause-outer
returns-in-Some-clause-outer c =
    rw (c.in-Some.ensures.items, stack-last c.pop.new.self.items c.in-Some.row []) refl
