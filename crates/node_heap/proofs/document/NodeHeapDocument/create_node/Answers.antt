use Rattle.dom_terms.specs.Stores.{store_of}
use Rattle.dom_terms.specs.Terms.{prog_var_of}
use Rattle.node_heap.proofs.DocumentMoves.{made_next}
use Rattle.node_heap.proofs.document.NodeHeapDocument.create_node.Goals as goal

pub returns-clause-makes : goal.returns-clause-makes
returns-clause-makes c = (
  c.in-Some.ensures.0,
  made_next (prog_var_of c.args.variable.now) (prog_var_of c.in_ok-variable.variable) c.args.name
      (store_of c.args.store.now) (store_of c.set.new.self) c.args.self.now.grove
      c.reserve.new.self.grove c.create.new.self.grove c.in-Some.node c.in-Some.list
      c.in-Ok._numbers.0 c.in-Ok._numbers.1 c.in_ok-reserve.ensures.grove c.in-Some.ensures.0
      c.in-Ok.ensures.pick c.in_ok-variable.ensures c.in_ok-set.ensures.ok c.in-Ok.ensures.created,
)
