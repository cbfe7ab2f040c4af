use Rattle.std.proofs.Common.{◌∙◌, ap}
use Rattle.grove_data.specs.declared.trees.Tree.{Tree, roll-Tree}
use Rattle.grove_data.specs.declared.trees.Tree.TheOpen.{Tree-F}
use Rattle.grove_data.specs.declared.trees.Tree.TheViews.{out-roll-Tree}
use Rattle.node_heap.proofs.Leaves.{on_ok}
use Rattle.node_heap.proofs.writing.push_leaf.Goals as goal

pub returns : goal.returns
returns c =
    let fields : Tree-F Tree = record {
      name = c.in_ok-copy.field-0;
      id = c.args.node.now.number;
      kids = c.new.result;
      list = c.args.node.now.list;
    } in
    on_ok c.push.result (λ e. record {
      leaf = roll-Tree fields;
      at_end = e;
      name = ap (λ (t : Tree-F Tree). t.name) (out-roll-Tree fields) ∙ c.in_ok-copy.ensures;
      id = ap (λ (t : Tree-F Tree). t.id) (out-roll-Tree fields);
      list = ap (λ (t : Tree-F Tree). t.list) (out-roll-Tree fields);
    }) c.push.ensures.ok
