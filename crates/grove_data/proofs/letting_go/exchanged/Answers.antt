use Rattle.std.proofs.Common.{◌-◌, ◌+◌, ◌*◌, ◌<◌, ◌∙◌, length, set, subst, sym, ap, List}
use Rattle.model_groves.specs.Sizes.{size}
use Rattle.grove_data.specs.Trees.{forest_of}
use Rattle.grove_data.specs.LettingGo.{waiting}
use Rattle.grove_data.specs.declared.trees.Tree.{Tree, out-Tree, roll-Tree}
use Rattle.grove_data.specs.declared.trees.Tree.TheOpen.{Tree-F}
use Rattle.grove_data.specs.declared.trees.Tree.TheViews.{out-roll-Tree}
use Rattle.grove_data.proofs.LettingGo.{less_waits}
use Rattle.grove_data.proofs.letting_go.exchanged.Goals as goal

pub returns : goal.returns
returns c =
    let fields : Tree-F Tree = record {
      name = (out-Tree c.in-Some.last.now).name;
      id = (out-Tree c.in-Some.last.now).id;
      kids = c.replace.new.dest;
      list = (out-Tree c.in-Some.last.now).list;
    } in
    subst (λ (kids : List Tree). 2 * size (forest_of kids)
    + waiting (forest_of (set c.args.row.now (length c.args.row.now - 1) (roll-Tree fields)))
    < 2 * size (forest_of c.args.row.now) + waiting (forest_of c.args.others))
    (sym c.replace.ensures.value)
    (less_waits c.args.row.now c.in-Some.last.now (roll-Tree fields) c.args.others c.requires
    c.in-Some.ensures.item.1
    (ap (λ (t : Tree-F Tree). t.kids) (out-roll-Tree fields) ∙ c.replace.ensures.after))
