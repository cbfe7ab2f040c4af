use Rattle.grove_data.specs.Trees.{forest_of}
use Rattle.grove_data.proofs.Parents.{root_alone, parent_found}
use Rattle.grove_data.proofs.finding.parent_of.Goals as goal

pub returns-then-has_root-clause-parent : goal.returns-then-has_root-clause-parent
returns-then-has_root-clause-parent c =
    root_alone c.args.id (forest_of c.args.grove.now) c.requires c.if-has_root.ensures

pub returns-clause-parent : goal.returns-clause-parent
returns-clause-parent c =
    parent_found c.args.id (forest_of c.args.grove.now) c.in_ok-parent.parent.now
    c.in_ok-parent.ensures
