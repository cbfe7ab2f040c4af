use Rattle.std.proofs.Common.{sym, subst}
use Rattle.model_machine.specs.Machine.{inserting}
use Rattle.grove_data.specs.Trees.{tree_of, forest_of}
use Rattle.dom_meaning.specs.Plain.{MovesTo}
use Rattle.dom_meaning.proofs.plain.put_before.Goals as goal

pub returns-in-Some : goal.returns-in-Some
returns-in-Some c = λ store.
    subst (λ z. MovesTo (inserting (tree_of c.args.parent.now) (tree_of c.args.child.now) z store
    (forest_of c.args.grove.now)) store c.inserted_before.result) (sym c.in-Some.ensures)
    (c.inserted_before.ensures store)
