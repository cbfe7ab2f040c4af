use Rattle.std.proofs.Common.{sym, subst}
use Rattle.model_shapes.specs.Values.{node_number}
use Rattle.model_groves.specs.Groves.{node_at}
use Rattle.model_machine.specs.Machine.{inserting_at}
use Rattle.grove_data.specs.Finding.{number_or_null}
use Rattle.grove_data.specs.Trees.{tree_of, forest_of}
use Rattle.dom_meaning.specs.Plain.{MovesTo}
use Rattle.dom_meaning.proofs.plain.inserted.Goals as goal

pub returns : goal.returns
returns c = λ store.
    let grove = forest_of c.args.grove.now in
    let next = number_or_null c.args.next in
    subst (λ z. MovesTo (inserting_at next z (node_at (node_number c.args.child) grove) store
    grove) store c.put.result) (sym c.in-Some.ensures)
    (subst (λ z. MovesTo (inserting_at next (tree_of c.in-Some.parent.now) z store grove) store
    c.put.result) (sym c.in-Some-find.ensures) (c.put.ensures store))
