use Rattle.std.proofs.Common.{◌≡◌}
use Rattle.model_shapes.specs.Values.{node_number}
use Rattle.model_groves.specs.Groves.{node_at}
use Rattle.model_machine.specs.Machine.{inserting_at}
use Rattle.grove_data.specs.Finding.{number_or_null}
use Rattle.grove_data.specs.Trees.{forest_of}
use Rattle.dom_meaning.specs.declared.plain.Picked.{Picked}
use Rattle.dom_meaning.proofs.PlainLaws.{plain_fault}
use Rattle.dom_meaning.proofs.plain.PickedDocument.insert_child.Goals as goal

pub returns-in-Err : goal.returns-in-Err
returns-in-Err c = λ store.
    let grove = forest_of c.args.self.now.grove in
    plain_fault Unit (λ (document : Picked) trees. trees ≡ forest_of document.grove)
    (inserting_at (number_or_null c.args.next) (node_at (node_number c.args.parent) grove)
    (node_at (node_number c.args.child) grove) store grove)
    store c.in-Err.fault c.args.self.now (c.in-Err.ensures store)
