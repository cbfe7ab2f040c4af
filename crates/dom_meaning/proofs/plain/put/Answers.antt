use Rattle.std.proofs.Common.{ℕ, Option, sym, subst}
use Rattle.model_machine.specs.Machine.{inserting_at}
use Rattle.grove_data.specs.Finding.{number_or_null}
use Rattle.grove_data.specs.Trees.{tree_of, forest_of}
use Rattle.dom_meaning.specs.Plain.{MovesTo}
use Rattle.dom_meaning.proofs.plain.put.Goals as goal

pub returns-in-Some : goal.returns-in-Some
returns-in-Some c = λ store.
    subst (λ (z : Option ℕ). MovesTo (inserting_at (number_or_null z) (tree_of c.args.parent.now)
    (tree_of c.args.child.now) store (forest_of c.args.grove.now)) store c.put_before.result)
    (sym c.in-Some.is) (c.put_before.ensures store)

pub returns-in-None : goal.returns-in-None
returns-in-None c = λ store.
    subst (λ (z : Option ℕ). MovesTo (inserting_at (number_or_null z) (tree_of c.args.parent.now)
    (tree_of c.args.child.now) store (forest_of c.args.grove.now)) store c.appended.result)
    (sym c.in-None.is) (c.appended.ensures store)
