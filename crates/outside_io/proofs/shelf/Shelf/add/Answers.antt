use Rattle.std.proofs.Common.{Some, ap, ◌∙◌}
use Rattle.outside_io.specs.Shelves.{bytes_in, faults_in}
use Rattle.outside_io.proofs.Entries.{find-push_here, find-push_elsewhere}
use Rattle.outside_io.proofs.shelf.Shelf.add.Goals as goal

pub returns-clause-book : goal.returns-clause-book
returns-clause-book c =
    let none = rw (← c.self.view_is) at c.requires in
    rw c.in_ok-push.ensures.items
    (ap bytes_in (find-push_here _ _ _ c.in_ok-from_str.ensures.ok none)
    ∙ ap Some c.in_ok-from_slice.ensures.items)

pub returns-clause-count : goal.returns-clause-count
returns-clause-count c =
    let none = rw (← c.self.view_is) at c.requires in
    rw (c.in_ok-push.ensures.items, ← c.self.view_is)
    (ap (faults_in c.self.inside.further) (find-push_here _ _ _ c.in_ok-from_str.ensures.ok none))

pub returns-clause-others : goal.returns-clause-others
returns-clause-others c = λ other differs.
    rw (c.in_ok-push.ensures.items, ← c.self.view_is)
    (ap bytes_in (find-push_elsewhere _ _ other _ c.in_ok-from_str.ensures.ok differs))

pub returns-clause-counts : goal.returns-clause-counts
returns-clause-counts c = λ other differs.
    rw (c.in_ok-push.ensures.items, ← c.self.view_is)
    (ap (faults_in c.self.inside.further)
    (find-push_elsewhere _ _ other _ c.in_ok-from_str.ensures.ok differs))
