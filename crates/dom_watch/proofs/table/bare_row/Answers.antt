use Rattle.std.proofs.Common.{Bor, refl}
use Rattle.model_shapes.specs.Values.{str}
use Rattle.dom_terms.specs.declared.text.Text.{Text}
use Rattle.dom_watch.proofs.Reading.{is_read, no_fault, row_stands}
use Rattle.dom_watch.proofs.table.bare_row.Goals as goal

pub unreachable-requires : goal.unreachable-requires
unreachable-requires c =
    no_fault c.args.heap.now.grove c.requires.shaped c.args.number c.requires.known
    (λ (name : Bor Text). str name.now) _ _ c.in_default.field-0 c.in_default.ensures

pub returns-clause-stands : goal.returns-clause-stands
returns-clause-stands c =
    row_stands c.args.heap.now.grove c.requires.shaped c.args.number c.requires.known _ refl
    (is_read c.args.heap.now.grove c.requires.shaped c.args.number c.requires.known _ _ _
    c.in-Ok.name c.in-Ok.ensures)
    (is_read c.args.heap.now.grove c.requires.shaped c.args.number c.requires.known _ _ _
    c.in-Ok-child_list.list c.in-Ok-child_list.ensures)
