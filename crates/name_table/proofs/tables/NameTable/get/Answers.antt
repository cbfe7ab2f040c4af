-- A name in the row, and one that can be among the others alone.
use Rattle.std.proofs.Common.{◌≡◌, ◌∙◌, ap, refl, arith, length, get_or}
use Rattle.std.specs.List.{position_or_len}
use Rattle.name_table.specs.Found.{found}
use Rattle.name_table.proofs.RowLaws.{has, in_first, in_other, no_other, no_place, value_at_place}
use Rattle.name_table.proofs.tables.NameTable.get.Goals as goal

pub returns-in-Some : goal.returns-in-Some
unfolding found
returns-in-Some g c =
    let row = c.args.self.now.few.items in
    in_first _ _ _ (value_at_place c.args.name.now row c.place_of.result c.in-Some.entry.now
    (c.place_of.ensures ∙ ap (position_or_len (has c.args.name.now)) c.deref-2.ensures.value)
    (omega (arith, c.in-Some.ensures.lookup, ap length c.deref.ensures.value))
    (c.in-Some.ensures.lookup.1
    ∙ ap (λ xs. get_or xs c.place_of.result c.in-Some.entry.now) c.deref.ensures.value))

pub returns-in-None : goal.returns-in-None
unfolding found
returns-in-None g c =
    let row = c.args.self.now.few.items in
    let place = c.place_of.ensures
    ∙ ap (position_or_len (has c.args.name.now)) c.deref-2.ensures.value in
    in_other _ _ _ (no_place c.args.name.now row
    (omega (arith, place, c.in-None.ensures.lookup.3, ap length c.deref.ensures.value)))
    (no_other c.args.self.now.others c.args.name.now (c.if-is_empty.ensures.0 refl))

pub returns-in-None-2 : goal.returns-in-None-2
unfolding found
returns-in-None-2 g c =
    let row = c.args.self.now.few.items in
    let place = c.place_of.ensures
    ∙ ap (position_or_len (has c.args.name.now)) c.deref-2.ensures.value in
    in_other _ _ _ (no_place c.args.name.now row
    (omega (arith, place, c.in-None.ensures.lookup.3, ap length c.deref.ensures.value)))
    (c.copied.ensures ∙ c.get-in-None-2.ensures.value)
