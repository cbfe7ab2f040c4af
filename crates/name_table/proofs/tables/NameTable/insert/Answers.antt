-- A name in the row, one that finds room there, and one among the others.
use Rattle.std.proofs.Common.{◌≡◌, ◌∙◌, ap, Some, arith, length, bytes_eq}
use Rattle.indexmap.specs.IndexMap.{get_by}
use Rattle.std.specs.List.{position_or_len}
use Rattle.std.proofs.lemmas.Map.Text.{hash_map_updates_str}
use Rattle.name_table.specs.Found.{found, or_other}
use Rattle.name_table.proofs.RowLaws.{at_end, on_err, first_changed, has, in_row, no_place, other_changed, set_at_place}
use Rattle.name_table.proofs.tables.NameTable.insert.Goals as goal

pub returns-then-place-len-clause-ok : goal.returns-then-place-len-clause-ok
unfolding found
returns-then-place-len-clause-ok g c q =
    first_changed _ c.args.value _ _ _ (set_at_place c.args.name.now q c.args.self.now.few.items
    c.place_of-place.result c.index_mut.result.now c.args.value
    (c.place_of-place.ensures
    ∙ ap (position_or_len (has c.args.name.now)) c.deref.ensures.value)
    (omega arith) c.index_mut.ensures.value)

pub returns-in_ok-push-clause-ok : goal.returns-in_ok-push-clause-ok
unfolding found
returns-in_ok-push-clause-ok g c q =
    let place = c.place_of-place.ensures
    ∙ ap (position_or_len (has c.args.name.now)) c.deref.ensures.value in
    first_changed _ c.args.value _ _ _ (ap (λ row. in_row row q) c.in_ok-push.ensures.items
    ∙ at_end c.args.name q c.args.self.now.few.items c.args.value
    (no_place c.args.name.now c.args.self.now.few.items (omega (arith, place))))

pub returns-in_ok-insert-clause-ok : goal.returns-in_ok-insert-clause-ok
unfolding found
returns-in_ok-insert-clause-ok g c q =
    let place = c.place_of-place.ensures
    ∙ ap (position_or_len (has c.args.name.now)) c.deref.ensures.value in
    other_changed c.args.name.now q c.args.value c.args.self.now.few.items _ _
    (no_place c.args.name.now c.args.self.now.few.items (omega (arith, place)))
    (hash_map_updates_str c.args.name.now c.args.self.now.others c.insert.new.self
    (Some c.args.value) c.in_ok-insert.ensures.updates q)

pub returns-in_err-push-clause-err : goal.returns-in_err-push-clause-err
unfolding found
returns-in_err-push-clause-err g c = on_err c.from_residual.result
    (λ q. ap (λ row. or_other (in_row row q)
    (get_by (λ k. bytes_eq q k.now) c.args.self.now.others))
    c.in_err-push.ensures.items)

pub returns-in_err-insert-clause-err : goal.returns-in_err-insert-clause-err
unfolding found
returns-in_err-insert-clause-err g c = on_err c.from_residual-in_err-insert.result
    (λ q. ap (λ entries. or_other (in_row c.args.self.now.few.items q) (in_row entries q))
    c.in_err-insert.ensures.err)
