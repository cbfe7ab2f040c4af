use Rattle.std.proofs.Common.{◌≡◌, [], false, true, length, nat_eq, ap, ◌∙◌}
use Rattle.gap_filling.proofs.Marks.{brackets_room}
use Rattle.gap_filling.proofs.items.measure_bracketed.Goals as goal

pub returns : goal.returns
returns g c =
    let some : c.args.items.now ≡ [] → ⊥ =
    λ e. (let h : false ≡ true = c.if-is_empty.ensures ∙ ap (λ z. nat_eq (length z) 0) e in cc) in
    rw (c.token-2.ensures, c.measure_marked.ensures)
    (brackets_room g.T.Item.lexemes c.args.items.now some c.args.meter.now)
