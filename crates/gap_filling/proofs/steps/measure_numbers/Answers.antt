use Rattle.std.proofs.Common.{◌≡◌, [], false, true, length, nat_eq, ap, ◌∙◌}
use Rattle.model_grammar.specs.TheoryWriting.{number_lexemes}
use Rattle.gap_filling.proofs.Marks.{brackets_room}
use Rattle.gap_filling.proofs.StepRooms.{words_fit}
use Rattle.gap_filling.proofs.steps.measure_numbers.Goals as goal

pub returns-clause-room : goal.returns-clause-room
returns-clause-room c =
    let some : c.args.numbers.now ≡ [] → ⊥ =
    λ e. (let h : false ≡ true = c.if-is_empty.ensures ∙ ap (λ z. nat_eq (length z) 0) e in cc) in
    rw (c.token-2.ensures, c.measure_marked_numbers.ensures)
    (brackets_room number_lexemes c.args.numbers.now some c.args.meter.now)

pub returns-clause-small : goal.returns-clause-small
returns-clause-small c = words_fit c.args.numbers.now c.type_inv.numbers
