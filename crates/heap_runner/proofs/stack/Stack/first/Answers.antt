use Rattle.std.proofs.Common.{◌∙◌, sym, ap}
use Rattle.heap_runner.specs.Stacks.{StackView}
use Rattle.heap_runner.proofs.StackLaws.{first_among}
use Rattle.heap_runner.proofs.stack.Stack.first.Goals as goal

pub returns : goal.returns
returns c =
    let found = first_among c.self.inside.pieces.items c.in-Some.field-0-1.now c.in-Some.last.now _
    (sym c.deref.ensures.value ∙ c.in-Some.ensures.cases.0) c.first.ensures in
    (found.0, sym (ap (λ (v : StackView). v.pieces) c.self.view_is) ∙ found.1)
