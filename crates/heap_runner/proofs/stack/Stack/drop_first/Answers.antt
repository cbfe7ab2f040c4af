use Rattle.std.proofs.Common.{◌∙◌, ◌-◌, Some, None, sym, ap, append-nil, arith}
use Rattle.heap_runner.specs.Stacks.{StackView}
use Rattle.heap_runner.proofs.StackLaws.{first_dropped, returns_dropped, enough_returns}
use Rattle.heap_runner.proofs.stack.Stack.drop_first.Goals as goal

pub overflow_sub-self : goal.overflow_sub-self
overflow_sub-self c =
    let enough = enough_returns c.self.inside.pieces.items c.pop.new.self.items c.in-Some.last
    c.in-Some.ensures.items in
    let kept = c.self.invariant in
    omega (arith, enough, kept, c.returns.ensures)

pub invariant_of-self-in-Some-without_first : goal.invariant_of-self-in-Some-without_first
invariant_of-self-in-Some-without_first c =
    ap (λ n. c.self.inside.returns - n) c.returns.ensures
    ∙ returns_dropped c.self.inside.pieces.items c.pop.new.self.items
    c.push_reserved.new.self.items c.in-Some.last (Some c.in-Some-without_first.left)
    c.in-Some.ensures.items c.in-Some-without_first.ensures c.push_reserved.ensures.items
    c.self.inside.returns c.self.invariant

pub invariant_of-self-in_default-without_first : goal.invariant_of-self-in_default-without_first
invariant_of-self-in_default-without_first c =
    ap (λ n. c.self.inside.returns - n) c.returns.ensures
    ∙ returns_dropped c.self.inside.pieces.items c.pop.new.self.items c.pop.new.self.items
    c.in-Some.last None c.in-Some.ensures.items c.in_default-without_first.ensures
    (sym (append-nil c.pop.new.self.items)) c.self.inside.returns c.self.invariant

pub returns-in-Some-without_first-clause-pieces :
    goal.returns-in-Some-without_first-clause-pieces
returns-in-Some-without_first-clause-pieces c = λ first others e.
    first_dropped c.self.inside.pieces.items c.pop.new.self.items c.push_reserved.new.self.items
    c.in-Some.last (Some c.in-Some-without_first.left) c.in-Some.ensures.items
    c.in-Some-without_first.ensures c.push_reserved.ensures.items first others
    (ap (λ (v : StackView). v.pieces) c.self.view_is ∙ e)

pub returns-in_default-without_first-clause-pieces :
    goal.returns-in_default-without_first-clause-pieces
returns-in_default-without_first-clause-pieces c = λ first others e.
    first_dropped c.self.inside.pieces.items c.pop.new.self.items c.pop.new.self.items
    c.in-Some.last None c.in-Some.ensures.items c.in_default-without_first.ensures
    (sym (append-nil c.pop.new.self.items)) first others
    (ap (λ (v : StackView). v.pieces) c.self.view_is ∙ e)
