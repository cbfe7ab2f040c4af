use Rattle.std.proofs.Common.{◌∙◌, ◌++◌, ◌+◌, ap, arith}
use Rattle.heap_runner.specs.Stacks.{StackView}
use Rattle.heap_runner.specs.Pieces.{pieces_seen, pending_seen}
use Rattle.heap_runner.proofs.StackLaws.{seen-last, few_returns, one_return, returns_put}
use Rattle.heap_runner.proofs.stack.Stack.push.Goals as goal

pub overflow_add-self : goal.overflow_add-self
overflow_add-self c =
    let o = c.self.inside.pieces.ok in
    let few = few_returns c.self.inside.pieces.items in
    let one = one_return c.args.piece in
    let room = ap (λ (v : StackView). v.room) c.self.view_is in
    let kept = c.self.invariant in
    omega (arith, o.0, o.1, few, one, room, kept, c.returns.ensures)

pub invariant_of-self : goal.invariant_of-self
invariant_of-self c =
    ap (λ n. c.self.inside.returns + n) c.returns.ensures
    ∙ returns_put c.self.inside.pieces.items c.push_reserved.new.self.items c.args.piece
    c.self.inside.returns c.push_reserved.ensures.items c.self.invariant

pub returns-clause-pieces : goal.returns-clause-pieces
returns-clause-pieces c =
    ap pending_seen c.push_reserved.ensures.items
    ∙ seen-last c.self.inside.pieces.items c.args.piece
    ∙ ap (λ (v : StackView). pieces_seen c.args.piece ++ v.pieces) c.self.view_is
