use Rattle.std.proofs.Common.{◌≡◌, [], IsTrue, false}
use Rattle.theory_writing.proofs.LineLemmas.{arguments_text}
use Rattle.theory_writing.proofs.lines.push_arguments.Goals as goal

pub returns : goal.returns
returns c =
    let some : c.args.arguments.now ≡ [] → ⊥ =
    λ e. (let h : IsTrue false = c.if-is_empty.ensures.1 e in cc) in
    rw (c.in_ok-push_bracketed.ensures, c.in_ok-push_token.ensures, c.as_slice.ensures)
    (arguments_text c.args.arguments.now some c.args.text.now)
