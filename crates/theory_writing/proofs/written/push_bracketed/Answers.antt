use Rattle.std.proofs.Common.{◌≡◌, [], false, true, length, nat_eq, ap, ◌∙◌}
use Rattle.theory_writing.proofs.MarkLemmas.{brackets_text}
use Rattle.theory_writing.proofs.written.push_bracketed.Goals as goal

pub returns : goal.returns
returns g c =
    let some : c.args.items.now ≡ [] → ⊥ =
    λ e. (let h : false ≡ true = c.if-is_empty.ensures ∙ ap (λ z. nat_eq (length z) 0) e in cc) in
    rw (c.in_ok-push_token-3.ensures, c.in_ok-push_marked.ensures)
    (brackets_text g.W.Writer.lexemes c.args.items.now some c.args.text.now)
