use Rattle.std.proofs.Common.{◌≡◌, subst}
use Rattle.std.specs.Prelude.{drop}
use Rattle.model_text.specs.Tokens.{token_piece, symbol_token, piece_at}
use Rattle.text_tokens.proofs.WithinLemmas.{symbol_near, angle_near, symbol_found}
use Rattle.text_tokens.proofs.ascii_watching.near_symbol.Goals as goal
use Rattle.text_tokens.proofs.ascii_watching.near_symbol.Goals.{else-length-eq1-via-then-length-eq1+else-bytes-place-eq60, else-length-eq1-via-else-length-eq1}

pub returns-in_ok-opened : goal.returns-in_ok-opened
returns-in_ok-opened c =
    let length = c.in_ok-length.ensures in
    let behind = c.in_ok-opened.ensures in
    let e = symbol_found c.args.bytes.now c.args.place c.in_ok-length.length c.symbol_from.result
    c.requires.within c.requires.begins c.symbol_from.ensures length.0 length.1 in
    angle_near c.args.bytes.now c.args.place c.args.most c.args.before c.in_ok-opened.field-0
    c.requires.ascii c.requires.within c.if-bytes-place-eq60.true
    (subst (λ n. token_piece symbol_token n ≡ piece_at (drop c.args.place c.args.bytes.now))
    c.if-length-eq1.true e) behind.0 behind.1

pub returns-else-length-eq1 : goal.returns-else-length-eq1
returns-else-length-eq1 c =
    let length = c.in_ok-length.ensures in
    symbol_near c.args.bytes.now c.args.place c.in_ok-length.length c.args.most c.args.before
    c.requires.ascii c.requires.within c.requires.begins
    (symbol_found c.args.bytes.now c.args.place c.in_ok-length.length c.symbol_from.result
    c.requires.within c.requires.begins c.symbol_from.ensures length.0 length.1)
    (elim c.else-length-eq1.branch [
      | else-length-eq1-via-then-length-eq1+else-bytes-place-eq60 w ↦
          λ _. w.if-bytes-place-eq60.false
      | else-length-eq1-via-else-length-eq1 w ↦ λ e. absurd (w.if-length-eq1.false e)
    ])
    c.requires.few
