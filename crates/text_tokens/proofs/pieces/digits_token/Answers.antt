use Rattle.std.proofs.Common.{map, take, sym, ap, ◌∙◌}
use Rattle.std.proofs.lemmas.List.{take-map}
use Rattle.model_text.specs.Tokens.{digits_piece}
use Rattle.text_tokens.proofs.pieces.digits_token.Goals as goal

pub returns : goal.returns
returns g c =
    let code = g.C.Letter.code in
    let text = c.args.text.now in
    c.digits_piece.ensures ∙ ap digits_piece (sym (take-map code c.run_length.result text)
    ∙ ap (λ n. take n (map code text)) c.run_length.ensures.value)
