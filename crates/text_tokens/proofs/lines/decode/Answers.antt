use Rattle.std.proofs.Common.{ap, ◌∙◌, sym, ◌++◌}
use Rattle.std.proofs.lemmas.Str.{Chars-Drains, encodes-chars}
use Rattle.text_tokens.proofs.lines.decode.Goals as goal

pub returns : goal.returns
returns c = let r = c.in_ok-extend.ensures.ran in
    r.3.0 ∙ ap (λ xs. xs ++ r.1) c.clear.ensures.items
    ∙ Chars-Drains _ r.1 r.0
    (encodes-chars c.args.text.now c.utf8.text
    ∙ sym (ap (λ s. s.rest.now) r.2 ∙ c.chars.ensures.rest)) r.4
