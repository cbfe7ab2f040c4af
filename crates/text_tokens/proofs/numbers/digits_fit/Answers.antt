use Rattle.std.proofs.Common.{map, sym, ap, ◌∙◌}
use Rattle.std.proofs.lemmas.List.{drop-map}
use Rattle.text_tokens.specs.Digits.{with_digit}
use Rattle.text_tokens.proofs.LetterLemmas.{code_at, within_codes}
use Rattle.text_tokens.proofs.NumberLemmas.{fits_after, refused_at}
use Rattle.text_tokens.proofs.numbers.digits_fit.Goals as goal

pub returns-in_default : goal.returns-in_default
returns-in_default g c =
    let code = g.C.Letter.code in
    let run = c.args.run.now in
    let letter = c.letter-item.result in
    let place = c.loop-letter.letter-index in
    let refused = refused_at c.loop-letter.value (code letter) (map code run) place (code letter)
    (within_codes code run place c.loop-letter-test.true)
    (code_at code run place letter c.loop-letter-test.true c.letter-item.is)
    (ap (with_digit c.loop-letter.value) (sym c.character.ensures)
    ∙ sym c.with_digit.ensures ∙ c.in_default.is) in
    sym refused ∙ ap (fits_after c.loop-letter.value) (drop-map code place run)
    ∙ c.loop-letter.invariant.left
