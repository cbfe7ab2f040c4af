use Rattle.std.proofs.Common.{◌<◌, not, sym, ap, ◌∙◌}
use Rattle.std.proofs.lemmas.Bool.{ltb-true}
use Rattle.text_tokens.proofs.LetterLemmas.{begin_is_ascii, begins_ascii}
use Rattle.text_tokens.proofs.words.starts_word.Goals as goal

pub returns-then-begins_ascii_word : goal.returns-then-begins_ascii_word
returns-then-begins_ascii_word c =
    let low = begin_is_ascii c.args.character
    (sym c.begins_ascii_word.ensures ∙ c.if-begins_ascii_word.true) in
    c.begins_ascii_word.ensures ∙ sym (begins_ascii c.args.character low)

pub returns-else-not-is_ascii : goal.returns-else-not-is_ascii
returns-else-not-is_ascii c =
    let low : c.args.character < 128 =
    ltb-true c.args.character 128 (sym c.is_ascii.ensures ∙ c.if-not-is_ascii.false) in
    ap not c.if-not-is_ascii.false ∙ sym (begins_ascii c.args.character low
    ∙ sym c.begins_ascii_word.ensures ∙ c.if-begins_ascii_word.false)
