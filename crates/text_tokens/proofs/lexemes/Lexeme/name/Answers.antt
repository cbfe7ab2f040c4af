use Rattle.std.proofs.Common.{sym, ap, ◌∙◌}
use Rattle.model_text.specs.Lexemes.{lexeme_at}
use Rattle.text_tokens.specs.Lexemes.{meant}
use Rattle.text_tokens.specs.Tokens.{kind_of}
use Rattle.text_tokens.proofs.LexemeLemmas.{not_reserved}
use Rattle.text_tokens.proofs.lexemes.Lexeme.name.Goals as goal

pub returns-in-Word : goal.returns-in-Word
returns-in-Word c =
    let self = c.args.self in
    ap (λ kind. lexeme_at (kind_of kind) (meant kind self.is_written self.text.now) self.line)
    c.in-Word.is
    ∙ not_reserved self.text.now self.line
    (sym c.is_reserved.ensures ∙ c.if-not-is_reserved.true)
