use Rattle.std.proofs.Common.{lit<, None, ◌∙◌}
use Rattle.std.proofs.lemmas.Str.Pattern.{strip_prefix_char}
use Rattle.logic_text.proofs.SpaceLemmas.{no_space}
use Rattle.logic_text.proofs.tokens.without_space.Goals as goal

pub returns-in-None : goal.returns-in-None
returns-in-None c = λ s e. no_space s _ _
    (strip_prefix_char 32 c.as_str.result.now None c.in-None.ensures.cases (lit< tt)) c.new.ensures
    (c.as_str.ensures ∙ e)
