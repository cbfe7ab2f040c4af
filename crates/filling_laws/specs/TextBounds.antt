-- Needn't be believed: the program's promise doesn't speak of it. How long the text of a judgement
-- is.
use Rattle.std.specs.Prelude.{ℕ, length}
use Rattle.model_formulas.specs.Formulas.{Named}
use Rattle.model_commands.specs.Theories.{JudgementOf}
use Rattle.model_grammar.specs.Writing.{text_of}
use Rattle.model_grammar.specs.TheoryWriting.{judgement_lexemes}

-- the bytes of its text
abbrev pub judgement_bytes : JudgementOf Named → ℕ
judgement_bytes j = length (text_of (judgement_lexemes j))
