-- Needn't be believed: the program's promise doesn't speak of it. How many brackets are open in what
-- is written.
use Rattle.std.specs.Prelude.{ℕ, ◌≤◌, List, [], ◌∷◌}
use Rattle.model_formulas.specs.Formulas.{Named}
use Rattle.model_commands.specs.Theories.{JudgementOf}
use Rattle.model_text.specs.Lexemes.{Lexeme}
use Rattle.model_text.specs.Nesting.{open_behind}
use Rattle.model_grammar.specs.TheoryWriting.{judgement_lexemes}

-- at each of the lexemes at most so many brackets are open, where this many are open before them
abbrev pub IsNested : ℕ → ℕ → List Lexeme → Type 0
IsNested most before [] = Unit
IsNested most before (x ∷ xs) =
    (open_behind before x ≤ most) × IsNested most (open_behind before x) xs

-- at each token of a judgement's text at most so many are
abbrev pub Nests : ℕ → JudgementOf Named → Type 0
Nests most j = IsNested most 0 (judgement_lexemes j)
