-- Needn't be believed: the lexemes up to the first that passes a limit.
use Rattle.std.specs.Prelude.{ℕ, List, [], ◌∷◌, Option, Some, None}
use Rattle.model_limits.specs.Limits.{LimitKind}
use Rattle.model_text.specs.Lexemes.{Lexeme, bad_lexeme}
use Rattle.model_text.specs.Nesting.{lexeme_limit, open_behind}

-- a lexeme and those behind it, or a bad one alone where it passes a limit
abbrev pub unless_passing : Option LimitKind → Lexeme → List Lexeme → List Lexeme
unless_passing None lexeme rest = lexeme ∷ rest
unless_passing (Some limit) lexeme rest = bad_lexeme ∷ []

-- the lexemes up to the first that passes a limit, where so many brackets are open before them; in
-- its place a bad one stands
abbrev pub within_limits : ℕ → ℕ → List Lexeme → List Lexeme
within_limits most before [] = []
within_limits most before (lexeme ∷ rest) =
    unless_passing (lexeme_limit most before lexeme) lexeme
    (within_limits most (open_behind before lexeme) rest)

-- the same where the first passes none, and so many are open behind it
abbrev pub behind_first : ℕ → ℕ → List Lexeme → List Lexeme
behind_first most behind [] = []
behind_first most behind (lexeme ∷ rest) = lexeme ∷ within_limits most behind rest
