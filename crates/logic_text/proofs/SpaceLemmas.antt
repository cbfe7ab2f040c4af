-- Lexemes with a space before each, without the first space.
use Rattle.std.proofs.Common.{◌≡◌, ◌≢◌, ℕ, List, [], ◌∷◌}
use Rattle.model_text.specs.Lexemes.{Lexeme}
use Rattle.model_grammar.specs.Writing.{spaced, text_of}

-- where there is no space there is no lexeme
pub no_space : (s : List Lexeme) (text made : List ℕ) → ((rest : List ℕ) → text ≢ 32 ∷ rest)
    → made ≡ [] → text ≡ spaced s → made ≡ text_of s
no_space [] text made none m e = m
no_space (first ∷ s) text made none m e = absurd (none _ e)
