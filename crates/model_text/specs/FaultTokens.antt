-- Where a list of lexemes goes wrong.
use Rattle.std.specs.Prelude.{◌≡◌, ℕ, ◌+◌, ◌<◌, ◌≤◌, List, [], ◌∷◌, ◌++◌, length, take, slice_get, Some}
use Rattle.model_text.specs.Lexemes.{Lexeme}
use Rattle.model_text.specs.Nesting.{lexemes_of}

-- some token has the lexeme: it stands in some text
pub record IsOfToken (lexeme : Lexeme) : Type 0 where
  pub bytes : List ℕ
  pub place : ℕ
  pub found : slice_get (lexemes_of bytes) place ≡ Some lexeme

-- each of the lexemes is one that some token has
abbrev pub AreOfTokens : List Lexeme → Type 0
AreOfTokens [] = Unit
AreOfTokens (lexeme ∷ rest) = IsOfToken lexeme × AreOfTokens rest

-- some spelling begins with these lexemes, and the others that it has are of tokens
abbrev pub Begins : {A : Type 0} → (A → List Lexeme → Type 0) → List Lexeme → Type 0
Begins {A} Spells front =
    (a : A) × (rest : List Lexeme) × Spells a (front ++ rest) × AreOfTokens rest

-- The least k such that no spelling begins with the first k lexemes, or one more than the length
-- where each prefix begins one.
pub record IsFaultToken {A : Type 0} (Spells : A → List Lexeme → Type 0)
    (lexemes : List Lexeme) (k : ℕ) : Type 0 where
  pub positive : 0 < k
  pub in_range : k ≤ length lexemes + 1
  pub before : (j : ℕ) → j < k → Begins Spells (take j lexemes)
  pub here : k ≤ length lexemes → Begins Spells (take k lexemes) → ⊥
