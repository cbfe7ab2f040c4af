-- The tokens that a source has to hold.
use Rattle.std.proofs.Common.{◌≡◌, ℕ, List, [], ◌∷◌, map, refl, ap, ◌∙◌}
use Rattle.model_text.specs.Lexemes.{lexeme_of}
use Rattle.model_text.specs.Nesting.{lexemes_of}
use Rattle.model_text.specs.Tokens.{tokens_of}
use Rattle.text_tokens.specs.declared.tokens.Token.{Token}
use Rattle.text_tokens.specs.Listed.{listed}
use Rattle.text_tokens.specs.Tokens.{token_of}

each_seen : (ts : List Token) → listed ts ≡ map lexeme_of (map token_of ts)
each_seen [] = refl
each_seen (t ∷ ts) = ap (λ rest. lexeme_of (token_of t) ∷ rest) (each_seen ts)

-- the lexemes of a list that has the tokens of the bytes
pub listed_all : (ts : List Token) (bytes : List ℕ) → map token_of ts ≡ tokens_of bytes
    → listed ts ≡ lexemes_of bytes
listed_all ts bytes e = each_seen ts ∙ ap (map lexeme_of) e
