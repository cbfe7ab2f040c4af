-- Tokens of small texts, computed.
use Rattle.std.proofs.Common.{◌≡◌, ℕ, List, [], ◌∷◌, map, codes, refl}
use Rattle.model_text.specs.Lexemes.{terminal, name_lexeme, lexeme_of}
use Rattle.model_text.specs.Tokens.{Token, TokenKind, word_token, symbol_token, bad_token, literal_token, number_token, tokens_of}
use Rattle.model_text.proofs.Computing.{lexing}

abbrev token : TokenKind → List ℕ → ℕ → ℕ → ℕ → Token
token kind text start finish line =
    record { kind = kind; text = text; start = start; finish = finish; line = line }

-- a comment isn't seen, but its newline counts
words : tokens_of (codes "proc a() // x\n0g")
    ≡ token word_token (codes "proc") 0 4 1 ∷ token word_token (codes "a") 5 6 1
    ∷ token symbol_token (codes "(") 6 7 1 ∷ token symbol_token (codes ")") 7 8 1
    ∷ token symbol_token (codes "0g") 14 16 2 ∷ []
unfolding lexing
words = refl

-- a run of digits and letters is read whole
run : tokens_of (codes "0fx") ≡ token bad_token [] 0 0 1 ∷ []
unfolding lexing
run = refl

-- the longest symbol is taken
longest : map lexeme_of (tokens_of (codes "{a-o}"))
    ≡ terminal (codes "{") ∷ name_lexeme (codes "a") ∷ terminal (codes "-o") ∷ terminal (codes "}")
    ∷ []
unfolding lexing
longest = refl

-- an escape stands for its character
literal : tokens_of (codes "\"a\\\"b\"") ≡ token literal_token (codes "a\"b") 0 6 1 ∷ []
unfolding lexing
literal = refl

-- a literal that isn't finished is bad at its quote
unfinished : tokens_of (codes "a \"b") ≡ token word_token (codes "a") 0 1 1
    ∷ token bad_token [] 2 2 1 ∷ []
unfolding lexing
unfinished = refl

-- bytes that aren't UTF-8 are bad where they stand, and in a comment too
broken : tokens_of (97 ∷ 47 ∷ 47 ∷ 255 ∷ 10 ∷ []) ≡ token word_token (codes "a") 0 1 1
    ∷ token bad_token [] 3 3 1 ∷ []
unfolding lexing
broken = refl

-- places count bytes: the two bytes of `é` are one word
accented : tokens_of (195 ∷ 169 ∷ 10 ∷ 49 ∷ [])
    ≡ token word_token (195 ∷ 169 ∷ []) 0 2 1 ∷ token number_token (codes "1") 3 4 2 ∷ []
unfolding lexing
accented = refl
