-- What is asked of the tokens of a text before it is read: how many brackets are open at one token,
-- and how long the text is that a literal stands for.
use Rattle.std.specs.Prelude.{ℕ, ◌+◌, ◌-◌, Bool, true, false, ◌||◌, cond, List, [], ◌∷◌, length, map, bytes_eq, codes, nat_le, Option, None}
use Rattle.model_limits.specs.Limits.{LimitKind, nesting_limit, text_limit, standard_limits}
use Rattle.model_limits.specs.FirstOf.{or_else, unless}
use Rattle.model_text.specs.Tokens.{tokens_of}
use Rattle.model_text.specs.Lexemes.{Lexeme, terminal, literal_lexeme, lexeme_of}

-- what the grammar sees of the bytes
abbrev pub lexemes_of : List ℕ → List Lexeme
lexemes_of bytes = map lexeme_of (tokens_of bytes)

-- the lexeme is this terminal
abbrev pub is_the : List ℕ → Lexeme → Bool
is_the text (terminal other) = bytes_eq other text
is_the text lexeme = false

-- opening and closing brackets
abbrev pub opens : Lexeme → Bool
opens lexeme = is_the (codes "(") lexeme || (is_the (codes "[") lexeme
    || (is_the (codes "{") lexeme || is_the (codes "<") lexeme))

abbrev pub closes : Lexeme → Bool
closes lexeme = is_the (codes ")") lexeme || (is_the (codes "]") lexeme
    || (is_the (codes "}") lexeme || is_the (codes ">") lexeme))

-- how many brackets are open behind a lexeme, where so many are open before it
abbrev pub open_behind : ℕ → Lexeme → ℕ
open_behind before lexeme = cond (opens lexeme) (before + 1)
    (cond (closes lexeme) (before - 1) before)

-- a literal stands for no longer text than the most
abbrev pub text_within : Lexeme → Bool
text_within (literal_lexeme text) = nat_le (length text) standard_limits.text_bytes
text_within lexeme = true

-- the limit that a lexeme passes, where so many brackets are open before it: that of open brackets,
-- with this as the most, or that of its text
abbrev pub lexeme_limit : ℕ → ℕ → Lexeme → Option LimitKind
lexeme_limit most before lexeme =
    or_else (unless (nat_le (open_behind before lexeme) most) nesting_limit)
    (unless (text_within lexeme) text_limit)

-- the limit that the first lexeme passes that passes one
abbrev pub token_limit : ℕ → ℕ → List Lexeme → Option LimitKind
token_limit most before [] = None
token_limit most before (lexeme ∷ rest) =
    or_else (lexeme_limit most before lexeme)
    (token_limit most (open_behind before lexeme) rest)
