-- Lexemes of tokens that are seen alike in a file of any version. Readers complete with them what
-- they have read.
use Rattle.std.proofs.Common.{◌≡◌, List, [], ◌∷◌, ◌++◌, ℕ, true, refl, map, bytes_eq, codes}
use Rattle.std.specs.List.{list_any}
use Rattle.model_text.specs.Lexemes.{Lexeme, terminal, step_word, name_lexeme, logic_lexeme, number_lexeme, literal_lexeme}
use Rattle.model_text.specs.FaultTokens.{IsOfToken, AreOfTokens}
use Rattle.model_text.specs.Versions.{reserving}
use Rattle.model_text.proofs.OfTokens as tokens
use Rattle.model_text.proofs.OfTokens.{terminals}

-- the lexeme is of a token, and is seen so where insertBefore is reserved too
abbrev pub IsUsual : Lexeme → Type 0
IsUsual lexeme = IsOfToken lexeme × (reserving lexeme ≡ lexeme)

abbrev pub AreUsual : List Lexeme → Type 0
AreUsual [] = Unit
AreUsual (lexeme ∷ rest) = IsUsual lexeme × AreUsual rest

-- words and symbols, one name, one logic name, one number, one literal and the word step
pub is_seen : (text : List ℕ) → list_any (bytes_eq text) terminals ≡ true
    → IsUsual (terminal text)
is_seen text e = (tokens.is_seen text e, refl)

pub name_seen : IsUsual (name_lexeme (codes "x"))
name_seen = (tokens.name_seen, refl)

pub logic_seen : IsUsual (logic_lexeme (codes "$x"))
logic_seen = (tokens.logic_seen, refl)

pub number_seen : IsUsual (number_lexeme 1)
number_seen = (tokens.number_seen, refl)

pub literal_seen : IsUsual (literal_lexeme [])
literal_seen = (tokens.literal_seen, refl)

pub step_seen : IsUsual (step_word 1)
step_seen = (tokens.step_seen, refl)

-- the words for sorts
pub node_seen : IsUsual (name_lexeme (codes "node"))
node_seen = (tokens.node_seen, refl)

pub g_seen : IsUsual (name_lexeme (codes "g"))
g_seen = (tokens.g_seen, refl)

-- those of two lists
pub seen_both : (front rest : List Lexeme) → AreUsual front → AreUsual rest
    → AreUsual (front ++ rest)
seen_both [] rest each others = others
seen_both (first ∷ front) rest each others = (each.0, seen_both front rest each.1 others)

-- they are of tokens, and stay where insertBefore is reserved
pub of_tokens : (lexemes : List Lexeme) → AreUsual lexemes → AreOfTokens lexemes
of_tokens [] h = tt
of_tokens (first ∷ rest) h = (h.0.0, of_tokens rest h.1)

pub kept : (lexemes : List Lexeme) → AreUsual lexemes → map reserving lexemes ≡ lexemes
kept [] h = refl
kept (first ∷ rest) h = λ j. h.0.1 j ∷ kept rest h.1 j
