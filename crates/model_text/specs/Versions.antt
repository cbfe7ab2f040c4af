-- The version of a file decides on one word: insertBefore is reserved in a file of version 2, and a
-- name elsewhere.
use Rattle.std.specs.Prelude.{◌≡◌, ◌==◌, ℕ, false, not, ◌&&◌, cond, List, ◌∷◌, map, bytes_eq, codes}
use Rattle.model_text.specs.Lexemes.{Lexeme, terminal, name_lexeme, number_lexeme}

-- the word
abbrev pub insert_word : List ℕ
insert_word = codes "insertBefore"

-- what is seen of a lexeme where the word is reserved
abbrev pub reserving : Lexeme → Lexeme
reserving (name_lexeme word) = cond (bytes_eq word insert_word) (terminal word) (name_lexeme word)
reserving lexeme = lexeme

-- and of lexemes in a file of the version
abbrev pub seen_in : ℕ → List Lexeme → List Lexeme
seen_in version lexemes = cond (version == 2) (map reserving lexemes) lexemes

-- and of those of a file, whose second is the number of its version
abbrev pub in_its_version : List Lexeme → List Lexeme
in_its_version (first ∷ number_lexeme version ∷ rest) =
    seen_in version (first ∷ number_lexeme version ∷ rest)
in_its_version lexemes = lexemes

-- a lexeme that may be seen in a file of the version: no name is the word in version 2, and in
-- another it isn't reserved
abbrev pub IsOfVersion : ℕ → Lexeme → Type 0
IsOfVersion version (name_lexeme word) = (bytes_eq word insert_word && (version == 2)) ≡ false
IsOfVersion version (terminal word) = (bytes_eq word insert_word && not (version == 2)) ≡ false
IsOfVersion version lexeme = Unit
