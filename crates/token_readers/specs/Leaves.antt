-- Needn't be believed: the program's promise doesn't speak of it. What single lexemes stand for in
-- the grammar.
use Rattle.model_limits.specs.Limits.{standard_limits}
use Rattle.std.specs.Prelude.{◌≡◌, ℕ, nat_le, cond, ◌||◌, List, Option, Some, None, bytes_eq, codes}
use Rattle.model_text.specs.Versions.{insert_word}
use Rattle.model_text.specs.Lexemes.{Lexeme, terminal, step_word, name_lexeme, number_lexeme, is_reserved}
use Rattle.token_readers.specs.Reading.{first}
pub use Rattle.text_tokens.specs.Lexemes.{lexeme_seen, listed, lexemes_in}

-- a name
abbrev pub leaf_name : Lexeme → Option (List ℕ)
leaf_name (name_lexeme w) = Some w
leaf_name _ = None

-- any word
abbrev pub leaf_word : Lexeme → Option (List ℕ)
leaf_word (name_lexeme w) = Some w
leaf_word (step_word line) = Some (codes "step")
leaf_word (terminal w) = cond (is_reserved w || bytes_eq w insert_word) (Some w) None
leaf_word _ = None

-- a number of at most 32 bits
abbrev pub leaf_number : Lexeme → Option ℕ
leaf_number (number_lexeme n) = cond (nat_le n standard_limits.numeral) (Some n) None
leaf_number _ = None

-- the word `step`, with its line
abbrev pub leaf_step : Lexeme → Option ℕ
leaf_step (step_word line) = Some line
leaf_step _ = None

-- the word `step` doesn't come first, and no lexeme was taken
abbrev pub NoStep : List Lexeme → List Lexeme → Type 0
NoStep before behind = (first leaf_step before ≡ None) × (behind ≡ before)
