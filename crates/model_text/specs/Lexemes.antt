-- What the grammar sees of a token.
use Rattle.std.specs.Prelude.{ℕ, Bool, List, [], ◌∷◌, bytes_eq, codes, if◌then◌else◌}
use Rattle.std.specs.List.{list_any}
use Rattle.std.specs.Str.Parse.{digits_value}
use Rattle.model_text.specs.Tokens.{TokenKind, word_token, logic_token, number_token, literal_token, symbol_token, bad_token, Token, digits_fit}

-- a token, but for its places and for the line of each but `step`
pub data Lexeme : Type 0 where
  -- a reserved word or a symbol, by its text
  terminal : List ℕ → Lexeme
  -- the reserved word `step`, with the line on which it stands
  step_word : ℕ → Lexeme
  -- a word that isn't reserved
  name_lexeme : List ℕ → Lexeme
  -- `$` and a word, with the `$`
  logic_lexeme : List ℕ → Lexeme
  -- a number, by its value
  number_lexeme : ℕ → Lexeme
  -- a text literal, by the text that it stands for
  literal_lexeme : List ℕ → Lexeme
  -- where no token begins
  bad_lexeme : Lexeme

-- the words that are no names
unfoldable pub reserved_words : List (List ℕ)
reserved_words = codes "domlogic" ∷ codes "logic" ∷ codes "proc" ∷ codes "returns" ∷ codes "sort"
    ∷ codes "requires" ∷ codes "ensures" ∷ codes "body" ∷ codes "proof" ∷ codes "step" ∷ codes "by"
    ∷ codes "with" ∷ codes "auto" ∷ codes "end" ∷ codes "entails" ∷ codes "pre" ∷ codes "do"
    ∷ codes "post" ∷ codes "at" ∷ codes "skip" ∷ codes "if" ∷ codes "else" ∷ codes "while"
    ∷ codes "local" ∷ codes "call" ∷ codes "true" ∷ codes "false" ∷ codes "not" ∷ codes "and"
    ∷ codes "or" ∷ codes "exists" ∷ codes "forall" ∷ codes "is" ∷ codes "len" ∷ codes "null"
    ∷ codes "nolist" ∷ codes "yes" ∷ codes "no" ∷ codes "appendChild" ∷ codes "removeChild"
    ∷ codes "createNode" ∷ codes "nodeName" ∷ codes "parentNode" ∷ codes "childNodes"
    ∷ codes "item" ∷ []

-- whether the word is no name
abbrev pub is_reserved : List ℕ → Bool
is_reserved text = list_any (bytes_eq text) reserved_words

-- what the grammar sees of a word on the line
abbrev pub word_lexeme : List ℕ → ℕ → Lexeme
word_lexeme text line = if bytes_eq text (codes "step") then step_word line
    else (if is_reserved text then terminal text else name_lexeme text)

-- what it sees of a number; no text has a number token whose digits don't fit
abbrev pub digits_lexeme : List ℕ → Lexeme
digits_lexeme text = if digits_fit text then number_lexeme (digits_value 10 text) else bad_lexeme

-- what it sees of a token of the kind
abbrev pub lexeme_at : TokenKind → List ℕ → ℕ → Lexeme
lexeme_at word_token text line = word_lexeme text line
lexeme_at logic_token text line = logic_lexeme text
lexeme_at number_token text line = digits_lexeme text
lexeme_at literal_token text line = literal_lexeme text
lexeme_at symbol_token text line = terminal text
lexeme_at bad_token text line = bad_lexeme

-- what it sees of a token
abbrev pub lexeme_of : Token → Lexeme
lexeme_of token = lexeme_at token.kind token.text token.line
