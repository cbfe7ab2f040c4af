-- Needn't be believed: the program's promise doesn't speak of it. Which lexemes can be printed, so
-- that what is printed for each is its own only token.
use Rattle.model_limits.specs.Limits.{standard_limits}
use Rattle.std.specs.Prelude.{◌≡◌, ℕ, ◌≤◌, not, List, [], ◌∷◌, ◌++◌, bytes_eq, codes}
use Rattle.std.specs.List.{filter}
use Rattle.std.specs.Str.{IsUtf8}
use Rattle.model_shapes.specs.Trees.{Trees, none, node, hole}
use Rattle.model_text.specs.Lexemes.{Lexeme, terminal, step_word, name_lexeme, logic_lexeme, number_lexeme, literal_lexeme, bad_lexeme, reserved_words}
use Rattle.model_text.specs.Tokens.{symbols}
use Rattle.model_text.specs.Nesting.{lexemes_of}
use Rattle.model_grammar.specs.Writable.{Each, IsName, IsLogicName}

-- a number fits, the text of a literal is UTF-8, and a word or a symbol is its own only token
abbrev pub IsPrintable : Lexeme → Type 0
IsPrintable (number_lexeme n) = n ≤ standard_limits.integer
IsPrintable (literal_lexeme text) = IsUtf8 text
IsPrintable (step_word line) = Unit
IsPrintable bad_lexeme = ⊥
IsPrintable (terminal text) = lexemes_of text ≡ terminal text ∷ []
IsPrintable (name_lexeme name) = IsName name
IsPrintable (logic_lexeme name) = IsLogicName name

-- each of them can be printed
abbrev pub ArePrintable : List Lexeme → Type 0
ArePrintable lexemes = Each IsPrintable lexemes

-- the lexeme is not the word `step`, which has a line
abbrev pub HasNoLine : Lexeme → Type 0
HasNoLine (step_word line) = ⊥
HasNoLine lexeme = Unit

-- the lexeme on no line
abbrev pub without_line : Lexeme → Lexeme
without_line (step_word line) = step_word 0
without_line lexeme = lexeme

-- the texts of the terminals: the symbols, and the reserved words but `step`
abbrev pub terminal_texts : List (List ℕ)
terminal_texts = symbols ++ codes "0f" ∷ codes "0g"
    ∷ filter (λ word. not (bytes_eq word (codes "step"))) reserved_words

-- the trees have no hole, and each name and number can be printed
abbrev pub ArePrintableTrees : Trees → Type 0
ArePrintableTrees none = Unit
ArePrintableTrees (node name number kids list rest) =
    IsUtf8 name × number ≤ standard_limits.integer × list ≤ standard_limits.integer
    × ArePrintableTrees kids × ArePrintableTrees rest
ArePrintableTrees (hole rest) = ⊥
