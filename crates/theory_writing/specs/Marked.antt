-- Needn't be believed: parts of which each stands behind a mark, and lines. The definition of what
-- is printed says how lists, blocks and theories are written, and lemmas that it is so.
use Rattle.std.specs.Prelude.{ℕ, List, [], ◌∷◌, ◌++◌, map}
use Rattle.model_text.specs.Tokens.{newline}
use Rattle.model_text.specs.Lexemes.{Lexeme, terminal, name_lexeme}
use Rattle.model_formulas.specs.Formulas.{Named}
use Rattle.model_commands.specs.Theories.{ProcedureOf}
use Rattle.model_grammar.specs.Words.{the, ◌⌢◌}
use Rattle.model_grammar.specs.Writing.{text_of, in_brackets}
use Rattle.model_grammar.specs.TheoryWriting.{declaration_lexemes, data_sort_lexemes}

-- each part behind a mark, from the second on behind another
abbrev pub marked : List ℕ → List ℕ → List (List Lexeme) → List Lexeme
marked mark next [] = []
marked mark next (part ∷ parts) = terminal mark ∷ (part ++ marked next next parts)

-- the text of a line, with the newline behind it
abbrev pub line_text : List Lexeme → List ℕ
line_text line = text_of line ++ newline ∷ []

-- texts one behind another
abbrev pub joined_texts : List (List ℕ) → List ℕ
joined_texts [] = []
joined_texts (text ∷ texts) = text ++ joined_texts texts

-- the first line of a procedure
abbrev pub header_line : ProcedureOf Named → List Lexeme
header_line f = the "proc" ⌢ name_lexeme f.name ∷ []
    ⌢ in_brackets (map declaration_lexemes f.params) ⌢ the "returns"
    ⌢ in_brackets (map declaration_lexemes f.results) ⌢ the "sort" ⌢ data_sort_lexemes f.sort
