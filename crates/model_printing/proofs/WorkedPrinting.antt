-- What can be printed and what can't, and a grove that reads back, by computing.
use Rattle.std.proofs.Common.{◌≡◌, [], ◌∷◌, refl, codes}
use Rattle.std.specs.Fmt.{digits}
use Rattle.model_shapes.specs.Trees.{none, node}
use Rattle.model_text.specs.Lexemes.{terminal, name_lexeme, number_lexeme, literal_lexeme}
use Rattle.model_text.specs.Nesting.{lexemes_of}
use Rattle.model_text.proofs.Computing.{lexing}
use Rattle.model_documents.specs.Printed.{grove_text}
use Rattle.model_printing.specs.Printable.{IsPrintable}

-- a name can, but not where it is a reserved word, nor where it is two
a_name : IsPrintable (name_lexeme (codes "item2"))
unfolding lexing
a_name = refl

reserved : IsPrintable (name_lexeme (codes "item")) → ⊥
unfolding lexing
reserved e = cc

two_names : IsPrintable (name_lexeme (codes "a b")) → ⊥
unfolding lexing
two_names e = cc

-- nor can a symbol that none is
no_symbol : IsPrintable (terminal (codes "+-")) → ⊥
unfolding lexing
no_symbol e = cc

-- a root with no children, whose name has a quote
root : lexemes_of (grove_text (node (codes "a\"") 1 none 2 none))
    ≡ terminal (codes "[") ∷ literal_lexeme (codes "a\"") ∷ terminal (codes "#")
    ∷ number_lexeme 1 ∷ terminal (codes "[") ∷ terminal (codes "0f") ∷ terminal (codes "]")
    ∷ terminal (codes "%") ∷ number_lexeme 2 ∷ terminal (codes "]") ∷ []
unfolding lexing digits
root = refl
