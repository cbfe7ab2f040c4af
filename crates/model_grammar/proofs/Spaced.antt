-- The text of lexemes, part by part.
use Rattle.std.proofs.Common.{◌≡◌, ℕ, List, [], ◌∷◌, ◌++◌, refl, sym, ap, ◌∙◌, append_assoc}
use Rattle.std.specs.Prelude.{codes}
use Rattle.model_text.specs.Lexemes.{Lexeme}
use Rattle.model_grammar.specs.Writing.{printed, spaced}

pub spaced_append : (a b : List Lexeme) → spaced (a ++ b) ≡ spaced a ++ spaced b
spaced_append [] b = refl
spaced_append (first ∷ a) b =
    ap (λ (z : List ℕ). codes " " ++ (printed first ++ z)) (spaced_append a b)
    ∙ simp append_assoc refl

-- for a text to which lexemes are put part by part
pub ruleset spaced_rules = (spaced_append, append_assoc)
