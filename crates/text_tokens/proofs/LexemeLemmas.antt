-- What the grammar sees of a word that isn't reserved.
use Rattle.std.proofs.Common.{◌≡◌, ℕ, Bool, true, false, List, bytes_eq, codes, refl, ap, ◌∙◌}
use Rattle.std.specs.Prelude.{if◌then◌else◌}
use Rattle.std.proofs.lemmas.Slice.Eq.{bytes_eq-Decides}
use Rattle.model_text.specs.Lexemes.{terminal, step_word, name_lexeme, reserved_words, is_reserved, word_lexeme}

step_is_reserved : is_reserved (codes "step") ≡ true
unfolding reserved_words
step_is_reserved = refl

by_step : (text : List ℕ) (line : ℕ) (b : Bool) → bytes_eq text (codes "step") ≡ b
    → is_reserved text ≡ false
    → (if b then step_word line else (if is_reserved text then terminal text else name_lexeme text))
    ≡ name_lexeme text
by_step text line true e other = let reserved : is_reserved text ≡ true =
    ap is_reserved ((bytes_eq-Decides text (codes "step")).0 e) ∙ step_is_reserved in cc
by_step text line false e other = ap (λ b. if b then terminal text else name_lexeme text) other

-- it is a name
pub not_reserved : (text : List ℕ) (line : ℕ) → is_reserved text ≡ false
    → word_lexeme text line ≡ name_lexeme text
not_reserved text line other = by_step text line (bytes_eq text (codes "step")) refl other
