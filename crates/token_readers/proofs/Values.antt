-- What the answers of the questions on a token say of what the grammar sees of it.
use Rattle.std.proofs.Common.{◌≡◌, ℕ, Bool, true, false, List, Some, None, refl, sym, ap, ◌∙◌, bytes_eq, IsTrue, codes, if◌then◌else◌}
use Rattle.std.proofs.lemmas.Slice.Eq.{bytes_eq-Decides}
use Rattle.dom_terms.proofs.SameTruth.{same_truth}
use Rattle.model_text.specs.Lexemes.{Lexeme, terminal, step_word, name_lexeme, number_lexeme, word_lexeme, is_reserved}
use Rattle.token_readers.specs.Reading.{is_terminal}
use Rattle.token_readers.specs.Leaves.{leaf_name, leaf_word, leaf_number}
use Rattle.token_readers.proofs.TerminalTests.{is_terminal_is, text_refl}

-- whether a lexeme is a terminal
pub terminal_value : (b : Bool) (text : List ℕ) (l : Lexeme) → (IsTrue b → l ≡ terminal text)
    → (l ≡ terminal text → IsTrue b) → b ≡ is_terminal text l
terminal_value b text l f g =
    same_truth b (is_terminal text l) (λ t. ap (is_terminal text) (f t) ∙ text_refl text)
    (λ t. g (is_terminal_is text l t))

-- no name, no number
pub no_name : (l : Lexeme) → ((text : List ℕ) → l ≡ name_lexeme text → ⊥) → None ≡ leaf_name l
no_name (name_lexeme w) h = absurd (h w refl)
no_name _ h = refl

pub no_number : (l : Lexeme) → ((n : ℕ) → l ≡ number_lexeme n → ⊥) → None ≡ leaf_number l
no_number (number_lexeme n) h = absurd (h n refl)
no_number _ h = refl

-- a word is any word
pub word_leaf : (text : List ℕ) (line : ℕ) → leaf_word (word_lexeme text line) ≡ Some text
word_leaf text line = by_test (bytes_eq text (codes "step")) (is_reserved text) refl refl
  where
    by_test : (b r : Bool) → bytes_eq text (codes "step") ≡ b → is_reserved text ≡ r
        → leaf_word (if b then step_word line else (if r then terminal text else name_lexeme text))
        ≡ Some text
    by_test true r e f = ap Some (sym ((bytes_eq-Decides text (codes "step")).0 e))
    by_test false true e f = rw f refl
    by_test false false e f = refl
