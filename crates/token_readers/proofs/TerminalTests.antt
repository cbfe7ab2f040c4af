-- The test on a terminal tells the terminals apart, and from other lexemes.
use Rattle.std.proofs.Common.{◌≡◌, ◌≢◌, Bool, true, false, ℕ, List, refl, ap, bytes_eq}
use Rattle.std.proofs.lemmas.Slice.Eq.{bytes_eq-Decides}
use Rattle.model_text.specs.Lexemes.{Lexeme, terminal}
use Rattle.token_readers.specs.Reading.{is_terminal}

-- a text is the same as itself
pub text_refl : (a : List ℕ) → bytes_eq a a ≡ true
text_refl a = (bytes_eq-Decides a a).1 refl

-- a lexeme that passes the test is the terminal
pub is_terminal_is : (m : List ℕ) (t : Lexeme) → is_terminal m t ≡ true → t ≡ terminal m
is_terminal_is m (terminal k) e = ap terminal ((bytes_eq-Decides k m).0 e)
is_terminal_is m _ e = absurd cc

-- a lexeme that is no terminal passes no test
pub is_no_terminal : (t : Lexeme) → ((text : List ℕ) → t ≢ terminal text) → (text : List ℕ)
    → is_terminal text t ≡ false
is_no_terminal t other text = by_test (is_terminal text t) refl
  where
    by_test : (b : Bool) → is_terminal text t ≡ b → is_terminal text t ≡ false
    by_test true e = absurd (other text (is_terminal_is text t e))
    by_test false e = e
