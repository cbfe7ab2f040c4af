-- The symbols and the reserved words can be printed.
use Rattle.std.proofs.Common.{◌≡◌, ℕ, Bool, true, false, List, [], ◌∷◌, map, refl, sym, subst, bytes_eq}
use Rattle.std.specs.Prelude.{◌||◌}
use Rattle.std.specs.List.{list_any}
use Rattle.std.proofs.lemmas.Slice.Eq.{bytes_eq-Decides}
use Rattle.model_text.specs.Lexemes.{terminal}
use Rattle.model_text.specs.Nesting.{lexemes_of}
use Rattle.model_text.proofs.Computing.{lexing}
use Rattle.model_text.proofs.OfTokens.{terminals, is_seen}
use Rattle.model_printing.specs.Printable.{IsPrintable, terminal_texts}
use Rattle.model_printing.proofs.Found.{good_printable}

-- each is its own only lexeme
abbrev AreAlone : List (List ℕ) → Type 0
AreAlone texts = map lexemes_of texts ≡ map (λ text. terminal text ∷ []) texts

terminals_alone : AreAlone terminal_texts
unfolding lexing
terminals_alone = refl

among : (texts : List (List ℕ)) (text : List ℕ) → AreAlone texts
    → list_any (bytes_eq text) texts ≡ true → IsPrintable (terminal text)
among [] text each e = absurd cc
among (first ∷ texts) text each e = by_test (bytes_eq text first) refl (among texts text cc) e
  where
    by_test : (b : Bool) → bytes_eq text first ≡ b
        → (list_any (bytes_eq text) texts ≡ true → IsPrintable (terminal text))
        → b || list_any (bytes_eq text) texts ≡ true → IsPrintable (terminal text)
    by_test true is rest e = subst (λ (own : List ℕ). IsPrintable (terminal own))
        (sym ((bytes_eq-Decides text first).0 is)) cc
    by_test false is rest e = rest e

pub terminal_printable : (text : List ℕ) → list_any (bytes_eq text) terminal_texts ≡ true
    → IsPrintable (terminal text)
terminal_printable text e = among terminal_texts text terminals_alone e

-- by the list of terminals that computes with nothing unfolded
pub seen_printable : (text : List ℕ) → list_any (bytes_eq text) terminals ≡ true
    → IsPrintable (terminal text)
seen_printable text e = good_printable (terminal text) (λ bad. cc) (is_seen text e)
