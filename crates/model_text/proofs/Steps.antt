-- How many steps are enough.
use Rattle.std.proofs.Common.{◌≡◌, ℕ, zero, suc, ◌+◌, ◌<◌, ◌≤◌, List, ◌∷◌, length, drop, refl, ap, arith, length-drop}
use Rattle.model_text.specs.Tokens.{Token, Piece, gap_piece, token_piece, no_piece, piece_at, token_from, tokens_with, tokens_from}
use Rattle.model_text.proofs.Pieces.{Fits, piece_at-Fits}

-- the tokens are the same where those from any later character on are
later : (bytes text : List ℕ) (number : ℕ) (piece : Piece) (f g : ℕ → List Token)
    → Fits (drop number text) piece
    → ((n : ℕ) → 0 < n → n ≤ length (drop number text) → f (number + n) ≡ g (number + n))
    → tokens_with bytes text number piece f ≡ tokens_with bytes text number piece g
later bytes text number (gap_piece n) f g fits same = same n fits.0 fits.1
later bytes text number (token_piece kind n) f g fits same =
    ap (λ others. token_from bytes text number kind n ∷ others) (same n fits.0 fits.1)
later bytes text number no_piece f g fits same = refl

-- one step for each character that is left, and one more, are enough
pub enough : (bytes text : List ℕ) (j k number : ℕ) → length text ≤ number + j
    → length text ≤ number + k
    → tokens_from bytes text (suc j) number ≡ tokens_from bytes text (suc k) number
unfolding tokens_from
enough bytes text zero k number h l =
    later bytes text number (piece_at (drop number text)) (tokens_from bytes text zero)
    (tokens_from bytes text k) (piece_at-Fits (drop number text))
    (λ n p b. absurd (omega (arith, length-drop number text)))
enough bytes text (suc j) zero number h l =
    later bytes text number (piece_at (drop number text)) (tokens_from bytes text (suc j))
    (tokens_from bytes text zero) (piece_at-Fits (drop number text))
    (λ n p b. absurd (omega (arith, length-drop number text)))
enough bytes text (suc j) (suc k) number h l =
    later bytes text number (piece_at (drop number text)) (tokens_from bytes text (suc j))
    (tokens_from bytes text (suc k)) (piece_at-Fits (drop number text))
    (λ n p b. enough bytes text j k (number + n) (omega arith) (omega arith))
