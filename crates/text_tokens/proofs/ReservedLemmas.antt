-- The reserved words that begin as a word does, among all.
use Rattle.std.proofs.Common.{◌≡◌, ◌≤◌, [], ◌∷◌, ℕ, Bool, List, length, drop, get_or, true, nat_eq, refl, sym, ap, subst, arith, ◌∙◌}
use Rattle.std.specs.Prelude.{bytes_eq}
use Rattle.std.specs.List.{filter, list_any}
use Rattle.std.proofs.lemmas.Bool.{eq-eqb}
use Rattle.std.proofs.lemmas.Map.Views.{any-filter_same}
use Rattle.std.proofs.lemmas.Slice.Eq.{bytes_eq-Decides}
use Rattle.model_text.specs.Lexemes.{reserved_words, is_reserved}

-- those whose first byte passes a test decide on a word whose first byte does
pub decided_by_first : (passes : ℕ → Bool) (first : ℕ) (rest : List ℕ) → passes first ≡ true
    → list_any (bytes_eq (first ∷ rest)) (filter (λ w. passes (get_or w 0 0)) reserved_words)
    ≡ is_reserved (first ∷ rest)
decided_by_first passes first rest e =
    any-filter_same (bytes_eq (first ∷ rest)) (λ w. passes (get_or w 0 0)) true
    (λ w t. ap (λ v. passes (get_or v 0 0)) (sym ((bytes_eq-Decides (first ∷ rest) w).0 t)) ∙ e)
    reserved_words

-- so those that begin with a letter decide on a word that does
pub decided_by_letter : (letter first : ℕ) → first ≡ letter → (rest : List ℕ)
    → list_any (bytes_eq (first ∷ rest))
    (filter (λ w. nat_eq (get_or w 0 0) letter) reserved_words) ≡ is_reserved (first ∷ rest)
decided_by_letter letter first is rest =
    decided_by_first (λ b. nat_eq b letter) first rest (eq-eqb first letter is)

-- a word of at least one byte is its first byte and the rest
pub first_and_rest : (bytes word : List ℕ) → 1 ≤ length bytes → bytes ≡ word
    → get_or bytes 0 0 ∷ drop 1 word ≡ word
first_and_rest [] word long is = absurd (omega arith)
first_and_rest (first ∷ rest) word long is =
    subst (λ w. first ∷ drop 1 w ≡ w) is refl
