-- One procedure more at the end.
use Rattle.std.proofs.Common.{◌≡◌, refl, ap, ◌∙◌, ℕ, zero, suc, ◌+◌, arith}
use Rattle.std.proofs.Common.{List, [], ◌∷◌, ◌++◌, map}
use Rattle.std.proofs.lemmas.List.{map-append}
use Rattle.theory_syntax.specs.declared.theories.Procedure.{Procedure}
use Rattle.theory_syntax.specs.Theories.{procedure_of}
use Rattle.model_generator.specs.Generated.{maker, makers}

same : (first : ℕ) → first ≡ first + 0
same first = omega arith

later : (first n : ℕ) → (first + 1) + n ≡ first + suc n
later first n = omega arith

behind : (first n : ℕ) → makers first (suc n) ≡ makers first n ++ maker (first + n) ∷ []
behind first zero = ap (λ k. maker k ∷ []) (same first)
behind first (suc n) =
    ap (λ rest. maker first ∷ rest) (behind (first + 1) n)
    ∙ ap (λ k. maker first ∷ (makers (first + 1) n ++ maker k ∷ [])) (later first n)

next : (n : ℕ) → n + 1 ≡ suc n
next n = omega arith

turned : (n : ℕ) → 1 + n ≡ n + 1
turned n = omega arith

one_more : (n : ℕ) → makers 1 (n + 1) ≡ makers 1 n ++ maker (n + 1) ∷ []
one_more n =
    ap (makers 1) (next n) ∙ (behind 1 n ∙ ap (λ k. makers 1 n ++ maker k ∷ []) (turned n))

pub pushed : (procedures : List Procedure) (procedure : Procedure) (n : ℕ)
    → map procedure_of procedures ≡ makers 1 n → procedure_of procedure ≡ maker (n + 1)
    → map procedure_of (procedures ++ procedure ∷ []) ≡ makers 1 (n + 1)
pushed procedures procedure n before last =
    rw (map-append procedure_of procedures (procedure ∷ []), before, last, one_more n) refl
