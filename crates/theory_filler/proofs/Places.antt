-- What stands at a place of a list.
use Rattle.std.proofs.Common.{◌≡◌, ◌∙◌, ℕ, zero, suc, ◌+◌, ◌<◌, ◌≤◌, ◌-◌, List, [], ◌∷◌, length, map, drop, get_or, Some, slice_get, refl, sym, ap, arith}
use Rattle.std.proofs.lemmas.List.{length-map, drop_more}
use Rattle.model_formulas.specs.Formulas.{Named}
use Rattle.model_commands.specs.Theories.{ProcedureOf}
use Rattle.theory_syntax.specs.declared.theories.Procedure.{Procedure}
use Rattle.theory_syntax.specs.Theories.{procedure_of}

some-at : {A : Type 0} (xs : List A) (i : ℕ) → i < length xs → (x : A) × (slice_get xs i ≡ Some x)
some-at [] i lt = absurd (omega arith)
some-at (x ∷ xs) zero lt = (x, refl)
some-at (x ∷ xs) (suc i) lt = some-at xs i (omega arith)

-- there is a procedure of the number, counted from 1
pub own-procedure : (fs : List Procedure) (number : ℕ) → 1 ≤ number → number ≤ length fs
    → (f : ProcedureOf Named) × (slice_get (map procedure_of fs) (number - 1) ≡ Some f)
own-procedure fs number first last =
    some-at (map procedure_of fs) (number - 1)
    (omega (arith, first, last, length-map fs procedure_of))

-- what is left at a place begins with what stands there
pub drop-at : {A : Type 0} (xs : List A) (k : ℕ) (item : A) → k < length xs
    → item ≡ get_or xs k item → drop k xs ≡ item ∷ drop (k + 1) xs
drop-at xs k item lt is = drop_more xs k item lt ∙ ap (λ z. z ∷ drop (k + 1) xs) (sym is)

-- the procedure at a place of the theory
pub procedure-at : (fs : List Procedure) (k : ℕ) (item d : Procedure) → k < length fs
    → item ≡ get_or fs k d → slice_get (map procedure_of fs) k ≡ Some (procedure_of item)
procedure-at [] k item d lt is = absurd (omega arith)
procedure-at (f ∷ fs) zero item d lt is = ap (λ (z : Procedure). Some (procedure_of z)) (sym is)
procedure-at (f ∷ fs) (suc k) item d lt is = procedure-at fs k item d (omega arith) is
