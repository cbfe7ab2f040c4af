-- What is told of a whole is told of its parts: of both sides of a test, of each element of a list,
-- and of the header and the steps of a procedure.
use Rattle.std.proofs.Common.{◌≡◌, sym, subst, ℕ, zero, suc, ◌<◌, List, [], ◌∷◌, map, length, get_or, Bool, true, false, ◌&&◌, arith}
use Rattle.std.specs.Bool.{OnTrue}
use Rattle.std.specs.List.{list_all}
use Rattle.std.proofs.lemmas.Bool.{and_parts}
use Rattle.theory_syntax.specs.declared.theories.Procedure.{Procedure}
use Rattle.theory_syntax.specs.Theories.{procedure_of}
use Rattle.declared_sorts.specs.Judged.{head_judged, steps_judged}
use Rattle.declared_sorts.specs.Settled.{head_settled, procedure_settled, step_settled}
use Rattle.dom_syntax.specs.declared.scopes.Names.{Names}
use Rattle.dom_syntax.specs.declared.scopes.Scope.{Scope}
use Rattle.dom_syntax.specs.Judged.{HeadJudged, StepsJudged, ProcedureJudged}
use Rattle.dom_syntax.specs.Scopes.{names_in, procedure_in, theory_in}
use Rattle.dom_syntax.specs.ScopeTests.{HeadSettled}

-- of both sides
told-both : (told p q : Bool) → OnTrue told ((p && q) ≡ true)
    → OnTrue told (p ≡ true) × OnTrue told (q ≡ true)
told-both false p q all = (all, all)
told-both true p q all = and_parts p q all

-- of the element at an index, as it is seen
told-at : {A B : Type 0} (see : A → B) (p : B → Bool) (told : Bool) (xs : List A) (i : ℕ) (x : A)
    → i < length xs → x ≡ get_or xs i x → OnTrue told (list_all p (map see xs) ≡ true)
    → OnTrue told (p (see x) ≡ true)
told-at see p told [] i x lt is all = absurd (omega arith)
told-at see p told (y ∷ ys) zero x lt is all =
    subst (λ z. OnTrue told (p (see z) ≡ true)) (sym is)
    (told-both told (p (see y)) (list_all p (map see ys)) all).0
told-at see p told (y ∷ ys) (suc i) x lt is all =
    told-at see p told ys i x (omega arith) is
    (told-both told (p (see y)) (list_all p (map see ys)) all).1

-- the same where the elements are walked as a slice
pub told-in : {A B : Type 0} (see : A → B) (p : B → Bool) (told : Bool) (whole xs : List A)
    → xs ≡ whole → OnTrue told (list_all p (map see whole) ≡ true) → (i : ℕ) (x : A)
    → i < length xs → x ≡ get_or xs i x → OnTrue told (p (see x) ≡ true)
told-in see p told whole xs e all i x lt is =
    told-at see p told xs i x lt is
    (subst (λ zs. OnTrue told (list_all p (map see zs) ≡ true)) (sym e) all)

-- that they are settled, of the header of a procedure in its scope, and of its steps
pub told-inside : (scope : Scope) (names : Names) (f : Procedure) → scope.names.now ≡ names
    → scope.procedure.now ≡ f → (told : Bool)
    → OnTrue told (procedure_settled (theory_in names).logic (procedure_of f) ≡ true)
    → HeadSettled told scope
    × OnTrue told (list_all (step_settled (names_in scope)) (procedure_in scope).proof ≡ true)
told-inside scope names f e h told settled =
    told-both told (head_settled (names_in scope) (procedure_in scope))
    (list_all (step_settled (names_in scope)) (procedure_in scope).proof)
    (subst (λ (b : Bool). OnTrue told (b ≡ true))
    (λ j. procedure_settled (theory_in (sym e j)).logic (procedure_of (sym h j))) settled)

-- that they are judged, of the same
pub judged-inside : (scope : Scope) (f : Procedure) → scope.procedure.now ≡ f → (told : Bool)
    → ProcedureJudged told (procedure_of f)
    → HeadJudged told (procedure_in scope) × StepsJudged told (procedure_in scope)
judged-inside scope f h told judged =
    told-both told (head_judged (procedure_in scope)) (steps_judged (procedure_in scope).proof)
    (subst (λ g. ProcedureJudged told (procedure_of g)) (sym h) judged)
