-- The arguments of a call for its parameters, and its results for those of the procedure.
use Rattle.std.proofs.Common.{◌≡◌, ℕ, List, [], ◌∷◌, ◌++◌, ◌+ℤ◌, ◌-ℤ◌, cond, map, refl, sym, ap, ◌∙◌, subst, inl, inr, ⊎_elim}
use Rattle.model_shapes.specs.Sorts.{Sort}
use Rattle.model_shapes.specs.Things.{val}
use Rattle.model_shapes.specs.Values.{str, int}
use Rattle.model_formulas.specs.Satisfaction.{Environment, with_store, meaning_of, number_of, text_meant}
use Rattle.model_terms.specs.Terms.{Term, variable, InTerm, literal, sum, difference, appended, Substitution}
use Rattle.model_terms.specs.VariableTests.{var_eq}
use Rattle.model_terms.specs.Variables.{bound, Var, prog, logic}
use Rattle.model_formulas.proofs.Substitutes.{after}
use Rattle.model_commands.specs.Commands.{Among}
use Rattle.model_machine.specs.Machine.{entering, returning}
use Rattle.model_commands.specs.Sorting.{Feed, Receive, Distinct}
use Rattle.model_groves.specs.Groves.{is_yes}
use Rattle.model_terms.specs.Stores.{Store, lookup, value_of, text_in, ProgVar, named, as_var, set, value_in, int_in, sort_of}
use Rattle.model_commands.proofs.StoreLaws.{meaning-value, set-meaning}
use Rattle.model_terms.proofs.StoreLaws.{set-same, set-other}
use Rattle.triple_laws.proofs.Endings.{value_in-decided}
use Rattle.rule_table.specs.Rules.{passing, passed_at, itself}
use Rattle.rule_table.specs.Notation.{prog_term}
use Rattle.triple_laws.proofs.Fitting.{InTerms}

var-is : (x y : ProgVar) → as_var x ≡ as_var y → x ≡ y
var-is (named x s) (named y u) e = cc

-- ONLY THE VARIABLES OF A TERM COUNT
pub meaning-agrees : (t : Term) (e e' : Environment) → ((x : Var) → InTerm x t → e x ≡ e' x)
    → meaning_of e t ≡ meaning_of e' t
meaning-agrees (literal v) e e' h = refl
meaning-agrees (variable x) e e' h = h x refl
meaning-agrees (sum a b) e e' h =
    λ i. val (int (number_of (meaning-agrees a e e' (λ x m. h x (inl m)) i)
    +ℤ number_of (meaning-agrees b e e' (λ x m. h x (inr m)) i)))
meaning-agrees (difference a b) e e' h =
    λ i. val (int (number_of (meaning-agrees a e e' (λ x m. h x (inl m)) i)
    -ℤ number_of (meaning-agrees b e e' (λ x m. h x (inr m)) i)))
meaning-agrees (appended a b) e e' h =
    λ i. val (str (text_meant (meaning-agrees a e e' (λ x m. h x (inl m)) i)
    ++ text_meant (meaning-agrees b e e' (λ x m. h x (inr m)) i)))

value-agrees : (t : Term) (st st' : Store)
    → ((x : ProgVar) → InTerm (as_var x) t → value_in st x ≡ value_in st' x)
    → value_of st t ≡ value_of st' t
value-agrees (literal v) st st' h = refl
value-agrees (variable (prog x s)) st st' h = h (named x s) refl
value-agrees (variable (logic x s)) st st' h = refl
value-agrees (variable (bound i s)) st st' h = refl
value-agrees (sum a b) st st' h =
    λ i. int (int_in (value-agrees a st st' (λ x m. h x (inl m)) i)
    +ℤ int_in (value-agrees b st st' (λ x m. h x (inr m)) i))
value-agrees (difference a b) st st' h =
    λ i. int (int_in (value-agrees a st st' (λ x m. h x (inl m)) i)
    -ℤ int_in (value-agrees b st st' (λ x m. h x (inr m)) i))
value-agrees (appended a b) st st' h =
    λ i. str (text_in (value-agrees a st st' (λ x m. h x (inl m)) i)
    ++ text_in (value-agrees b st st' (λ x m. h x (inr m)) i))

pub entering-agrees : (xs : List ProgVar) (ts : List Term) (st st' : Store)
    → ((x : ProgVar) → InTerms (as_var x) ts → value_in st x ≡ value_in st' x)
    → entering xs ts st ≡ entering xs ts st'
entering-agrees [] ts st st' h = refl
entering-agrees (x ∷ xs) [] st st' h = refl
entering-agrees (x ∷ xs) (t ∷ ts) st st' h =
    λ i. set x (value-agrees t st st' (λ y m. h y (inl m)) i)
    (entering-agrees xs ts st st' (λ y m. h y (inr m)) i)

-- WHAT IS PASSED FOR A VARIABLE
-- for a parameter: what the callee's store begins with
pub passed-param : (xs : List ProgVar) (ts : List Term) (f : Substitution) (st : Store)
    (e : Environment) (y : ProgVar) → Feed xs ts → Among xs y
    → after (passing xs ts f) (with_store (lookup st) e) (as_var y)
    ≡ val (value_in (entering xs ts st) y)
passed-param [] ts f st e y fd m = absurd m
passed-param (x ∷ xs) [] f st e y fd m = absurd fd
passed-param (x ∷ xs) (t ∷ ts) f st e y fd m =
    this-one (var_eq (as_var y) (as_var x)) (λ z. passed-param xs ts f st e y fd.1 z)
    ∙ ap val (sym (value_in-decided x (value_of st t) (entering xs ts st) y))
  where
    this-one : (d : Dec (as_var y ≡ as_var x))
        → (Among xs y → after (passing xs ts f) (with_store (lookup st) e) (as_var y)
        ≡ val (value_in (entering xs ts st) y))
        → meaning_of (with_store (lookup st) e) (passed_at t (passing xs ts f (as_var y)) d)
        ≡ val (cond (is_yes d) (value_of st t) (value_in (entering xs ts st) y))
    this-one (yes q) later = meaning-value (sort_of x) t st e fd.0
    this-one (no n) later = ⊎_elim (λ q. absurd (n (ap as_var q))) later m

-- for any other variable: nothing
passed-none : (xs : List ProgVar) (ts : List Term) (f : Substitution) (y : Var)
    → ((x : ProgVar) → Among xs x → y ≡ as_var x → ⊥) → passing xs ts f y ≡ f y
passed-none [] ts f y n = refl
passed-none (x ∷ xs) [] f y n = refl
passed-none (x ∷ xs) (t ∷ ts) f y n =
    other-one (var_eq y (as_var x)) (passed-none xs ts f y (λ z m. n z (inr m)))
  where
    other-one : (d : Dec (y ≡ as_var x)) → passing xs ts f y ≡ f y
        → passed_at t (passing xs ts f y) d ≡ f y
    other-one (yes q) later = absurd (n x (inl refl) q)
    other-one (no m) later = later

pub passed-other : (xs : List ProgVar) (ts : List Term) (f : Substitution) (y : ProgVar)
    → (Among xs y → ⊥) → passing xs ts f (as_var y) ≡ f (as_var y)
passed-other xs ts f y n =
    passed-none xs ts f (as_var y) (λ x m q. n (subst (Among xs) (sym (var-is y x q)) m))

pub passed-logic : (xs : List ProgVar) (ts : List Term) (f : Substitution) (n : List ℕ) (u : Sort)
    → passing xs ts f (logic n u) ≡ f (logic n u)
passed-logic xs ts f n u = passed-none xs ts f (logic n u) (λ x m q. apart x q)
  where
    apart : (x : ProgVar) → logic n u ≡ as_var x → ⊥
    apart (named y s) q = cc

pub passed-bound : (xs : List ProgVar) (ts : List Term) (f : Substitution) (n : ℕ) (u : Sort)
    → passing xs ts f (bound n u) ≡ f (bound n u)
passed-bound xs ts f n u = passed-none xs ts f (bound n u) (λ x m q. apart x q)
  where
    apart : (x : ProgVar) → bound n u ≡ as_var x → ⊥
    apart (named y s) q = cc

-- for a result: what the callee's store ends with
pub passed-result : (rs xs : List ProgVar) (back callee st : Store) (e : Environment) (y : ProgVar)
    → Receive rs xs → Distinct xs
    → ((x : ProgVar) → Among xs x → value_in back x ≡ value_in (returning rs xs callee st) x)
    → Among rs y
    → after (passing rs (map prog_term xs) itself) (with_store (lookup back) e) (as_var y)
    ≡ val (value_in callee y)
passed-result [] xs back callee st e y rc ds h m = absurd m
passed-result (r ∷ rs) [] back callee st e y rc ds h m = absurd rc
passed-result (r ∷ rs) (x ∷ xs) back callee st e y rc ds h m =
    this-one (var_eq (as_var y) (as_var r)) (λ z.
    passed-result rs xs back callee st e y rc.1 ds.1 (λ x' a. h x' (inr a) ∙ set-other x
    (value_in callee r) (returning rs xs callee st) x' (λ q. ds.0 (subst (Among xs) q a))) z)
  where
    this-one : (d : Dec (as_var y ≡ as_var r))
        → (Among rs y → after (passing rs (map prog_term xs) itself) (with_store (lookup back) e)
        (as_var y)
        ≡ val (value_in callee y))
        → meaning_of (with_store (lookup back) e)
        (passed_at (variable (as_var x)) (passing rs (map prog_term xs) itself (as_var y)) d)
        ≡ val (value_in callee y)
    this-one (yes q) later =
        set-meaning x back e ∙ ap val (h x (inl refl)
        ∙ set-same x (value_in callee r) (returning rs xs callee st)
        ∙ ap (value_in callee) (sym (var-is y r q)))
    this-one (no n) later = ⊎_elim (λ q. absurd (n (ap as_var q))) later m
