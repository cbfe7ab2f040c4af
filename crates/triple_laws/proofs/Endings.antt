-- What the rules share: ends are stable, and no end tells same groves apart; a store with one
-- variable set is the environment with it set.
use Rattle.std.proofs.Common.{◌≡◌, true, cond, subst, ap, ◌∙◌, refl}
use mathlib.Core.HLevel.{Stable}
use mathlib.Core.Path.{fun_ext}
use Rattle.model_shapes.specs.Sorts.{DataSort, grove}
use Rattle.model_shapes.specs.Values.{Value}
use Rattle.model_shapes.specs.Trees.{Trees}
use Rattle.model_shapes.specs.Shapes.{SameAt}
use Rattle.model_shapes.specs.Things.{val}
use Rattle.model_terms.specs.Variables.{Var, prog, logic, bound}
use Rattle.model_terms.specs.VariableTests.{same_var, var_eq, same_var-refl}
use Rattle.model_terms.specs.Stores.{ProgVar, named, as_var, same_name, Store, set, value_in, lookup}
use Rattle.model_terms.proofs.StoreLaws.{value_in-set, same_name-not}
use Rattle.model_formulas.specs.Formulas.{Formula}
use Rattle.model_formulas.specs.Satisfaction.{Environment, with_store}
use Rattle.model_formulas.specs.Setting.{setting, setting_at}
use Rattle.model_formulas.proofs.Stable.{stable-not, stable-Shaped, stable-Proper}
use Rattle.model_groves.specs.Groves.{is_yes}
use Rattle.model_machine.specs.Machine.{RunOutcome, running, ended, fault, picked_badly}
use Rattle.model_machine.specs.SameMoves.{SameOutcome}
use Rattle.model_machine.specs.ClassicalTriples.{Ends}
use Rattle.triple_laws.proofs.Ends.{At}

pub stable-At : (d : DataSort) (c : Trees) (p : Formula) (e : Environment) (st : Store) (g : Trees)
    → Stable (At d c p e st g)
stable-At d c p e st g h = record {
  proper = stable-Proper (with_store (lookup st) e) (λ n. h (λ a. n a.proper));
  whole = stable-Shaped (λ n. h (λ a. n a.whole));
  stands = stable-not (λ n. h (λ a. n a.stands));
}

pub stable-Ends : (J : Store → Trees → Type 0) → ((st : Store) (g : Trees) → Stable (J st g))
    → (o : RunOutcome) → Stable (Ends ⊥ J o)
stable-Ends J s running = λ h. tt
stable-Ends J s picked_badly = λ h. tt
stable-Ends J s (fault f) = λ h. h (λ b. b)
stable-Ends J s (ended st g) = s st g

-- ends on groves that are the same
pub Ends-same : (J : Store → Trees → Type 0)
    → ((st : Store) (g g' : Trees) → SameAt grove g g' → J st g → J st g')
    → (o o' : RunOutcome) → SameOutcome o o' → Ends ⊥ J o → Ends ⊥ J o'
Ends-same J f running running s m = tt
Ends-same J f picked_badly picked_badly s m = tt
Ends-same J f (fault x) (fault y) s m = m
Ends-same J f (ended st g) (ended st' g') s m = subst (λ z. J z g') s.0 (f st g g' s.1 m)
Ends-same J f o o' s m = absurd s

-- the value of a variable where another is set, by the decision on variables
pub value_in-decided : (x : ProgVar) (v : Value) (st : Store) (y : ProgVar)
    → value_in (set x v st) y ≡ cond (is_yes (var_eq (as_var y) (as_var x))) v (value_in st y)
value_in-decided x v st y =
    value_in-set x v st y ∙ ap (λ b. cond b v (value_in st y))
    (by_test (var_eq (as_var y) (as_var x)))
  where
    by_test : (d : Dec (as_var y ≡ as_var x)) → same_name y x ≡ is_yes d
    by_test (yes q) = subst (λ z. same_var (as_var y) z ≡ true) q (same_var-refl (as_var y))
    by_test (no n) = same_name-not y x (λ q. n (ap as_var q))

-- a store with one variable set is the environment with that variable set
pub set-env : (x : ProgVar) (v : Value) (st : Store) (e : Environment)
    → with_store (lookup (set x v st)) e ≡ setting (as_var x) (val v) (with_store (lookup st) e)
set-env x v st e = fun_ext at
  where
    at : (y : Var) → with_store (lookup (set x v st)) e y
        ≡ setting (as_var x) (val v) (with_store (lookup st) e) y
    at (prog z u) = ap val (value_in-decided x v st (named z u))
        ∙ by_test (var_eq (prog z u) (as_var x))
      where
        by_test : (b : Dec (prog z u ≡ as_var x))
            → val (cond (is_yes b) v (value_in st (named z u)))
            ≡ setting_at (val v) (with_store (lookup st) e) b
        by_test (yes q) = refl
        by_test (no m) = refl
    at (logic z u) = by_test x (var_eq (logic z u) (as_var x))
      where
        by_test : (x : ProgVar) (b : Dec (logic z u ≡ as_var x))
            → e (logic z u) ≡ setting_at (val v) (with_store (lookup st) e) b
        by_test (named y s) (yes q) = absurd cc
        by_test x (no m) = refl
    at (bound i u) = by_test x (var_eq (bound i u) (as_var x))
      where
        by_test : (x : ProgVar) (b : Dec (bound i u ≡ as_var x))
            → e (bound i u) ≡ setting_at (val v) (with_store (lookup st) e) b
        by_test (named y s) (yes q) = absurd cc
        by_test x (no m) = refl
