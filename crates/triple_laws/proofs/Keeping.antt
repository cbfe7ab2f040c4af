-- What the rules that keep a command share: ends are stable, and what isn't changed is kept.
use Rattle.std.proofs.Common.{◌≡◌, ℕ, List, [], ◌∷◌, refl, sym, ap}
use mathlib.Core.HLevel.{Stable}
use Rattle.model_shapes.specs.Shapes.{Shaped, SameAt}
use Rattle.model_shapes.specs.Sorts.{DataSort, shape, grove}
use Rattle.model_shapes.specs.Things.{val}
use Rattle.model_shapes.specs.Trees.{Trees, fill}
use Rattle.model_formulas.specs.Formulas.{Formula}
use Rattle.model_formulas.specs.Satisfaction.{Environment, Meets, with_store}
use Rattle.model_terms.specs.Variables.{bound, Var, prog, logic}
use Rattle.model_commands.specs.Commands.{Command, Modifies}
use Rattle.model_machine.specs.ClassicalTriples.{Ends}
use Rattle.model_machine.specs.Machine.{beginning, configuration, run, runs, Piece, RunOutcome, running, ended, fault, picked_badly}
use Rattle.model_terms.specs.Stores.{Store, lookup, ProgVar, named, as_var, value_in}
use Rattle.model_commands.specs.Theories.{Procedures}
use Rattle.model_machine.proofs.Runs.{Well}
use Rattle.model_machine.proofs.Unmodified.{unmodified}
use Rattle.triple_laws.proofs.Ends.{At}
use Rattle.triple_laws.proofs.Endings.{stable-At, stable-Ends}

-- that runs end well is stable
pub Well-stable : (ps : Procedures) (n : ℕ) (d : DataSort) (c : Trees) (q : Formula)
    (e : Environment) (k : List Piece) (st : Store) (g : Trees)
    → Stable (Well ps ⊥ n (At d c q e) k st g)
Well-stable ps n d c q e k st g h picks l =
    stable-Ends (At d c q e) (stable-At d c q e) (runs ps picks (configuration k st g))
    (λ m. h (λ w. m (w picks l)))

-- the same data, where it meets another formula
pub at-data : (d : DataSort) (c : Trees) (p q : Formula) (e : Environment) (st : Store) (g : Trees)
    → At d c p e st g → (b : Trees) → Shaped (shape d) b → SameAt grove g (fill c b)
    → Meets q (with_store (lookup st) e) (shape d) b → At d c q e st g
at-data d c p q e st g a b wb same m =
    record { proper = a.proper; whole = a.whole; stands = λ n. n (b, wb, (same, m)) }

-- the variables that a command doesn't change have the values that they had
abbrev pub Kept : Command → Store → Store → Type 0
Kept cmd st st' = (x : ProgVar) → (Modifies cmd x → ⊥) → value_in st' x ≡ value_in st x

-- it is so at the end
pub with-kept : (ps : Procedures) (n : ℕ) (J : Store → Trees → Type 0) (cmd : Command)
    (st : Store) (g : Trees) → Well ps ⊥ n J (run cmd ∷ []) st g
    → Well ps ⊥ n (λ st' g'. J st' g' × Kept cmd st st') (run cmd ∷ []) st g
with-kept ps n J cmd st g w picks l =
    kept-too (runs ps picks (beginning cmd st g)) refl (w picks l)
  where
    kept-too : (o : RunOutcome) → runs ps picks (beginning cmd st g) ≡ o → Ends ⊥ J o
        → Ends ⊥ (λ st' g'. J st' g' × Kept cmd st st') o
    kept-too running e m = tt
    kept-too picked_badly e m = tt
    kept-too (fault f) e m = m
    kept-too (ended st' g') e m = (m, λ x u. unmodified ps x cmd u picks st st' g g' e)

-- so the environment is as it was at each variable that the command changes nothing of
pub kept-agrees : (cmd : Command) (st st' : Store) (e : Environment) → Kept cmd st st'
    → (In : Var → Type 0) → ((x : ProgVar) → Modifies cmd x → In (as_var x) → ⊥)
    → (v : Var) → In v → with_store (lookup st) e v ≡ with_store (lookup st') e v
kept-agrees cmd st st' e kept In free (prog z u) f =
    ap val (sym (kept (named z u) (λ m. free (named z u) m f)))
kept-agrees cmd st st' e kept In free (logic z u) f = refl
kept-agrees cmd st st' e kept In free (bound i u) f = refl
