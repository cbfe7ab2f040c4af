-- What terms stand for where variables are bound.
use Rattle.std.proofs.Common.{◌≡◌, ◌∙◌, true, false, ◌+ℤ◌, ◌-ℤ◌, ◌++◌, refl, ap}
use Rattle.model_shapes.specs.Sorts.{ValueSort}
use Rattle.model_shapes.specs.Values.{Name, Value, null, nolist, node_number, list_number, int, str, boolean}
use Rattle.model_shapes.specs.Things.{Thing, val}
use Rattle.model_terms.specs.Variables.{Var, prog, logic, bound}
use Rattle.model_terms.specs.VariableTests.{same_var, same_var-is, same_var-not}
use Rattle.model_terms.specs.Terms.{Term, literal, variable, sum, difference, appended}
use Rattle.model_terms.specs.TermSorts.{evaluates}
use Rattle.model_terms.specs.Stores.{Store, value_of, int_in, text_in}
use Rattle.model_terms.specs.Computing.{Computes}
use Rattle.model_terms.proofs.Computing.{evaluates-computes}
use Rattle.model_formulas.specs.Satisfaction.{Environment, meaning_of, number_of, text_meant}
use Rattle.model_formulas.specs.Setting.{setting}
use Rattle.model_watch.specs.Watching.{store_alone}
use Rattle.model_watch.proofs.Anchors.{setting_same, setting_other}
use Rattle.dom_terms.specs.Sorts.{sort_of}
use Rattle.dom_terms.specs.Terms.{logic_var_of, term_of}
use Rattle.dom_terms.specs.declared.terms.LogicVar.{LogicVar}
use Rattle.dom_terms.specs.declared.terms.Term as program
use Rattle.dom_terms.specs.declared.terms.Term.TheVariants as v
use Rattle.dom_watch.specs.declared.bindings.Bindings.{Bindings}
use Rattle.dom_watch.specs.declared.bindings.Bindings.TheVariants as b
use Rattle.dom_watch.specs.Rows.{value_at}
use Rattle.dom_watch.specs.Bindings.{bound_in, meant}
use Rattle.dom_watch.specs.Judged.{IsTold, environment}

-- the nearest binding of a variable counts
pub set_here : (x y : Var) (v : Thing) (e : Environment) → same_var y x ≡ true
    → setting x v e y ≡ v
set_here x y v e h = setting_same x y v e (same_var-is y x h)

pub set_elsewhere : (x y : Var) (v : Thing) (e : Environment) → same_var y x ≡ false
    → setting x v e y ≡ e y
set_elsewhere x y v e h = setting_other x y v e (same_var-not y x h)

pub ruleset binding_rules = (set_here, set_elsewhere)

number_val : (v : Value) → number_of (val v) ≡ int_in v
number_val null = refl
number_val nolist = refl
number_val (node_number n) = refl
number_val (list_number n) = refl
number_val (int z) = refl
number_val (str s) = refl
number_val (boolean b) = refl

text_val : (v : Value) → text_meant (val v) ≡ text_in v
text_val null = refl
text_val nolist = refl
text_val (node_number n) = refl
text_val (list_number n) = refl
text_val (int z) = refl
text_val (str s) = refl
text_val (boolean b) = refl

-- program variables keep their values
programs_stay : (bindings : Bindings) (e : Environment) (name : Name) (s : ValueSort)
    → meant bindings e (prog name s) ≡ e (prog name s)
programs_stay b.Empty e name s = refl
programs_stay (b.More' x row p outer) e name s =
    set_elsewhere (logic_var_of x.now) (prog name s) (val (value_at (sort_of x.now.sort) row.now))
    (meant outer e) refl
    ∙ programs_stay outer e name s

-- a term without logic variables stands for its value
computed_meaning : (bindings : Bindings) (store : Store) (s : ValueSort) (t : Term) → Computes s t
    → meaning_of (environment bindings store) t ≡ val (value_of store t)
computed_meaning bindings store s (literal v) c = refl
computed_meaning bindings store s (variable (prog x u)) c =
    programs_stay bindings (store_alone store) x u
computed_meaning bindings store s (variable (logic x u)) c = absurd c
computed_meaning bindings store s (variable (bound i u)) c = absurd c
computed_meaning bindings store s (sum x y) c =
    λ j. val (int (
    (ap number_of (computed_meaning bindings store _ x c.1) ∙ number_val (value_of store x)) j +ℤ
    (ap number_of (computed_meaning bindings store _ y c.2) ∙ number_val (value_of store y)) j))
computed_meaning bindings store s (difference x y) c =
    λ j. val (int (
    (ap number_of (computed_meaning bindings store _ x c.1) ∙ number_val (value_of store x)) j -ℤ
    (ap number_of (computed_meaning bindings store _ y c.2) ∙ number_val (value_of store y)) j))
computed_meaning bindings store s (appended x y) c =
    λ j. val (str (
    (ap text_meant (computed_meaning bindings store _ x c.1) ∙ text_val (value_of store x)) j ++
    (ap text_meant (computed_meaning bindings store _ y c.2) ∙ text_val (value_of store y)) j))

pub plain_meaning : (bindings : Bindings) (store : Store) (s : ValueSort) (t : Term)
    → evaluates s t ≡ true → meaning_of (environment bindings store) t ≡ val (value_of store t)
plain_meaning bindings store s t h = computed_meaning bindings store s t (evaluates-computes s t h)

-- a term that is told and is no logic variable
pub told_meaning : (bindings : Bindings) (store : Store) (t : program.Term)
    → ((x : LogicVar) → t ≡ v.Logic x → ⊥) → IsTold (bound_in bindings) store (term_of t)
    → meaning_of (environment bindings store) (term_of t) ≡ val (value_of store (term_of t))
told_meaning bindings store v.NullNode n h = refl
told_meaning bindings store v.NullList n h = refl
told_meaning bindings store (v.Int z) n h = refl
told_meaning bindings store (v.Str s) n h = refl
told_meaning bindings store (v.Bool b) n h = refl
told_meaning bindings store (v.Prog x) n h =
    plain_meaning bindings store h.0 (term_of (v.Prog x)) h.1
told_meaning bindings store (v.Logic x) n h = absurd (n x refl)
told_meaning bindings store (v.Add' p a q b) n h =
    plain_meaning bindings store h.0 (term_of (v.Add' p a q b)) h.1
told_meaning bindings store (v.Sub' p a q b) n h =
    plain_meaning bindings store h.0 (term_of (v.Sub' p a q b)) h.1
told_meaning bindings store (v.Cat' p a q b) n h =
    plain_meaning bindings store h.0 (term_of (v.Cat' p a q b)) h.1
