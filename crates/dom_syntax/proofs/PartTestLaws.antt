-- What the parts of calls say.
use Rattle.std.proofs.Common.{◌≡◌, ◌∙◌, refl, ap, List, [], ◌∷◌, Bool, true, false, not, ◌&&◌, ◌||◌, Option, Some, None, is_some}
use Rattle.std.specs.List.{list_all}
use Rattle.std.specs.Option.{option_map}
use Rattle.std.specs.Borrow.{Bor}
use Rattle.model_terms.specs.VariableTests.{same_var}
use Rattle.model_terms.specs.Variables.{Var, prog, logic, bound}
use Rattle.model_terms.specs.Stores.{ProgVar, named, as_var, same_name}
use Rattle.model_commands.specs.SortTests.{is_among, stands_in}
use Rattle.model_commands.specs.Theories.{Procedure}
use Rattle.theory_syntax.specs.declared.theories.Procedure as program
use Rattle.dom_syntax.specs.Callees.{callee_of}
use Rattle.dom_syntax.specs.ScopeTests.{stands_outside}
use Rattle.dom_syntax.proofs.FreshLaws.{name-turned}

-- a procedure that is found is there
pub callee-some : (o : Option (Bor program.Procedure)) (p : Option Procedure)
    → option_map callee_of o ≡ p → is_some o ≡ is_some p
callee-some None p e = ap is_some e
callee-some (Some f) p e = ap is_some e

pub ruleset callee_rules = (callee-some)

-- RESULTS: none is this variable
outside-one : (rs : List ProgVar) (v : Var)
    → stands_outside rs v ≡ list_all (λ x. not (same_var (as_var x) v)) rs
outside-one [] (prog name s) = refl
outside-one (r ∷ rs) (prog name s) =
    (λ j. not (name-turned (named name s) r j || is_among rs (named name s)))
    ∙ apart (same_name r (named name s)) (is_among rs (named name s))
    ∙ (λ j. not (same_name r (named name s)) && outside-one rs (prog name s) j)
  where
    apart : (a b : Bool) → not (a || b) ≡ (not a && not b)
    apart true b = refl
    apart false b = refl
outside-one [] (logic name s) = refl
outside-one (named other u ∷ rs) (logic name s) = outside-one rs (logic name s)
outside-one [] (bound i s) = refl
outside-one (named other u ∷ rs) (bound i s) = outside-one rs (bound i s)

spread : (a b c d : Bool) → ((not a && c) && (not b && d)) ≡ (not (a || b) && (c && d))
spread true b c d = refl
spread false true true d = refl
spread false true false d = refl
spread false false c d = refl

both-apart : (rs : List ProgVar) (v : Var) (vs : List Var)
    → (list_all (λ x. not (same_var (as_var x) v)) rs && list_all (λ x. not (stands_in vs x)) rs)
    ≡ list_all (λ x. not (stands_in (v ∷ vs) x)) rs
both-apart [] v vs = refl
both-apart (r ∷ rs) v vs =
    spread (same_var (as_var r) v) (stands_in vs r) (list_all (λ x. not (same_var (as_var x) v)) rs)
    (list_all (λ x. not (stands_in vs x)) rs)
    ∙ (λ j. not (stands_in (v ∷ vs) r) && both-apart rs v vs j)

none-at-all : (rs : List ProgVar) → true ≡ list_all (λ x. not (stands_in [] x)) rs
none-at-all [] = refl
none-at-all (r ∷ rs) = none-at-all rs

-- no result is one of the variables
pub results-outside : (rs : List ProgVar) (vs : List Var)
    → list_all (stands_outside rs) vs ≡ list_all (λ x. not (stands_in vs x)) rs
results-outside rs [] = none-at-all rs
results-outside rs (v ∷ vs) =
    (λ j. outside-one rs v j && results-outside rs vs j) ∙ both-apart rs v vs

pub ruleset apart_rules = (results-outside)
