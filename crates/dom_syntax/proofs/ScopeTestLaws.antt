-- What the tables of a scope answer is what the tests of a variable ask.
use Rattle.std.proofs.Common.{◌≡◌, ◌∙◌, sym, refl, ap, ℕ, List, [], ◌∷◌, Bool, true, false, ◌&&◌, Option, Some, None, is_some}
use Rattle.std.specs.Option.{option_map}
use Rattle.std.specs.Bool.{OnTrue}
use Rattle.std.specs.List.{list_all}
use Rattle.std.proofs.lemmas.Bool.{and_from, and_parts}
use Rattle.model_terms.specs.Variables.{Var, prog, logic}
use Rattle.model_shapes.specs.Sorts as sorts
use Rattle.model_files.specs.FileFaults.{declared_by, is_known, is_as_declared}
use Rattle.dom_terms.specs.Sorts.{value_sort_of, sort_of}
use Rattle.dom_terms.specs.declared.sorts.ValueSort.{ValueSort}
use Rattle.dom_terms.specs.declared.sorts.Sort.{Sort}
use Rattle.dom_syntax.specs.declared.scopes.Scope.{Scope}
use Rattle.model_commands.specs.Theories.{procedure_named}
use Rattle.dom_syntax.specs.declared.scopes.Names.{Names}
use Rattle.dom_syntax.specs.Callees.{callee_of}
use Rattle.dom_syntax.specs.Tables.{found}
use Rattle.dom_syntax.specs.Scopes.{HasNames, IsScope, callees_in, names_in, procedure_in}
use Rattle.declared_sorts.specs.Settled.{is_settled}
use Rattle.dom_syntax.specs.ScopeTests.{may_be_declared, sort_fits, logic_sort_fits}
use Rattle.dom_syntax.proofs.ScopeLaws.{first-procedure, known-prog, known-logic, as-declared-prog, as-declared-logic}

some-seen : {V W : Type 0} (seen : V → W) (o : Option V) → is_some o ≡ is_some (option_map seen o)
some-seen seen None = refl
some-seen seen (Some v) = refl

-- whether a variable passes whose name is declared or not, with its sort or not
abbrev pub passes : Bool → Bool → Bool → Bool
passes true known fits = fits
passes false known fits = known && fits

module _ (scope : Scope) (is : IsScope scope) (name : List ℕ) where
  pub prog-known : (s : sorts.ValueSort)
      → is_some (found scope.variables name) ≡ is_known (names_in scope) (prog name s)
  prog-known s =
      some-seen value_sort_of (found scope.variables name) ∙ ap is_some (is.variables.first name)
      ∙ sym (known-prog name s (declared_by (procedure_in scope)) scope.names.now.theory.now.logic)

  pub logic-known : (s : sorts.Sort)
      → is_some (found scope.names.now.logic name) ≡ is_known (names_in scope) (logic name s)
  logic-known s =
      some-seen sort_of (found scope.names.now.logic name) ∙ ap is_some (is.names.logic.first name)
      ∙ sym (known-logic name s (declared_by (procedure_in scope))
      scope.names.now.theory.now.logic)

  pub prog-declared : (s : sorts.ValueSort) (o : Option ValueSort)
      → o ≡ found scope.variables name
      → sort_fits (option_map value_sort_of o) s ≡ is_as_declared (names_in scope) (prog name s)
  prog-declared s o e =
      (λ j. sort_fits (option_map value_sort_of (e j)) s)
      ∙ (λ j. sort_fits (is.variables.first name j) s)
      ∙ sym (as-declared-prog name s (declared_by (procedure_in scope))
      scope.names.now.theory.now.logic)

  pub logic-declared : (s : sorts.Sort) (o : Option Sort)
      → o ≡ found scope.names.now.logic name
      → logic_sort_fits (option_map sort_of o) s ≡ is_as_declared (names_in scope) (logic name s)
  logic-declared s o e =
      (λ j. logic_sort_fits (option_map sort_of (e j)) s)
      ∙ (λ j. logic_sort_fits (is.names.logic.first name j) s)
      ∙ sym (as-declared-logic name s (declared_by (procedure_in scope))
      scope.names.now.theory.now.logic)

  pub prog-passes : (b : Bool) (s : sorts.ValueSort) (o : Option ValueSort)
      → o ≡ found scope.variables name
      → passes b (is_some o) (sort_fits (option_map value_sort_of o) s)
      ≡ may_be_declared b (names_in scope) (prog name s)
  prog-passes true s o e = prog-declared s o e
  prog-passes false s o e =
      (λ j. is_some (e j) && prog-declared s o e j)
      ∙ (λ j. prog-known s j && is_as_declared (names_in scope) (prog name s))

  pub logic-passes : (b : Bool) (s : sorts.Sort) (o : Option Sort)
      → o ≡ found scope.names.now.logic name
      → passes b (is_some o) (logic_sort_fits (option_map sort_of o) s)
      ≡ may_be_declared b (names_in scope) (logic name s)
  logic-passes true s o e = logic-declared s o e
  logic-passes false s o e =
      (λ j. is_some (e j) && logic-declared s o e j)
      ∙ (λ j. logic-known s j && is_as_declared (names_in scope) (logic name s))

-- where it is found, its sort decides, and where not, whether unknown ones pass
pub found-passes : (b r : Bool) → passes b true r ≡ r
found-passes true r = refl
found-passes false r = refl

pub absent-passes : (b : Bool) → passes b false true ≡ b
absent-passes true = refl
absent-passes false = refl

pub all-weaker : {A : Type 0} (p q : A → Bool) → ((x : A) → p x ≡ true → q x ≡ true)
    → (xs : List A) → list_all p xs ≡ true → list_all q xs ≡ true
all-weaker p q f [] all = refl
all-weaker p q f (x ∷ xs) all =
    and_from _ _ (f x (and_parts _ _ all).0) (all-weaker p q f xs (and_parts _ _ all).1)

-- variables that are settled pass both tests
module _ (declared : List Var) where
  settled-weaker : (weaker : Var → Bool)
      → ((x : Var) → is_settled declared x ≡ true → weaker x ≡ true) → (b : Bool) (xs : List Var)
      → OnTrue b (list_all (is_settled declared) xs ≡ true)
      → OnTrue b (list_all weaker xs ≡ true)
  settled-weaker weaker f false xs all = all
  settled-weaker weaker f true xs all = all-weaker (is_settled declared) weaker f xs all

  pub settled-known : (b : Bool) (xs : List Var)
      → OnTrue b (list_all (is_settled declared) xs ≡ true)
      → OnTrue b (list_all (is_known declared) xs ≡ true)
  settled-known = settled-weaker (is_known declared) (λ x e. (and_parts _ _ e).0)

  pub settled-declared : (b : Bool) (xs : List Var)
      → OnTrue b (list_all (is_settled declared) xs ≡ true)
      → OnTrue b (list_all (is_as_declared declared) xs ≡ true)
  settled-declared = settled-weaker (is_as_declared declared) (λ x e. (and_parts _ _ e).1)

-- what a table of procedures has is the first of the name
pub called : (names : Names) → HasNames names → (name : List ℕ)
    → option_map callee_of (found names.procedures name) ≡ procedure_named name (callees_in names)
called names has name = has.procedures.first name ∙ first-procedure (callees_in names) name

pub ruleset callee_rules = (called)

pub ruleset known_rules = (prog-known, logic-known)

pub ruleset declared_rules = (prog-declared, logic-declared)
