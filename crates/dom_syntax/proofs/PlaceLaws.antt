-- What the flags of the tables say of repeated names, and of the variables that a formula may have.
use Rattle.std.proofs.Common.{◌≡◌, ◌∙◌, sym, refl, ap, List, Bool, true, false, not, ◌&&◌, ◌||◌, map, bytes_eq}
use Rattle.std.specs.List.{list_all, list_any}
use Rattle.model_shapes.proofs.Tests.{bytes-refl}
use Rattle.model_terms.specs.Variables.{Var}
use Rattle.model_terms.specs.Stores.{ProgVar, as_var}
use Rattle.model_formulas.specs.Formulas.{Named}
use Rattle.model_commands.specs.SortTests.{distinct_by}
use Rattle.model_commands.specs.Theories.{ProcedureOf}
use Rattle.model_files.specs.FileFaults.{share_name, declared_by, only_among}
use Rattle.dom_syntax.specs.declared.scopes.Names.{Names}
use Rattle.dom_syntax.specs.declared.scopes.Scope.{Scope}
use Rattle.dom_syntax.specs.Heads.{earlier_for}
use Rattle.dom_syntax.specs.Scopes.{HasNames, IsScope, procedure_in, theory_in}
use Rattle.dom_syntax.specs.ScopeTests.{may_stand}
use Rattle.dom_syntax.proofs.ScopeLaws.{distinct-entries, distinct-logic, only-among-all}

twice-denied : (b : Bool) → not (not b) ≡ b
twice-denied true = refl
twice-denied false = refl

-- no logic variable is declared twice
pub logic-distinct : (names : Names) → HasNames names
    → not names.logic.repeats ≡ distinct_by share_name (theory_in names).logic
logic-distinct names has =
    ap not has.logic.repeats ∙ twice-denied _ ∙ distinct-logic names.theory.now.logic

-- no variable of the procedure is
variables-distinct : (scope : Scope) → IsScope scope
    → not scope.variables.repeats
    ≡ distinct_by share_name (map as_var (declared_by (procedure_in scope)))
variables-distinct scope is =
    ap not is.variables.repeats ∙ twice-denied _
    ∙ distinct-entries (declared_by (procedure_in scope))

-- its name is new
name-new : (b : Bool) (f : ProcedureOf Named)
    → b ≡ not (list_any (λ g. bytes_eq f.name g.name) (earlier_for b f))
name-new true f = refl
name-new false f = λ j. not (sym (bytes-refl f.name) j || false)

pub head-distinct : (scope : Scope) → IsScope scope → (b : Bool)
    → (b && not scope.variables.repeats)
    ≡ (not (list_any (λ g. bytes_eq (procedure_in scope).name g.name)
    (earlier_for b (procedure_in scope)))
    && distinct_by share_name (map as_var (declared_by (procedure_in scope))))
head-distinct scope is b = λ j. name-new b (procedure_in scope) j && variables-distinct scope is j

-- the program variables of a formula are among these
pub only-among-of : (allowed : List ProgVar) (xs : List Var)
    → list_all (may_stand allowed) xs ≡ only_among allowed xs
only-among-of = only-among-all

pub ruleset place_rules = (logic-distinct, head-distinct)

pub ruleset scope_rules = (only-among-of)
