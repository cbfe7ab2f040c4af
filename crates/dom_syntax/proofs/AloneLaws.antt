-- A header whose procedure declares its parameters alone names no others, where its variables are
-- settled.
use Rattle.std.proofs.Common.{◌≡◌, ◌∙◌, sym, ap, subst, refl, ℕ, List, [], ◌∷◌, ◌++◌, map, Bool, true, false, cond, ◌&&◌, ◌||◌, Some, is_some, bytes_eq}
use Rattle.std.specs.List.{list_all, list_any}
use Rattle.std.proofs.lemmas.Bool.{and_from, and_parts}
use Rattle.std.proofs.lemmas.List.Folds.{list_all-append, list_any-append}
use Rattle.model_shapes.specs.Sorts.{ValueSort}
use Rattle.model_shapes.specs.Tests.{same_value_sort}
use Rattle.model_shapes.proofs.Tests.{same_value_sort-is, same_value_sort-refl}
use Rattle.model_terms.specs.Variables.{Var, prog, logic, bound}
use Rattle.model_terms.specs.Stores.{ProgVar, named, as_var, same_name}
use Rattle.model_commands.specs.CommandParts.{variables_of, variables_of_command}
use Rattle.model_files.specs.FileFaults.{declared_by, is_among, only_among}
use Rattle.dom_terms.specs.declared.terms.LogicVar.{LogicVar}
use Rattle.dom_terms.specs.Terms.{logic_var_of}
use Rattle.declared_sorts.specs.Settled.{is_settled, head_settled}
use Rattle.dom_syntax.specs.declared.scopes.Scope.{Scope}
use Rattle.dom_syntax.specs.Scopes.{names_in, procedure_in, variable_entry}
use Rattle.dom_syntax.specs.ScopeTests.{may_stand, sort_fits}
use Rattle.dom_syntax.specs.Tables.{first_of}
use Rattle.dom_syntax.proofs.ScopeLaws.{as-declared-prog, known-prog, only-among-all}
use Rattle.dom_syntax.proofs.ScopeTestLaws.{all-weaker}

turned : (s u : ValueSort) → same_value_sort u s ≡ true → same_value_sort s u ≡ true
turned s u e = subst (λ z. same_value_sort s z ≡ true) (sym (same_value_sort-is u s e))
    (same_value_sort-refl s)

-- a name that is declared first with the sort is among the declared ones with it
among-first : (ds : List ProgVar) (name : List ℕ) (s : ValueSort)
    → is_some (first_of (map variable_entry ds) name) ≡ true
    → sort_fits (first_of (map variable_entry ds) name) s ≡ true
    → is_among ds (named name s) ≡ true
among-first [] name s some fits = absurd (cc)
among-first (named other u ∷ ds) name s some fits =
    by_test (bytes_eq name other) some fits (among-first ds name s)
  where
    by_test : (b : Bool)
        → is_some (cond b (Some u) (first_of (map variable_entry ds) name)) ≡ true
        → sort_fits (cond b (Some u) (first_of (map variable_entry ds) name)) s ≡ true
        → (is_some (first_of (map variable_entry ds) name) ≡ true
        → sort_fits (first_of (map variable_entry ds) name) s ≡ true
        → is_among ds (named name s) ≡ true)
        → ((b && same_value_sort s u) || is_among ds (named name s)) ≡ true
    by_test true some fits rest =
        ap (λ c. c || is_among ds (named name s)) (turned s u fits)
    by_test false some fits rest = rest some fits

module _ (ds : List ProgVar) (ls : List LogicVar) where
  settled-among : (x : Var) → is_settled (map as_var ds ++ map logic_var_of ls) x ≡ true
      → may_stand ds x ≡ true
  settled-among (prog name s) e =
      let p = and_parts _ _ e in
      among-first ds name s (sym (known-prog name s ds ls) ∙ p.0)
      (sym (as-declared-prog name s ds ls) ∙ p.1)
  settled-among (logic name s) e = refl
  settled-among (bound i s) e = refl

-- among more they are too
among-more : (ds es : List ProgVar) (x : Var) → may_stand ds x ≡ true
    → may_stand (ds ++ es) x ≡ true
among-more ds es (prog name s) e =
    list_any-append (same_name (named name s)) ds es
    ∙ ap (λ b. b || list_any (same_name (named name s)) es) e
among-more ds es (logic name s) e = refl
among-more ds es (bound i s) e = refl

pub alone-in-scope : (scope : Scope)
    → declared_by (procedure_in scope) ≡ (procedure_in scope).params
    → head_settled (names_in scope) (procedure_in scope) ≡ true
    → true ≡ (only_among (procedure_in scope).params (variables_of (procedure_in scope).pre)
    && only_among ((procedure_in scope).params ++ (procedure_in scope).results)
    (variables_of (procedure_in scope).post))
alone-in-scope scope alone settled =
    let f = procedure_in scope in
    let ls = scope.names.now.theory.now.logic in
    let test = is_settled (map as_var f.params ++ map logic_var_of ls) in
    let all : list_all test (variables_of f.pre ++ (variables_of f.post
    ++ variables_of_command f.body)) ≡ true = subst (λ (ds : List ProgVar).
    list_all (is_settled (map as_var ds ++ map logic_var_of ls)) (variables_of f.pre
    ++ (variables_of f.post ++ variables_of_command f.body)) ≡ true) alone settled in
    let p = and_parts _ _ (sym (list_all-append test (variables_of f.pre) (variables_of f.post
    ++ variables_of_command f.body)) ∙ all) in
    let q = and_parts _ _ (sym (list_all-append test (variables_of f.post)
    (variables_of_command f.body)) ∙ p.1) in
    sym (and_from _ _
    (sym (only-among-all f.params (variables_of f.pre)) ∙ all-weaker test (may_stand f.params)
    (settled-among f.params ls) (variables_of f.pre) p.0)
    (sym (only-among-all (f.params ++ f.results) (variables_of f.post))
    ∙ all-weaker test (may_stand (f.params ++ f.results))
    (λ x e. among-more f.params f.results x (settled-among f.params ls x e))
    (variables_of f.post) q.0))
