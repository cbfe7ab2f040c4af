-- The sets and the table are those of the calls before.
use Rattle.std.proofs.Common.{◌≡◌, ◌∙◌, ap, sym, subst, refl, map, List, Result, Ok, IfOk}
use Rattle.model_files.specs.FileFaults.{declared_by}
use Rattle.dom_terms.specs.Sorts.{value_sort_of}
use Rattle.dom_terms.specs.Terms.{prog_var_of}
use Rattle.dom_terms.specs.declared.terms.ProgVar.{ProgVar}
use Rattle.theory_syntax.specs.Theories.{procedure_of}
use Rattle.dom_syntax.specs.Scopes.{variable_entry}
use Rattle.dom_syntax.specs.Tables.{Declares}
use Rattle.dom_syntax.specs.VariableSets.{Holds}
use Rattle.dom_syntax.specs.declared.variable_sets.VariableSet.{VariableSet}
use Rattle.dom_syntax.proofs.scopes.Scope.new.Goals as goal

-- what is told of what is there is told of the value
told : {A E : Type 0} (P : A → Type 0) (r : Result A E) (a : A) → r ≡ Ok a → IfOk r P → P a
told P r a is h = subst (λ x. IfOk x P) is h

-- a set that is another holds what that holds, the elements of a list as of its slice
held : (s t : VariableSet) (xs ys : List ProgVar) → s ≡ t → xs ≡ ys
    → Holds t (map prog_var_of xs) → Holds s (map prog_var_of ys)
held s t xs ys same is h =
    subst (λ u. Holds u (map prog_var_of ys)) (sym same)
    (subst (λ zs. Holds t (map prog_var_of zs)) is h)

pub returns : goal.returns
returns c =
    let f = c.args.procedure.now in
    let sets = c.in_ok-sets.ensures.both in
    let all = c.in_ok-params.ensures.both in (
      record {
        names = c.requires;
        params = held c.in_ok-params.params c.in_ok-of.field-0 _ _ (ap (λ s. s.0) all.0 ∙ sets.0)
            c.as_slice.ensures c.in_ok-of.ensures;
        results = held c.in_ok-params.results c.in_ok-sets.sets.1 _ _ (ap (λ s. s.1) all.0)
            c.as_slice-2.ensures
            (told (λ s. Holds s (map prog_var_of c.as_slice-2.result.now)) c.of-2.result
            c.in_ok-sets.sets.1 sets.1 c.of-2.ensures);
        variables = told
            (λ t. Declares value_sort_of t (map variable_entry (declared_by (procedure_of f))))
            c.variable_table.result c.in_ok-params.variables all.1 c.variable_table.ensures;
      },
      refl,
      refl,
    )
