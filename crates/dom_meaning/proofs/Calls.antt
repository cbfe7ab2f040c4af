-- The procedure that a call enters.
use Rattle.std.proofs.Common.{◌≡◌, Bool, true, false, cond, List, [], ◌∷◌, Option, Some, None, bytes_eq, map, refl, sym, ap, subst}
use Rattle.std.specs.Prelude.{find}
use Rattle.std.specs.Option.{option_map}
use Rattle.model_shapes.specs.Values.{Name}
use Rattle.model_shapes.specs.Trees.{Trees}
use Rattle.model_terms.specs.Terms.{Term}
use Rattle.model_terms.specs.Stores.{ProgVar, Store}
use Rattle.model_commands.specs.Theories as model
use Rattle.model_commands.specs.Theories.{nameless_procedure, procedure_named}
use Rattle.theory_syntax.specs.declared.theories.Procedure.{Procedure}
use Rattle.theory_syntax.specs.Theories.{procedure_of}
use Rattle.model_machine.specs.Machine.{run, return, becomes, entering, calling}
use Rattle.dom_terms.specs.Terms.{prog_var_of}
use Rattle.theory_syntax.specs.Commands.{command_of}
use Rattle.dom_meaning.specs.OwnTerms.{Fed, Enters}
use Rattle.dom_meaning.specs.Effects.{nameless_of}

-- the first one with the name is found by it
pub found_by_name : (name : Name) (ps : List Procedure)
    → option_map nameless_of (find (λ (p : Procedure). bytes_eq name p.name) ps)
    ≡ procedure_named name (map nameless_procedure (map procedure_of ps))
found_by_name name [] = refl
found_by_name name (p ∷ ps) = by_test (bytes_eq name p.name) (found_by_name name ps)
  where
    by_test : (b : Bool)
        → option_map nameless_of (find (λ (p : Procedure). bytes_eq name p.name) ps)
        ≡ procedure_named name (map nameless_procedure (map procedure_of ps))
        → option_map nameless_of
        (cond b (Some p) (find (λ (p : Procedure). bytes_eq name p.name) ps))
        ≡ cond b (Some (nameless_of p))
        (procedure_named name (map nameless_procedure (map procedure_of ps)))
    by_test true e = refl
    by_test false e = e

module _ (found : Option model.Procedure) (es : List Term) where
  -- a call enters a procedure
  pub not_called : None ≡ found → Enters found es → ⊥
  not_called e h = subst (λ (z : Option model.Procedure). Enters z es) (sym e) h

  module _ (p : Procedure) (is : Some (nameless_of p) ≡ found) where
    -- with its arguments
    pub fed_params : Enters found es → Fed (map prog_var_of p.params) es
    fed_params h = subst (λ (z : Option model.Procedure). Enters z es) (sym is) h

    -- and its body
    pub calls_it : (xs : List ProgVar) (store : Store) (grove : Trees)
        → becomes (run (command_of p.body) ∷ return store (map prog_var_of p.results) xs ∷ [])
        (entering (map prog_var_of p.params) es store) grove ≡ calling found xs es store grove
    calls_it xs store grove =
        ap (λ (z : Option model.Procedure). calling z xs es store grove) is

-- what a call enters
pub ruleset call_rules = (not_called, fed_params, calls_it)
