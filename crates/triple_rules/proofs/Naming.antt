-- The procedure of a name, found in a table.
use Rattle.std.proofs.Common.{◌≡◌, ◌∙◌, refl, sym, ap, subst, Bool, true, false, cond, ℕ, List, [], ◌∷◌, map, Option, Some, None, MatchOption, bytes_eq, Bor}
use Rattle.std.specs.Option.{option_map}
use Rattle.model_commands.specs.Theories as model
use Rattle.model_commands.specs.Theories.{nameless_procedure, procedure_named}
use Rattle.model_files.specs.Sizes.{ProcedureIsSmall, ProceduresAreSmall}
use Rattle.theory_syntax.specs.Theories.{procedure_of}
use Rattle.theory_syntax.specs.declared.theories.Procedure.{Procedure}
use Rattle.triple_rules.specs.Callees.{first_named, procedure_at}
use Rattle.triple_rules.specs.Procedures.{procedures_in}

-- as the definitions have it
abbrev pub callee : Procedure → model.Procedure
callee f = nameless_procedure (procedure_of f)

module _ (name : List ℕ) where
  one-before : (b : Bool) (f : Procedure) (o : Option Procedure) (p : Option model.Procedure)
      → p ≡ option_map callee o → cond b (Some (callee f)) p ≡ option_map callee (cond b (Some f) o)
  one-before true f o p e = refl
  one-before false f o p e = e

  named-is : (fs : List Procedure)
      → procedure_named name (procedures_in fs) ≡ option_map callee (first_named name fs)
  named-is [] = refl
  named-is (f ∷ fs) =
      one-before (bytes_eq name f.name) f (first_named name fs)
      (procedure_named name (procedures_in fs)) (named-is fs)

  small-named : (fs : List Procedure) (f : Procedure) → ProceduresAreSmall (map procedure_of fs)
      → first_named name fs ≡ Some f → ProcedureIsSmall (procedure_of f)
  small-named [] f h e = absurd cc
  small-named (g ∷ fs) f h e = by_test (bytes_eq name g.name) e (small-named fs f h.1)
    where
      by_test : (b : Bool) → cond b (Some g) (first_named name fs) ≡ Some f
          → (first_named name fs ≡ Some f → ProcedureIsSmall (procedure_of f))
          → ProcedureIsSmall (procedure_of f)
      by_test true e later =
          let same : g ≡ f = cc in
          subst (λ (z : Procedure). ProcedureIsSmall (procedure_of z)) same h.0
      by_test false e later = later e

  -- what a table answers, if it has the first procedure of the name
  pub found-is : (fs : List Procedure) (o : Option (Bor Procedure))
      → ProceduresAreSmall (map procedure_of fs) → option_map procedure_at o ≡ first_named name fs
      → MatchOption o (procedure_named name (procedures_in fs) ≡ None)
      (λ f. (procedure_named name (procedures_in fs) ≡ Some (callee f.now))
      × ProcedureIsSmall (procedure_of f.now))
  found-is fs None h e = named-is fs ∙ ap (option_map callee) (sym e)
  found-is fs (Some f) h e =
      (named-is fs ∙ ap (option_map callee) (sym e), small-named fs f.now h (sym e))
