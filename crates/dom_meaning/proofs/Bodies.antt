-- The bodies of a well-formed theory, by the places of their procedures.
use Rattle.std.proofs.Common.{◌≡◌, ℕ, zero, suc, ◌+◌, Bool, true, false, not, ◌||◌, cond, List, [], ◌∷◌, ◌++◌, map, Some, None, refl, sym, ap, ◌∙◌, subst, bytes_eq}
use Rattle.std.specs.Prelude.{slice_get}
use Rattle.std.specs.List.{list_any}
use Rattle.std.proofs.lemmas.Slice.Eq.{bytes_eq-Decides}
use Rattle.model_shapes.proofs.Truth.{both_true}
use Rattle.model_formulas.specs.Formulas.{Named}
use Rattle.model_commands.specs.Theories.{ProcedureOf, Theory, nameless_procedure, procedures_of, procedure_named}
use Rattle.model_commands.specs.SortTests.{is_sorted}
use Rattle.model_files.specs.FileFaults.{twice_kind, declarations, header, steps_from, procedures_from, first_fault_at, IsWellFormedTheory}
use Rattle.model_commands.proofs.StoreLaws.{not-true}
use Rattle.model_files.proofs.Places.{passes-each, first-none, both-none}
use Rattle.model_files.proofs.WellFormedTheories.{well-formed-bodies}
use Rattle.theory_syntax.specs.declared.theories.Procedure.{Procedure}
use Rattle.theory_syntax.specs.Theories.{procedure_of}

either-false : (a b : Bool) → (a || b) ≡ false → (a ≡ false) × (b ≡ false)
either-false true b e = absurd cc
either-false false b e = (refl, e)

some-is : (p q : Procedure) → Some p ≡ Some q → p ≡ q
some-is p q e = cc

module _ (theory : Theory) where
  -- no earlier procedure has its name, and among these it is found by the name
  abbrev Found : List (ProcedureOf Named) → List Procedure → Procedure → Type 0
  Found earlier ps f =
      (list_any (λ g. bytes_eq f.name g.name) earlier ≡ false)
      × (procedure_named f.name (map nameless_procedure (map procedure_of ps))
      ≡ Some (nameless_procedure (procedure_of f)))

  found : (earlier : List (ProcedureOf Named)) (n : ℕ) (ps : List Procedure) (place : ℕ)
      (f : Procedure)
      → first_fault_at (procedures_from theory earlier n (map procedure_of ps)) ≡ None
      → slice_get ps place ≡ Some f
      → Found earlier ps f
  found earlier n [] place f e is = absurd cc
  found earlier n (p ∷ ps) zero f e is =
      let a = first-none n 0 (header theory earlier (procedure_of p))
      (steps_from theory n (procedure_of p) 1 (procedure_of p).proof
      ++ procedures_from theory (procedure_of p ∷ earlier) (n + 1) (map procedure_of ps)) e in
      let new = (both_true (not (list_any (λ g. bytes_eq p.name g.name) earlier)) _
      (passes-each (header theory earlier (procedure_of p)) a.0 twice_kind)).0 in
      subst (Found earlier (p ∷ ps)) (some-is p f is) (
        not-true (list_any (λ g. bytes_eq p.name g.name) earlier) new,
        ap (λ b. cond b (Some (nameless_procedure (procedure_of p)))
            (procedure_named p.name (map nameless_procedure (map procedure_of ps))))
            ((bytes_eq-Decides p.name p.name).1 refl),
      )
  found earlier n (p ∷ ps) (suc place) f e is =
      let a = first-none n 0 (header theory earlier (procedure_of p))
      (steps_from theory n (procedure_of p) 1 (procedure_of p).proof
      ++ procedures_from theory (procedure_of p ∷ earlier) (n + 1) (map procedure_of ps)) e in
      let b = both-none (steps_from theory n (procedure_of p) 1 (procedure_of p).proof) _ a.1 in
      let r = found (procedure_of p ∷ earlier) (n + 1) ps place f b.1 is in
      let h = either-false (bytes_eq f.name p.name)
      (list_any (λ g. bytes_eq f.name g.name) earlier) r.0 in (
        h.1,
        ap (λ b. cond b (Some (nameless_procedure (procedure_of p)))
            (procedure_named f.name (map nameless_procedure (map procedure_of ps)))) h.0 ∙ r.1,
      )

  -- the body of the procedure at a place has parts of the right sorts
  pub body-sorted : (ps : List Procedure) (place : ℕ) (f : Procedure)
      → map procedure_of ps ≡ theory.procedures → IsWellFormedTheory theory
      → slice_get ps place ≡ Some f
      → is_sorted (procedures_of theory) (procedure_of f).body ≡ true
  body-sorted ps place f same w is =
      let faultless : first_fault_at (procedures_from theory [] 1 (map procedure_of ps)) ≡ None =
      subst (λ z. first_fault_at (procedures_from theory [] 1 z) ≡ None) (sym same)
      (first-none 0 0 (declarations theory) (procedures_from theory [] 1 theory.procedures) w).1 in
      let named = (found [] 1 ps place f faultless is).1 in
      well-formed-bodies theory w f.name (nameless_procedure (procedure_of f))
      (ap (λ z. procedure_named f.name (map nameless_procedure z)) (sym same) ∙ named)
