-- A well-formed theory gives what runs and calls need: commands with parts of the right sorts, and
-- procedures that keep to their scopes.
use Rattle.std.proofs.Common.{◌≡◌, ◌⊎◌, ℕ, ◌+◌, List, [], ◌∷◌, ◌++◌, map, Bool, true, false, cond, refl, subst, inl, inr, Some, None, bytes_eq}
use Rattle.std.specs.List.{list_all}
use Rattle.model_shapes.specs.Sorts.{DataSort}
use Rattle.model_shapes.proofs.Truth.{both_true, and_from}
use Rattle.model_terms.specs.Variables.{Var}
use Rattle.model_terms.specs.Stores.{ProgVar, as_var}
use Rattle.model_formulas.specs.Formulas.{Named}
use Rattle.model_commands.specs.Commands.{Command, call, Among}
use Rattle.model_commands.specs.CommandParts.{commands_in, variables_of, locals_of, commands_of_judgement}
use Rattle.model_commands.specs.SortTests.{distinct_by, callee_known, parts_fit, results_apart, results_differ, is_sorted, BodiesSorted}
use Rattle.model_commands.specs.Theories.{Procedure, ProcedureOf, Theory, StepOf, triple, procedures_of, procedure_named, nameless_procedure}
use Rattle.model_commands.specs.Scopes.{IsScoped}
use Rattle.model_files.specs.FileFaults.{twice_kind, unknown_kind, sort_kind, constant_kind, results_kind, scope_kind, share_name, is_known, is_as_declared, scope_of, declared_by, only_among, inside, declarations, header, head_kind, proof_step, step_kind, steps_from, procedures_from, first_fault_at, IsWellFormedTheory}
use Rattle.model_commands.proofs.Sorting.{Tested}
use Rattle.model_files.proofs.Places.{passes-each, first-none, both-none}
use Rattle.model_files.proofs.Scopes.{names-apart, modifies-spared, only-free, test-among}

module _ (theory : Theory) where
  -- the results of a call that are apart don't repeat
  apart-differ : (c : Command) → results_apart c ≡ true → results_differ c ≡ true
  apart-differ (call results name arguments) e = (both_true _ _ e).0
  apart-differ c e = refl

  -- commands that pass three tests of files
  all-fit : (cs : List Command) → list_all (callee_known (procedures_of theory)) cs ≡ true
      → list_all (parts_fit (procedures_of theory)) cs ≡ true → list_all results_apart cs ≡ true
      → Tested (procedures_of theory) cs
  all-fit [] known fitting apart = refl
  all-fit (c ∷ cs) known fitting apart =
      let k = both_true _ _ known in
      let f = both_true _ _ fitting in
      let a = both_true _ _ apart in
      and_from _ _ (and_from _ _ k.0 (and_from _ _ f.0 (apart-differ c a.0)))
      (all-fit cs k.1 f.1 a.1)

  -- variables and commands without a fault: the commands pass the test of what a run asks
  inside-tested : (f : ProcedureOf Named) (vars : List Var) (cs : List Command)
      → inside theory f vars cs unknown_kind ≡ true → inside theory f vars cs sort_kind ≡ true
      → inside theory f vars cs results_kind ≡ true → Tested (procedures_of theory) cs
  inside-tested f vars cs known sorted apart =
      all-fit cs (both_true (list_all (is_known (scope_of theory f)) vars) _ known).1
      (both_true (list_all (is_as_declared (scope_of theory f)) vars) _ sorted).1 apart

  -- a procedure of the theory whose header has no fault
  record Head (f : Procedure) : Type 0 where
    earlier : List (ProcedureOf Named)
    written : ProcedureOf Named
    no_fault : head_kind theory earlier written ≡ None
    is : nameless_procedure written ≡ f

  -- a procedure that is found by its name is one of those that were tested
  found-head : (earlier : List (ProcedureOf Named)) (n : ℕ) (ps : List (ProcedureOf Named))
      → first_fault_at (procedures_from theory earlier n ps) ≡ None
      → (name : List ℕ) (f : Procedure)
      → procedure_named name (map nameless_procedure ps) ≡ Some f → Head f
  found-head earlier n [] e name f q = absurd (cc)
  found-head earlier n (p ∷ ps) e name f q =
      let a = first-none n 0 (header theory earlier p) (steps_from theory n p 1 p.proof
      ++ procedures_from theory (p ∷ earlier) (n + 1) ps) e in
      let b = both-none (steps_from theory n p 1 p.proof) _ a.1 in
      by_name (bytes_eq name p.name) q a.0 (found-head (p ∷ earlier) (n + 1) ps b.1 name f)
    where
      some-is : (x y : Procedure) → Some x ≡ Some y → x ≡ y
      some-is x y e = cc

      by_name : (t : Bool) → cond t (Some (nameless_procedure p))
          (procedure_named name (map nameless_procedure ps)) ≡ Some f
          → head_kind theory earlier p ≡ None
          → (procedure_named name (map nameless_procedure ps) ≡ Some f → Head f) → Head f
      by_name true q here later = record {
        earlier = earlier;
        written = p;
        no_fault = here;
        is = some-is (nameless_procedure p) f q;
      }
      by_name false q here later = later q

  named-head : IsWellFormedTheory theory → (name : List ℕ) (f : Procedure)
      → procedure_named name (procedures_of theory) ≡ Some f → Head f
  named-head w name f q =
      found-head [] 1 theory.procedures
      (first-none 0 0 (declarations theory) (procedures_from theory [] 1 theory.procedures) w).1
      name f q

  -- a header without a fault has a body with parts of the right sorts
  head-sorted : (earlier : List (ProcedureOf Named)) (p : ProcedureOf Named)
      → head_kind theory earlier p ≡ None → is_sorted (procedures_of theory) p.body ≡ true
  head-sorted earlier p e =
      let passes = passes-each (header theory earlier p) e in
      inside-tested p _ (commands_in p.body) (passes unknown_kind)
      (both_true _ _ (passes sort_kind)).1 (passes results_kind)

  -- a well-formed theory has bodies with parts of the right sorts
  pub well-formed-bodies : IsWellFormedTheory theory → BodiesSorted (procedures_of theory)
  well-formed-bodies w name f q =
      let h : Head f = named-head w name f q in
      subst (λ z. is_sorted (procedures_of theory) z.body ≡ true) h.is
      (head-sorted h.earlier h.written h.no_fault)

  -- a header without a fault keeps to its scope
  head-scoped : (earlier : List (ProcedureOf Named)) (p : ProcedureOf Named)
      → head_kind theory earlier p ≡ None → IsScoped (nameless_procedure p)
  head-scoped earlier p e =
      let passes = passes-each (header theory earlier p) e in
      let names : distinct_by share_name (map as_var (declared_by p)) ≡ true =
      (both_true _ (distinct_by share_name (map as_var (declared_by p))) (passes twice_kind)).1 in
      let d : (only_among p.params (variables_of p.pre) ≡ true)
      × (only_among (p.params ++ p.results) (variables_of p.post) ≡ true) =
      both_true (only_among p.params (variables_of p.pre)) _ (passes scope_kind) in
      record {
        apart = names-apart p.params p.results (locals_of p.body) names;
        constant = modifies-spared p.params p.body (passes constant_kind);
        pre_scope = λ x free. test-among p.params x (only-free p.params p.pre d.0 x free);
        post_scope = λ x free.
            among-either p.params p.results x
            (test-among (p.params ++ p.results) x
            (only-free (p.params ++ p.results) p.post d.1 x free));
      }
    where
      among-either : (xs ys : List ProgVar) (x : ProgVar) → Among (xs ++ ys) x
          → Among xs x ⊎ Among ys x
      among-either [] ys x m = inr m
      among-either (z ∷ xs) ys x (inl q) = inl (inl q)
      among-either (z ∷ xs) ys x (inr m) = further (among-either xs ys x m)
        where
          further : Among xs x ⊎ Among ys x → Among (z ∷ xs) x ⊎ Among ys x
          further (inl m) = inl (inr m)
          further (inr m) = inr m

  -- the procedures of a well-formed theory keep to their scopes
  pub well-formed-scopes : IsWellFormedTheory theory → (name : List ℕ) (f : Procedure)
      → procedure_named name (procedures_of theory) ≡ Some f → IsScoped f
  well-formed-scopes w name f q =
      let h : Head f = named-head w name f q in
      subst IsScoped h.is (head-scoped h.earlier h.written h.no_fault)

  -- the command of a step without a fault has parts of the right sorts
  pub step-sorted : (procedure : ProcedureOf Named) (place : ℕ) (step : StepOf Named)
      (p : Named) (c : Command) (q : Named) (d : DataSort)
      → step_kind theory procedure place step ≡ None → step.judgement ≡ triple p c q d
      → is_sorted (procedures_of theory) c ≡ true
  step-sorted procedure place step p c q d e is =
      let passes = passes-each (proof_step theory procedure place step) e in
      subst (λ z. Tested (procedures_of theory) (commands_of_judgement z)) is
      (inside-tested procedure _ (commands_of_judgement step.judgement) (passes unknown_kind)
      (both_true _ _ (passes sort_kind)).1 (passes results_kind))
