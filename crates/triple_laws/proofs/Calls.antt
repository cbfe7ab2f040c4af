-- The rule of calls: a call takes one step more than the body of the procedure that it means.
use Rattle.std.proofs.Common.{◌≡◌, ℕ, List, [], ◌∷◌, map, refl, sym, ap, ◌∙◌, subst, arith, Some, ⊎_elim}
use Rattle.model_shapes.specs.Shapes.{Shaped}
use Rattle.model_shapes.specs.Sorts.{shape, context, grove}
use Rattle.model_shapes.specs.Things.{val}
use Rattle.model_shapes.specs.Trees.{Trees}
use Rattle.model_formulas.specs.Formulas.{Formula}
use Rattle.model_formulas.specs.Satisfaction.{Environment, with_store, meaning_of}
use Rattle.model_formulas.specs.Substitution.{FreeIn, formula_with}
use Rattle.model_terms.specs.Terms.{Term, Substitution}
use Rattle.model_terms.specs.Variables.{bound, Var, prog, logic}
use Rattle.model_formulas.proofs.Substitutes.{meets-agrees, meets-with, with-meets-back, after}
use Rattle.model_commands.specs.Commands.{Among, call}
use Rattle.model_commands.specs.SortTests.{BodiesSorted}
use Rattle.model_commands.specs.Scopes.{IsScoped}
use Rattle.model_machine.specs.ClassicalTriples.{TripleFor}
use Rattle.model_machine.specs.Machine.{run, entering, returning, return, calling}
use Rattle.model_commands.specs.Sorting.{Feed, Receive, Distinct}
use Rattle.model_terms.specs.Stores.{Store, lookup, ProperStore, ProgVar, named, as_var, value_in}
use Rattle.model_commands.specs.Theories.{Procedures, Procedure, procedure_named}
use Rattle.model_machine.proofs.Fine.{entering-proper, returning-proper}
use Rattle.model_machine.proofs.Runs.{Well, at_end, followed, WellOn}
use Rattle.model_commands.proofs.StoreLaws.{proper-store, other-store}
use Rattle.model_machine.proofs.Unmodified.{returning-other}
use Rattle.triple_laws.proofs.Ends.{At, Sound, At-map, to_sound}
use Rattle.triple_laws.specs.BySteps.{Below}
use Rattle.rule_table.specs.Rules.{passing, itself}
use Rattle.rule_table.specs.Notation.{prog_term}
use Rattle.triple_laws.proofs.Control.{step-first}
use Rattle.triple_laws.proofs.Keeping.{Kept, with-kept}
use Rattle.triple_laws.proofs.Passing.{passed-param, passed-logic, passed-bound, passed-other, passed-result, entering-agrees}
use Rattle.triple_laws.proofs.Fitting.{InTerms}

module _ (ps : Procedures) (bodies : BodiesSorted ps) (f : Procedure) (scoped : IsScoped f)
    (xs : List ProgVar) (ts : List Term) (feed : Feed f.params ts) (receive : Receive f.results xs)
    (distinct : Distinct xs) (avoid : (x : ProgVar) → Among xs x → InTerms (as_var x) ts → ⊥)
  where
    -- the results for those of the procedure; and with them the arguments for the parameters
    abbrev received : Substitution
    received = passing f.results (map prog_term xs) itself

    abbrev passed_and_received : Substitution
    passed_and_received = passing f.params ts (passing f.results (map prog_term xs) itself)

    abbrev pre : Formula
    pre = formula_with (passing f.params ts itself) f.pre

    abbrev post : Formula
    post = formula_with passed_and_received f.post

    -- the requires speaks of the arguments as of the parameters
    arguments-agree : (st : Store) (e : Environment) (y : Var) → FreeIn y f.pre
        → after (passing f.params ts itself) (with_store (lookup st) e) y
        ≡ with_store (lookup (entering f.params ts st)) e y
    arguments-agree st e (prog z u) free =
        passed-param f.params ts itself st e (named z u) feed (scoped.pre_scope (named z u) free)
    arguments-agree st e (logic z u) free =
        ap (meaning_of (with_store (lookup st) e)) (passed-logic f.params ts itself z u)
    arguments-agree st e (bound i u) free =
        ap (meaning_of (with_store (lookup st) e)) (passed-bound f.params ts itself i u)

    -- the ensures speaks of arguments and results as of parameters and results
    module _ (st callee : Store) (e : Environment)
        (kept : (x : ProgVar) → Among f.params x
        → value_in callee x ≡ value_in (entering f.params ts st) x)
      where
        abbrev back : Store
        back = returning f.results xs callee st

        abbrev env : Environment
        env = with_store (lookup back) e

        -- the arguments have their values still
        entered-again : entering f.params ts st ≡ entering f.params ts back
        entered-again =
            entering-agrees f.params ts st back
            (λ x i. sym (returning-other f.results xs callee st x (λ a. avoid x a i)))

        param-agrees : (y : ProgVar) → Among f.params y
            → val (value_in callee y) ≡ after passed_and_received env (as_var y)
        param-agrees y m =
            ap val (kept y m) ∙ ap (λ s. val (value_in s y)) entered-again
            ∙ sym (passed-param f.params ts received back e y feed m)

        result-agrees : (y : ProgVar) → Among f.results y
            → val (value_in callee y) ≡ after passed_and_received env (as_var y)
        result-agrees y m =
            sym (ap (meaning_of env) (passed-other f.params ts received y (λ a. scoped.apart y a m))
            ∙ passed-result f.results xs back callee st e y receive distinct (λ x a. refl) m)

        ends-agree : (y : Var) → FreeIn y f.post
            → with_store (lookup callee) e y ≡ after passed_and_received env y
        ends-agree (prog z u) free =
            ⊎_elim (param-agrees (named z u)) (result-agrees (named z u))
            (scoped.post_scope (named z u) free)
        ends-agree (logic z u) free =
            sym (ap (meaning_of env) (passed-logic f.params ts received z u
            ∙ passed-logic f.results (map prog_term xs) itself z u))
        ends-agree (bound i u) free =
            sym (ap (meaning_of env) (passed-bound f.params ts received i u
            ∙ passed-bound f.results (map prog_term xs) itself i u))

    -- the run of the call: into the body, the body, and back
    module _ (e : Environment) (c : Trees) (wc : Shaped (context f.sort grove) c) (st : Store)
        (g : Trees) (a : At f.sort c pre e st g)
      where
        abbrev inside : Store
        inside = entering f.params ts st

        old-proper : ProperStore st
        old-proper = proper-store st e a.proper

        entered : At f.sort c f.pre e inside g
        entered =
            At-map f.sort c pre f.pre e st inside g
            (other-store st inside e a.proper (entering-proper ps f.params ts st feed old-proper))
            (λ r wr m. meets-agrees f.pre (after (passing f.params ts itself)
            (with_store (lookup st) e))
            (with_store (lookup inside) e) (shape f.sort) r (arguments-agree st e)
            (meets-with f.pre (passing f.params ts itself) (with_store (lookup st) e)
            (shape f.sort) r
            m)) a

        abbrev Ended : Store → Trees → Type 0
        Ended st' g' = At f.sort c f.post e st' g' × Kept f.body (entering f.params ts st) st'

        returned : (m : ℕ) (st' : Store) (g' : Trees) → Ended st' g'
            → Well ps ⊥ m (At f.sort c post e) (return st f.results xs ∷ []) st' g'
        returned m st' g' y =
            step-first ps m (At f.sort c post e) (return st f.results xs) [] st' g' (λ i l k.
            at_end ps ⊥ i (At f.sort c post e) (returning f.results xs st' st) g'
            (At-map f.sort c f.post post e st' (returning f.results xs st' st) g'
            (other-store st (returning f.results xs st' st) e a.proper
            (returning-proper ps f.results xs st' st receive (proper-store st' e y.0.proper)
            old-proper))
            (λ r wr mr. with-meets-back f.post passed_and_received
            (with_store (lookup (returning f.results xs st' st)) e) (shape f.sort) r
            (meets-agrees f.post (with_store (lookup st') e)
            (after passed_and_received (with_store (lookup (returning f.results xs st' st)) e))
            (shape f.sort) r
            (ends-agree st st' e (λ x m'. y.1 x (scoped.constant x m'))) mr)) y.0))

        body-runs : (n : ℕ) → Sound ps bodies n f.pre f.body f.post f.sort
            → Well ps ⊥ n (At f.sort c post e) (run f.body ∷ return st f.results xs ∷ []) inside g
        body-runs n holds =
            followed ps ⊥ n Ended (At f.sort c post e) (run f.body ∷ [])
            (return st f.results xs ∷ [])
            (returned n) inside g
            (with-kept ps n (At f.sort c f.post e) f.body inside g (holds e c wc inside g entered))

    pub call-sound : (n : ℕ) (name : List ℕ) → procedure_named name ps ≡ Some f
        → TripleFor ps (Below n) f.pre f.body f.post f.sort
        → Sound ps bodies n pre (call xs name ts) post f.sort
    call-sound n name is h e c wc st g a =
        step-first ps n (At f.sort c post e) (run (call xs name ts)) [] st g (λ m less k.
        subst (λ o. WellOn ps ⊥ m (At f.sort c post e) [] (calling o xs ts st g)) (sym is)
        (body-runs e c wc st g a m (to_sound ps bodies m f.pre f.body f.post f.sort
        (bodies name f is)
        (λ e' st' pr r wr met c' wc' w picks l.
        h e' st' pr r wr met c' wc' w picks (omega (arith, less, l))))))
