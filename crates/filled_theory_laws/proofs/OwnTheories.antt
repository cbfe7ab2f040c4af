-- A well-formed theory has the sorts of its declarations.
use Rattle.std.proofs.Common.{◌≡◌, ℕ, ◌+◌, true, List, [], ◌∷◌, ◌++◌, map, None, refl, ap, ap₂}
use Rattle.std.specs.List.{list_all, flat_map}
use Rattle.model_shapes.specs.Sorts.{shape}
use Rattle.model_shapes.proofs.Truth.{both_true}
use Rattle.model_formulas.specs.Formulas.{Named}
use Rattle.model_formulas.specs.WellSorted.{flags, may_bind}
use Rattle.model_commands.specs.CommandParts.{commands_in, variables_of, variables_of_term, variables_of_command, variables_of_judgement, arguments_of}
use Rattle.model_commands.specs.Each.{Each}
use Rattle.model_commands.specs.Theories.{JudgementOf, entails, triple, Reason, auto, by_rule, StepOf, ProcedureOf, Theory}
use Rattle.model_files.specs.FileFaults.{unknown_kind, sort_kind, is_known, is_as_declared, scope_of, declared_by, judgement_sorted, is_judged_at, declarations, header, head_kind, proof_step, step_kind, steps_from, procedures_from, first_fault_at, IsWellFormedTheory}
use Rattle.model_files.proofs.Places.{passes-each, first-none, both-none}
use Rattle.model_grammar.specs.Sorts.{Declared, sorted_reason, sorted_judgement, sorted_step, declared_in, sorted_procedure, with_sorts}
use Rattle.filled_theory_laws.proofs.Declared.{each-parts}
use Rattle.filled_theory_laws.proofs.OwnSorts.{Again, vars-again, formula-again, terms-again, all-again, command-again}
use Rattle.filled_theory_laws.proofs.Flags.{all-flags}

module _ (theory : Theory) (bind : list_all may_bind theory.logic ≡ true)
    (f : ProcedureOf Named) where
  abbrev here : Declared
  here = declared_in theory.logic f

  judgement-again : (j : JudgementOf Named) → judgement_sorted j ≡ true
      → Each (Again here) (variables_of_judgement j) → sorted_judgement here j ≡ j
  judgement-again (entails p q s) e h =
      let sorts = both_true (is_judged_at s p) (is_judged_at s q) e in
      let x = each-parts (Again here) (variables_of p) (variables_of q) h in
      ap₂ (λ p q. entails p q s)
      (formula-again here p s (all-flags (flags p s) 0 sorts.0) x.0)
      (formula-again here q s (all-flags (flags q s) 0 sorts.1) x.1)
  judgement-again (triple p c q k) e h =
      let sorts = both_true (is_judged_at (shape k) p) (is_judged_at (shape k) q) e in
      let x = each-parts (Again here) (variables_of p) _ h in
      let y = each-parts (Again here) (variables_of q) (variables_of_command c) x.1 in
      let a = formula-again here p (shape k) (all-flags (flags p (shape k)) 0 sorts.0) x.0 in
      let b = command-again here c (all-again here (commands_in c) y.1) in
      let d = formula-again here q (shape k) (all-flags (flags q (shape k)) 0 sorts.1) y.0 in
      λ i. triple (a i) (b i) (d i) k

  reason-again : (reason : Reason)
      → Each (Again here) (flat_map variables_of_term (arguments_of reason))
      → sorted_reason here reason ≡ reason
  reason-again auto h = refl
  reason-again (by_rule name citations arguments) h =
      ap (by_rule name citations) (terms-again here arguments h)

  step-again : (at : ℕ) (step : StepOf Named) → step_kind theory f at step ≡ None
      → sorted_step here step ≡ step
  step-again at step e =
      let passes = passes-each (proof_step theory f at step) e in
      let vars = variables_of_judgement step.judgement
      ++ flat_map variables_of_term (arguments_of step.reason) in
      let known = both_true (list_all (is_known (scope_of theory f)) vars) _ (passes unknown_kind)
      in
      let sorts = both_true _ _ (passes sort_kind) in
      let own = both_true (judgement_sorted step.judgement) _ sorts.0 in
      let parts = both_true (list_all (is_as_declared (scope_of theory f)) vars) _ sorts.1 in
      let x = each-parts (Again here) (variables_of_judgement step.judgement)
      (flat_map variables_of_term (arguments_of step.reason))
      (vars-again theory.logic bind (declared_by f) vars known.0 parts.0) in
      let a = reason-again step.reason x.1 in
      let b = judgement-again step.judgement own.0 x.0 in
      λ i. record step { reason = a i; judgement = b i }

  steps-again : (number at : ℕ) (steps : List (StepOf Named))
      → first_fault_at (steps_from theory number f at steps) ≡ None
      → map (sorted_step here) steps ≡ steps
  steps-again number at [] e = refl
  steps-again number at (step ∷ steps) e =
      let a = first-none number at (proof_step theory f at step)
      (steps_from theory number f (at + 1) steps) e in
      ap₂ (λ (s : StepOf Named) (ss : List (StepOf Named)). s ∷ ss) (step-again at step a.0)
      (steps-again number (at + 1) steps a.1)

  procedure-again : (earlier : List (ProcedureOf Named)) (number : ℕ)
      → head_kind theory earlier f ≡ None
      → first_fault_at (steps_from theory number f 1 f.proof) ≡ None
      → sorted_procedure theory.logic f ≡ f
  procedure-again earlier number e k =
      let passes = passes-each (header theory earlier f) e in
      let vars = variables_of f.pre ++ (variables_of f.post ++ variables_of_command f.body) in
      let known = both_true (list_all (is_known (scope_of theory f)) vars) _ (passes unknown_kind)
      in
      let sorts = both_true _ _ (passes sort_kind) in
      let own = both_true (is_judged_at (shape f.sort) f.pre) (is_judged_at (shape f.sort) f.post)
      sorts.0 in
      let parts = both_true (list_all (is_as_declared (scope_of theory f)) vars) _ sorts.1 in
      let x = each-parts (Again here) (variables_of f.pre) _
      (vars-again theory.logic bind (declared_by f) vars known.0 parts.0) in
      let y = each-parts (Again here) (variables_of f.post) (variables_of_command f.body) x.1 in
      let a = formula-again here f.pre (shape f.sort)
      (all-flags (flags f.pre (shape f.sort)) 0 own.0) x.0 in
      let b = formula-again here f.post (shape f.sort) (all-flags (flags f.post (shape f.sort)) 0
      own.1) y.0 in
      let c = command-again here f.body (all-again here (commands_in f.body) y.1) in
      let d = steps-again number 1 f.proof k in
      λ i. record f { pre = a i; post = b i; body = c i; proof = d i }

procedures-again : (theory : Theory) → list_all may_bind theory.logic ≡ true
    → (earlier : List (ProcedureOf Named)) (number : ℕ) (fs : List (ProcedureOf Named))
    → first_fault_at (procedures_from theory earlier number fs) ≡ None
    → map (sorted_procedure theory.logic) fs ≡ fs
procedures-again theory bind earlier number [] e = refl
procedures-again theory bind earlier number (f ∷ fs) e =
    let a = first-none number 0 (header theory earlier f) (steps_from theory number f 1 f.proof
    ++ procedures_from theory (f ∷ earlier) (number + 1) fs) e in
    let b = both-none (steps_from theory number f 1 f.proof) _ a.1 in
    ap₂ (λ (g : ProcedureOf Named) (gs : List (ProcedureOf Named)). g ∷ gs)
    (procedure-again theory bind f earlier number a.0 b.0)
    (procedures-again theory bind (f ∷ earlier) (number + 1) fs b.1)

pub theory-again : (theory : Theory) → IsWellFormedTheory theory → with_sorts theory ≡ theory
theory-again theory e =
    let a = first-none 0 0 (declarations theory) (procedures_from theory [] 1 theory.procedures) e
    in
    let bind = passes-each (declarations theory) a.0 sort_kind in
    let p = procedures-again theory bind [] 1 theory.procedures a.1 in
    λ i. record theory { procedures = p i }
