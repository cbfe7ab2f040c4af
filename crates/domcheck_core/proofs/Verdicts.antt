-- Where the first bad place of a theory stands in it, and the answer to a bad place.
use Rattle.std.proofs.Common.{◌≡◌, ◌∙◌, ℕ, zero, suc, ◌+◌, Some, option_map, sym, ap, subst, slice_get, length, List, map, [], ◌∷◌, ◌++◌, ⊎_elim, arith}
use Rattle.std.proofs.lemmas.List.{length-map}
use Rattle.std.proofs.lemmas.Option.{slice_get-map}
use Rattle.model_commands.specs.Theories as model
use Rattle.model_commands.specs.Theories.{auto, by_rule, nameless_procedure, nameless_step, procedures_of}
use Rattle.model_files.specs.FileLimits.{step_count}
use Rattle.model_answers.specs.Output.{line, accepted_text, accepted_line, fail_line, no_proof_line, gap_line}
use Rattle.rule_table.specs.Verdicts as verdicts
use Rattle.rule_table.specs.Accepted.{Fault, gap, fails, no_proof, VerdictBy, BadPlace, FirstBadStep, IsFirstBad}
use Rattle.theory_syntax.specs.declared.steps.Step.{Step}
use Rattle.theory_syntax.specs.declared.theories.Procedure.{Procedure}
use Rattle.theory_syntax.specs.declared.theories.Theory.{Theory}
use Rattle.theory_syntax.specs.Judgements.{reason_of, step_of}
use Rattle.theory_syntax.specs.Theories.{procedure_of, theory_of}
use Rattle.cited_steps.specs.Earlier.{steps_in}
use Rattle.hoare_kernel.proofs.BadPlaces.{ProcedureThere, procedure-there, StepThere, step-there}
use Rattle.domcheck_core.specs.Answers.{item_numbered, PlaceAnswer, has_gap, step_fails, has_no_proof}
use Rattle.domcheck_core.specs.Stands.{HasProcedure, HasStep, NamesRule, HasPlace}
use Rattle.domcheck_core.specs.declared.status.Status.TheVariants as status

some_same : {A : Type 0} (a b : A) → Some a ≡ Some b → a ≡ b
some_same a b e = cc

-- the one with the number, by its place
pub at-place : {A : Type 0} (items : List A) (n k : ℕ) (a : A) → n ≡ 1 + k
    → slice_get items k ≡ Some a → item_numbered n items ≡ Some a
at-place items n k a e there =
    let turned : suc k ≡ n = omega (arith, e) in
    subst (λ (m : ℕ). item_numbered m items ≡ Some a) turned there

-- the same of what is seen
seen : {A B : Type 0} (f : A → B) (items : List A) (n : ℕ) (a : A) → item_numbered n items ≡ Some a
    → item_numbered n (map f items) ≡ Some (f a)
seen f items zero a e = absurd cc
seen f items (suc k) a e = slice_get-map f items k ∙ ap (option_map f) e

-- the procedure that was found, and its step
pub the-procedure : (theory : Theory) (number : ℕ) (a : HasProcedure theory number) (f : Procedure)
    → item_numbered number theory.procedures ≡ Some f → a.procedure ≡ f
the-procedure theory number a f e = some_same a.procedure f (sym a.there ∙ e)

pub the-step : (theory : Theory) (procedure place : ℕ) (a : HasProcedure theory procedure)
    (f : Procedure) → HasStep a.procedure place
    → item_numbered procedure theory.procedures ≡ Some f → HasStep f place
the-step theory procedure place a f x e =
    subst (λ (z : Procedure). HasStep z place) (the-procedure theory procedure a f e) x

pub the-rule : (theory : Theory) (procedure place : ℕ) (a : HasProcedure theory procedure)
    (f : Procedure) (x : HasStep a.procedure place) (step : Step)
    → (reason_of x.step.reason ≡ auto → ⊥)
    → item_numbered procedure theory.procedures ≡ Some f → item_numbered place f.proof ≡ Some step
    → reason_of step.reason ≡ auto → ⊥
the-rule theory procedure place a f x step closed e d =
    let same : x.step ≡ step = some_same x.step step (sym x.there
    ∙ ap (λ (z : Procedure). item_numbered place z.proof) (the-procedure theory procedure a f e)
    ∙ d) in
    subst (λ (z : Step). reason_of z.reason ≡ auto → ⊥) same closed

-- ends are no gaps, and no steps that fail
pub gap-no-end : gap ≡ no_proof → ⊥
gap-no-end e = cc

pub failure-no-end : (v : verdicts.Verdict) → fails v ≡ no_proof → ⊥
failure-no-end v e = cc

-- there is no verdict on a gap
pub no-verdict : (ps : model.Procedures) (reason : model.Reason) (earlier : List model.Step)
    (j : model.Judgement) (v : verdicts.Verdict) → VerdictBy ps reason earlier j v → reason ≡ auto
    → ⊥
no-verdict ps auto earlier j v h e = h
no-verdict ps (by_rule name ns arguments) earlier j v h e = cc

-- so a step that fails is none
not-left-open : (ps : model.Procedures) (f : model.Procedure) (earlier : List model.Step)
    (steps : List Step) (at bad k : ℕ) (v : verdicts.Verdict) (x : Step)
    → FirstBadStep ps f earlier (steps_in steps) at bad (fails v) → bad ≡ at + k
    → slice_get steps k ≡ Some x → reason_of x.reason ≡ auto → ⊥
not-left-open ps f earlier [] at bad k v x h n there e = failure-no-end v h.1
not-left-open ps f earlier (y ∷ steps) at bad zero v x h n there e = ⊎_elim
    (λ here. no-verdict ps (reason_of y.reason) earlier (nameless_step (step_of y)).judgement v
    here.1.0 (ap (λ (z : Step). reason_of z.reason) (some_same y x there) ∙ e))
    (λ later. behind (step-there ps f (earlier ++ nameless_step (step_of y) ∷ []) steps (at + 1) bad
    (fails v) later.1 (failure-no-end v))) h
  where
    behind : StepThere steps (at + 1) bad → ⊥
    behind a = absurd (omega (arith, a.counted, n))
not-left-open ps f earlier (y ∷ steps) at bad (suc k) v x h n there e = ⊎_elim
    (λ here. absurd (omega (arith, here.0, n)))
    (λ later. not-left-open ps f (earlier ++ nameless_step (step_of y) ∷ []) steps (at + 1) bad k v
    x later.1 (omega (arith, n)) there e) h

-- by its number
not-open-at : (ps : model.Procedures) (f : model.Procedure) (steps : List Step) (bad : ℕ)
    (v : verdicts.Verdict) (x : Step) → FirstBadStep ps f [] (steps_in steps) 1 bad (fails v)
    → item_numbered bad steps ≡ Some x → reason_of x.reason ≡ auto → ⊥
not-open-at ps f steps zero v x h e d = absurd cc
not-open-at ps f steps (suc k) v x h e d =
    not-left-open ps f [] steps 1 (suc k) k v x h (omega arith) e d

abbrev pub step-at : (f : Procedure) (place : ℕ) → StepThere f.proof 1 place → HasStep f place
step-at f place b = record {
  step = b.step;
  there = at-place f.proof place b.place b.step b.counted b.there;
}

-- THE FIRST BAD PLACE of a theory stands in it
module _ (theory : Theory) where
  abbrev procedure-of : (bad : BadPlace) → ProcedureThere theory bad
      → HasProcedure theory bad.procedure
  procedure-of bad a = record {
    procedure = a.procedure;
    there = at-place theory.procedures bad.procedure a.place a.procedure a.counted a.there;
  }

  pub bad-place : (procedure place : ℕ) (fault : Fault)
      → IsFirstBad (theory_of theory)
      (record { procedure = procedure; step = place; fault = fault })
      → HasPlace theory procedure place fault
  bad-place procedure place fault h = by_fault fault (procedure-there theory _ h)
    where
      by_fault : (x : Fault)
          → ProcedureThere theory (record { procedure = procedure; step = place; fault = x })
          → HasPlace theory procedure place x
      by_fault no_proof a = procedure-of _ a
      by_fault gap a = (
        procedure-of _ a,
        step-at a.procedure place
            (step-there (procedures_of (theory_of theory))
            (nameless_procedure (procedure_of a.procedure)) [] a.procedure.proof 1 place gap a.first
            gap-no-end),
      )
      by_fault (fails v) a =
          let x = step-at a.procedure place
          (step-there (procedures_of (theory_of theory))
          (nameless_procedure (procedure_of a.procedure)) [] a.procedure.proof 1 place (fails v)
          a.first (failure-no-end v)) in (
            procedure-of _ a,
            x,
            not-open-at (procedures_of (theory_of theory))
                (nameless_procedure (procedure_of a.procedure)) a.procedure.proof place v x.step
                a.first x.there,
          )

-- THE ANSWER to a bad place
module _ (theory : Theory) (procedure place : ℕ) (f : Procedure)
    (there : item_numbered procedure theory.procedures ≡ Some f) where
  -- the end without the procedure's own triple
  pub end-answer : PlaceAnswer (theory_of theory) procedure place no_proof status.StepFails
      (no_proof_line f.name)
  end-answer =
      has_no_proof (procedure_of f) (seen procedure_of theory.procedures procedure f there)

  module _ (x : Step) (stands : item_numbered place f.proof ≡ Some x) where
    -- the gap, as it is read
    pub gap-answer : PlaceAnswer (theory_of theory) procedure place gap status.GapLeft
        (gap_line x.number f.name x.line)
    gap-answer =
        has_gap (procedure_of f) (step_of x) (seen procedure_of theory.procedures procedure f there)
        (seen step_of f.proof place x stands)

    -- the step that fails
    pub fail-answer : (name : List ℕ) (v : verdicts.Verdict) → NamesRule (reason_of x.reason) name
        → PlaceAnswer (theory_of theory) procedure place (fails v) status.StepFails
        (fail_line x.number f.name x.line name v)
    fail-answer name v named =
        step_fails (procedure_of f) (step_of x) name named.citations named.arguments v
        (seen procedure_of theory.procedures procedure f there)
        (seen step_of f.proof place x stands) named.is

-- the line for an accepted theory, by its counts
pub accepted_counts : (theory : Theory) (procedures steps : ℕ)
    → procedures ≡ length theory.procedures → steps ≡ step_count (theory_of theory).procedures
    → line (accepted_text procedures steps) ≡ accepted_line (theory_of theory)
accepted_counts theory procedures steps e d =
    ap (λ (z : ℕ). line (accepted_text z steps))
    (e ∙ sym (length-map theory.procedures procedure_of))
    ∙ ap (λ (z : ℕ). line (accepted_text (length (theory_of theory).procedures) z)) d
