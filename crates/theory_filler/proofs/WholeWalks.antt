-- A walk through all steps of a proof, one after another.
use Rattle.std.proofs.Common.{◌≡◌, ◌∙◌, ℕ, zero, suc, ◌+◌, ◌<◌, ◌≤◌, ◌==◌, true, List, [], ◌∷◌, length, map, drop, get_or, Result, Ok, Err, IfErr, IsErrAnd, refl, sym, ap, subst, arith}
use Rattle.std.proofs.lemmas.Bool.{and_parts, eqb-true}
use Rattle.std.proofs.lemmas.List.{drop_all}
use Rattle.model_formulas.specs.Formulas.{Named}
use Rattle.model_commands.specs.Theories.{ProcedureOf, Theory}
use Rattle.rule_table.specs.Accepted.{Fault, fails, gap, no_proof}
use Rattle.model_filling.specs.Offers.{Voice}
use Rattle.model_filling.specs.Walk.{Walk, ProofOutcome}
use Rattle.row_patterns.specs.Verdicts.{verdict_in}
use Rattle.theory_syntax.specs.declared.steps.Step.{Step}
use Rattle.theory_syntax.specs.Judgements.{step_of}
use Rattle.cited_steps.specs.Earlier.{are_numbered}
use Rattle.theory_filler.specs.declared.faults.FillFault.{FillFault}
use Rattle.theory_filler.specs.declared.faults.FillFault.TheVariants as fault
use Rattle.theory_filler.specs.declared.steps.Walked.{Walked}
use Rattle.theory_filler.specs.Faults.{Told}
use Rattle.theory_filler.specs.Walks.{IsOrderly, WalkFrom, StepLeads, StepFails, WalkLeads, WalkFails}
use Rattle.theory_filler.proofs.Places.{drop-at}

-- what is told of a place, from what is told of another
pub told : (G H : ℕ → ℕ → Fault → Type 0) → ((p s : ℕ) (x : Fault) → G p s x → H p s x)
    → (e : FillFault) → Told G e → Told H e
told G H f (fault.Fails p s v) h = f p s (fails (verdict_in v)) h
told G H f (fault.NoProof p) h = (h.0, f p h.0 no_proof h.1)
told G H f (fault.Gap p s) h = f p s gap h
told G H f (fault.Limit kind) h = absurd h
told G H f fault.OutOfMemory h = tt

-- what a `?` hands out
pub handed_out : {A : Type 0} (P : FillFault → Type 0) (answer : Result A FillFault)
    (e : FillFault) → IsErrAnd answer (λ y. y ≡ e) → P e → IfErr answer P
handed_out P (Ok x) e h p = absurd h
handed_out P (Err y) e h p = subst P (sym h) p

-- AT A PLACE
pub number-at : (steps : List Step) (d : Step) (k n : ℕ) → k < length steps
    → are_numbered n steps ≡ true → (get_or steps k d).number ≡ n + k
number-at [] d k n lt e = absurd (omega arith)
number-at (s ∷ steps) d zero n lt e =
    let h = and_parts (s.number == n) (are_numbered (n + 1) steps) e in
    eqb-true s.number n h.0 ∙ omega arith
number-at (s ∷ steps) d (suc k) n lt e =
    let h = and_parts (s.number == n) (are_numbered (n + 1) steps) e in
    number-at steps d k (n + 1) (omega arith) h.1 ∙ omega arith

-- before the first step
pub orderly-first : IsOrderly (record { steps = []; gaps = [] }) 1
orderly-first = record {
  citable = record { small = tt; in_order = refl };
  numbered = refl;
  few = omega arith;
}

module _ (theory : Theory) (f : ProcedureOf Named) (written : List Step) (voices : List Voice) where
  -- before the step at this place, counted from 0
  abbrev pub SoFar : ℕ → Walked → List Voice → Type 0
  SoFar k walked others =
      (outcome : ProofOutcome)
      → WalkFrom theory f walked (k + 1) (map step_of (drop k written)) others outcome
      → Walk theory f [] [] 1 (map step_of written) voices outcome

  pub so-far-first : SoFar 0 (record { steps = []; gaps = [] }) voices
  so-far-first outcome walk = walk

  module _ (k : ℕ) (item : Step) (lt : k < length written) (is : item ≡ get_or written k item)
      (number : item.number ≡ k + 1) (walked : Walked) (here : List Voice)
      (so_far : SoFar k walked here) where
    -- what begins with the step
    from-item : (outcome : ProofOutcome)
        → WalkFrom theory f walked item.number (step_of item ∷ map step_of (drop (k + 1) written))
        here outcome
        → Walk theory f [] [] 1 (map step_of written) voices outcome
    from-item outcome walk =
        so_far outcome
        (subst (λ z. WalkFrom theory f walked (k + 1) z here outcome)
        (sym (ap (map step_of) (drop-at written k item lt is)))
        (subst (λ (n : ℕ). WalkFrom theory f walked n
        (step_of item ∷ map step_of (drop (k + 1) written)) here outcome) number walk))

    pub so-far-next : (after : Walked) (others : List Voice)
        → StepLeads theory f walked here (step_of item) after others → SoFar (k + 1) after others
    so-far-next after others leads outcome walk =
        from-item outcome (leads (map step_of (drop (k + 1) written)) outcome
        (subst (λ (n : ℕ). WalkFrom theory f after (n + 1) (map step_of (drop (k + 1) written))
        others outcome) (sym number) walk))

    pub so-far-fails : (procedure : ℕ) (e : FillFault)
        → Told (StepFails theory f walked here (step_of item) procedure) e
        → Told (WalkFails theory f written voices procedure) e
    so-far-fails procedure e =
        told (StepFails theory f walked here (step_of item) procedure)
        (WalkFails theory f written voices procedure)
        (λ p s x h. (h.0, from-item _ (h.1 (map step_of (drop (k + 1) written))))) e

  pub so-far-last : (k : ℕ) (walked : Walked) (others : List Voice) → k ≤ length written
      → length written ≤ k → SoFar k walked others
      → WalkLeads theory f written voices walked others
  so-far-last k walked others le ge so_far outcome walk =
      let same : length written ≡ k = omega (arith, le, ge) in
      so_far outcome
      (subst (λ z. WalkFrom theory f walked (k + 1) z others outcome)
      (sym (ap (map step_of) (drop_all k written ge)))
      (subst (λ (n : ℕ). WalkFrom theory f walked (n + 1) [] others outcome) same walk))
