-- A written step of a walk.
use Rattle.std.proofs.Common.{◌≡◌, ◌∙◌, ℕ, ◌+◌, ◌≤◌, ◌<◌, ◌==◌, true, List, [], ◌∷◌, ◌++◌, length, map, ◌⊎◌, inl, inr, refl, sym, ap, subst, add-one, arith}
use Rattle.std.specs.Prelude.{◌≢◌}
use Rattle.std.proofs.lemmas.Bool.{and_parts, and_from, eq-eqb}
use Rattle.std.proofs.lemmas.List.{map-append, length-append}
use Rattle.model_formulas.specs.Formulas.{Named}
use Rattle.model_commands.specs.Theories.{Judgement, JudgementOf, Reason, auto, by_rule, Step, StepOf, ProcedureOf, Procedures, Theory, procedures_of, nameless_judgement}
use Rattle.model_files.specs.Sizes.{JudgementIsSmall, StepsAreSmall}
use Rattle.rule_table.specs.Verdicts as table
use Rattle.rule_table.specs.Accepted.{InstanceBy, VerdictBy, fails}
use Rattle.model_filling.specs.Offers.{Voice}
use Rattle.model_filling.specs.Renumbering.{FilledGap, moved, raised_reason, renumbered}
use Rattle.model_filling.specs.Walk.{Walk, goes_on, step_fails}
use Rattle.dom_terms.specs.declared.verdicts.SideName.{SideName}
use Rattle.dom_terms.specs.declared.verdicts.Verdict.{Verdict}
use Rattle.dom_terms.specs.declared.verdicts.Verdict.TheVariants as v
use Rattle.row_patterns.specs.Verdicts.{verdict_in}
use Rattle.theory_syntax.specs.declared.steps.Step as rust
use Rattle.theory_syntax.specs.Judgements.{judgement_of, reason_of, step_of}
use Rattle.cited_steps.specs.Earlier.{AreCitable, are_numbered, steps_in}
use Rattle.gap_filling.specs.Renumbered.{held, held_reason, held_step, gap_of, HaveSameVerdicts}
use Rattle.theory_filler.specs.declared.steps.Walked.{Walked}
use Rattle.theory_filler.specs.Walks.{gaps_in, IsOrderly, StepLeads, StepFails}
use Rattle.theory_filler.proofs.Citations.{instance-held}
use Rattle.theory_filler.proofs.Gaps.{moved-reverse, moved-next, reason-reverse, step-reverse}

-- ONE STEP MORE
numbered-more : (steps : List rust.Step) (s : rust.Step) (n : ℕ) → are_numbered n steps ≡ true
    → s.number ≡ n + length steps → are_numbered n (steps ++ s ∷ []) ≡ true
numbered-more [] s n e at =
    and_from (s.number == n) true (eq-eqb s.number n (omega (arith, at))) refl
numbered-more (x ∷ steps) s n e at =
    let h = and_parts (x.number == n) (are_numbered (n + 1) steps) e in
    and_from (x.number == n) (are_numbered (n + 1) (steps ++ s ∷ [])) h.0
    (numbered-more steps s (n + 1) h.1 (omega (arith, at)))

small-more : (steps : List rust.Step) (s : rust.Step) → StepsAreSmall (map step_of steps)
    → JudgementIsSmall (judgement_of s.judgement) → StepsAreSmall (map step_of (steps ++ s ∷ []))
small-more [] s h small = (small, tt)
small-more (x ∷ steps) s h small = (h.0, small-more steps s h.1 small)

-- a reason that stays a gap was one
pub not-auto : (gaps : List FilledGap) (reason : Reason)
    → held_reason (raised_reason gaps reason) ≡ auto → (reason ≡ auto → ⊥) → ⊥
not-auto gaps auto e n = n refl
not-auto gaps (by_rule name ns arguments) e n = cc

instance-of : (procedures : Procedures) (reason : Reason) (earlier : List Step) (j : Judgement)
    → VerdictBy procedures reason earlier j table.instance_verdict
    → InstanceBy procedures reason earlier j
instance-of procedures auto earlier j h = h
instance-of procedures (by_rule name ns arguments) earlier j h = h

-- a verdict of another kind
pub differs : (verdict : Verdict)
    → (verdict ≡ v.Shape) ⊎ ((verdict ≡ v.Premises) ⊎ ((name : SideName) × (verdict ≡ v.Side name)))
    → verdict_in verdict ≢ table.instance_verdict
differs v.Instance (inl e) q = cc
differs v.Instance (inr (inl e)) q = cc
differs v.Instance (inr (inr (name, e))) q = cc
differs v.Premises h q = cc
differs v.Shape h q = cc
differs (v.Side name) h q = cc

-- THE STEP, renumbered
module _ (before : Walked) (s : StepOf Named) (new : rust.Step)
    (is : step_of new ≡ held_step (renumbered (map gap_of before.gaps) s))
    (same : HaveSameVerdicts (reason_of new.reason)
    (raised_reason (map gap_of before.gaps) s.reason))
    (orderly : IsOrderly before s.number) (within : s.number ≤ 65535) where
  few : length before.steps < 4294967295
  few = let h = orderly.few in omega (arith, h, within)

  pub judgement-is : judgement_of new.judgement ≡ s.judgement
  judgement-is = ap (λ (z : StepOf Named). z.judgement) is

  number-is : new.number ≡ 1 + length before.steps
  number-is =
      let at : new.number ≡ held (moved (map gap_of before.gaps) s.number) =
      ap (λ (z : StepOf Named). z.number) is in
      let next = orderly.numbered in
      let order = moved-reverse (map gap_of before.gaps) s.number in
      omega (arith, at, next, order, few)

  -- it is the next one
  module _ (after : Walked) (steps : after.steps ≡ before.steps ++ new ∷ [])
      (gaps : after.gaps ≡ before.gaps) where
    pub written-orderly : JudgementIsSmall s.judgement → IsOrderly after (s.number + 1)
    written-orderly small =
        let long : length after.steps ≡ length before.steps + 1 =
        ap length steps ∙ length-append before.steps (new ∷ []) in record {
          citable = subst AreCitable (sym steps) (record {
            small = small-more before.steps new orderly.citable.small
                (subst JudgementIsSmall (sym judgement-is) small);
            in_order = numbered-more before.steps new 1 orderly.citable.in_order number-is;
          });
          numbered = ap (λ z. moved (gaps_in z) (s.number + 1)) gaps
              ∙ moved-next (gaps_in before.gaps) s.number
              ∙ ap (λ k. k + 1) orderly.numbered ∙ omega (arith, long);
          few = omega (arith, long, orderly.few);
        }

  module _ (theory : Theory) (f : ProcedureOf Named) (voices : List Voice) where
    by_reason : (verdict : table.Verdict)
        → VerdictBy (procedures_of theory) (reason_of new.reason) (steps_in before.steps)
        (nameless_judgement (judgement_of new.judgement)) verdict
        → VerdictBy (procedures_of theory) (raised_reason (gaps_in before.gaps) s.reason)
        (steps_in before.steps) (nameless_judgement s.judgement) verdict
    by_reason verdict h =
        subst (λ (r : Reason). VerdictBy (procedures_of theory) r (steps_in before.steps)
        (nameless_judgement s.judgement) verdict)
        (sym (reason-reverse (map gap_of before.gaps) s.reason))
        ((same (procedures_of theory) before.steps (nameless_judgement s.judgement) verdict
        orderly.citable.in_order few).0
        (subst (λ (j : JudgementOf Named). VerdictBy (procedures_of theory) (reason_of new.reason)
        (steps_in before.steps) (nameless_judgement j) verdict) judgement-is h))

    pub written-fails : (verdict : Verdict) (number : ℕ)
        → VerdictBy (procedures_of theory) (reason_of new.reason) (steps_in before.steps)
        (nameless_judgement (judgement_of new.judgement)) (verdict_in verdict)
        → verdict_in verdict ≢ table.instance_verdict
        → StepFails theory f before voices s number number s.number (fails (verdict_in verdict))
    written-fails verdict number h differs =
        (refl, λ steps. step_fails (by_reason (verdict_in verdict) h) differs)

    module _ (instance : VerdictBy (procedures_of theory) (reason_of new.reason)
        (steps_in before.steps) (nameless_judgement (judgement_of new.judgement))
        table.instance_verdict) where
      is_instance : InstanceBy (procedures_of theory) (raised_reason (gaps_in before.gaps) s.reason)
          (steps_in before.steps) (nameless_judgement s.judgement)
      is_instance = instance-of (procedures_of theory)
          (raised_reason (gaps_in before.gaps) s.reason) (steps_in before.steps)
          (nameless_judgement s.judgement) (by_reason table.instance_verdict instance)

      -- no number of it is too great
      step-is : step_of new ≡ renumbered (gaps_in before.gaps) s
      step-is =
          is
          ∙ ap (λ (z : StepOf Named). held_step z) (sym (step-reverse (map gap_of before.gaps) s))
          ∙ as_it_is (moved (gaps_in before.gaps) s.number)
          (raised_reason (gaps_in before.gaps) s.reason) (omega (arith, orderly.numbered, few))
          (instance-held before.steps orderly.citable.in_order few (procedures_of theory)
          (raised_reason (gaps_in before.gaps) s.reason) (nameless_judgement s.judgement)
          is_instance)
        where
          as_it_is : (n : ℕ) (reason : Reason) → held n ≡ n → held_reason reason ≡ reason
              → held_step (record {
                number = n;
                line = s.line;
                reason = reason;
                judgement = s.judgement;
              })
              ≡ record { number = n; line = s.line; reason = reason; judgement = s.judgement }
          as_it_is n reason e q = cc

      pub written-leads : (after : Walked) → after.steps ≡ before.steps ++ new ∷ []
          → after.gaps ≡ before.gaps → StepLeads theory f before voices s after voices
      written-leads after steps gaps rest outcome walk =
          goes_on is_instance
          (subst (λ (n : ℕ). Walk theory f
          (map step_of before.steps ++ renumbered (gaps_in before.gaps) s ∷ [])
          (gaps_in before.gaps) n rest voices outcome) (add-one s.number)
          (subst (λ (z : StepOf Named). Walk theory f (map step_of before.steps ++ z ∷ [])
          (gaps_in before.gaps) (s.number + 1) rest voices outcome) step-is
          (subst (λ z. Walk theory f z (gaps_in before.gaps) (s.number + 1) rest voices outcome)
          (ap (map step_of) steps ∙ map-append step_of before.steps (new ∷ []))
          (subst (λ z. Walk theory f (map step_of after.steps) (gaps_in z) (s.number + 1) rest
          voices outcome) gaps walk))))
