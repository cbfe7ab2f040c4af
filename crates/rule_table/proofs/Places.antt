-- A theory is accepted or has one first bad place, given a verdict on each step.
use Rattle.std.proofs.Common.{◌≡◌, ◌⊎◌, ◌∙◌, refl, sym, ap, ℕ, ◌+◌, List, [], ◌∷◌, ◌++◌, inl, inr, ⊎_elim}
use Rattle.model_shapes.specs.Values.{Name}
use Rattle.model_terms.specs.Terms.{Term}
use Rattle.model_commands.specs.Theories.{Judgement, Reason, auto, by_rule, Step, Procedure, Procedures, Theory, procedures_of}
use Rattle.rule_table.specs.Verdicts.{Verdict, instance_verdict, shape_verdict, premises_verdict, side_verdict, readings_in}
use Rattle.rule_table.specs.Table.{table}
use Rattle.rule_table.specs.Accepted.{written_at, InstanceBy, VerdictBy, AllInstances, EndsWell, IsProved, Each, IsAccepted, Fault, gap, fails, no_proof, BadPlace, IsBadBy, FirstBadStep, FirstBadOf, IsFirstBad}
use Rattle.rule_table.proofs.VerdictLaws.{instance-alone}
use Rattle.rule_table.proofs.OneVerdict.{one-verdict-of}

-- a step that names a rule is no gap
no-gap : (name : Name) (ns : List ℕ) (arguments : List Term)
    → by_rule name ns arguments ≡ auto → ⊥
no-gap name ns arguments e = cc

module _ (ps : Procedures) where
  -- a step isn't both an instance and bad
  not-both : (reason : Reason) (earlier : List Step) (j : Judgement) (fault : Fault)
      → InstanceBy ps reason earlier j → IsBadBy ps reason earlier j fault → ⊥
  not-both auto earlier j fault i b = i
  not-both (by_rule name ns arguments) earlier j gap i b = no-gap name ns arguments b
  not-both (by_rule name ns arguments) earlier j no_proof i b = b
  not-both (by_rule name ns arguments) earlier j (fails v) i b =
      b.1 (instance-alone (readings_in (table ps) name) (written_at earlier ns arguments j) v i b.0)

  -- NONE WHERE IT IS ACCEPTED
  no-bad-step : (f : Procedure) (earlier steps : List Step) (place bad : ℕ) (fault : Fault)
      → AllInstances ps earlier steps → EndsWell f
      → FirstBadStep ps f earlier steps place bad fault → ⊥
  no-bad-step f earlier [] place bad fault i ends b = b.2 ends
  no-bad-step f earlier (step ∷ steps) place bad fault i ends b = ⊎_elim
      (λ here. not-both step.reason earlier step.judgement fault i.0 here.1)
      (λ later. no-bad-step f (earlier ++ step ∷ []) steps (place + 1) bad fault i.1 ends later.1) b

  no-bad-of : (fs : Procedures) (number : ℕ) (bad : BadPlace) → Each (IsProved ps) fs
      → FirstBadOf ps fs number bad → ⊥
  no-bad-of [] number bad a b = b
  no-bad-of (f ∷ fs) number bad a b = ⊎_elim
      (λ here. no-bad-step f [] f.proof 1 bad.step bad.fault a.0.steps a.0.ends here.1)
      (λ later. no-bad-of fs (number + 1) bad a.1 later.1) b

  -- ONE AT MOST
  one-fault : (reason : Reason) (earlier : List Step) (j : Judgement) (a b : Fault)
      → IsBadBy ps reason earlier j a → IsBadBy ps reason earlier j b → a ≡ b
  one-fault reason earlier j gap gap x y = refl
  one-fault auto earlier j gap (fails v) x y = absurd y.0
  one-fault auto earlier j (fails v) b x y = absurd x.0
  one-fault (by_rule name ns arguments) earlier j gap (fails v) x y =
      absurd (no-gap name ns arguments x)
  one-fault (by_rule name ns arguments) earlier j (fails v) gap x y =
      absurd (no-gap name ns arguments y)
  one-fault (by_rule name ns arguments) earlier j (fails v) (fails w) x y =
      ap fails (one-verdict-of ps name (written_at earlier ns arguments j) v w x.0 y.0)
  one-fault reason earlier j a no_proof x y = absurd y
  one-fault reason earlier j no_proof b x y = absurd x

  abbrev Alike : ℕ → Fault → ℕ → Fault → Type 0
  Alike m a n b = (m ≡ n) × (a ≡ b)

  one-bad-step : (f : Procedure) (earlier steps : List Step) (place m n : ℕ) (a b : Fault)
      → FirstBadStep ps f earlier steps place m a → FirstBadStep ps f earlier steps place n b
      → Alike m a n b
  one-bad-step f earlier [] place m n a b x y = (x.0 ∙ sym y.0, x.1 ∙ sym y.1)
  one-bad-step f earlier (step ∷ steps) place m n a b x y = ⊎_elim
      (λ here. ⊎_elim
      (λ there. (
        here.0 ∙ sym there.0,
        one-fault step.reason earlier step.judgement a b here.1 there.1,
      ))
      (λ later. absurd (not-both step.reason earlier step.judgement a later.0 here.1)) y)
      (λ later. ⊎_elim
      (λ there. absurd (not-both step.reason earlier step.judgement b later.0 there.1))
      (λ more. one-bad-step f (earlier ++ step ∷ []) steps (place + 1) m n a b later.1 more.1) y) x

  one-bad-of : (fs : Procedures) (number : ℕ) (a b : BadPlace) → FirstBadOf ps fs number a
      → FirstBadOf ps fs number b
      → (a.procedure ≡ b.procedure) × Alike a.step a.fault b.step b.fault
  one-bad-of [] number a b x y = absurd x
  one-bad-of (f ∷ fs) number a b x y = ⊎_elim
      (λ here. ⊎_elim
      (λ there. (
        here.0 ∙ sym there.0,
        one-bad-step f [] f.proof 1 a.step b.step a.fault b.fault here.1 there.1,
      ))
      (λ later. absurd
      (no-bad-step f [] f.proof 1 a.step a.fault later.0.steps later.0.ends here.1)) y)
      (λ later. ⊎_elim
      (λ there. absurd
      (no-bad-step f [] f.proof 1 b.step b.fault later.0.steps later.0.ends there.1))
      (λ more. one-bad-of fs (number + 1) a b later.1 more.1) y) x

  -- AND ONE WHERE IT ISN'T
  module _ (judge : (name : List ℕ) (ns : List ℕ) (arguments : List Term) (earlier : List Step)
      (j : Judgement) → (v : Verdict) × VerdictBy ps (by_rule name ns arguments) earlier j v)
      (ends : (f : Procedure) → Dec (EndsWell f))
    where
      judged : (reason : Reason) (earlier : List Step) (j : Judgement)
          → InstanceBy ps reason earlier j ⊎ ((fault : Fault) × IsBadBy ps reason earlier j fault)
      judged auto earlier j = inr (gap, refl)
      judged (by_rule name ns arguments) earlier j = by_verdict (judge name ns arguments earlier j)
        where
          by_verdict : (v : Verdict) × VerdictBy ps (by_rule name ns arguments) earlier j v
              → InstanceBy ps (by_rule name ns arguments) earlier j
              ⊎ ((fault : Fault) × IsBadBy ps (by_rule name ns arguments) earlier j fault)
          by_verdict (instance_verdict, m) = inl m
          by_verdict (shape_verdict, m) = inr (fails shape_verdict, (m, λ e. cc))
          by_verdict (premises_verdict, m) = inr (fails premises_verdict, (m, λ e. cc))
          by_verdict (side_verdict name, m) = inr (fails (side_verdict name), (m, λ e. cc))

      abbrev BadStep : Procedure → List Step → List Step → ℕ → Type 0
      BadStep f earlier steps place = (bad : ℕ) × (fault : Fault)
          × FirstBadStep ps f earlier steps place bad fault

      proof-place : (f : Procedure) (earlier steps : List Step) (place : ℕ)
          → (AllInstances ps earlier steps × EndsWell f) ⊎ BadStep f earlier steps place
      proof-place f earlier [] place = by_end (ends f)
        where
          by_end : Dec (EndsWell f) → (Unit {0} × EndsWell f) ⊎ BadStep f earlier [] place
          by_end (yes e) = inl (tt, e)
          by_end (no n) = inr (place, no_proof, (refl, refl, n))
      proof-place f earlier (step ∷ steps) place = ⊎_elim
          (λ now. ⊎_elim
          (λ m. inl ((now, m.0), m.1))
          (λ b. inr (b.0, b.1, inr (now, b.2)))
          (proof-place f (earlier ++ step ∷ []) steps (place + 1)))
          (λ b. inr (place, b.0, inl (refl, b.1)))
          (judged step.reason earlier step.judgement)

      procedures-place : (fs : Procedures) (number : ℕ)
          → Each (IsProved ps) fs ⊎ ((bad : BadPlace) × FirstBadOf ps fs number bad)
      procedures-place [] number = inl tt
      procedures-place (f ∷ fs) number = ⊎_elim
          (λ m. ⊎_elim
          (λ more. inl (record { steps = m.0; ends = m.1 }, more))
          (λ b. inr (b.0, inr (record { steps = m.0; ends = m.1 }, b.1)))
          (procedures-place fs (number + 1)))
          (λ b. inr (
            record { procedure = number; step = b.0; fault = b.1 },
            inl (refl, b.2),
          ))
          (proof-place f [] f.proof 1)

-- an accepted theory has no bad place
pub accepted-none : (theory : Theory) (bad : BadPlace) → IsAccepted theory → IsFirstBad theory bad
    → ⊥
accepted-none theory bad a b = no-bad-of (procedures_of theory) (procedures_of theory) 1 bad a b

-- and where there is a verdict on each step, a theory is accepted or has a first bad place
pub accepted-or-bad : (theory : Theory)
    → ((name : List ℕ) (ns : List ℕ) (arguments : List Term) (earlier : List Step) (j : Judgement)
    → (v : Verdict) × VerdictBy (procedures_of theory) (by_rule name ns arguments) earlier j v)
    → ((f : Procedure) → Dec (EndsWell f))
    → IsAccepted theory ⊎ ((bad : BadPlace) × IsFirstBad theory bad)
accepted-or-bad theory judge ends =
    procedures-place (procedures_of theory) judge ends (procedures_of theory) 1

-- a theory has one first bad place
pub one-first-bad : (theory : Theory) (a b : BadPlace) → IsFirstBad theory a → IsFirstBad theory b
    → a ≡ b
one-first-bad theory a b x y =
    let same = one-bad-of (procedures_of theory) (procedures_of theory) 1 a b x y in
    λ i. record { procedure = same.0 i; step = same.1.0 i; fault = same.1.1 i }
